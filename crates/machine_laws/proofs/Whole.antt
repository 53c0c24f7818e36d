-- What completeness gives: one tree at most, and no file behind a lexeme that the machine refuses.
use Rattle.std.proofs.Common.{ap, refl, sym, ◌∙◌}
use Rattle.std.specs.Prelude.{List, None, Option, Some, [], is_some, ℕ, ◌++◌, ◌∷◌, ◌≡◌}
use Rattle.machine_laws.proofs.ClassesRun.{file_run}
use Rattle.parser_machine.specs.Machine.{Parsed, answer, parsed, run, start, step}
use Rattle.parser_machine.specs.States.{State}
use Rattle.scj_tree.specs.Grammar.{BeginsFile, Tree}
use Rattle.scj_tree.specs.Lexemes.{Lexeme}
use Rattle.scj_tree.specs.declared.nodes.Node.{Node}
use mathlib.Core.Bool.{true≢false}

-- two trees of the same lexemes are one
parsed_nodes : {x y : List Node} {a b : List ℕ} → Some (parsed x a) ≡ Some (parsed y b) → x ≡ y
parsed_nodes e = ap nodes_of e
  where
    nodes_of : Option Parsed → List Node
    nodes_of None = []
    nodes_of (Some r) = r.nodes

parsed_classes : {x y : List Node} {a b : List ℕ} → Some (parsed x a) ≡ Some (parsed y b) → a ≡ b
parsed_classes e = ap classes_of e
  where
    classes_of : Option Parsed → List ℕ
    classes_of None = []
    classes_of (Some r) = r.classes

pub one_tree_nodes : {N x y : List Node} {i : List Lexeme} {a b : List ℕ} → Tree N i x a → Tree N i y b → x ≡ y
one_tree_nodes d f = parsed_nodes (sym (file_run d) ∙ file_run f)

pub one_tree_classes : {N x y : List Node} {i : List Lexeme} {a b : List ℕ} → Tree N i x a → Tree N i y b → a ≡ b
one_tree_classes d f = parsed_classes (sym (file_run d) ∙ file_run f)

-- an answer goes over a run
going_on : Option State → List Lexeme → Option Parsed
going_on r o = elim r [ Some last ↦ answer last o | None ↦ None ]

running_on : Option State → List Lexeme → Option State
running_on r i = elim r [ Some last ↦ run last i | None ↦ None ]

behind_one : (r : Option State) (i o : List Lexeme) →
    ((last : State) → answer last (i ++ o) ≡ going_on (run last i) o) →
    going_on r (i ++ o) ≡ going_on (running_on r i) o
unfolding going_on running_on
behind_one None i o f = refl
behind_one (Some last) i o f = f last

answer_behind : (i : List Lexeme) (st : State) (o : List Lexeme) → answer st (i ++ o) ≡ going_on (run st i) o
unfolding answer run going_on running_on
answer_behind [] st o = refl
answer_behind (t ∷ i) st o = behind_one (step st t) i o (λ last. answer_behind i last o)

none_is_some : {r : Parsed} → None ≡ Some r → Prim.⊥
none_is_some e = true≢false (sym (ap is_some e))

-- where the machine refuses, no file goes on
pub no_file_behind : (N : List Node) (i : List Lexeme) → run (start N) i ≡ None → BeginsFile N i → Prim.⊥
unfolding going_on
no_file_behind N i h b =
    none_is_some (sym (ap (λ r. going_on r b.rest) h) ∙ (sym (answer_behind i (start N) b.rest) ∙ file_run b.tree))

-- Nodes and lexemes whose words and places fit.
use Rattle.std.proofs.Common.{◌≡◌, ℕ, ◌≤◌, ◌<◌, true, List, [], ◌∷◌, ◌⊎◌, inl, inr, Option, Some, None, if◌then◌else◌, Bool, false, refl, subst, arith}
use Rattle.std.specs.Prelude.{slice_get}
use Rattle.std.proofs.lemmas.Bool.Decides.{nat_tests}
use Rattle.accepted_laws.proofs.Lists.{get_either}
use Rattle.scj_base.specs.declared.positions.Position.{Position}
use Rattle.scj_base.specs.Lexeme.{AllOf, greatest_number, is_name, is_text_byte}
use Rattle.scj_tree.specs.declared.nodes.Node.{Node}
use Rattle.scj_tree.specs.declared.parsed_parts.FlagSet.{FlagSet}
use Rattle.scj_tree.specs.Lexemes.{Lexeme, a_name, a_word, a_number, a_text, a_sign, the_end}
use Rattle.scj_tree.specs.Nodes.{put}
use Rattle.scj_tree.specs.Shape.{position_of}
use Rattle.scj_tree.specs.Terminals.{flags_node, flags_at, has_effect, is_minimum, placed, with_flags}
use Rattle.source_nodes.specs.Nodes.{HasWords}

abbrev pub LexemeFits : (Position → Type 0) → Lexeme → Type 0
LexemeFits Q (a_name w p) = Q p × (is_name w ≡ true)
LexemeFits Q (a_word w p) = Q p
LexemeFits Q (a_number n p) = Q p × (n ≤ greatest_number)
LexemeFits Q (a_text w p) = Q p × AllOf is_text_byte w
LexemeFits Q (a_sign n p) = Q p
LexemeFits Q (the_end p) = Q p

abbrev pub LexemesFit : (Position → Type 0) → List Lexeme → Type 0
LexemesFit Q [] = Unit {0}
LexemesFit Q (x ∷ xs) = LexemeFits Q x × LexemesFit Q xs

pub record NodeFits (Q : Position → Type 0) (node : Node) : Type 0 where
  pub place : Q (position_of node)
  pub words : HasWords node

-- the nodes that were read, and the lexemes that are left
pub record Fine (Q : Position → Type 0) (N : List Node) (i : List Lexeme) : Type 0 where
  pub nodes : (id : ℕ) (node : Node) → slice_get N id ≡ Some node → NodeFits Q node
  pub lexemes : LexemesFit Q i

pub behind : {Q : Position → Type 0} {N : List Node} {x : Lexeme} {xs : List Lexeme} → Fine Q N (x ∷ xs) → Fine Q N xs
behind f = record { nodes = f.nodes; lexemes = f.lexemes.1 }

pub behind2 : {Q : Position → Type 0} {N : List Node} {x y : Lexeme} {xs : List Lexeme} → Fine Q N (x ∷ y ∷ xs) → Fine Q N xs
behind2 f = behind (behind f)

pub behind3 : {Q : Position → Type 0} {N : List Node} {x y z : Lexeme} {xs : List Lexeme} → Fine Q N (x ∷ y ∷ z ∷ xs) →
    Fine Q N xs
behind3 f = behind (behind2 f)

pub fine_put : {Q : Position → Type 0} {N : List Node} {o : List Lexeme} (node : Node) → NodeFits Q node → Fine Q N o →
    Fine Q (put N node) o
fine_put {Q} {N} node h f =
    record { nodes = λ id x e. by id x (get_either N node id x e); lexemes = f.lexemes }
  where
    by : (id : ℕ) (x : Node) → (slice_get N id ≡ Some x) ⊎ (node ≡ x) → NodeFits Q x
    by id x (inl e) = f.nodes id x e
    by id x (inr e) = subst (λ y. NodeFits Q y) e h

-- a number without a `-` is smaller than the greatest
pub below : (n : ℕ) → is_minimum n ≡ false → n ≤ greatest_number → n < greatest_number
below n e h = grind (arith, nat_tests)

-- ---- flags

pub record FlagsFit (Q : Position → Type 0) (flags : FlagSet) : Type 0 where
  pub place : (p : Position) → flags.position ≡ Some p → Q p

some_place : (p q : Position) → Some p ≡ Some q → p ≡ q
some_place p q e = cc (e)

pub flags_placed : {Q : Position → Type 0} (p : Position) (flags : FlagSet) → Q p → FlagsFit Q flags → FlagsFit Q (placed p flags)
unfolding placed
flags_placed {Q} p flags h f = record { place = λ q e. go flags.position refl q e }
  where
    go : (o : Option Position) → flags.position ≡ o → (q : Position) →
        elim o as (λ _. Option Position) [ None ↦ Some p | Some r ↦ Some r ] ≡ Some q → Q q
    go None k q e = subst Q (some_place p q e) h
    go (Some r) k q e = subst Q (some_place r q e) (f.place r k)

pub fine_flags : {Q : Position → Type 0} {N : List Node} {o : List Lexeme} (flags : FlagSet) → FlagsFit Q flags → Fine Q N o →
    Fine Q (with_flags N flags) o
unfolding with_flags flags_node flags_at position_of HasWords
fine_flags {Q} {N} {o} flags h f = go (has_effect flags) flags.position refl
  where
    go : (b : Bool) (p : Option Position) → flags.position ≡ p →
        Fine Q
        (elim (if b then elim p as (λ _. Option Node) [ None ↦ None | Some q ↦ Some (flags_at q flags) ] else None)
        as (λ _. List Node) [ None ↦ N | Some node ↦ put N node ]) o
    go false p e = f
    go true None e = f
    go true (Some q) e = fine_put (flags_at q flags) (record { place = h.place q e; words = tt }) f

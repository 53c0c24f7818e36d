-- What is told of the nodes in turn, and of nodes that never always return.
use Rattle.std.proofs.Common.{◌≡◌, ℕ, ◌+◌, ◌<◌, ◌≤◌, suc, List, [], ◌∷◌, ◌++◌, length, sym, ap, ◌∙◌, refl, arith, Option, Some, None, option_map, Bool, false, slice_get, if◌then◌else◌, ⊎_elim}
use Rattle.std.proofs.lemmas.Bool.{cases_lt}
use Rattle.std.proofs.lemmas.Option.{slice_get_past}
use Rattle.scj_tree.specs.declared.nodes.Node.{Node}
use Rattle.scj_tree.specs.declared.nodes.Node.TheVariants.{Return}
use Rattle.scj_tree.specs.Kinds.{kind_of}
use Rattle.scj_tree.specs.Recursion.{lookup, bottom_up, below, by_smaller}
use Rattle.scj_tree.proofs.RecursionLemmas.{length-bottom_up, bottom_up-at, lookup-behind, by_smaller-is}
use Rattle.scj_rules.specs.Words.{holds}
use Rattle.scj_rules.specs.Types.{returns_of}
use Rattle.type_words.specs.Returns.{returns_next, all_returns, is_returning_kind}

-- one more is told
pub bottom_up-more : {A : Type 0} (default : A) (step : ℕ → (ℕ → A) → A) (k : ℕ) (said : List A) (v : A) →
    said ≡ bottom_up default step k → v ≡ step k (lookup default said) → said ++ v ∷ [] ≡ bottom_up default step (k + 1)
unfolding bottom_up
bottom_up-more {A} default step k said v e f =
    ap (λ x. said ++ x ∷ []) f ∙ ap (λ (s : List A). s ++ step k (lookup default s) ∷ []) e
    ∙ ap (bottom_up default step) (let next : suc k ≡ k + 1 = omega arith in next)

pub body_returns : (nodes : List Node) (body : ℕ) →
    lookup false (all_returns nodes) body ≡ lookup false (bottom_up false (returns_next nodes) (suc body)) body
unfolding all_returns
body_returns nodes body =
    ⊎_elim (λ (l : body < length nodes). bottom_up-at false (returns_next nodes) (length nodes) body l)
    (λ (m : length nodes ≤ body).
    lookup-behind false (bottom_up false (returns_next nodes) (length nodes)) body
    (omega (arith, m, length-bottom_up false (returns_next nodes) (length nodes)))
    ∙ sym (by_smaller-is false (returns_next nodes) body
    ∙ ap
    (λ (o : Option Node). holds o (returns_of nodes (below false body (by_smaller false (returns_next nodes)))))
    (slice_get_past nodes body m)))
    (cases_lt body (length nodes))

asked : (nodes : List Node) (returns : ℕ → Bool) (node : Node) →
    (if is_returning_kind (Some (kind_of node)) then returns_of nodes returns node else false) ≡ returns_of nodes
    returns node
unfolding returns_of is_returning_kind kind_of
asked nodes returns (Return position value) = refl
asked nodes returns _ = refl

pub never_returns : (nodes : List Node) (returns : ℕ → Bool) (id : ℕ) →
    is_returning_kind (option_map kind_of (slice_get nodes id)) ≡ false → returns_next nodes id returns ≡ false
never_returns nodes returns id = go (slice_get nodes id)
  where
    go : (o : Option Node) → is_returning_kind (option_map kind_of o) ≡ false →
        holds o (returns_of nodes returns) ≡ false
    go None h = refl
    go (Some node) h = sym (asked nodes returns node) ∙ ap (λ b. if b then returns_of nodes returns node else false) h

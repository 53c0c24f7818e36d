-- The context of a child, from that of its parent, and the variables in scope there.
use Rattle.std.proofs.Common.{◌≡◌, ℕ, zero, suc, List, [], ◌∷◌, length, refl, sym, ap, ◌∙◌, subst, Option, Some, None, Bool, true, false, if◌then◌else◌, ◌==◌, slice_get, true≢false, is_some, ◌||◌}
use Rattle.scj_tree.specs.declared.nodes.Node.{Node}
use Rattle.scj_tree.specs.Forest.{Forest, IsForest, joined}
use Rattle.scj_tree.specs.Shape.{children}
use Rattle.scj_tree.specs.Recursion.{lookup}
use Rattle.scj_rules.specs.declared.contexts.Context.{Context}
use Rattle.scj_rules.specs.Words.{is_among, chain, or_else}
use Rattle.scj_rules.specs.Views.{variable_at}
use Rattle.scj_rules.specs.Contexts.{Declarations, declarations_of, outermost, contexts_in, context, child_context, last_variable, declared_before, known_variables, is_member, number_of_class}
use Rattle.scj_rules.proofs.ParentLemmas.{child-is}
use Rattle.accepted_laws.specs.Judgements.{Among, known_behind}

module _ (forest : Forest) (whole : IsForest forest) where
  abbrev nodes : List Node
  nodes = forest.nodes

  abbrev all : List Context
  all = contexts_in forest

  abbrev p : Declarations
  p = declarations_of forest

  context-same : (id : ℕ) → context p id ≡ lookup outermost all id
  unfolding declarations_of
  context-same id = refl

  pub child_context_is : (k x : ℕ) (node : Node) → slice_get nodes k ≡ Some node → is_among x (children node) ≡ true → context p x ≡ child_context nodes (joined forest.files) k node (context p k) x
  unfolding declarations_of
  child_context_is k x node e h = child-is forest whole k x node e h

  -- ---- the variables that are known

  chain_step : (next : ℕ → Option ℕ) (n a v : ℕ) → ((b : ℕ) → is_among v (chain next n b) ≡ true → is_among v (chain next (suc n) b) ≡ true) → is_among v (chain next (suc n) a) ≡ true → is_among v (chain next (suc (suc n)) a) ≡ true
  unfolding chain
  chain_step next n a v ih h = go (v == a) (next a) h
    where
      go : (t : Bool) (o : Option ℕ) → (t || is_among v (elim o [ None ↦ [] | Some b ↦ chain next n b ])) ≡ true → (t || is_among v (elim o [ None ↦ [] | Some b ↦ chain next (suc n) b ])) ≡ true
      go true o h = refl
      go false None h = h
      go false (Some b) h = ih b h

  -- what a shorter chain has a longer one has too
  pub chain_more : (next : ℕ → Option ℕ) (n a v : ℕ) → is_among v (chain next n a) ≡ true → is_among v (chain next (suc n) a) ≡ true
  unfolding chain
  chain_more next zero a v h = absurd (true≢false (sym h))
  chain_more next (suc n) a v h = chain_step next n a v (λ b e. chain_more next n b v e) h

  abbrev from : ℕ → Option ℕ → List ℕ
  from n o = elim o [ None ↦ [] | Some last ↦ chain (λ v. (context p v).last) n last ]

  from_more : (n : ℕ) (o : Option ℕ) → Among (from n o) (from (suc n) o)
  from_more n None v h = h
  from_more n (Some a) v h = chain_more (λ v. (context p v).last) n a v h

  from_all : (n : ℕ) (o : Option ℕ) → Among (from n o) (from (suc n) o)
  from_all n o = from_more n o

  known_is : (id : ℕ) → known_variables p id ≡ from (length nodes) (context p id).last
  unfolding known_variables declarations_of
  known_is id = refl

  -- behind a variable's declaration it is known besides what was known there
  behind_variable : (n x : ℕ) → Among (from n (Some x)) (x ∷ from n (context p x).last)
  unfolding chain
  behind_variable zero x v h = absurd (true≢false (sym h))
  behind_variable (suc n) x v h = go (v == x) h
    where
      go : (t : Bool) → (t || is_among v (from n (context p x).last)) ≡ true → (t || is_among v (from (suc n) (context p x).last)) ≡ true
      go true h = refl
      go false h = from_more n (context p x).last v h

  -- the statement that follows another one
  pub known_next : (x y : ℕ) → (context p y).last ≡ (if is_some (variable_at nodes x) then Some x else (context p x).last) → Among (known_variables p y) (known_behind p x (known_variables p x))
  unfolding known_variables declarations_of
  known_next x y e = go (is_some (variable_at nodes x)) e
    where
      go : (t : Bool) → (context p y).last ≡ (if t then Some x else (context p x).last) → Among (from (length nodes) (context p y).last) (if t then x ∷ from (length nodes) (context p x).last else from (length nodes) (context p x).last)
      go true e = subst (λ o. Among (from (length nodes) o) (x ∷ from (length nodes) (context p x).last)) (sym e) (behind_variable (length nodes) x)
      go false e = subst (λ o. Among (from (length nodes) o) (from (length nodes) (context p x).last)) (sym e) (λ v h. h)

  -- a child before which nothing is declared knows what its parent knows
  pub known_same : (k x : ℕ) (node : Node) → slice_get nodes k ≡ Some node → is_among x (children node) ≡ true → declared_before nodes node x ≡ [] → Among (known_variables p x) (known_variables p k)
  unfolding known_variables declarations_of child_context last_variable
  known_same k x node at among none =
      let e : (context p x).last ≡ (context p k).last = ap (λ c. c.last) (child_context_is k x node at among) ∙ ap (last_variable nodes (context p k).last) none in
      subst (λ o. Among (from (length nodes) o) (from (length nodes) (context p k).last)) (sym e) (λ v h. h)

  -- a child of a node that is no member and no class stands where its parent does
  pub inside_same : (k x : ℕ) (node : Node) → slice_get nodes k ≡ Some node → is_among x (children node) ≡ true → is_member node ≡ false → number_of_class (joined forest.files) k ≡ None → (b c : ℕ) → (context p k).class ≡ Some c → (context p k).member ≡ Some b
      → ((context p x).class ≡ Some c) × ((context p x).member ≡ Some b)
  unfolding child_context
  inside_same k x node at among plain no_class b c ec em =
      let e = child_context_is k x node at among in
      (ap (λ c. c.class) e ∙ ap (λ o. or_else o (context p k).class) no_class ∙ ec, ap (λ c. c.member) e ∙ ap (λ t. if t then Some k else (context p k).member) plain ∙ em)

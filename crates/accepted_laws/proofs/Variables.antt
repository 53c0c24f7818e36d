-- The variables that are known at a node belong to the node's member.
use Rattle.std.proofs.Common.{◌≡◌, ℕ, ◌+◌, ◌<◌, ◌≤◌, zero, suc, List, [], ◌∷◌, ◌++◌, length, refl, sym, ap, ◌∙◌, arith, Option, Some, None, Bool, true, false, not, true≢false, ◌⊎◌, inl, inr, ◌==◌, option_and_then, is_some, if◌then◌else◌, slice_get, take, nat_lt}
use Rattle.std.specs.List.{prefix_len}
use Rattle.std.proofs.lemmas.Bool.Decides.{nat_tests}
use Rattle.scj_tree.specs.declared.nodes.Node.{Node}
use Rattle.scj_tree.specs.declared.nodes.Node.TheVariants.{Method as MethodNode, Constructor, Parameters, Block, For}
use Rattle.scj_tree.specs.Forest.{Forest, IsForest, joined}
use Rattle.scj_tree.specs.Shape.{children, optional}
use Rattle.scj_tree.proofs.RecursionLemmas.{lookup-behind, length-top_down}
use Rattle.scj_rules.specs.Definitions.{read}
use Rattle.scj_rules.specs.Words.{is_among}
use Rattle.scj_rules.specs.Views.{variable_at}
use Rattle.scj_rules.specs.Contexts.{Declarations, declarations_of, outermost, context, contexts_in, context_of, child_context, last_variable, those_before, parameters_before, parameter_nodes, declared_before, is_member, parent_in}
use Rattle.scj_rules.proofs.ChainLemmas.{or_cases, or_left, or_right}
use Rattle.scj_rules.proofs.ParentLemmas.{parent-is, no-parent, child-less}
use Rattle.accepted_laws.proofs.Contexts.{child_context_is}
use Rattle.accepted_laws.proofs.Tools.{some_inj}

first_node : (nodes : List Node) (j : ℕ) → j < length nodes → Node
first_node [] j l = absurd (omega (arith, l))
first_node (n ∷ nodes) j l = n

last_is : (nodes : List Node) (known : Option ℕ) (ids : List ℕ) (v : ℕ) → last_variable nodes known ids ≡ Some v → (is_among v ids ≡ true) ⊎ (known ≡ Some v)
unfolding last_variable
last_is nodes known [] v e = inr e
last_is nodes known (x ∷ ids) v e = go (is_some (variable_at nodes x)) (last_is nodes (if is_some (variable_at nodes x) then Some x else known) ids v e)
  where
    go : (t : Bool) → (is_among v ids ≡ true) ⊎ ((if t then Some x else known) ≡ Some v) → (is_among v (x ∷ ids) ≡ true) ⊎ (known ≡ Some v)
    go t (inl h) = inl (or_right (v == x) (is_among v ids) h)
    go true (inr h) = inl (let s : (v == x) ≡ true = (let q : x ≡ v = some_inj x v h in grind (arith, nat_tests)) in or_left (v == x) (is_among v ids) s)
    go false (inr h) = inr h

take_among : (n v : ℕ) (ids : List ℕ) → is_among v (take n ids) ≡ true → is_among v ids ≡ true
take_among zero v ids h = absurd (true≢false (sym h))
take_among (suc n) v [] h = h
take_among (suc n) v (y ∷ ids) h = elim (or_cases (v == y) (is_among v (take n ids)) h) as (λ z. is_among v (y ∷ ids) ≡ true)
    [ inl e ↦ or_left (v == y) (is_among v ids) e | inr e ↦ or_right (v == y) (is_among v ids) (take_among n v ids e) ]

before_among : (x v : ℕ) (ids : List ℕ) → is_among v (those_before x ids) ≡ true → is_among v ids ≡ true
before_among x v ids h = take_among (prefix_len (λ other. not (other == x)) ids) v ids h

-- where what is declared before a child stands: among the children, or among the parameters
record OfParameters (nodes : List Node) (node : Node) (v : ℕ) : Type 0 where
  q : ℕ
  among : is_among q (children node) ≡ true
  list : Node
  stands : slice_get nodes q ≡ Some list
  inside : is_among v (children list) ≡ true
  plain : is_member list ≡ false
  member : is_member node ≡ true

in_parameters : (nodes : List Node) (node : Node) (o : Option ℕ) (x v : ℕ) → ((q : ℕ) → o ≡ Some q → is_among q (children node) ≡ true) → is_member node ≡ true → is_among v (parameters_before nodes o x) ≡ true → OfParameters nodes node v
unfolding parameter_nodes children is_member
in_parameters nodes node None x v there member h = absurd (true≢false (sym h))
in_parameters nodes node (Some q) x v there member h = go (x == q) h
  where
    of : (n : Node) → slice_get nodes q ≡ Some n → is_among v (elim (parameter_nodes n) [ None ↦ [] | Some list ↦ list ]) ≡ true → OfParameters nodes node v
    of (Parameters position list) e h = record { q = q; among = there q refl; list = Parameters position list; stands = e; inside = h; plain = refl; member = member }
    of _ e h = absurd (true≢false (sym h))

    at : (o : Option Node) → slice_get nodes q ≡ o → is_among v (elim (option_and_then parameter_nodes o) [ None ↦ [] | Some list ↦ list ]) ≡ true → OfParameters nodes node v
    at None e h = absurd (true≢false (sym h))
    at (Some n) e h = of n e h

    go : (t : Bool) → is_among v (if t then [] else (elim (read nodes parameter_nodes q) [ None ↦ [] | Some list ↦ list ])) ≡ true → OfParameters nodes node v
    go true h = absurd (true≢false (sym h))
    go false h = at (slice_get nodes q) refl h

among_right : (v : ℕ) (xs ys : List ℕ) → is_among v ys ≡ true → is_among v (xs ++ ys) ≡ true
among_right v [] ys h = h
among_right v (x ∷ xs) ys h = or_right (v == x) (is_among v (xs ++ ys)) (among_right v xs ys h)

among_left : (v : ℕ) (xs ys : List ℕ) → is_among v xs ≡ true → is_among v (xs ++ ys) ≡ true
among_left v [] ys h = absurd (true≢false (sym h))
among_left v (x ∷ xs) ys h = elim (or_cases (v == x) (is_among v xs) h) as (λ z. is_among v (x ∷ (xs ++ ys)) ≡ true)
    [ inl e ↦ or_left (v == x) (is_among v (xs ++ ys)) e | inr e ↦ or_right (v == x) (is_among v (xs ++ ys)) (among_left v xs ys e) ]

among_optional : (o : Option ℕ) (q : ℕ) → o ≡ Some q → is_among q (optional o) ≡ true
among_optional o q e = ap (λ o. is_among q (optional o)) e ∙ (let t : (q == q) ≡ true = grind (arith, nat_tests) in or_left (q == q) false t)

declared_is : (nodes : List Node) (node : Node) (x v : ℕ) → is_among v (declared_before nodes node x) ≡ true → ((is_among v (children node) ≡ true) × (is_member node ≡ false)) ⊎ OfParameters nodes node v
unfolding declared_before children is_member
declared_is nodes (Block position statements) x v h = inl (before_among x v statements h, refl)
declared_is nodes (For position first condition step body) x v h = inl (before_among x v (first ∷ condition ∷ step ∷ body ∷ []) h, refl)
declared_is nodes (Parameters position list) x v h = inl (before_among x v list h, refl)
declared_is nodes (MethodNode position name flags result_type parameters body) x v h = inr (in_parameters nodes _ parameters x v (λ q e. in_method flags result_type parameters body q e) refl h)
  where
    in_method : (flags : Option ℕ) (result_type : ℕ) (parameters body : Option ℕ) (q : ℕ) → parameters ≡ Some q → is_among q (optional flags ++ (result_type ∷ optional parameters ++ optional body)) ≡ true
    in_method flags result_type parameters body q e = among_right q (optional flags) _ (or_right (q == result_type) (is_among q (optional parameters ++ optional body)) (among_left q (optional parameters) (optional body) (among_optional parameters q e)))
declared_is nodes (Constructor position name flags parameters super_call body) x v h = inr (in_parameters nodes _ parameters x v (λ q e. among_right q (optional flags) _ (among_left q (optional parameters) _ (among_optional parameters q e))) refl h)
declared_is nodes _ x v h = absurd (true≢false (sym h))

module _ (forest : Forest) (whole : IsForest forest)
    (top : (k : ℕ) (node : Node) → slice_get forest.nodes k ≡ Some node → is_member node ≡ true → (context (declarations_of forest) k).last ≡ None) where
  abbrev p : Declarations
  p = declarations_of forest

  abbrev nodes : List Node
  nodes = forest.nodes

  abbrev SameMember : ℕ → Type 0
  SameMember x = (v : ℕ) → (context p x).last ≡ Some v → (context p v).member ≡ (context p x).member

  -- a child's member, by its parent
  member_is : (k x : ℕ) (node : Node) → slice_get nodes k ≡ Some node → is_among x (children node) ≡ true → (context p x).member ≡ (if is_member node then Some k else (context p k).member)
  unfolding child_context
  member_is k x node at among = ap (λ c. c.member) (child_context_is forest whole k x node at among)

  same_step : (x k : ℕ) (node : Node) → slice_get nodes k ≡ Some node → is_among x (children node) ≡ true → SameMember k → SameMember x
  unfolding child_context
  same_step x k node at among ih v e = go (last_is nodes (context p k).last (declared_before nodes node x) v (sym (ap (λ c. c.last) (child_context_is forest whole k x node at among)) ∙ e))
    where
      mine : (context p x).member ≡ (if is_member node then Some k else (context p k).member)
      mine = member_is k x node at among

      above : (t : Bool) → is_member node ≡ t → (context p k).last ≡ Some v → (context p v).member ≡ (if is_member node then Some k else (context p k).member)
      above true m h = absurd (let z : None ≡ Some v = sym (top k node at m) ∙ h in cc (z))
      above false m h = ih v h ∙ sym (ap (λ t. if t then Some k else (context p k).member) m)

      go : (is_among v (declared_before nodes node x) ≡ true) ⊎ ((context p k).last ≡ Some v) → (context p v).member ≡ (context p x).member
      go (inr h) = above (is_member node) refl h ∙ sym mine
      go (inl h) = elim (declared_is nodes node x v h) as (λ z. (context p v).member ≡ (context p x).member) [
        | inl c ↦ member_is k v node at c.0 ∙ sym mine
        | inr o ↦ member_is o.q v o.list o.stands o.inside ∙ ap (λ t. if t then Some o.q else (context p o.q).member) o.plain ∙ member_is k o.q node at o.among ∙ sym mine
      ]

  no_parent_is : (x : ℕ) → x < length nodes → parent_in nodes x ≡ None → context p x ≡ outermost
  unfolding declarations_of
  no_parent_is x l q = no-parent forest whole x l q

  outside : (x : ℕ) → length nodes ≤ x → context p x ≡ outermost
  unfolding declarations_of contexts_in
  outside x l = lookup-behind outermost (contexts_in forest) x (omega (arith, l, length-top_down outermost (context_of nodes (joined forest.files)) 0 (length nodes)))

  same_down : (d x : ℕ) → length nodes ≤ x + d → SameMember x
  same_down zero x l v e = absurd (let z : None ≡ Some v = sym (ap (λ c. c.last) (outside x (omega (arith, l)))) ∙ e in cc (z))
  same_down (suc d) x l v e = go (nat_lt x (length nodes)) refl (same_down d)
    where
      by_parent : (o : Option ℕ) → parent_in nodes x ≡ o → x < length nodes → ((x : ℕ) → length nodes ≤ x + d → SameMember x) → (context p v).member ≡ (context p x).member
      by_parent None q inside ih = absurd (let z : None ≡ Some v = sym (ap (λ c. c.last) (no_parent_is x inside q)) ∙ e in cc (z))
      by_parent (Some k) q inside ih =
          let is = parent-is forest whole x k q (first_node nodes x inside) in
          let less : x < k = child-less forest whole k x is.node is.there is.among in
          same_step x k is.node is.there is.among (ih k (omega (arith, l, less))) v e

      go : (t : Bool) → nat_lt x (length nodes) ≡ t → ((x : ℕ) → length nodes ≤ x + d → SameMember x) → (context p v).member ≡ (context p x).member
      go true h ih = (let inside : x < length nodes = grind (arith, nat_tests) in by_parent (parent_in nodes x) refl inside ih)
      go false h ih = absurd (let out : length nodes ≤ x = grind (arith, nat_tests) in let z : None ≡ Some v = sym (ap (λ c. c.last) (outside x out)) ∙ e in cc (z))

  -- the last variable that is known at a node is of the node's member
  pub same_member : (x : ℕ) → SameMember x
  same_member x = same_down (length nodes) x (omega arith)

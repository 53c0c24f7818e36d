-- The class in which each body stands, node by node.
use Rattle.std.proofs.Common.{◌≡◌, ℕ, ◌+◌, ◌<◌, ◌≤◌, List, length, set, refl, sym, ap, ◌∙◌, arith, Option, Some, None, true, false, is_some, if◌then◌else◌, nat_lt, ⊎_elim}
use Rattle.std.proofs.lemmas.Bool.Decides.{nat_tests}
use Rattle.std.proofs.lemmas.Bool.{cases_lt, cases_eq}
use Rattle.std.proofs.lemmas.List.{get_or-set_same, get_or-set_other}
use Rattle.scj_tree.specs.Forest.{Forest, IsForest, joined}
use Rattle.scj_tree.specs.Recursion.{lookup}
use Rattle.scj_tree.proofs.RecursionLemmas.{lookup-behind, length-top_down}
use Rattle.scj_rules.specs.Classes.{class_nodes, user_classes}
use Rattle.scj_rules.specs.Contexts.{Declarations, declarations_of, outermost, contexts_in, context_of, context, number_of_class}
use Rattle.scj_rules.specs.Bodies.{class_at_node, class_of_body}
use Rattle.class_rows.proofs.UserLemmas.{nodes_of_users}
use Rattle.object_layout.specs.BodyTables.{class_known}

module _ (forest : Forest) (whole : IsForest forest) where
  abbrev p : Declarations
  p = declarations_of forest

  -- the number of a class by its node, from the nodes of the classes
  number_at : (node : ℕ) → class_at_node p node ≡ number_of_class (class_nodes forest) node
  unfolding declarations_of user_classes
  number_at node =
      ap (λ ids. number_of_class ids node) (nodes_of_users forest.nodes (class_nodes forest) whole.classes)

  -- nothing is known behind the last node
  context_past : (id : ℕ) → length forest.nodes ≤ id → context p id ≡ outermost
  unfolding declarations_of contexts_in
  context_past id l =
      lookup-behind outermost (contexts_in forest) id
      (omega (
        arith,
        l,
        length-top_down outermost (context_of forest.nodes (joined forest.files)) 0 (length forest.nodes),
      ))

  -- the class of each node, before contexts are known
  pub known_first : (body : ℕ) → number_of_class (class_nodes forest) body ≡ class_known p 0 body
  unfolding class_known
  known_first body =
      (let t : nat_lt body 0 ≡ false = grind (arith, nat_tests) in rw t (sym (number_at body)))

  pub known_last : (n body : ℕ) → n ≡ length forest.nodes → class_known p n body ≡ class_of_body p body
  unfolding class_known class_of_body
  known_last n body e = ⊎_elim
      (λ (l : body < n). let t : nat_lt body n ≡ true = grind (arith, nat_tests) in rw t refl)
      (λ (m : n ≤ body). let t : nat_lt body n ≡ false = grind (arith, nat_tests) in
      let past : context p body ≡ outermost = context_past body (omega (arith, m, e)) in
      rw (t, past) refl)
      (cases_lt body n)

module _ (p : Declarations) where
  known_other : (n body : ℕ) → (body ≡ n → ⊥) → class_known p (n + 1) body ≡ class_known p n body
  unfolding class_known
  known_other n body other = ⊎_elim
      (λ (l : body < n). let t : nat_lt body n ≡ true = grind (arith, nat_tests) in
      let u : nat_lt body (n + 1) ≡ true = grind (arith, nat_tests) in rw (t, u) refl)
      (λ (m : n ≤ body). let t : nat_lt body n ≡ false = grind (arith, nat_tests) in
      let more : n + 1 ≤ body = go m other in
      let u : nat_lt body (n + 1) ≡ false = grind (arith, nat_tests) in rw (t, u) refl)
      (cases_lt body n)
    where
      go : n ≤ body → (body ≡ n → ⊥) → n + 1 ≤ body
      go m other = ⊎_elim (λ (same : body ≡ n). absurd (other same)) (λ (o : body ≡ n → ⊥). omega (arith, m, o))
          (cases_eq body n)

  known_here : (n : ℕ) → class_known p (n + 1) n ≡ class_of_body p n
  unfolding class_known
  known_here n = (let t : nat_lt n (n + 1) ≡ true = grind (arith, nat_tests) in rw t refl)

  unknown_here : (n : ℕ) → class_known p n n ≡ class_at_node p n
  unfolding class_known
  unknown_here n = (let t : nat_lt n n ≡ false = grind (arith, nat_tests) in rw t refl)

  -- the context of one node more is known
  pub known_more : (n : ℕ) (table : List (Option ℕ)) (c : Option ℕ) → c ≡ (context p n).class → n < length table →
      ((b : ℕ) → lookup None table b ≡ class_known p n b) → (body : ℕ)
      → lookup None (if is_some c then set table n c else table) body ≡ class_known p (n + 1) body
  unfolding class_of_body
  known_more n table None e inside before body =
      ⊎_elim
      (λ (same : body ≡ n). rw same (before n ∙ unknown_here n ∙ sym (known_here n ∙ rw (← e) refl)))
      (λ (other : body ≡ n → ⊥). before body ∙ sym (known_other n body other))
      (cases_eq body n)
  known_more n table (Some k) e inside before body =
      ⊎_elim
      (λ (same : body ≡ n). rw same (get_or-set_same table n (Some k) None inside ∙ sym (known_here n ∙ rw (← e) refl)))
      (λ (other : body ≡ n → ⊥). get_or-set_other table n body (Some k) None other ∙ before body
      ∙ sym (known_other n body other))
      (cases_eq body n)

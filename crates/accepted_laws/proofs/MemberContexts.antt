-- What a context says: the member of a node is a member, and stands in the node's class.
use Rattle.std.proofs.Common.{◌≡◌, ℕ, ◌+◌, ◌<◌, ◌≤◌, zero, suc, List, length, refl, sym, ap, ◌∙◌, subst, arith, Option, Some, None, Bool, true, false, slice_get, if◌then◌else◌, nat_lt}
use Rattle.std.proofs.lemmas.Bool.Decides.{nat_tests}
use Rattle.scj_tree.specs.declared.nodes.Node.{Node}
use Rattle.scj_tree.specs.declared.nodes.Node.TheVariants.{Class}
use Rattle.scj_tree.specs.Forest.{Forest, IsForest, joined}
use Rattle.scj_tree.specs.Shape.{children}
use Rattle.scj_tree.proofs.RecursionLemmas.{lookup-behind, length-top_down}
use Rattle.scj_rules.specs.Words.{is_among, or_else}
use Rattle.scj_rules.specs.Contexts.{Declarations, declarations_of, outermost, contexts_in, context_of, context, child_context, is_member, parent_in}
use Rattle.scj_rules.proofs.ParentLemmas.{parent-is, no-parent, child-less}
use Rattle.accepted_laws.specs.Judgements.{IsMemberOf}
use Rattle.accepted_laws.specs.Sorts.{IsWellSorted}
use Rattle.accepted_laws.proofs.Children.{class_outermost}
use Rattle.accepted_laws.proofs.InnerNodes.{is_no_class}
use Rattle.accepted_laws.proofs.ClassNumbers.{no_class_number}
use Rattle.accepted_laws.proofs.Contexts.{child_context_is}
use Rattle.accepted_laws.proofs.Rows.{get_from_within}
use Rattle.accepted_laws.proofs.Tools.{some_inj}

member_no_class : (node : Node) → is_member node ≡ true → is_no_class node ≡ true
unfolding is_member is_no_class
member_no_class (Class position name flags header members) e = e
member_no_class _ e = refl

module _ (forest : Forest) (whole : IsForest forest) (sorted : IsWellSorted forest.nodes) where
  abbrev p : Declarations
  p = declarations_of forest

  abbrev nodes : List Node
  nodes = forest.nodes

  nodes_are : p.nodes ≡ nodes
  unfolding declarations_of
  nodes_are = refl

  -- nothing stands behind the last node
  pub outside : (x : ℕ) → length nodes ≤ x → context p x ≡ outermost
  unfolding declarations_of contexts_in
  outside x l = lookup-behind outermost (contexts_in forest) x (omega (arith, l, length-top_down outermost (context_of nodes (joined forest.files)) 0 (length nodes)))

  no_parent_is : (x : ℕ) → x < length nodes → parent_in nodes x ≡ None → context p x ≡ outermost
  unfolding declarations_of
  no_parent_is x l q = no-parent forest whole x l q

  abbrev HasMember : ℕ → Type 0
  HasMember x = (b : ℕ) → (context p x).member ≡ Some b → IsMemberOf p x b

  member_step : (x k : ℕ) (node : Node) → slice_get nodes k ≡ Some node → is_among x (children node) ≡ true → HasMember k → HasMember x
  unfolding child_context declarations_of
  member_step x k node at among ih b e = go (is_member node) refl
    where
      is : context p x ≡ child_context nodes (joined forest.files) k node (context p k) x
      is = child_context_is forest whole k x node at among

      less : x < k
      less = child-less forest whole k x node at among

      member : (if is_member node then Some k else (context p k).member) ≡ Some b
      member = sym (ap (λ c. c.member) is) ∙ e

      class : is_no_class node ≡ true → (context p x).class ≡ (context p k).class
      class n = ap (λ c. c.class) is ∙ ap (λ o. or_else o (context p k).class) (no_class_number forest whole k node at n)

      above : (t : Bool) → is_no_class node ≡ t → (context p k).member ≡ Some b → IsMemberOf p x b
      above true n m =
          let h = ih b m in
          record { node = h.node; is_there = h.is_there; is_a_member = h.is_a_member; behind = (let f = h.behind in omega (arith, f, less)); same_class = h.same_class ∙ sym (class n) }
      above false n m = absurd (let z : None ≡ Some b = sym (ap (λ c. c.member) (class_outermost forest whole sorted k node at n)) ∙ m in cc (z))

      go : (t : Bool) → is_member node ≡ t → IsMemberOf p x b
      go true t =
          let same : k ≡ b = some_inj k b (sym (ap (λ t. if t then Some k else (context p k).member) t) ∙ member) in
          subst (IsMemberOf p x) same (record { node = node; is_there = at; is_a_member = t; behind = less; same_class = sym (class (member_no_class node t)) })
      go false t = above (is_no_class node) refl (sym (ap (λ t. if t then Some k else (context p k).member) t) ∙ member)

  member_down : (d x : ℕ) → length nodes ≤ x + d → HasMember x
  member_down zero x l b e = absurd (let z : None ≡ Some b = sym (ap (λ c. c.member) (outside x (omega (arith, l)))) ∙ e in cc (z))
  member_down (suc d) x l b e = go (nat_lt x (length nodes)) refl (member_down d)
    where
      by_parent : (o : Option ℕ) → parent_in nodes x ≡ o → x < length nodes → ((x : ℕ) → length nodes ≤ x + d → HasMember x) → IsMemberOf p x b
      by_parent None q inside ih = absurd (let z : None ≡ Some b = sym (ap (λ c. c.member) (no_parent_is x inside q)) ∙ e in cc (z))
      by_parent (Some k) q inside ih =
          let is = parent-is forest whole x k q (get_from_within nodes x inside).0 in
          let less : x < k = child-less forest whole k x is.node is.there is.among in
          member_step x k is.node is.there is.among (ih k (omega (arith, l, less))) b e

      go : (t : Bool) → nat_lt x (length nodes) ≡ t → ((x : ℕ) → length nodes ≤ x + d → HasMember x) → IsMemberOf p x b
      go true h ih = (let inside : x < length nodes = grind (arith, nat_tests) in by_parent (parent_in nodes x) refl inside ih)
      go false h ih = absurd (let out : length nodes ≤ x = grind (arith, nat_tests) in let z : None ≡ Some b = sym (ap (λ c. c.member) (outside x out)) ∙ e in cc (z))

  -- the member of a node is a member of the node's class
  pub member_is : (x b : ℕ) → (context p x).member ≡ Some b → IsMemberOf p x b
  member_is x b e = member_down (length nodes) x (omega arith) b e

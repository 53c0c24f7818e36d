-- Class numbers and class nodes: the class of a number has one node, its name denotes it, and its members and what stands
-- in them have it as their class.
use Rattle.std.proofs.Common.{◌≡◌, ℕ, ◌+◌, ◌≤◌, zero, suc, List, [], ◌∷◌, ◌++◌, length, map, filter_map, position, refl, sym, ap, ◌∙◌, subst, arith, Option, Some, None, Bool, true, false, ◌||◌, true≢false, slice_get, ◌==◌, if◌then◌else◌, option_and_then, option_map, ◌⊎◌, inl, inr, nat_lt}
use Rattle.std.proofs.lemmas.Bool.Decides.{nat_tests}
use Rattle.std.specs.List.{cons_option}
use Rattle.scj_base.specs.Bytes.{is_same}
use Rattle.scj_builtins.specs.declared.classes.FrameworkClass.{FrameworkClass}
use Rattle.scj_builtins.specs.Framework.{framework_classes}
use Rattle.scj_base.specs.declared.positions.Position.{Position}
use Rattle.scj_tree.specs.declared.nodes.Node.{Node}
use Rattle.scj_tree.specs.declared.nodes.Node.TheVariants.{Class}
use Rattle.scj_tree.specs.Counts.{times}
use Rattle.scj_tree.specs.Forest.{Forest, IsForest, IsClass, is_class, AllClasses, joined, all_children}
use Rattle.scj_tree.specs.Shape.{children, optional}
use Rattle.scj_tree.proofs.ForestLemmas.{times-append}
use Rattle.scj_rules.specs.Words.{is_among, holds, or_else}
use Rattle.scj_rules.specs.Views.{WrittenClass, class_of, class_at, modifiers_at}
use Rattle.scj_rules.specs.Classes.{ClassRow, first_user_class, class_names, class_number, user_classes, framework_rows_from, user_row}
use Rattle.scj_rules.specs.ClassRules.{c1}
use Rattle.scj_rules.specs.Contexts.{Declarations, declarations_of, context, child_context, is_member, number_of_class}
use Rattle.scj_rules.specs.Phases.{IsAccepted}
use Rattle.scj_rules.proofs.ChainLemmas.{or_right, same_number}
use Rattle.accepted_laws.specs.Judgements.{Inside}
use Rattle.accepted_laws.specs.Sorts.{IsWellSorted}
use Rattle.accepted_laws.proofs.Breaks.{right}
use Rattle.accepted_laws.proofs.InnerNodes.{is_no_class}
use Rattle.accepted_laws.proofs.Contexts.{child_context_is}
use Rattle.accepted_laws.proofs.Rows.{IsFrameworkRow, IsUserRow, row_of, counted_is_written, at_class_unbroken}
use Rattle.accepted_laws.proofs.Tools.{some_inj}
use Rattle.accepted_laws.proofs.Positions.{position_once, position_none, position_least, same_name, get_right, get_map}

-- ---- the nodes of classes

pub class_is_no_other : (node : Node) → IsClass node → is_no_class node ≡ false
unfolding is_no_class
class_is_no_other _ is_class = refl

class_made : (nodes : List Node) (x : ℕ) (node : Node) → IsClass node → (c : WrittenClass) × (class_of nodes x node ≡ Some c)
unfolding class_of
class_made nodes x _ is_class = (_, refl)

-- a class as it is written stands at its node
pub record IsClassNode (nodes : List Node) (x : ℕ) (c : WrittenClass) : Type 0 where
  pub position : Position
  pub flags : Option ℕ
  pub header : Option ℕ
  pub is_there : slice_get nodes x ≡ Some (Class position c.name flags header c.members)
  pub number : c.node ≡ x
  pub modifiers : c.modifiers ≡ modifiers_at nodes flags

abbrev pub class_node : (nodes : List Node) (x : ℕ) (c : WrittenClass) → IsClassNode nodes x c → Node
class_node nodes x c n = Class n.position c.name n.flags n.header c.members

pub is_class_node : (nodes : List Node) (x : ℕ) (c : WrittenClass) (n : IsClassNode nodes x c) → is_no_class (class_node nodes x c n) ≡ false
unfolding is_no_class
is_class_node nodes x c n = refl

among_right : (v : ℕ) (xs ys : List ℕ) → is_among v ys ≡ true → is_among v (xs ++ ys) ≡ true
among_right v [] ys h = h
among_right v (x ∷ xs) ys h = or_right (v == x) (is_among v (xs ++ ys)) (among_right v xs ys h)

pub member_is_child : (nodes : List Node) (x : ℕ) (c : WrittenClass) (n : IsClassNode nodes x c) (m : ℕ) → is_among m c.members ≡ true → is_among m (children (class_node nodes x c n)) ≡ true
unfolding children
member_is_child nodes x c n m h = among_right m (optional n.flags) _ (among_right m (optional n.header) c.members h)

class_node_is : (nodes : List Node) (x : ℕ) (node : Node) (c : WrittenClass) → slice_get nodes x ≡ Some node → class_of nodes x node ≡ Some c → IsClassNode nodes x c
unfolding class_of
class_node_is nodes x (Class position name flags header members) c there e =
    subst (IsClassNode nodes x) (some_inj _ c e) (record { position = position; flags = flags; header = header; is_there = there; number = refl; modifiers = refl })
class_node_is nodes x _ c there e = absurd (cc (e))

-- the user classes are those of the class nodes, one by one
user_class_at : (nodes : List Node) (ids : List ℕ) → AllClasses nodes ids → (j : ℕ) (c : WrittenClass) → slice_get (filter_map (class_at nodes) ids) j ≡ Some c
    → (x : ℕ) × (slice_get ids j ≡ Some x) × IsClassNode nodes x c
unfolding AllClasses
user_class_at nodes [] all j c e = absurd (cc (e))
user_class_at nodes (x ∷ ids) all j c e = go j (λ j e. user_class_at nodes ids all.1 j c e) (subst (λ (o : Option WrittenClass). slice_get (cons_option o (filter_map (class_at nodes) ids)) j ≡ Some c) made e)
  where
    k : (c : WrittenClass) × (class_of nodes x all.0.0 ≡ Some c)
    k = class_made nodes x all.0.0 all.0.2

    made : class_at nodes x ≡ Some k.0
    made = ap (option_and_then (class_of nodes x)) all.0.1 ∙ k.1

    go : (j : ℕ) → ((j : ℕ) → slice_get (filter_map (class_at nodes) ids) j ≡ Some c → (x : ℕ) × (slice_get ids j ≡ Some x) × IsClassNode nodes x c) → slice_get (k.0 ∷ filter_map (class_at nodes) ids) j ≡ Some c → (y : ℕ) × (slice_get (x ∷ ids) j ≡ Some y) × IsClassNode nodes y c
    go zero ih e = (x, refl, class_node_is nodes x all.0.0 c all.0.1 (k.1 ∙ e))
    go (suc j) ih e = ih j e

all_classes_among : (nodes : List Node) (ids : List ℕ) (x : ℕ) (node : Node) → AllClasses nodes ids → slice_get nodes x ≡ Some node → is_no_class node ≡ true → is_among x ids ≡ false
unfolding AllClasses
all_classes_among nodes [] x node all e n = refl
all_classes_among nodes (y ∷ ids) x node all e n = go (x == y) refl (all_classes_among nodes ids x node all.1 e n)
  where
    go : (t : Bool) → (x == y) ≡ t → is_among x ids ≡ false → (x == y || is_among x ids) ≡ false
    go true s ih = absurd (
        let there : slice_get nodes y ≡ Some node = ap (slice_get nodes) (sym (same_number x y s)) ∙ e in
        let same : all.0.0 ≡ node = some_inj all.0.0 node (sym all.0.1 ∙ there) in
        true≢false (sym n ∙ ap is_no_class (sym same) ∙ class_is_no_other all.0.0 all.0.2))
    go false s ih = ap (λ t. t || is_among x ids) s ∙ ih

pub framework_count : length (framework_rows_from 0 framework_classes) ≡ first_user_class
unfolding framework_rows_from framework_classes
framework_count = refl

names_count : length (map (λ (c : FrameworkClass). c.name) framework_classes) ≡ first_user_class
unfolding framework_classes
names_count = refl

-- ---- a user class of an accepted program

pub record UserClass (forest : Forest) (class : ℕ) (c : WrittenClass) : Type 0 where
  pub index : ℕ
  pub user : slice_get (declarations_of forest).users index ≡ Some c
  pub number : class ≡ first_user_class + index
  pub node : IsClassNode forest.nodes c.node c
  pub numbered : number_of_class (joined forest.files) c.node ≡ Some class

module _ (forest : Forest) (whole : IsForest forest) where
  abbrev p : Declarations
  p = declarations_of forest

  -- what is no class has no class number
  pub no_class_number : (x : ℕ) (node : Node) → slice_get forest.nodes x ≡ Some node → is_no_class node ≡ true → number_of_class (joined forest.files) x ≡ None
  unfolding number_of_class
  no_class_number x node e n = ap (option_map (λ k. first_user_class + k)) (position_none x (joined forest.files) (all_classes_among forest.nodes (joined forest.files) x node whole.classes e n))

  once_in_files : (x : ℕ) → times x (joined forest.files) ≤ 1
  once_in_files x = omega (arith, whole.one_place x, times-append x (joined forest.files) (all_children forest.nodes))

  user_class_of : (class : ℕ) (row : ClassRow) (c : WrittenClass) → slice_get p.written class ≡ Some row → row.written ≡ Some c → UserClass forest class c
  unfolding declarations_of user_classes number_of_class user_row
  user_class_of class row c there is = go (row_of forest.nodes (user_classes forest) class row there)
    where
      users : List WrittenClass
      users = user_classes forest

      made : (j : ℕ) → class ≡ length (framework_rows_from 0 framework_classes) + j → slice_get users j ≡ Some c → UserClass forest class c
      made j n u =
          let q = user_class_at forest.nodes (joined forest.files) whole.classes j c u in
          let number : class ≡ first_user_class + j = n ∙ ap (λ m. m + j) framework_count in
          record {
            index = j;
            user = u;
            number = number;
            node = subst (λ x. IsClassNode forest.nodes x c) (sym q.2.number) q.2;
            numbered = ap (λ x. option_map (λ k. first_user_class + k) (position (λ other. x == other) (joined forest.files))) q.2.number
                ∙ ap (option_map (λ k. first_user_class + k)) (position_once q.0 (joined forest.files) j q.1 (once_in_files q.0))
                ∙ ap (λ m. Some m) (sym number);
          }

      go : IsFrameworkRow class row ⊎ ((j : ℕ) × (class ≡ length (framework_rows_from 0 framework_classes) + j) × IsUserRow forest.nodes users j row) → UserClass forest class c
      go (inl f) = absurd (let z : None ≡ Some c = sym f.unwritten ∙ is in cc (z))
      go (inr u) =
          let same : u.2.class ≡ c = some_inj u.2.class c (sym (ap (λ (r : ClassRow). r.written) u.2.is) ∙ is) in
          made u.0 u.1 (u.2.is_there ∙ ap (λ c. Some c) same)

  module _ (accepted : IsAccepted forest) (sorted : IsWellSorted forest.nodes) where
    pub user_class_is : (class : ℕ) (row : ClassRow) (c : WrittenClass) → slice_get p.classes class ≡ Some row → row.written ≡ Some c → UserClass forest class c
    user_class_is class row c there is = user_class_of class row c (ap (λ rows. slice_get rows class) (sym (counted_is_written forest accepted)) ∙ there) is

    named_there : (class : ℕ) (c : WrittenClass) → UserClass forest class c → slice_get p.names class ≡ Some c.name
    unfolding declarations_of class_names
    named_there class c u =
        ap (slice_get p.names) (u.number ∙ ap (λ m. m + u.index) (sym names_count))
        ∙ get_right (map (λ (c : FrameworkClass). c.name) framework_classes) (map (λ (c : WrittenClass). c.name) (user_classes forest)) u.index c.name (get_map (λ (c : WrittenClass). c.name) (user_classes forest) u.index c u.user)

    -- the name of a class denotes it
    pub name_denotes : (class : ℕ) (row : ClassRow) (c : WrittenClass) → slice_get p.classes class ≡ Some row → row.written ≡ Some c → class_number p.names c.name ≡ Some class
    unfolding class_number c1
    name_denotes class row c there is =
        let u = user_class_is class row c there is in
        let q = position_least (is_same c.name) p.names class c.name (named_there class c u) (same_name c.name) in
        let n = at_class_unbroken forest accepted class row c there is in
        let not_less : nat_lt q.0 class ≡ false = sym (ap (λ (o : Option ℕ). holds o (λ first. nat_lt first class)) q.1) ∙ right (holds (position (is_same c.name) p.names) (λ first. nat_lt first class)) _ c.position n.class_twice in
        q.1 ∙ ap (λ m. Some m) (let l = q.2 in grind (arith, nat_tests))

    -- the members of a class have it as their class
    pub member_class : (class : ℕ) (row : ClassRow) (c : WrittenClass) → slice_get p.classes class ≡ Some row → row.written ≡ Some c → (m : ℕ) → is_among m c.members ≡ true → (context p m).class ≡ Some class
    unfolding child_context
    member_class class row c there is m among =
        let u = user_class_is class row c there is in
        ap (λ c. c.class) (child_context_is forest whole c.node m (class_node forest.nodes c.node c u.node) u.node.is_there (member_is_child forest.nodes c.node c u.node m among))
        ∙ ap (λ o. or_else o (context p c.node).class) u.numbered

    -- and so has what stands directly in a member, whose member it is
    pub in_member_of : (class : ℕ) (row : ClassRow) (c : WrittenClass) → slice_get p.classes class ≡ Some row → row.written ≡ Some c → (m x : ℕ) (node child : Node) → is_among m c.members ≡ true
        → slice_get forest.nodes m ≡ Some node → is_member node ≡ true → is_no_class node ≡ true → is_among x (children node) ≡ true → slice_get p.nodes x ≡ Some child → Inside p m class x
    unfolding child_context
    in_member_of class row c there is m x node child among at member plain inside here =
        let e = child_context_is forest whole m x node at inside in
        record {
          here = (child, here);
          class = ap (λ c. c.class) e ∙ ap (λ o. or_else o (context p m).class) (no_class_number m node at plain) ∙ member_class class row c there is m among;
          member = ap (λ c. c.member) e ∙ ap (λ t. if t then Some m else (context p m).member) member;
        }

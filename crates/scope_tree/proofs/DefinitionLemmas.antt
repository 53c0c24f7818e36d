-- The definitions that the user classes of a program write, at the numbers of the classes.
use Rattle.std.proofs.Common.{◌≡◌, ℕ, zero, suc, ◌+◌, ◌-◌, ◌<◌, ◌≤◌, Bool, List, [], ◌∷◌, ◌++◌, length, map, find, slice_get, position, Option, Some, None, option_map, option_and_then, refl, sym, ap, ◌∙◌, arith, ⊎_elim, ◌==◌, ◌||◌, if◌then◌else◌}
use Rattle.std.specs.List.{position_or_len}
use Rattle.std.proofs.lemmas.Bool.{cases_lt, eq-eqb}
use Rattle.std.proofs.lemmas.List.{length-map}
use Rattle.std.proofs.lemmas.List.Folds.{list_any_at}
use Rattle.std.proofs.lemmas.Bool.Decides.{nat_tests}
use Rattle.std.proofs.lemmas.Option.{get_or_from_slice_get, none-some, option_and_then_some, slice_get_within, slice_get-map}
use Rattle.scj_builtins.specs.declared.classes.FrameworkClass.{FrameworkClass}
use Rattle.scj_builtins.specs.Framework.{framework_classes}
use Rattle.scj_tree.specs.declared.nodes.Node.{Node}
use Rattle.scj_tree.specs.Counts.{times}
use Rattle.scj_tree.specs.Forest.{Forest, IsForest, joined, all_children}
use Rattle.scj_tree.proofs.ForestLemmas.{times-append}
use Rattle.scj_rules.specs.declared.scopes.Definition.{Definition}
use Rattle.scj_rules.specs.Definitions.{read, definition, in_front, definition_with, definition_of, definitions_in, definitions, written_of, values_of, define_scope_of, flags_of}
use Rattle.scj_rules.specs.Words.{is_among}
use Rattle.scj_rules.specs.Views.{WrittenClass}
use Rattle.scj_rules.specs.Classes.{ClassRow, class_nodes, user_classes, class_names, user_row, framework_rows_from, written_rows, first_user_class}
use Rattle.scj_rules.specs.Contexts.{Declarations, declarations_of, number_of_class}
use Rattle.scj_rules.specs.ScopeRules.{definition_in, scope_of_definition}
use Rattle.scj_rules.proofs.WithinLemmas.{user_count}
use Rattle.class_rows.specs.Tables.{class_written}
use Rattle.class_rows.proofs.SoundLemmas.{row_sound}
use Rattle.class_rows.proofs.UserLemmas.{nodes_of_users, written_in, written_stays}

-- ---- a class at its number

no_user_below : (forest : Forest) (class : ℕ) → class < first_user_class →
    written_in (declarations_of forest).classes class ≡ None
unfolding class_written
no_user_below forest class h =
    sym (written_stays forest class) ∙ go (slice_get (declarations_of forest).written class) refl
  where
    go : (o : Option ClassRow) → slice_get (declarations_of forest).written class ≡ o →
        option_and_then (λ (row : ClassRow). row.written) o ≡ None
    go None e = refl
    go (Some row) e = (row_sound forest class row e).framework h

behind_framework : (number : ℕ) (cs : List FrameworkClass) (rest : List ClassRow) (k : ℕ) →
    written_in (framework_rows_from number cs ++ rest) (length cs + k) ≡ written_in rest k
unfolding framework_rows_from
behind_framework number [] rest k = (let e : 0 + k ≡ k = omega arith in ap (written_in rest) e)
behind_framework number (c ∷ cs) rest k =
    let e : length (c ∷ cs) + k ≡ suc (length cs + k) = omega arith in
    rw e (behind_framework (number + 1) cs rest k)

user_rows_at : (nodes : List Node) (names : List (List ℕ)) (users : List WrittenClass) (k : ℕ) →
    written_in (map (user_row nodes names) users) k ≡ slice_get users k
unfolding user_row
user_rows_at nodes names [] k = refl
user_rows_at nodes names (c ∷ users) zero = refl
user_rows_at nodes names (c ∷ users) (suc k) = user_rows_at nodes names users k

user_at : (forest : Forest) (k : ℕ) → written_in (declarations_of forest).classes (first_user_class + k) ≡ slice_get
    (user_classes forest) k
unfolding declarations_of class_written written_rows framework_classes
user_at forest k =
    let users = user_classes forest in
    sym (written_stays forest (first_user_class + k))
    ∙ behind_framework 0 framework_classes (map (user_row forest.nodes (class_names users)) users) k
    ∙ user_rows_at forest.nodes (class_names users) users k

-- ---- the definition of a class

pub class_of_definition : (nodes : List Node) (class : ℕ) (d : Definition) → definition_of nodes class ≡ Some d →
    d.class ≡ class
unfolding definition_of definition_with
class_of_definition nodes class d h =
    option_and_then_some (definition_with nodes class)
    (option_and_then (read nodes values_of) (option_and_then (read nodes define_scope_of) (read nodes flags_of class)))
    d h
    (λ v _ e. option_and_then_some (λ s. option_and_then (λ w. Some (definition class s w)) (read nodes written_of v.1))
    (read nodes written_of v.0) d e
    (λ s _ f. option_and_then_some (λ w. Some (definition class s w)) (read nodes written_of v.1) d f
    (λ w _ g. let same : definition class s w ≡ d = cc in sym (ap (λ (x : Definition). x.class) same))))

abbrev is_class_of : ℕ → Definition → Bool
is_class_of node d = d.class == node

-- the first definition with a class among those that classes write is its own
found_definition : (nodes : List Node) (ids : List ℕ) (node : ℕ) → find (is_class_of node) (definitions_in nodes ids)
    ≡ (if is_among node ids then definition_of nodes node else None)
unfolding definitions_in
found_definition nodes [] node = refl
found_definition nodes (y ∷ ids) node =
    go (definition_of nodes y) refl (class_of_definition nodes y) (found_definition nodes ids node)
  where
    go : (o : Option Definition) → definition_of nodes y ≡ o
        → ((d : Definition) → definition_of nodes y ≡ Some d → d.class ≡ y)
        → find (is_class_of node) (definitions_in nodes ids)
        ≡ (if is_among node ids then definition_of nodes node else None)
        → find (is_class_of node) (in_front o (definitions_in nodes ids))
        ≡ (if (node == y) || is_among node ids then definition_of nodes node else None)
    go None e own rest = grind (arith, nat_tests, e, rest, ap (definition_of nodes))
    go (Some d) e own rest = grind (arith, nat_tests, e, rest, own d e, ap (definition_of nodes))

-- ---- the place of a number that stands once

among_once : (x : ℕ) (xs : List ℕ) (k : ℕ) → slice_get xs k ≡ Some x → 1 ≤ times x xs
unfolding times
among_once x [] k h = cc
among_once x (y ∷ xs) zero h = grind (arith, nat_tests, h)
among_once x (y ∷ xs) (suc k) h = omega (arith, among_once x xs k h)

first_place : (x : ℕ) (xs : List ℕ) (k : ℕ) → slice_get xs k ≡ Some x → times x xs ≤ 1 →
    position_or_len (λ o. x == o) xs ≡ k
unfolding times
first_place x [] k h once = cc
first_place x (y ∷ xs) zero h once = grind (arith, nat_tests, h)
first_place x (y ∷ xs) (suc k) h once = grind (arith, nat_tests, first_place x xs k h, among_once x xs k h, once)

place_there : (x : ℕ) (xs : List ℕ) (k : ℕ) → slice_get xs k ≡ Some x → times x xs ≤ 1 →
    position (λ o. x == o) xs ≡ Some k
place_there x xs k h once = grind (arith, nat_tests, first_place x xs k h once, slice_get_within xs k x h)

-- ---- the definitions at the numbers of the classes

pub no_definition_below : (forest : Forest) (class : ℕ) → class < first_user_class →
    definition_in (declarations_of forest) class ≡ None
unfolding definition_in
no_definition_below forest class h =
    let none : written_in (declarations_of forest).classes class ≡ None = no_user_below forest class h in rw none refl

module _ (forest : Forest) (whole : IsForest forest) where
  abbrev p : Declarations
  p = declarations_of forest

  abbrev nodes_of : List ℕ
  nodes_of = class_nodes forest

  users_are : map (λ (c : WrittenClass). c.node) (user_classes forest) ≡ nodes_of
  unfolding user_classes
  users_are = nodes_of_users forest.nodes (class_nodes forest) whole.classes

  pub class_count : length p.classes ≡ first_user_class + length nodes_of
  class_count =
      let same : length (user_classes forest) ≡ length nodes_of =
      sym (length-map (user_classes forest) (λ (c : WrittenClass). c.node)) ∙ ap length users_are in
      omega (arith, user_count forest, same)

  -- the node of a user class
  pub node_at : (k : ℕ) → option_map (λ (c : WrittenClass). c.node) (written_in p.classes (first_user_class + k))
      ≡ slice_get nodes_of k
  node_at k = ap (option_map (λ (c : WrittenClass). c.node)) (user_at forest k)
      ∙ sym (slice_get-map (λ (c : WrittenClass). c.node) (user_classes forest) k)
      ∙ ap (λ (xs : List ℕ). slice_get xs k) users_are

  node_there : (class : ℕ) (c : WrittenClass) → written_in p.classes class ≡ Some c → (k : ℕ) ×
      (slice_get nodes_of k ≡ Some c.node)
  node_there class c h =
      ⊎_elim (λ (l : class < first_user_class). absurd (none-some c (sym (no_user_below forest class l) ∙ h)))
      (λ (m : first_user_class ≤ class).
      let e : first_user_class + (class - first_user_class) ≡ class = omega (arith, m) in (
        class - first_user_class,
        sym (node_at (class - first_user_class))
            ∙ ap (option_map (λ (c : WrittenClass). c.node)) (ap (written_in p.classes) e ∙ h),
      ))
      (cases_lt class first_user_class)

  definition_by_node : (class : ℕ) → definition_in p class ≡ option_and_then (definition_of forest.nodes)
      (option_map (λ (c : WrittenClass). c.node) (written_in p.classes class))
  unfolding definition_in declarations_of definitions
  definition_by_node class = go (written_in p.classes class) refl
    where
      go : (o : Option WrittenClass) → written_in p.classes class ≡ o
          → option_and_then
          (λ (c : WrittenClass). find (is_class_of c.node) (definitions_in forest.nodes (joined forest.files))) o
          ≡ option_and_then (definition_of forest.nodes) (option_map (λ (c : WrittenClass). c.node) o)
      go None e = refl
      go (Some c) e =
          let there = node_there class c e in
          let k : ℕ = there.0 in
          let alike = eq-eqb _ _ (sym (get_or_from_slice_get nodes_of k c.node c.node there.1)) in
          let among =
          list_any_at (λ m. c.node == m) nodes_of k c.node (slice_get_within nodes_of k c.node there.1) alike in
          grind (arith, nat_tests, found_definition forest.nodes nodes_of c.node, among)

  -- the definition of a class by its place among the user classes, and the scope that it makes
  pub definition_at_place : (k x : ℕ) → slice_get nodes_of k ≡ Some x →
      definition_in p (first_user_class + k) ≡ definition_of forest.nodes x
  definition_at_place k x h = definition_by_node (first_user_class + k)
      ∙ ap (option_and_then (definition_of forest.nodes)) (node_at k ∙ h)

  pub scope_at_place : (k x : ℕ) (d : Definition) → slice_get nodes_of k ≡ Some x →
      definition_of forest.nodes x ≡ Some d → scope_of_definition p d ≡ Some (first_user_class + k)
  unfolding declarations_of number_of_class
  scope_at_place k x d h e =
      let once : times x nodes_of ≤ 1 =
      omega (arith, whole.one_place x, times-append x nodes_of (all_children forest.nodes)) in
      let same : d.class ≡ x = class_of_definition forest.nodes x d e in
      ap (λ (ids : List ℕ). number_of_class ids d.class) users_are
      ∙ rw same (rw (place_there x nodes_of k h once) refl)

-- the definition of a class is read from its node
pub definition_of_class : (forest : Forest) (class : ℕ) (at : Option ℕ) → IsForest forest →
    at ≡ option_map (λ (c : WrittenClass). c.node) (class_written (declarations_of forest) class)
    → option_and_then (definition_of forest.nodes) at ≡ definition_in (declarations_of forest) class
definition_of_class forest class at whole e =
    ap (option_and_then (definition_of forest.nodes))
    (e ∙ ap (option_map (λ (c : WrittenClass). c.node)) (written_stays forest class))
    ∙ sym (definition_by_node forest whole class)

-- The rows of the classes, and the nodes of which they tell.
use Rattle.std.proofs.Common.{◌≡◌, ℕ, zero, suc, ◌+◌, ◌<◌, ◌≤◌, List, [], ◌∷◌, ◌++◌, length, map, refl, ap, ◌∙◌, subst, arith, Option, Some, None, slice_get, option_map, option_and_then, unwrap_or, nat_lt, if◌then◌else◌}
use Rattle.std.proofs.lemmas.Bool.Decides.{nat_tests}
use Rattle.std.proofs.lemmas.Grind.{common_steps}
use Rattle.std.specs.List.{filter_map, cons_option}
use Rattle.scj_builtins.specs.declared.classes.FrameworkClass.{FrameworkClass}
use Rattle.scj_builtins.specs.Framework.{framework_classes}
use Rattle.scj_tree.specs.declared.nodes.Node.{Node}
use Rattle.scj_tree.specs.declared.nodes.Node.TheVariants.{Class}
use Rattle.scj_tree.specs.Forest.{Forest}
use Rattle.scj_rules.specs.Views.{WrittenClass, DeclaredMethod, class_at, class_of, field_at, method_at, constructor_at}
use Rattle.scj_rules.specs.Classes.{ClassRow, user_classes, class_names, class_nodes, written_rows, user_row, framework_row, framework_rows_from, framework_methods_on, first_user_class}
use Rattle.scj_rules.specs.Contexts.{declarations_of}
use Rattle.scj_rules.proofs.WithinLemmas.{length-framework}
use Rattle.class_headers.specs.Members.{class_written}

abbrev pub members_of : Option WrittenClass → List ℕ
members_of o = unwrap_or (option_map (λ (c : WrittenClass). c.members) o) []

abbrev pub methods_of : List Node → ℕ → Option WrittenClass → List DeclaredMethod
methods_of nodes class written = if nat_lt class first_user_class then framework_methods_on class else filter_map
    (method_at nodes) (members_of written)

-- the row tells what is at the nodes of its class
pub record IsSound (nodes : List Node) (class : ℕ) (row : ClassRow) : Type 0 where
  pub node : option_and_then (class_at nodes) (option_map (λ (c : WrittenClass). c.node) row.written) ≡ row.written
  pub fields : row.fields ≡ filter_map (field_at nodes) (members_of row.written)
  pub methods : row.methods ≡ methods_of nodes class row.written
  pub constructors : row.constructors ≡ filter_map (constructor_at nodes) (members_of row.written)
  pub framework : class < first_user_class → row.written ≡ None

pub first_methods : (nodes : List Node) (class : ℕ) (written : Option WrittenClass) → class < first_user_class →
    framework_methods_on class ≡ methods_of nodes class written
first_methods nodes class written h = grind (arith, nat_tests)

pub other_methods : (nodes : List Node) (class : ℕ) (written : Option WrittenClass) → first_user_class ≤ class →
    filter_map (method_at nodes) (members_of written) ≡ methods_of nodes class written
other_methods nodes class written h = grind (arith, nat_tests)

-- a class that is read at a node is that node's
pub node_of_class : (nodes : List Node) (id : ℕ) (o : Option Node) (c : WrittenClass) →
    option_and_then (class_of nodes id) o ≡ Some c → c.node ≡ id
unfolding class_of
node_of_class nodes id None c h = cc
node_of_class nodes id (Some (Class position name flags header members)) c h = cc
node_of_class nodes id (Some _) c h = cc

pub read_again : (nodes : List Node) (id : ℕ) (c : WrittenClass) → class_at nodes id ≡ Some c →
    class_at nodes c.node ≡ Some c
read_again nodes id c h = let same : c.node ≡ id = node_of_class nodes id (slice_get nodes id) c h in
    ap (class_at nodes) same ∙ h

module _ (nodes : List Node) (class : ℕ) (row : ClassRow) where
  first_user : (names : List (List ℕ)) (id : ℕ) (o : Option WrittenClass) (cs : List WrittenClass) →
      first_user_class ≤ class → class_at nodes id ≡ o
      → ((j : ℕ) → slice_get (map (user_row nodes names) cs) j ≡ Some row → IsSound nodes class row) → (j : ℕ) →
      slice_get (map (user_row nodes names) (cons_option o cs)) j ≡ Some row → IsSound nodes class row
  unfolding user_row
  first_user names id None cs h f later j e = later j e
  first_user names id (Some c) cs h f later zero e =
      let same : user_row nodes names c ≡ row = cc in
      let here : IsSound nodes class (user_row nodes names c) =
      record {
        node = read_again nodes id c f;
        fields = refl;
        methods = other_methods nodes class (Some c) h;
        constructors = refl;
        framework = λ l. absurd (omega (arith, l, h));
      } in
      subst (IsSound nodes class) same here
  first_user names id (Some c) cs h f later (suc j) e = later j e

  user_at : (names : List (List ℕ)) (ids : List ℕ) → first_user_class ≤ class → (j : ℕ) →
      slice_get (map (user_row nodes names) (filter_map (class_at nodes) ids)) j ≡ Some row → IsSound nodes class row
  user_at names [] h j e = cc
  user_at names (id ∷ ids) h j e =
      first_user names id (class_at nodes id) (filter_map (class_at nodes) ids) h refl (user_at names ids h) j e

  row_at : (users : List ClassRow)
      → (first_user_class ≤ class → (j : ℕ) → slice_get users j ≡ Some row → IsSound nodes class row) →
      (cs : List FrameworkClass) (number i : ℕ) → number + length cs ≡ first_user_class → number + i ≡ class →
      slice_get (framework_rows_from number cs ++ users) i ≡ Some row → IsSound nodes class row
  unfolding framework_rows_from framework_row
  row_at users later [] number i h k e = later (omega (arith, h, k)) i e
  row_at users later (c ∷ cs) number zero h k e =
      let same : framework_row number c ≡ row = cc in
      let position : number ≡ class = omega (arith, k) in
      let here : IsSound nodes class (framework_row number c) =
      record {
        node = refl;
        fields = refl;
        methods = ap framework_methods_on position ∙ first_methods nodes class None (omega (arith, h, k));
        constructors = refl;
        framework = λ l. refl;
      } in
      subst (IsSound nodes class) same here
  row_at users later (c ∷ cs) number (suc i) h k e =
      row_at users later cs (number + 1) i (omega (arith, h)) (omega (arith, k)) e

pub row_sound : (forest : Forest) (class : ℕ) (row : ClassRow) →
    slice_get (declarations_of forest).written class ≡ Some row → IsSound forest.nodes class row
unfolding declarations_of written_rows user_classes framework_classes
row_sound forest class row e =
    let names = class_names (user_classes forest) in
    row_at forest.nodes class row (map (user_row forest.nodes names) (user_classes forest))
    (user_at forest.nodes class row names (class_nodes forest)) framework_classes 0 class refl (omega arith) e

pub class_at_node : (forest : Forest) (class : ℕ)
    → option_and_then (class_at forest.nodes)
    (option_map (λ (c : WrittenClass). c.node) (class_written (declarations_of forest) class)) ≡ class_written
    (declarations_of forest) class
unfolding class_written
class_at_node forest class =
    let sound : (row : ClassRow) → slice_get (declarations_of forest).written class ≡ Some row
    → option_and_then (class_at forest.nodes) (option_map (λ (c : WrittenClass). c.node) row.written) ≡ row.written =
    λ row e. (row_sound forest class row e).node in
    grind (arith, common_steps, sound)

-- the framework's classes are there
framework_get : (class : ℕ) (xs ys : List ClassRow) → class < length xs → (row : ClassRow) ×
    (slice_get (xs ++ ys) class ≡ Some row)
framework_get class [] ys h = absurd (omega (arith, h))
framework_get zero (x ∷ xs) ys h = (x, refl)
framework_get (suc class) (x ∷ xs) ys h = framework_get class xs ys (omega (arith, h))

pub framework_there : (forest : Forest) (class : ℕ) → class < first_user_class → (row : ClassRow) ×
    (slice_get (declarations_of forest).written class ≡ Some row)
unfolding declarations_of written_rows framework_classes
framework_there forest class h =
    framework_get class (framework_rows_from 0 framework_classes)
    (map (user_row forest.nodes (class_names (user_classes forest))) (user_classes forest))
    (omega (arith, length-framework 0 framework_classes))

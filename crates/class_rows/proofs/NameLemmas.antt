-- The names of classes by their numbers.
use Rattle.std.proofs.Common.{◌≡◌, ℕ, zero, suc, ◌+◌, List, [], ◌∷◌, ◌++◌, map, slice_get, refl, sym, ap, ◌∙◌, arith, option_map, option_and_then}
use Rattle.std.proofs.lemmas.Grind.{common_steps}
use Rattle.std.proofs.lemmas.Option.{slice_get-map}
use Rattle.std.proofs.lemmas.Simd.{map-map}
use Rattle.scj_builtins.specs.declared.classes.FrameworkClass.{FrameworkClass}
use Rattle.scj_builtins.specs.Framework.{framework_classes}
use Rattle.scj_tree.specs.Forest.{Forest}
use Rattle.scj_rules.specs.Words.{or_else}
use Rattle.scj_rules.specs.Views.{WrittenClass}
use Rattle.scj_rules.specs.Classes.{ClassRow, class_names, framework_row, framework_rows_from, user_classes, user_row, written_rows}
use Rattle.scj_rules.specs.Contexts.{declarations_of}
use Rattle.class_rows.specs.Tables.{class_written, name_of}
use Rattle.class_rows.proofs.RowLemmas.{as_written}

-- a row has the name of its class
pub name_is : (forest : Forest) (class : ℕ) → name_of (declarations_of forest) class
    ≡ option_map (λ (row : ClassRow). row.name) (slice_get (declarations_of forest).classes class)
unfolding name_of declarations_of class_written written_rows framework_rows_from framework_row user_row
name_is forest class =
    go framework_classes 0 class
    ∙ sym (as_written (option_map (λ (row : ClassRow). row.name)) (λ row. refl) forest class)
  where
    rows : List WrittenClass → List ClassRow
    rows = map (user_row forest.nodes (class_names (user_classes forest)))

    go : (cs : List FrameworkClass) (number i : ℕ) →
        let all = framework_rows_from number cs ++ rows (user_classes forest) in
        or_else (option_map (λ (c : FrameworkClass). c.name) (slice_get cs i)) (option_map
        (λ (c : WrittenClass). c.name) (option_and_then (λ (row : ClassRow). row.written) (slice_get all i)))
        ≡ option_map (λ (row : ClassRow). row.name) (slice_get all i)
    go [] number i =
        let users = user_classes forest in
        grind (arith, common_steps, slice_get-map (user_row forest.nodes (class_names users)) users i)
    go (c ∷ cs) number zero = refl
    go (c ∷ cs) number (suc i) = go cs (number + 1) i

abbrev row_name : ClassRow → List ℕ
row_name row = row.name

-- and the name that is listed at its number
pub name_listed : (forest : Forest) (class : ℕ) → name_of (declarations_of forest) class
    ≡ slice_get (declarations_of forest).names class
unfolding declarations_of class_names written_rows framework_rows_from framework_row user_row
name_listed forest class =
    name_is forest class ∙ as_written (option_map row_name) (λ row. refl) forest class
    ∙ sym (slice_get-map row_name (declarations_of forest).written class)
    ∙ ap (λ (names : List (List ℕ)). slice_get names class) (go framework_classes 0)
  where
    users : List WrittenClass
    users = user_classes forest

    go : (cs : List FrameworkClass) (number : ℕ) →
        map row_name (framework_rows_from number cs ++ map (user_row forest.nodes (class_names users)) users)
        ≡ map (λ (c : FrameworkClass). c.name) cs ++ map (λ (c : WrittenClass). c.name) users
    go [] number = map-map row_name (user_row forest.nodes (class_names users)) users
    go (c ∷ cs) number = ap (λ (names : List (List ℕ)). c.name ∷ names) (go cs (number + 1))

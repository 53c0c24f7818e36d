-- The rows of the classes of a program have the names of the classes, each at its number.
use Rattle.std.proofs.Common.{◌≡◌, ◌∙◌, ℕ, ◌+◌, List, [], ◌∷◌, ◌++◌, map, Option, Some, None, option_map, slice_get, Bool, true, false, if◌then◌else◌, refl, ap, sym}
use Rattle.std.proofs.lemmas.List.{map-append}
use Rattle.std.proofs.lemmas.Option.{slice_get-map}
use Rattle.scj_builtins.specs.declared.classes.FrameworkClass.{FrameworkClass}
use Rattle.scj_builtins.specs.Framework.{framework_classes, object}
use Rattle.scj_tree.specs.declared.nodes.Node.{Node}
use Rattle.scj_tree.specs.Forest.{Forest}
use Rattle.scj_rules.specs.Views.{WrittenClass}
use Rattle.scj_rules.specs.Classes.{ClassRow, class_names, counted_from, counted_row, framework_row, framework_rows_from, is_well_headed, user_classes, user_row, written_rows}
use Rattle.scj_rules.specs.Contexts.{declarations_of}
use Rattle.scj_model.specs.Code.{code_of}
use Rattle.scj_model.specs.Apply.{class_name}

abbrev name_of_row : ClassRow → List ℕ
name_of_row row = row.name

abbrev headed : Bool → ClassRow → ClassRow
headed is_right row = if is_right then row else record row { superclass = Some object; interfaces = [] }

headed_name : (is_right : Bool) (row : ClassRow) → name_of_row (headed is_right row) ≡ row.name
headed_name true row = refl
headed_name false row = refl

counted_name : (names : List (List ℕ)) (rows : List ClassRow) (class : ℕ) (row : ClassRow) →
    name_of_row (counted_row names rows class row) ≡ row.name
unfolding counted_row
counted_name names rows class row = by_class row.written
  where
    by_class : (o : Option WrittenClass) →
        name_of_row (elim o as (λ _. ClassRow) [ None ↦ row | Some c ↦ headed (is_well_headed names rows class c) row ])
        ≡ row.name
    by_class None = refl
    by_class (Some c) = headed_name (is_well_headed names rows class c) row

counted_names : (names : List (List ℕ)) (rows : List ClassRow) (class : ℕ) (more : List ClassRow) →
    map name_of_row (counted_from names rows class more) ≡ map name_of_row more
unfolding counted_from
counted_names names rows class [] = refl
counted_names names rows class (row ∷ more) =
    ap (λ (n : List ℕ). n ∷ map name_of_row (counted_from names rows (class + 1) more))
    (counted_name names rows class row)
    ∙ ap (λ (ns : List (List ℕ)). row.name ∷ ns) (counted_names names rows (class + 1) more)

framework_names : (number : ℕ) (cs : List FrameworkClass) →
    map name_of_row (framework_rows_from number cs) ≡ map (λ (c : FrameworkClass). c.name) cs
unfolding framework_rows_from framework_row
framework_names number [] = refl
framework_names number (c ∷ cs) = ap (λ (ns : List (List ℕ)). c.name ∷ ns) (framework_names (number + 1) cs)

user_names : (nodes : List Node) (names : List (List ℕ)) (users : List WrittenClass) →
    map name_of_row (map (user_row nodes names) users) ≡ map (λ (c : WrittenClass). c.name) users
unfolding user_row
user_names nodes names [] = refl
user_names nodes names (c ∷ cs) = ap (λ (ns : List (List ℕ)). c.name ∷ ns) (user_names nodes names cs)

written_names : (nodes : List Node) (users : List WrittenClass) →
    map name_of_row (written_rows nodes users) ≡ class_names users
unfolding written_rows class_names
written_names nodes users =
    map-append name_of_row (framework_rows_from 0 framework_classes) (map (user_row nodes (class_names users)) users)
    ∙ (ap (λ (ns : List (List ℕ)). ns ++ map name_of_row (map (user_row nodes (class_names users)) users))
    (framework_names 0 framework_classes)
    ∙ ap (λ (ns : List (List ℕ)). map (λ (c : FrameworkClass). c.name) framework_classes ++ ns)
    (user_names nodes (class_names users) users))

names_are : (forest : Forest) → map name_of_row (declarations_of forest).classes ≡ (declarations_of forest).names
unfolding declarations_of
names_are forest =
    let users : List WrittenClass = user_classes forest in
    let written : List ClassRow = written_rows forest.nodes users in
    counted_names (class_names users) written 0 written ∙ written_names forest.nodes users

abbrev or_empty : Option (List ℕ) → List ℕ
or_empty found = elim found as (λ _. List ℕ) [ None ↦ [] | Some name ↦ name ]

name_found : (found : Option ClassRow) →
    or_empty (option_map name_of_row found) ≡ (elim found as (λ _. List ℕ) [ None ↦ [] | Some row ↦ row.name ])
name_found None = refl
name_found (Some row) = refl

-- the name of a class is the one at its number
pub named : (forest : Forest) (class : ℕ) →
    or_empty (slice_get (declarations_of forest).names class) ≡ class_name (code_of forest) class
unfolding code_of
named forest class =
    ap (λ (ns : List (List ℕ)). or_empty (slice_get ns class)) (sym (names_are forest))
    ∙ (ap or_empty (slice_get-map name_of_row (declarations_of forest).classes class)
    ∙ name_found (slice_get (declarations_of forest).classes class))

pub named_there : (forest : Forest) (class : ℕ) (name : List ℕ) →
    slice_get (declarations_of forest).names class ≡ Some name → name ≡ class_name (code_of forest) class
named_there forest class name e = ap or_empty (sym e) ∙ named forest class

pub named_nowhere : (forest : Forest) (class : ℕ) → slice_get (declarations_of forest).names class ≡ None →
    [] ≡ class_name (code_of forest) class
named_nowhere forest class e = ap or_empty (sym e) ∙ named forest class

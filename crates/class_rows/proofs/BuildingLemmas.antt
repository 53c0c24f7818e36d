-- What is forbidden in the headers of classes, and the ways from classes as they count.
use Rattle.std.proofs.Common.{◌≡◌, ℕ, ◌<◌, ◌≤◌, List, length, refl, sym, ap, ◌∙◌, subst, arith, Option, Some, None, true, option_map}
use Rattle.std.proofs.lemmas.Option.{slice_get_within}
use Rattle.scj_tree.specs.Forest.{Forest}
use Rattle.scj_tree.specs.Recursion.{listed}
use Rattle.scj_rules.specs.Views.{WrittenClass}
use Rattle.scj_rules.specs.Classes.{is_well_headed}
use Rattle.scj_rules.specs.Contexts.{Declarations, declarations_of}
use Rattle.scj_rules.proofs.WithinLemmas.{counted-stays}
use Rattle.class_headers.specs.Columns.{kind_count, AreWaysOf}
use Rattle.class_headers.specs.declared.ways.Way.{Way}
use Rattle.class_headers.specs.Ways.{AreDoubled, first_ways, way_in}
use Rattle.class_headers.proofs.TableLemmas.{ways_are}
use Rattle.class_headers.specs.Supers.{is_well_headed_in, knows_supers, forbidden_in}
use Rattle.class_rows.specs.Tables.{is_good_header}
use Rattle.class_rows.proofs.RowLemmas.{class_length}
use Rattle.class_rows.proofs.SoundLemmas.{framework_there}

pub good_framework : (p : Declarations) (class : ℕ) (o : Option WrittenClass) →
    None ≡ option_map (λ (c : WrittenClass). c.node) o → true ≡ is_good_header p class o
unfolding is_good_header
good_framework p class None e = refl
good_framework p class (Some c) e = cc

pub good_user : (p : Declarations) (class node : ℕ) (o : Option WrittenClass) →
    Some node ≡ option_map (λ (c : WrittenClass). c.node) o → is_well_headed_in p class o ≡ is_good_header p class o
unfolding is_good_header is_well_headed_in knows_supers forbidden_in is_well_headed
good_user p class node None e = cc
good_user p class node (Some c) e = refl

pub ways_counted : (forest : Forest) (first ways : List Way)
    → first ≡ listed (way_in (declarations_of forest).classes) (length (declarations_of forest).written) →
    AreDoubled first (length ways) ways → AreWaysOf (declarations_of forest).classes ways
ways_counted forest first ways f doubled =
    let last = framework_there forest 6 (omega arith) in
    let within : 6 < length (declarations_of forest).written =
    slice_get_within (declarations_of forest).written 6 last.0 last.1 in
    let kinds : kind_count ≤ length (declarations_of forest).classes = omega (arith, within, class_length forest) in
    let all : first ≡ first_ways (declarations_of forest).classes =
    f ∙ ap (listed (way_in (declarations_of forest).classes)) (sym (class_length forest)) in
    let P : List Way → Type 0 = λ ws. AreDoubled ws (length ways) ways in
    ways_are (declarations_of forest).classes (counted-stays forest) ways (subst P all doubled) kinds

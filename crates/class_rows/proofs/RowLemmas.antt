-- The rows of the table and the rows of the classes.
use Rattle.std.proofs.Common.{◌≡◌, ℕ, ◌+◌, List, [], length, refl, sym, ap, ◌∙◌, arith, Option, Some, None, Bool, true, false, cond, slice_get, slice_index_or, option_map, option_and_then, if◌then◌else◌}
use Rattle.std.proofs.lemmas.Bool.Decides.{nat_tests}
use Rattle.std.proofs.lemmas.Grind.{common_steps}
use Rattle.std.proofs.lemmas.Option.{slice_get_past}
use Rattle.scj_builtins.specs.Framework.{object}
use Rattle.scj_tree.specs.Forest.{Forest}
use Rattle.scj_tree.proofs.RecursionLemmas.{listed-at}
use Rattle.scj_rules.specs.Classes.{ClassRow, counted_row, superclass_in, interfaces_in, user_classes, class_names, written_rows}
use Rattle.scj_rules.specs.Contexts.{Declarations, declarations_of}
use Rattle.scj_rules.proofs.SubtypeLemmas.{counted-at}
use Rattle.scj_rules.proofs.WithinLemmas.{length-counted}
use Rattle.class_rows.specs.Tables.{AreUnderObject, class_written, has_good_header, is_good_header, is_under_object}

-- a class as it counts
abbrev pub counted : Declarations → ℕ → ClassRow → ClassRow
counted p class = counted_row p.names p.written class

pub class_get : (forest : Forest) (class : ℕ) → slice_get (declarations_of forest).classes class ≡ option_map
    (counted (declarations_of forest) class) (slice_get (declarations_of forest).written class)
unfolding declarations_of
class_get forest class =
    let users = user_classes forest in
    let written = written_rows forest.nodes users in
    counted-at (class_names users) written 0 written class
    ∙ (let e : 0 + class ≡ class = omega arith in
    ap (λ n. option_map (counted_row (class_names users) written n) (slice_get written class)) e)

pub class_length : (forest : Forest) → length (declarations_of forest).classes ≡ length (declarations_of forest).written
unfolding declarations_of
class_length forest =
    let users = user_classes forest in
    let written = written_rows forest.nodes users in
    length-counted (class_names users) written 0 written

-- parts of rows
-- a row counts as it is written, or under Object without interfaces
abbrev pub under_object : ClassRow → ClassRow
under_object row = record row { superclass = Some object; interfaces = [] }

pub counted_is : (p : Declarations) (class : ℕ) (row : ClassRow) →
    counted p class row ≡ (if has_good_header p class row then row else under_object row)
unfolding counted_row is_good_header
counted_is p class row = grind (arith, common_steps)

pub kept : {A : Type 0} (f : ClassRow → A) (row : ClassRow) (t : Bool) → f (under_object row) ≡ f row →
    f (if t then row else under_object row) ≡ f row
kept f row true h = refl
kept f row false h = h

-- what is read of a row that is so on both sides, of a row as it counts or of the row as it is written
pub keeps : {A : Type 0} (f : ClassRow → A) → ((row : ClassRow) → f (under_object row) ≡ f row) → (p : Declarations)
    (class : ℕ) (row : ClassRow) → f (counted p class row) ≡ f row
keeps f same p class row = ap f (counted_is p class row) ∙ kept f row (has_good_header p class row) (same row)

pub as_written : {A : Type 0} (f : Option ClassRow → A) →
    ((row : ClassRow) → f (Some (under_object row)) ≡ f (Some row)) → (forest : Forest) (class : ℕ)
    → f (slice_get (declarations_of forest).classes class) ≡ f (slice_get (declarations_of forest).written class)
as_written f same forest class =
    let kept = keeps (λ (r : ClassRow). f (Some r)) same (declarations_of forest) class in
    grind (arith, common_steps, class_get forest class, kept)

-- what a class has as it counts is what it has as it is written, or under Object
as_it_counts : {A : Type 0} (f : Option ClassRow → A) (bad : A) → ((row : ClassRow) → f (Some (under_object row)) ≡ bad)
    → (forest : Forest) (class : ℕ) → f (slice_get (declarations_of forest).classes class)
    ≡ cond (is_under_object (declarations_of forest) class) bad (f (slice_get (declarations_of forest).written class))
unfolding class_written is_good_header
as_it_counts f bad under forest class =
    grind (arith, common_steps, class_get forest class, counted_is (declarations_of forest) class, under)

module _ (forest : Forest) (class : ℕ) where
  abbrev p : Declarations
  p = declarations_of forest

  pub superclass_counts : superclass_in p.classes class
      ≡ cond (is_under_object p class) (Some object) (superclass_in p.written class)
  superclass_counts = as_it_counts (option_and_then (λ (row : ClassRow). row.superclass)) (Some object) (λ row. refl)
      forest class

  pub interfaces_count : interfaces_in p.classes class ≡ cond (is_under_object p class) [] (interfaces_in p.written class)
  interfaces_count =
      as_it_counts (λ (o : Option ClassRow). elim o as (λ _. List ℕ) [ None ↦ [] | Some row ↦ row.interfaces ]) []
      (λ row. refl) forest class

  pub kind_is : option_map (λ (row : ClassRow). row.kind) (slice_get p.written class) ≡ option_map
      (λ (row : ClassRow). row.kind) (slice_get p.classes class)
  kind_is = sym (as_written (option_map (λ (row : ClassRow). row.kind)) (λ row. refl) forest class)

-- the marks tell which classes count under Object
pub marked_at : (forest : Forest) (marks : List Bool) (class : ℕ) → AreUnderObject forest marks →
    slice_index_or marks class false ≡ is_under_object (declarations_of forest) class
unfolding class_written is_good_header
marked_at forest marks class e = ap (λ (ms : List Bool). slice_index_or ms class false) e
    ∙ listed-at false (is_under_object (declarations_of forest)) (length (declarations_of forest).written) class
    ∙ grind (arith, common_steps, nat_tests, slice_get_past (declarations_of forest).written class)

-- What is broken at a class as it is written, and what is noted in the whole.
use Rattle.std.proofs.Common.{◌≡◌, ◌↔◌, ⊎_elim, filter_map, ℕ, ◌<◌, ◌≤◌, List, ◌++◌, slice_get, Option, Some, None, refl, sym, ap, ◌∙◌, append_assoc, append-nil, option_and_then}
use Rattle.std.specs.List.{Contains}
use Rattle.std.specs.List.Sorted.{IsStrictlySortedBy}
use Rattle.std.proofs.lemmas.Bool.{cases_lt}
use Rattle.scj_base.specs.declared.findings.Found.{Found}
use Rattle.scj_tree.specs.Forest.{Forest}
use Rattle.scj_rules.specs.Words.{found_at}
use Rattle.scj_rules.specs.Views.{WrittenClass, field_at, method_at}
use Rattle.scj_rules.specs.Classes.{ClassRow, first_user_class, user_row}
use Rattle.scj_rules.specs.ClassRules.{c4, c6, c7, c8, class_breaks}
use Rattle.scj_rules.specs.Contexts.{Declarations, declarations_of}
use Rattle.scj_rules.specs.Phases.{at_class, over_classes, class_phase, BreaksClassRules}
use Rattle.scj_rules.specs.Report.{IsReport, report_order}
use Rattle.class_rows.specs.Tables.{class_written}
use Rattle.class_rows.proofs.RowLemmas.{as_written}
use Rattle.class_rows.proofs.SoundLemmas.{IsSound, members_of, row_sound, other_methods}
use Rattle.class_rules.specs.Parts.{class_found, own_row}
use Rattle.node_rules.specs.Findings.{FindSame}
use Rattle.node_rules.specs.Nodes.{nodes_broken}
use Rattle.node_rules.proofs.FindingLemmas.{same_lists, same_then, both_same}
use Rattle.class_table.specs.Noted.{broken_at_class}

pub at_written : (forest : Forest) (class : ℕ) →
    broken_at_class forest class ≡ found_at (class_written (declarations_of forest) class)
    (λ (c : WrittenClass). class_found (declarations_of forest) class (own_row (declarations_of forest) c) c)
unfolding at_class class_written class_breaks c4 c6 c7 user_row declarations_of
at_written forest class =
    as_written (λ (o : Option ClassRow). found_at o (λ (row : ClassRow).
    found_at row.written (class_found p class row))) (λ row. refl) forest class ∙ go (slice_get p.written class) refl
  where
    p : Declarations
    p = declarations_of forest

    by_row : (row : ClassRow) (w : Option WrittenClass) → row.written ≡ w → IsSound forest.nodes class row →
        found_at w (class_found p class row) ≡ found_at w (λ (c : WrittenClass). class_found p class (own_row p c) c)
    by_row row None s sound = refl
    by_row row (Some c) s sound =
        let user : first_user_class ≤ class =
        ⊎_elim (λ (l : class < first_user_class).
        absurd (let e : None ≡ Some c = sym (sound.framework l) ∙ s in cc (e)))
        (λ (l : first_user_class ≤ class). l) (cases_lt class first_user_class) in
        let fields : row.fields ≡ filter_map (field_at forest.nodes) c.members =
        sound.fields ∙ ap (λ o. filter_map (field_at forest.nodes) (members_of o)) s in
        let methods : row.methods ≡ filter_map (method_at forest.nodes) c.members =
        sound.methods ∙ sym (other_methods forest.nodes class row.written user)
        ∙ ap (λ o. filter_map (method_at forest.nodes) (members_of o)) s in
        rw (fields, methods) refl

    go : (o : Option ClassRow) → slice_get p.written class ≡ o
        → found_at o (λ (row : ClassRow). found_at row.written (class_found p class row))
        ≡ found_at (option_and_then (λ (row : ClassRow). row.written) o)
        (λ (c : WrittenClass). class_found p class (own_row p c) c)
    go None e = refl
    go (Some row) e = by_row row row.written refl (row_sound forest class row e)

pub at_other : (forest : Forest) (class : ℕ) (found : List Found) → None ≡ class_written (declarations_of forest) class
    → found ≡ found ++ broken_at_class forest class
at_other forest class found e =
    sym (ap (λ xs. found ++ xs) (at_written forest class ∙ rw (← e) refl) ∙ append-nil found)

-- what is noted is what is broken
pub is_report : (forest : Forest) (first classes found sorted : List Found) → first ≡ c8 (declarations_of forest) →
    FindSame classes (first ++ over_classes (declarations_of forest) (class_found (declarations_of forest))) →
    FindSame found (classes ++ nodes_broken (declarations_of forest)) → IsStrictlySortedBy report_order sorted →
    ((f : Found) → Contains sorted f ↔ Contains found f) → IsReport (BreaksClassRules forest) sorted
unfolding class_phase
is_report forest first classes found sorted a b h o same =
    let p = declarations_of forest in
    let whole : FindSame sorted (class_phase p) =
    same_then (record { exact = same })
    (same_then h
    (same_then (both_same b (same_lists refl))
    (same_lists
    (ap (λ xs. (xs ++ over_classes p (class_found p)) ++ nodes_broken p) a
    ∙ append_assoc (c8 p) (over_classes p (class_found p)) (nodes_broken p))))) in
    record { in_order = o; exact = whole.exact }

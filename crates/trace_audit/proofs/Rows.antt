-- Small traces audited: those of a mission that a release ends and of a ceiling that keeps another release waiting, with
-- a line less and a line more; misses of fires that are counted from the origin; and texts that are no trace.
use Rattle.std.proofs.Common.{◌≡◌, ◌++◌, ℕ, List, [], ◌∷◌, refl, codes}
use Rattle.scj_base.specs.Lexeme.{is_digit, is_letter, is_name, is_name_byte, is_text_byte}
use Rattle.scj_base.specs.Vocabulary.{words}
use Rattle.scj_base.specs.RunFault.{text_of}
use Rattle.scj_model.specs.declared.plans.Fire.{Fire}
use Rattle.scj_model.specs.declared.plans.FireFrom.TheVariants.{Start, Mission}
use Rattle.scj_model.specs.Arrivals.{comes_at, comes_in}
use Rattle.scj_model.specs.Choice.{most_urgent}
use Rattle.scj_model.specs.Plan.{Plan}
use Rattle.trace_audit.specs.declared.answers.Audit.TheVariants.{Yes, No}
use Rattle.trace_audit.specs.Parts.{number_of, parted, parted_at_last, with_digits}
use Rattle.trace_audit.specs.Lines.{line_of, long_entry_of, release_entry_of, short_entry_of}
use Rattle.trace_audit.specs.Replay.{candidates_from, picked_index}
use Rattle.trace_audit.specs.Passing.{entry_passes, replayed, rest_done, table_done}
use Rattle.trace_audit.specs.Audits.{audit_from, audit_of, lines_of}

abbrev fire : ℕ → Fire
fire unit = record { at = unit; handler = codes "H"; from = Start }

abbrev plan : ℕ → List Fire → Plan
plan units fires = record { units = units; store = 704; fires = fires; readings = [] }

abbrev begin_of_termination : List ℕ
begin_of_termination =
    codes "30 mission Main\n42 register 1 H 7\n43 exec\n44 idle\n50 arrive 1 1\n50 run 1 1\n53 arrive 1 2\n53 terminate\n"

abbrev end_of_termination : List ℕ
end_of_termination = codes "54 miss H\n55 print x 1\n56 end 1 1\n56 cleanup\n66 done\n"

abbrev fires : List Fire
fires = fire 50 ∷ fire 53 ∷ fire 54 ∷ []

termination : audit_of (plan 100 fires) (begin_of_termination ++ codes "53 drop 1 2\n" ++ end_of_termination) ≡ Yes
unfolding audit_of audit_from comes_at comes_in lines_of line_of number_of with_digits parted parted_at_last short_entry_of long_entry_of release_entry_of entry_passes replayed table_done rest_done picked_index candidates_from most_urgent is_name is_letter is_name_byte is_digit is_text_byte text_of words
termination = refl

without_drop : audit_of (plan 100 fires) (begin_of_termination ++ end_of_termination) ≡ No 12
unfolding audit_of audit_from comes_at comes_in lines_of line_of number_of with_digits parted parted_at_last short_entry_of long_entry_of release_entry_of entry_passes replayed table_done rest_done picked_index candidates_from most_urgent is_name is_letter is_name_byte is_digit is_text_byte text_of words
without_drop = refl

-- the fire that is missed is counted from the origin, which is 44
abbrev fires_of_a_mission : ℕ → List Fire
fires_of_a_mission unit =
    fire 50 ∷ fire 53 ∷ record { at = unit; handler = codes "H"; from = Mission } ∷ []

miss_of_a_mission : audit_of (plan 100 (fires_of_a_mission 10)) (begin_of_termination ++ codes "53 drop 1 2\n" ++ end_of_termination) ≡ Yes
unfolding audit_of audit_from comes_at comes_in lines_of line_of number_of with_digits parted parted_at_last short_entry_of long_entry_of release_entry_of entry_passes replayed table_done rest_done picked_index candidates_from most_urgent is_name is_letter is_name_byte is_digit is_text_byte text_of words
miss_of_a_mission = refl

miss_from_the_unit_of_exec : audit_of (plan 100 (fires_of_a_mission 11)) (begin_of_termination ++ codes "53 drop 1 2\n" ++ end_of_termination) ≡ No 10
unfolding audit_of audit_from comes_at comes_in lines_of line_of number_of with_digits parted parted_at_last short_entry_of long_entry_of release_entry_of entry_passes replayed table_done rest_done picked_index candidates_from most_urgent is_name is_letter is_name_byte is_digit is_text_byte text_of words
miss_from_the_unit_of_exec = refl

miss_of_no_mission : audit_of (plan 100 (fires_of_a_mission 54)) (codes "54 miss H\n") ≡ No 1
unfolding audit_of audit_from comes_at comes_in lines_of line_of number_of with_digits parted parted_at_last short_entry_of long_entry_of release_entry_of entry_passes replayed table_done rest_done picked_index candidates_from most_urgent is_name is_letter is_name_byte is_digit is_text_byte text_of words
miss_of_no_mission = refl

abbrev begin_of_ceiling : List ℕ
begin_of_ceiling =
    codes "30 mission Main\n58 register 1 W 5\n78 register 2 W 9\n79 exec\n80 arrive 1 1\n80 run 1 1\n85 prio 1 9\n"
    ++ codes "88 arrive 2 1\n"

abbrev end_of_ceiling : List ℕ
end_of_ceiling =
    codes "94 print n 5\n95 prio 1 5\n96 run 2 1\n110 print n 14\n112 end 2 1\n113 run 1 1\n113 end 1 1\n114 idle\n"
    ++ codes "150 stopped\n"

ceiling : audit_of (plan 150 []) (begin_of_ceiling ++ end_of_ceiling) ≡ Yes
unfolding audit_of audit_from comes_at comes_in lines_of line_of number_of with_digits parted parted_at_last short_entry_of long_entry_of release_entry_of entry_passes replayed table_done rest_done picked_index candidates_from most_urgent is_name is_letter is_name_byte is_digit is_text_byte text_of words
ceiling = refl

with_run : audit_of (plan 150 []) (begin_of_ceiling ++ codes "88 run 2 1\n" ++ end_of_ceiling) ≡ No 9
unfolding audit_of audit_from comes_at comes_in lines_of line_of number_of with_digits parted parted_at_last short_entry_of long_entry_of release_entry_of entry_passes replayed table_done rest_done picked_index candidates_from most_urgent is_name is_letter is_name_byte is_digit is_text_byte text_of words
with_run = refl

empty_text : audit_of (plan 150 []) [] ≡ No 1
unfolding audit_of audit_from lines_of
empty_text = refl

fault_line : audit_of (plan 9 []) (codes "7 fault NullPointer a b:c.java:12\n7 halted\n") ≡ Yes
unfolding audit_of audit_from comes_at comes_in lines_of line_of number_of with_digits parted parted_at_last short_entry_of long_entry_of release_entry_of entry_passes replayed table_done rest_done picked_index candidates_from most_urgent is_name is_letter is_name_byte is_digit is_text_byte text_of words
fault_line = refl

behind_the_end : audit_of (plan 9 []) (codes "7 halted\n7 halted\n") ≡ No 2
unfolding audit_of audit_from comes_at comes_in lines_of line_of number_of with_digits parted parted_at_last short_entry_of long_entry_of release_entry_of entry_passes replayed table_done rest_done picked_index candidates_from most_urgent is_name is_letter is_name_byte is_digit is_text_byte text_of words
behind_the_end = refl

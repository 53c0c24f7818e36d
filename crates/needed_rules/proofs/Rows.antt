-- Each row is a program that breaks one rule alone, and what its run comes to.
use Rattle.std.proofs.Common.{ℕ, refl}
use Rattle.scj_base.specs.declared.positions.Position.{Position}
use Rattle.scj_base.specs.declared.findings.Rule.TheVariants.{E1, E2, E3, E4, E5, E6, E7, E8, E10}
use Rattle.scj_rules.proofs.Computing.{computing}
use Rattle.scj_model.proofs.Computing.{computing_machine}
use Rattle.scj_model.specs.Safety.{live, references_of_frame, reference_in, started_activities}
use Rattle.needed_rules.specs.Needed.{BreaksOnly, IsNeeded}
use Rattle.needed_rules.proofs.Texts.{e1_new_text, e2_call_text, e3_argument_text, e4_assign_text, e5_store_text, e6_return_text, e7_enter_text, e8_execute_text, e10_array_text}
use Rattle.needed_rules.proofs.TextsRead.{e1_new_reads, e2_call_reads, e3_argument_reads, e4_assign_reads, e5_store_reads, e6_return_reads, e7_enter_reads, e8_execute_reads, e10_array_reads}
use Rattle.needed_rules.proofs.Unsafe.{Dangles, IsStuck, dangles, is_stuck}
use Rattle.needed_rules.proofs.ProgramE1New.{e1_new}
use Rattle.needed_rules.proofs.ProgramE2Call.{e2_call}
use Rattle.needed_rules.proofs.ProgramE3Argument.{e3_argument}
use Rattle.needed_rules.proofs.ProgramE4Assign.{e4_assign}
use Rattle.needed_rules.proofs.ProgramE5Store.{e5_store}
use Rattle.needed_rules.proofs.ProgramE6Return.{e6_return}
use Rattle.needed_rules.proofs.ProgramE7Enter.{e7_enter}
use Rattle.needed_rules.proofs.ProgramE8Execute.{e8_execute}
use Rattle.needed_rules.proofs.ProgramE10Array.{e10_array}

abbrev at : ℕ → ℕ → Position
at line col = record { file = 0; line = line; col = col }

e1_new_breaks : BreaksOnly e1_new E1 (at 12 42)
unfolding computing
e1_new_breaks = record { classes = refl; types = refl; scopes = refl; uses = refl }

e1_new_dangles : Dangles e1_new 28
unfolding computing_machine live references_of_frame reference_in started_activities
e1_new_dangles = record { index = 0; r = 3; is_live = refl; is_gone = refl }

pub e1_new_is_needed : IsNeeded E1
e1_new_is_needed =
    record {
      text = e1_new_text;
      program = e1_new;
      reads = e1_new_reads;
      position = at 12 42;
      breaks = e1_new_breaks;
      is_unsafe = dangles e1_new 28 e1_new_dangles;
    }

e2_call_breaks : BreaksOnly e2_call E2 (at 12 30)
unfolding computing
e2_call_breaks = record { classes = refl; types = refl; scopes = refl; uses = refl }

e2_call_dangles : Dangles e2_call 31
unfolding computing_machine live references_of_frame reference_in started_activities
e2_call_dangles = record { index = 0; r = 3; is_live = refl; is_gone = refl }

pub e2_call_is_needed : IsNeeded E2
e2_call_is_needed =
    record {
      text = e2_call_text;
      program = e2_call;
      reads = e2_call_reads;
      position = at 12 30;
      breaks = e2_call_breaks;
      is_unsafe = dangles e2_call 31 e2_call_dangles;
    }

e3_argument_breaks : BreaksOnly e3_argument E3 (at 12 40)
unfolding computing
e3_argument_breaks = record { classes = refl; types = refl; scopes = refl; uses = refl }

e3_argument_dangles : Dangles e3_argument 31
unfolding computing_machine live references_of_frame reference_in started_activities
e3_argument_dangles = record { index = 0; r = 3; is_live = refl; is_gone = refl }

pub e3_argument_is_needed : IsNeeded E3
e3_argument_is_needed =
    record {
      text = e3_argument_text;
      program = e3_argument;
      reads = e3_argument_reads;
      position = at 12 40;
      breaks = e3_argument_breaks;
      is_unsafe = dangles e3_argument 31 e3_argument_dangles;
    }

e4_assign_breaks : BreaksOnly e4_assign E4 (at 12 56)
unfolding computing
e4_assign_breaks = record { classes = refl; types = refl; scopes = refl; uses = refl }

e4_assign_dangles : Dangles e4_assign 30
unfolding computing_machine live references_of_frame reference_in started_activities
e4_assign_dangles = record { index = 0; r = 3; is_live = refl; is_gone = refl }

pub e4_assign_is_needed : IsNeeded E4
e4_assign_is_needed =
    record {
      text = e4_assign_text;
      program = e4_assign;
      reads = e4_assign_reads;
      position = at 12 56;
      breaks = e4_assign_breaks;
      is_unsafe = dangles e4_assign 30 e4_assign_dangles;
    }

e5_store_breaks : BreaksOnly e5_store E5 (at 12 40)
unfolding computing
e5_store_breaks = record { classes = refl; types = refl; scopes = refl; uses = refl }

e5_store_dangles : Dangles e5_store 28
unfolding computing_machine live references_of_frame reference_in started_activities
e5_store_dangles = record { index = 0; r = 3; is_live = refl; is_gone = refl }

pub e5_store_is_needed : IsNeeded E5
e5_store_is_needed =
    record {
      text = e5_store_text;
      program = e5_store;
      reads = e5_store_reads;
      position = at 12 40;
      breaks = e5_store_breaks;
      is_unsafe = dangles e5_store 28 e5_store_dangles;
    }

e6_return_breaks : BreaksOnly e6_return E6 (at 13 49)
unfolding computing
e6_return_breaks = record { classes = refl; types = refl; scopes = refl; uses = refl }

e6_return_dangles : Dangles e6_return 31
unfolding computing_machine live references_of_frame reference_in started_activities
e6_return_dangles = record { index = 0; r = 3; is_live = refl; is_gone = refl }

pub e6_return_is_needed : IsNeeded E6
e6_return_is_needed =
    record {
      text = e6_return_text;
      program = e6_return;
      reads = e6_return_reads;
      position = at 13 49;
      breaks = e6_return_breaks;
      is_unsafe = dangles e6_return 31 e6_return_dangles;
    }

e7_enter_breaks : BreaksOnly e7_enter E7 (at 12 44)
unfolding computing
e7_enter_breaks = record { classes = refl; types = refl; scopes = refl; uses = refl }

e7_enter_is_stuck : IsStuck e7_enter 26
unfolding computing_machine
e7_enter_is_stuck = record { is = refl }

pub e7_enter_is_needed : IsNeeded E7
e7_enter_is_needed =
    record {
      text = e7_enter_text;
      program = e7_enter;
      reads = e7_enter_reads;
      position = at 12 44;
      breaks = e7_enter_breaks;
      is_unsafe = is_stuck e7_enter 26 e7_enter_is_stuck;
    }

e8_execute_breaks : BreaksOnly e8_execute E8 (at 12 44)
unfolding computing
e8_execute_breaks = record { classes = refl; types = refl; scopes = refl; uses = refl }

e8_execute_dangles : Dangles e8_execute 45
unfolding computing_machine live references_of_frame reference_in started_activities
e8_execute_dangles = record { index = 2; r = 4; is_live = refl; is_gone = refl }

pub e8_execute_is_needed : IsNeeded E8
e8_execute_is_needed =
    record {
      text = e8_execute_text;
      program = e8_execute;
      reads = e8_execute_reads;
      position = at 12 44;
      breaks = e8_execute_breaks;
      is_unsafe = dangles e8_execute 45 e8_execute_dangles;
    }

e10_array_breaks : BreaksOnly e10_array E10 (at 12 36)
unfolding computing
e10_array_breaks = record { classes = refl; types = refl; scopes = refl; uses = refl }

e10_array_dangles : Dangles e10_array 47
unfolding computing_machine live references_of_frame reference_in started_activities
e10_array_dangles = record { index = 5; r = 5; is_live = refl; is_gone = refl }

pub e10_array_is_needed : IsNeeded E10
e10_array_is_needed =
    record {
      text = e10_array_text;
      program = e10_array;
      reads = e10_array_reads;
      position = at 12 36;
      breaks = e10_array_breaks;
      is_unsafe = dangles e10_array 47 e10_array_dangles;
    }

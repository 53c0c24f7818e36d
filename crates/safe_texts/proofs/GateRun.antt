-- A run of the program with the shared object: after 90 units a release holds the object, and another one waits.
use Rattle.std.specs.Prelude.{ℕ, List, [], ◌∷◌}
use Rattle.std.proofs.Common.{refl}
use Rattle.scj_model.specs.Code.{code_of}
use Rattle.scj_model.specs.Plan.{Plan}
use Rattle.scj_model.specs.State.{ReleaseAt, State}
use Rattle.scj_model.specs.Choice.{by_list, by_priority}
use Rattle.scj_model.specs.Reached.{Between, Reached}
use Rattle.scj_model.specs.Run.{run}
use Rattle.scj_model.proofs.AcceptedPrograms.{ceiling_accepted}
use Rattle.scj_model.proofs.Computing.{computing_machine}
use Rattle.scj_model.proofs.Following.{by_some_list, fair_listed, priority_is_fair}
use Rattle.scj_model.proofs.Printed.{with_store}
use Rattle.scj_model.proofs.ProgramCeiling.{ceiling}
use Rattle.scj_model.proofs.Reaching.{reached_run}
use Rattle.scope_sound.proofs.Halves.{reached_framed, reached_placed}
use Rattle.safe_texts.specs.Instances.{ComesIntoMonitor}
use Rattle.safe_texts.specs.SharedGate.{base_text, gate_text}
use Rattle.safe_texts.proofs.GateRead.{gate_is_accepted, gate_reads}

abbrev plan : Plan
plan = with_store 150 704

abbrev state : State
state = (run (code_of ceiling) plan by_priority 90).state

listed : (choices : List ℕ) × Reached (code_of ceiling) plan (by_list choices) Between state
listed =
    by_some_list (code_of ceiling) plan Between state
    (fair_listed (code_of ceiling) plan by_priority priority_is_fair (reached_run (code_of ceiling) plan by_priority 90))

pub gate_run : ComesIntoMonitor (base_text ∷ gate_text ∷ []) 9
unfolding computing_machine
gate_run =
    record {
      program = ceiling;
      reads = gate_reads;
      breaks_none = ceiling_accepted;
      plan = plan;
      choices = listed.0;
      state = state;
      reached = listed.1;
      frames = refl;
      areas = refl;
      priority = refl;
      waits = refl;
      framed = reached_framed ceiling gate_is_accepted plan listed.0 Between state listed.1 (ReleaseAt 0);
      placed = reached_placed ceiling gate_is_accepted plan listed.0 Between state listed.1;
    }

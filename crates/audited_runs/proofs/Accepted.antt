-- The traces of accepted programs are answered with yes: their runs are never stuck, and their states fit.
use Rattle.std.proofs.Common.{◌≡◌, ℕ, false}
use Rattle.scj_tree.specs.Forest.{Forest}
use Rattle.accepted_laws.specs.Programs.{IsAcceptedProgram}
use Rattle.scj_model.specs.Code.{code_of}
use Rattle.scj_model.specs.Plan.{Plan}
use Rattle.scj_model.specs.Arrivals.{arrivals}
use Rattle.scj_model.specs.Choice.{by_priority}
use Rattle.scj_model.specs.Reached.{Between, Moment, Operated, Reached, on_arrival, on_operation}
use Rattle.scj_model.specs.Run.{run, trace}
use Rattle.scj_model.specs.State.{State, is_over}
use Rattle.scj_model.proofs.Reaching.{reached_run}
use Rattle.scj_model.proofs.Following.{by_some_list, fair_listed, priority_is_fair}
use Rattle.scj_model.proofs.ListedRuns.{safe_run}
use Rattle.scope_sound.specs.Sound.{Sound, SoundAt}
use Rattle.scope_sound.proofs.InAnyOrder.{reached_is_sound}
use Rattle.scope_sound.proofs.Operated.{operated}
use Rattle.scope_sound.proofs.Safe.{has_facts, safe}
use Rattle.trace_audit.specs.declared.answers.Audit.TheVariants.{Yes}
use Rattle.trace_audit.specs.Printed.{audit_reported}
use Rattle.trace_audit.specs.Replay.{nothing_reported}
use Rattle.audited_runs.proofs.OneUnit.{Fits}
use Rattle.audited_runs.proofs.Runs.{run_is_audited}

module _ (forest : Forest) (accepted : IsAcceptedProgram forest) (plan : Plan) where
  pub sound_at : (moment : Moment) (s : State) → Reached (code_of forest) plan by_priority moment s →
      SoundAt (code_of forest) moment s
  sound_at moment s reached =
      let l = by_some_list (code_of forest) plan moment s
      (fair_listed (code_of forest) plan by_priority priority_is_fair reached) in
      let facts = has_facts forest accepted in
      reached_is_sound (code_of forest) facts (operated (code_of forest) facts.bodies facts.sequencer) plan l.0 moment s
      l.1

  fits : (n : ℕ) → is_over (run (code_of forest) plan by_priority n).state.phase ≡ false →
      Fits (code_of forest) plan (run (code_of forest) plan by_priority n).state
  fits n lives =
      let s : State = (run (code_of forest) plan by_priority n).state in
      let reached : Reached (code_of forest) plan by_priority Between s = reached_run (code_of forest) plan by_priority n in
      let sound : Sound (code_of forest) s = sound_at Between s reached in
      record {
        before = sound.settled.invariant.sequencer.phase;
        after = λ op e.
            (sound_at Operated op.state
            (on_operation (arrivals (code_of forest) plan s).state op (on_arrival s reached lives) e)).after;
      }

  pub traces_are_audited : audit_reported plan nothing_reported 1 (trace (code_of forest) plan plan.units) ≡ Yes
  traces_are_audited =
      run_is_audited (code_of forest) plan fits
      (safe_run (code_of forest) plan (safe forest accepted).in_any_order)

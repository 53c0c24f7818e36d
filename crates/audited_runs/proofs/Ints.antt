-- The numbers of each state of a run of an accepted program have 32 bits, and so have those that it prints.
use Rattle.std.proofs.Common.{◌≡◌, ℕ, zero, suc, All, Bool, true, false, [], ◌∷◌, ◌++◌, Option, Some, None, if◌then◌else◌, refl, sym, subst}
use Rattle.std.proofs.lemmas.Bool.{or_parts}
use Rattle.std.proofs.lemmas.List.Elements.{All-append, All-cons, All-nil}
use Rattle.scj_tree.specs.Forest.{Forest}
use Rattle.scj_rules.specs.Contexts.{declarations_of}
use Rattle.accepted_laws.specs.Programs.{IsAcceptedProgram}
use Rattle.scj_model.specs.declared.events.Event.TheVariants as event
use Rattle.scj_model.specs.Arrivals.{arrivals}
use Rattle.scj_model.specs.Choice.{by_priority}
use Rattle.scj_model.specs.Code.{Code, code_of}
use Rattle.scj_model.specs.Plan.{Plan}
use Rattle.scj_model.specs.Reached.{Arrived, Between, Moment, Reached, at_first, on_arrival, on_operation, on_phase}
use Rattle.scj_model.specs.Run.{acts, continued, has_ended, next_unit, one_more_unit, one_unit, run, RunSoFar, trace}
use Rattle.scj_model.specs.State.{State, is_over}
use Rattle.scj_model.specs.Steps.{Step}
use Rattle.scj_model.proofs.Reaching.{reached_keeps, reached_run}
use Rattle.run_plan.specs.Limits.{KeepsLimits}
use Rattle.mission_sound.specs.Bases.{areas_of}
use Rattle.mission_sound.specs.Invariant.{Invariant}
use Rattle.scope_sound.proofs.Safe.{has_facts}
use Rattle.source_nodes.proofs.Reading.{numbers_are_ints}
use Rattle.int_values.specs.Ints.{HasInts, PrintsInt, StateFits, StepFits}
use Rattle.int_values.proofs.Changes.{alike}
use Rattle.int_values.proofs.Kept.{first_fits, operation_fits}
use Rattle.int_values.proofs.Phases.{arrivals_fit, phase_fits}
use Rattle.int_values.proofs.Steps.{GoodIf}
use Rattle.audited_runs.proofs.Accepted.{sound_at}
use Rattle.audited_runs.proofs.OneUnit.{UnitParts, unit_parts}

module _ (forest : Forest) (accepted : IsAcceptedProgram forest) (plan : Plan) (keeps : KeepsLimits plan) where
  abbrev code : Code
  code = code_of forest

  literals : HasInts code.program.nodes
  unfolding code_of declarations_of
  literals id node e =
      numbers_are_ints accepted.is_read.texts forest accepted.is_read.reads id node e

  -- ---- states

  op_fits : (s : State) → Reached code plan by_priority Arrived s → StateFits code.program s →
      GoodIf (StepFits code.program) (acts code plan.readings by_priority s)
  op_fits s reached h =
      let i : Invariant code s = (sound_at forest accepted plan Arrived s reached).0.settled.invariant in
      operation_fits code literals (has_facts forest accepted).bodies plan.readings keeps.readings.each s
      (areas_of i.base) i.memories.memory i.memories.jobs h by_priority

  record FitsAt (moment : Moment) (s : State) : Type 0 where
    reached : Reached code plan by_priority moment s
    fits : StateFits code.program s

  pub states_fit : (moment : Moment) (s : State) → Reached code plan by_priority moment s → StateFits code.program s
  states_fit moment s h =
      (reached_keeps code plan by_priority FitsAt
      (record { reached = at_first; fits = first_fits code literals plan keeps.store })
      (λ s g e. record {
        reached = on_arrival s g.reached e;
        fits = (arrivals_fit code.program code plan s g.fits).state;
      })
      (λ s step g e. record {
        reached = on_operation s step g.reached e;
        fits = ((op_fits s g.reached g.fits).is step e).state;
      })
      (λ s step g e. record {
        reached = on_phase s step g.reached e;
        fits = alike code.program step.state (next_unit step.state)
            ((phase_fits code.program code s g.fits).is step e).state refl refl refl refl refl refl;
      }) h).fits

  -- ---- events

  unit_fits : (s : State) (u : Step) → Reached code plan by_priority Between s → is_over s.phase ≡ false →
      one_unit code plan by_priority s ≡ Some u → All PrintsInt u.events
  unit_fits s u reached lives e =
      let parts : UnitParts code plan s u = unit_parts code plan s u e in
      let a : StepFits code.program (arrivals code plan s) =
      arrivals_fit code.program code plan s (states_fit Between s reached) in
      let op : StepFits code.program parts.op =
      (op_fits (arrivals code plan s).state (on_arrival s reached lives) a.state).is parts.op parts.is_op in
      subst (λ (x : Step). All PrintsInt x.events) (sym parts.is)
      (All-append PrintsInt ((arrivals code plan s).events ++ parts.op.events) parts.last.events
      (All-append PrintsInt (arrivals code plan s).events parts.op.events a.events op.events)
      ((phase_fits code.program code parts.op.state op.state).is parts.last parts.is_last).events)

  run_fits : (n : ℕ) → All PrintsInt (run code plan by_priority n).events
  unfolding run one_more_unit continued
  run_fits zero = All-nil PrintsInt
  run_fits (suc n) = by (has_ended so_far) refl (run_fits n)
    where
      so_far : RunSoFar
      so_far = run code plan by_priority n

      more : (o : Option Step) → one_unit code plan by_priority so_far.state ≡ o → has_ended so_far ≡ false →
          All PrintsInt so_far.events → All PrintsInt (continued so_far o).events
      more None e lives before = before
      more (Some u) e lives before =
          All-append PrintsInt so_far.events u.events before
          (unit_fits so_far.state u (reached_run code plan by_priority n)
          (or_parts (is_over so_far.state.phase) so_far.is_stuck lives).0 e)

      by : (b : Bool) → has_ended so_far ≡ b → All PrintsInt so_far.events →
          All PrintsInt (if b then so_far else continued so_far (one_unit code plan by_priority so_far.state)).events
      by true e before = before
      by false e before = more (one_unit code plan by_priority so_far.state) refl e before

  pub trace_fits : (n : ℕ) → All PrintsInt (trace code plan n)
  unfolding trace
  trace_fits n = by (has_ended (run code plan by_priority n))
    where
      by : (b : Bool) → All PrintsInt ((run code plan by_priority n).events ++ (if b then [] else event.Stopped n ∷ []))
      by true = All-append PrintsInt (run code plan by_priority n).events [] (run_fits n) (All-nil PrintsInt)
      by false =
          All-append PrintsInt (run code plan by_priority n).events (event.Stopped n ∷ []) (run_fits n)
          (All-cons PrintsInt (event.Stopped n) [] tt (All-nil PrintsInt))

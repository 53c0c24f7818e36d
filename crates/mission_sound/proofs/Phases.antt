-- What follows the operation of a unit has a result, and leads to a state with the invariant.
use Rattle.std.specs.Prelude.{Option, Some, None, ◌+◌, ◌&&◌, ◌||◌, not, if◌then◌else◌, option_map}
use Rattle.std.proofs.Common.{◌≡◌, ℕ, Bool, true, false, refl, sym, ◌∙◌, ap, subst, true≢false}
use Rattle.scj_base.specs.declared.values.Value.{Value}
use Rattle.scj_rules.specs.Words.{◌>>=◌}
use Rattle.scj_rules.specs.Classes.{is_empty}
use Rattle.scj_model.specs.declared.operations.SeqOp.{SeqOp}
use Rattle.scj_model.specs.declared.operations.SeqOp.TheVariants.{OpenImmortal, AllocSafelet, ConstructSafelet, InitializeApplication, GetSequencer, GetNextMission, OpenMission, Initialize, CleanUp, Execute, Finished}
use Rattle.scj_model.specs.declared.phases.Phase.TheVariants.{Cleanup}
use Rattle.scj_model.specs.Code.{Code}
use Rattle.scj_model.specs.State.{State, Turn, is_exec}
use Rattle.scj_model.specs.Steps.{silently}
use Rattle.scj_model.specs.Sequencer.{transition_done, seq_applied, goes_to, after_operation, after_execution, phase_after, has_started, EndsExecution}
use Rattle.frame_sound.specs.Places.{world_of}
use Rattle.mission_sound.specs.Bases.{BaseSuits}
use Rattle.mission_sound.specs.Invariant.{OperandThere, phase_of, Invariant, ValueSuits, AfterOperation, Follows}
use Rattle.mission_sound.proofs.Jobs.{memories_stay}
use Rattle.mission_sound.proofs.Carried.{operand_stays}
use Rattle.mission_sound.proofs.Resting.{Resting, goes, base_stays, takes_none}
use Rattle.mission_sound.proofs.Transitions.{transits}

-- the sequencer's operation in execution
pub executes : (operation : SeqOp) → is_exec (phase_of operation) ≡ true → operation ≡ Execute
unfolding is_exec phase_of
executes OpenImmortal e = absurd (true≢false (sym e))
executes AllocSafelet e = absurd (true≢false (sym e))
executes (ConstructSafelet r) e = absurd (true≢false (sym e))
executes (InitializeApplication r) e = absurd (true≢false (sym e))
executes (GetSequencer r) e = absurd (true≢false (sym e))
executes (GetNextMission r) e = absurd (true≢false (sym e))
executes (OpenMission r) e = absurd (true≢false (sym e))
executes (Initialize r) e = absurd (true≢false (sym e))
executes (CleanUp r) e = absurd (true≢false (sym e))
executes Execute e = refl
executes Finished e = absurd (true≢false (sym e))

-- ---- the invariant doesn't ask which unit it is, nor whose turn it was

pub time_passes : (code : Code) (s : State) (unit : ℕ) (last : Option Turn) → Invariant code s →
    Invariant code (record s { unit = unit; last_choice = last })
time_passes code s unit last i =
    record {
      base = i.base;
      memories = memories_stay s (record s { unit = unit; last_choice = last }) code i.base i.memories;
      sequencer = record {
        phase = i.sequencer.phase;
        base_suits = i.sequencer.base_suits;
        base_fine = base_stays code s (record s { unit = unit; last_choice = last }) i.base i.sequencer.base_fine;
        there = operand_stays s (record s { unit = unit; last_choice = last }) s.operation i.sequencer.there;
        safelet = i.sequencer.safelet;
        mission_sequencer = i.sequencer.mission_sequencer;
        mission = i.sequencer.mission;
        called = i.sequencer.called;
        frameless = i.sequencer.frameless;
      };
      handlers = record {
        rows = i.handlers.rows;
        handled = i.handlers.handled;
        none_started = i.handlers.none_started;
        none_waits = i.handlers.none_waits;
      };
    }

module _ (code : Code) (s : State) (a : AfterOperation code s) where
  nothing_follows : s.outcome ≡ None → Follows code (Some (silently s))
  nothing_follows none =
      record {
        step = _;
        is = refl;
        settled = record {
          invariant = time_passes code s (s.unit + 1) s.last_choice a.invariant;
          followed = none;
        };
      }

  -- ---- in execution

  module _ (e : is_exec s.phase ≡ true) where
    is_execute : s.operation ≡ Execute
    is_execute = executes s.operation (sym (ap is_exec a.invariant.sequencer.phase) ∙ e)

    no_outcome : s.outcome ≡ None
    no_outcome = go s.outcome refl
      where
        go : (o : Option Value) → s.outcome ≡ o → s.outcome ≡ None
        go None f = f
        go (Some value) f =
            absurd (subst (λ o. ValueSuits code.program (world_of s) o value) is_execute (a.done value f).suits)

    ended : s.is_end_asked ≡ true → has_started s ≡ false →
        Follows code
        (option_map (transition_done code s) (s.mission >>= (λ r. goes_to Cleanup (CleanUp r) EndsExecution)))
    unfolding seq_applied phase_of
    ended asked none =
        subst
        (λ (o : Option ℕ). Follows code
        (option_map (transition_done code s) (o >>= (λ r. goes_to Cleanup (CleanUp r) EndsExecution))))
        (sym there.0.1)
        (record {
          step = _;
          is = refl;
          settled = goes code s after i.base resting refl suits (base_stays code s after i.base i.sequencer.base_fine)
              (there.0.1, there.1) i.sequencer.safelet i.sequencer.mission_sequencer i.sequencer.mission;
        })
      where
        i : Invariant code s
        i = a.invariant

        there : OperandThere s Execute
        there = subst (OperandThere s) is_execute i.sequencer.there

        suits : BaseSuits Execute None i.base
        suits =
            subst (λ o. BaseSuits Execute o i.base) no_outcome
            (subst (λ o. BaseSuits o s.outcome i.base) is_execute i.sequencer.base_suits)

        after : State
        after = record s { phase = Cleanup; operation = CleanUp there.0.0; outcome = None; unit = s.unit + 1 }

        resting : Resting code s i.base
        resting =
            record {
              memories = i.memories;
              frameless = i.sequencer.frameless e;
              none_started = none;
              none_waits =
                  i.handlers.none_waits (ap (λ (b : Bool). is_exec s.phase && not b) asked
                  ∙ ap (λ (b : Bool). b && false) e);
              rows = i.handlers.rows;
            }

    execution : Follows code (after_execution code s)
    execution = go s.is_end_asked refl (has_started s) refl
      where
        go : (b : Bool) → s.is_end_asked ≡ b → (c : Bool) → has_started s ≡ c →
            Follows code (if b && not c
            then option_map (transition_done code s) (s.mission >>= (λ r. goes_to Cleanup (CleanUp r) EndsExecution))
            else Some (silently s))
        go true asked false none = ended asked none
        go true asked true some = nothing_follows no_outcome
        go false asked c some = nothing_follows no_outcome

  -- ---- outside execution

  operation_done : is_exec s.phase ≡ false → (value : Value) → s.outcome ≡ Some value →
      Follows code (after_operation code s value)
  operation_done e value is =
      transits code s i.base resting i.sequencer.base_fine i.sequencer.safelet i.sequencer.mission_sequencer
      i.sequencer.mission (is_empty s.registry || s.is_end_asked) s.operation value
      (subst (λ o. BaseSuits s.operation o i.base) is i.sequencer.base_suits) i.sequencer.there (a.done value is).suits
    where
      i : Invariant code s
      i = a.invariant

      resting : Resting code s i.base
      resting =
          record {
            memories = i.memories;
            frameless = (a.done value is).frameless;
            none_started = i.handlers.none_started e;
            none_waits = i.handlers.none_waits (takes_none s e);
            rows = i.handlers.rows;
          }

  pub phase_follows : Follows code (phase_after code s)
  unfolding phase_after
  phase_follows = go (is_exec s.phase) refl
    where
      outside : is_exec s.phase ≡ false → (o : Option Value) → s.outcome ≡ o →
          Follows code (elim o [ None ↦ Some (silently s) | Some value ↦ after_operation code s value ])
      outside e None is = nothing_follows is
      outside e (Some value) is = operation_done e value is

      go : (b : Bool) → is_exec s.phase ≡ b →
          Follows code (if b then after_execution code s
          else (elim s.outcome [ None ↦ Some (silently s) | Some value ↦ after_operation code s value ]))
      go true e = execution e
      go false e = outside e s.outcome refl

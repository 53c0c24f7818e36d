-- What follows an operation: what it tells, and what it leaves.
use Rattle.std.proofs.Common.{◌≡◌, ℕ, ◌<◌, Bool, true, false, not, ◌&&◌, ◌||◌, [], ◌∷◌, length, Option, Some, None, if◌then◌else◌, refl, sym, ap, ◌∙◌, subst}
use Rattle.std.specs.Prelude.{option_map}
use Rattle.scj_base.specs.declared.faults.RunFault.TheVariants.{NullPointer}
use Rattle.scj_base.specs.declared.values.Value.{Value}
use Rattle.scj_base.specs.declared.values.Value.TheVariants.{Int, Bool as Truth, Null, At}
use Rattle.scj_rules.specs.Classes.{is_empty}
use Rattle.scj_rules.specs.Words.{◌>>=◌}
use Rattle.scj_model.specs.declared.events.Event.TheVariants as event
use Rattle.scj_model.specs.declared.operations.SeqOp.{SeqOp}
use Rattle.scj_model.specs.declared.operations.SeqOp.TheVariants.{OpenImmortal, AllocSafelet, ConstructSafelet, InitializeApplication, GetSequencer, GetNextMission, OpenMission, Initialize, CleanUp, Execute, Finished}
use Rattle.scj_model.specs.declared.phases.Phase.TheVariants.{Boot, Next, Init, Exec, Cleanup, Over}
use Rattle.scj_model.specs.Code.{Code}
use Rattle.scj_model.specs.Plan.{Plan}
use Rattle.scj_model.specs.Apply.{takes_releases}
use Rattle.scj_model.specs.Arrivals.{executes_since}
use Rattle.scj_model.specs.Memory.{closed}
use Rattle.scj_model.specs.Sequencer.{BeginsExecution, BeginsMission, ClosesMission, EndsExecution, LacksSequencer, SkipsExecution, TakesMission, TakesSafelet, TakesSequencer, after_execution, after_operation, gone_to, goes_to, has_started, innermost, phase_after, position_of_object, seq_applied, transition, transition_done, without_innermost}
use Rattle.scj_model.specs.State.{State, is_exec, is_over}
use Rattle.scj_model.specs.Steps.{Step, fault_in, silently}
use Rattle.mission_sound.specs.Invariant.{has_waiting, phase_of}
use Rattle.trace_audit.specs.Passing.{is_in_order, misses_no_choice}
use Rattle.trace_audit.specs.Replay.{Replay}
use Rattle.std.proofs.lemmas.Bool.{and_parts}
use Rattle.audited_runs.proofs.InUnit.{Live}
use Rattle.accepted_laws.proofs.Tools.{some_inj}
use Rattle.audited_runs.proofs.Stands.{stands_same}
use Rattle.audited_runs.proofs.Executing.{Executes}
use Rattle.audited_runs.proofs.Following.{HaltReported, HoldsFor, Initializes, SeqReported, halt_reported, since_out}
use Rattle.audited_runs.proofs.Leaving.{exec_op, no_more, none_left, not_true}
use Rattle.audited_runs.proofs.Phasing.{cleanup_reported, done_reported, exec_reported, mission_reported, quiet_phase, skipped_reported}

-- after the operation of a unit
pub record Phases (plan : Plan) (t : State) (m : Replay) : Type 0 where
  pub order : is_in_order m t.unit ≡ true
  pub ready : misses_no_choice m t.unit ≡ true
  pub within : t.unit < plan.units
  pub holds : HoldsFor t m t.operation
  pub since : m.executes_since ≡ executes_since t
  pub over : m.is_over ≡ is_over t.phase
  pub fits : t.phase ≡ phase_of t.operation
  pub waits : takes_releases t ≡ false → has_waiting t ≡ false
  pub started : is_exec t.phase ≡ false → has_started t ≡ false

abbrev pub PhaseOf : Plan → State → Replay → Step → Type 0
PhaseOf plan t m step = SeqReported plan t.unit m step.state step.events

module _ (plan : Plan) (code : Code) (t : State) (m : Replay) (h : Phases plan t m) where
  lives : m.is_over ≡ false → Live plan t.unit m
  lives e = record { goes_on = e; in_order = h.order; ready = h.ready; within = h.within }

  of_step : (x step : Step) → PhaseOf plan t m x → Some x ≡ Some step → PhaseOf plan t m step
  of_step x step k e = subst (λ (y : Step). PhaseOf plan t m y) (some_inj x step e) k

  -- ---- in execution

  ended : (object : ℕ) → Executes t m → is_exec t.phase ≡ true → (t.is_end_asked && not (has_started t)) ≡ true →
      PhaseOf plan t m
      (transition_done code t (record { phase = Cleanup; operation = CleanUp object; effect = EndsExecution }))
  unfolding seq_applied executes_since is_exec is_over phase_of
  ended object e exec over =
      let parts = and_parts t.is_end_asked (not (has_started t)) over in
      let goes : m.is_over ≡ false =
      h.over ∙ ap is_over (h.fits ∙ ap phase_of (exec_op t.operation (ap is_exec (sym h.fits) ∙ exec))) in
      cleanup_reported plan t.unit m
      (gone_to t (record { phase = Cleanup; operation = CleanUp object; effect = EndsExecution })) object (lives goes)
      (none_left t m e (h.waits (no_more t parts.0)) (not_true (has_started t) parts.1)) refl refl refl

  executes : is_exec t.phase ≡ true → Executes t m
  executes exec =
      subst (λ (op : SeqOp). HoldsFor t m op) (exec_op t.operation (sym (ap is_exec h.fits) ∙ exec)) h.holds

  pub executed : (step : Step) → is_exec t.phase ≡ true → phase_after code t ≡ Some step → PhaseOf plan t m step
  unfolding phase_after
  executed step exec e =
      go (t.is_end_asked && not (has_started t)) refl
      (sym (ap (λ (b : Bool). if b then after_execution code t
      else (elim t.outcome as (λ z. Option Step) [
        | None ↦ Some (silently t)
        | Some value ↦ after_operation code t value
      ])) exec) ∙ e)
    where
      by : (o : Option ℕ) → (t.is_end_asked && not (has_started t)) ≡ true →
          option_map (transition_done code t) (o >>= (λ r. goes_to Cleanup (CleanUp r) EndsExecution)) ≡ Some step →
          PhaseOf plan t m step
      by None over f = absurd (cc (f))
      by (Some object) over f =
          of_step
          (transition_done code t (record { phase = Cleanup; operation = CleanUp object; effect = EndsExecution })) step
          (ended object (executes exec) exec over) f

      go : (b : Bool) → (t.is_end_asked && not (has_started t)) ≡ b →
          (if b
          then option_map (transition_done code t) (t.mission >>= (λ r. goes_to Cleanup (CleanUp r) EndsExecution))
          else Some (silently t)) ≡ Some step → PhaseOf plan t m step
      go true over f = by t.mission over f
      go false over f =
          of_step (silently t) step (quiet_phase plan t.unit m t h.holds h.since h.over) f

  -- the state in which execution is to begin
  initializes_gone : Initializes t m →
      Initializes (gone_to t (record { phase = Exec; operation = Execute; effect = BeginsExecution })) m
  initializes_gone k =
      record {
        stands = stands_same t
            (gone_to t (record { phase = Exec; operation = Execute; effect = BeginsExecution })) m.all refl refl refl
            k.stands;
        named = k.named;
        none = k.none;
      }

  -- ---- outside execution

  module _ (out : is_exec t.phase ≡ false) where
    none_since : m.executes_since ≡ None
    none_since = h.since ∙ since_out t out

    -- it goes on to another operation, and nothing is told
    goes_on : (u : State) → m.is_over ≡ false → executes_since u ≡ None → is_over u.phase ≡ false →
        HoldsFor u m u.operation → SeqReported plan t.unit m u []
    goes_on u goes since over holds =
        quiet_phase plan t.unit m u holds (none_since ∙ sym since) (goes ∙ sym over)

    closes : (object : ℕ) → m.is_over ≡ false →
        PhaseOf plan t m
        (transition_done code t (record { phase = Next; operation = GetNextMission object; effect = ClosesMission }))
    unfolding seq_applied executes_since is_exec is_over closed
    closes object goes = go (innermost t.activity.areas)
      where
        u : State
        u = gone_to t (record { phase = Next; operation = GetNextMission object; effect = ClosesMission })

        go : (o : Option ℕ) →
            SeqReported plan t.unit m
            (record (closed u o) {
              activity = record u.activity { areas = without_innermost u.activity.areas };
              registry = [];
              mission = None;
            }) []
        go None = goes_on (record u {
          activity = record u.activity { areas = without_innermost u.activity.areas };
          registry = [];
          mission = None;
        }) goes refl refl refl
        go (Some a) = goes_on (record (closed u (Some a)) {
          activity = record u.activity { areas = without_innermost u.activity.areas };
          registry = [];
          mission = None;
        }) goes refl refl refl

    -- the safelet has no sequencer
    halts : (object : ℕ) → m.is_over ≡ false →
        PhaseOf plan t m
        (transition_done code t (record { phase = Over; operation = Finished; effect = LacksSequencer object }))
    unfolding seq_applied fault_in executes_since is_exec is_over
    halts object goes =
        let k : HaltReported plan t.unit m (event.Fault t.unit NullPointer
        (position_of_object code (gone_to t (record {
          phase = Over;
          operation = Finished;
          effect = LacksSequencer object;
        })) object) ∷ event.Halted t.unit ∷ []) =
        halt_reported plan t.unit m _ NullPointer (lives goes) in
        record {
          after = k.after;
          is = k.is;
          kept = k.kept;
          holds = tt;
          since = k.since ∙ none_since;
          over = k.over;
        }

    by_value : (step : Step) (known : Option ℕ) (skips : Bool) (op : SeqOp) (value : Value) → t.operation ≡ op →
        HoldsFor t m op → m.is_over ≡ is_over (phase_of op) →
        option_map (transition_done code t) (transition known skips op value) ≡ Some step → PhaseOf plan t m step
    unfolding transition seq_applied phase_of executes_since is_exec is_over
    by_value step known skips OpenImmortal value op holds over e =
        of_step _ step (goes_on _ over refl refl holds) e
    by_value step known skips AllocSafelet (At r) op holds over e =
        of_step _ step (goes_on (record (gone_to t (record {
          phase = Boot;
          operation = ConstructSafelet r;
          effect = TakesSafelet r;
        })) { safelet = Some r }) over refl refl holds) e
    by_value step known skips AllocSafelet (Int z) op holds over e = absurd (cc (e))
    by_value step known skips AllocSafelet (Truth b) op holds over e = absurd (cc (e))
    by_value step known skips AllocSafelet Null op holds over e = absurd (cc (e))
    by_value step known skips (ConstructSafelet r) value op holds over e =
        of_step _ step (goes_on _ over refl refl holds) e
    by_value step known skips (InitializeApplication r) value op holds over e =
        of_step _ step (goes_on _ over refl refl holds) e
    by_value step known skips (GetSequencer r) (At q) op holds over e =
        of_step _ step (goes_on (record (gone_to t (record {
          phase = Next;
          operation = GetNextMission q;
          effect = TakesSequencer q;
        })) { mission_sequencer = Some q }) over refl refl holds) e
    by_value step known skips (GetSequencer r) (Int z) op holds over e = of_step _ step (halts r over) e
    by_value step known skips (GetSequencer r) (Truth b) op holds over e = of_step _ step (halts r over) e
    by_value step known skips (GetSequencer r) Null op holds over e = of_step _ step (halts r over) e
    by_value step known skips (GetNextMission r) (At q) op holds over e =
        of_step _ step (goes_on (record (gone_to t (record {
          phase = Next;
          operation = OpenMission q;
          effect = TakesMission q;
        })) { mission = Some q; is_end_asked = false; earlier_releases = length t.releases }) over refl refl
        (record { registry = holds; earlier = refl })) e
    by_value step known skips (GetNextMission r) (Int z) op holds over e =
        of_step _ step (done_reported plan t.unit m _ (lives over) none_since refl refl) e
    by_value step known skips (GetNextMission r) (Truth b) op holds over e =
        of_step _ step (done_reported plan t.unit m _ (lives over) none_since refl refl) e
    by_value step known skips (GetNextMission r) Null op holds over e =
        of_step _ step (done_reported plan t.unit m _ (lives over) none_since refl refl) e
    by_value step known skips (OpenMission r) value op holds over e =
        of_step _ step
        (mission_reported plan t.unit m (gone_to t (record {
          phase = Init;
          operation = Initialize r;
          effect = BeginsMission r;
        })) _ r (lives over) none_since refl refl
        (record { registry = holds.registry; earlier = holds.earlier })
        (h.waits (ap (λ b. b && not t.is_end_asked) out)) (h.started out)) e
    by_value step known true (Initialize r) value op holds over e =
        of_step _ step
        (skipped_reported plan t.unit m (gone_to t (record {
          phase = Cleanup;
          operation = CleanUp r;
          effect = SkipsExecution;
        })) r (lives over) holds.none refl refl refl) e
    by_value step known false (Initialize r) value op holds over e =
        of_step _ step
        (exec_reported plan m (gone_to t (record { phase = Exec; operation = Execute; effect = BeginsExecution }))
        (lives over) (initializes_gone holds) refl refl refl) e
    by_value step None skips (CleanUp r) value op holds over e = absurd (cc (e))
    by_value step (Some q) skips (CleanUp r) value op holds over e = of_step _ step (closes q over) e
    by_value step known skips Execute value op holds over e = absurd (cc (e))
    by_value step known skips Finished value op holds over e = absurd (cc (e))

    pub sequenced : (step : Step) → phase_after code t ≡ Some step → PhaseOf plan t m step
    unfolding phase_after
    sequenced step e =
        go t.outcome
        (sym (ap (λ (b : Bool). if b then after_execution code t
        else (elim t.outcome as (λ z. Option Step) [
          | None ↦ Some (silently t)
          | Some value ↦ after_operation code t value
        ])) out) ∙ e)
      where
        go : (o : Option Value) →
            elim o as (λ z. Option Step) [ None ↦ Some (silently t) | Some value ↦ after_operation code t value ]
            ≡ Some step → PhaseOf plan t m step
        go None f = of_step (silently t) step (quiet_phase plan t.unit m t h.holds h.since h.over) f
        go (Some value) f =
            by_value step t.mission_sequencer (is_empty t.registry || t.is_end_asked) t.operation value refl h.holds
            (h.over ∙ ap is_over h.fits) f

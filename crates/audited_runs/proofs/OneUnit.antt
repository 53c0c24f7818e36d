-- A unit of a run: the replay that follows the state before it follows the state after it, behind the lines of the unit.
use Rattle.std.proofs.Common.{◌≡◌, ◌+◌, ◌<◌, Bool, true, false, List, ◌++◌, ◌⊎◌, inl, inr, Option, Some, None, if◌then◌else◌, refl, sym, ap, ◌∙◌, subst}
use Rattle.std.specs.Prelude.{is_some}
use Rattle.std.proofs.lemmas.Bool.{cases_Bool}
use Rattle.scj_rules.specs.Words.{◌>>=◌}
use Rattle.scj_model.specs.declared.events.Event.{Event}
use Rattle.scj_model.specs.declared.operations.SeqOp.{SeqOp}
use Rattle.scj_model.specs.declared.operations.SeqOp.TheVariants.{OpenImmortal, AllocSafelet, ConstructSafelet, InitializeApplication, GetSequencer, GetNextMission, OpenMission, Initialize, CleanUp, Execute, Finished}
use Rattle.scj_model.specs.declared.phases.Phase.{Phase}
use Rattle.scj_model.specs.declared.phases.Phase.TheVariants.{Boot, Next, Init, Exec, Cleanup, Over}
use Rattle.scj_model.specs.Code.{Code}
use Rattle.scj_model.specs.Plan.{Plan}
use Rattle.scj_model.specs.Arrivals.{arrivals, executes_since}
use Rattle.scj_model.specs.Choice.{by_priority}
use Rattle.scj_model.specs.Run.{acts, next_unit, one_unit}
use Rattle.scj_model.specs.Sequencer.{phase_after}
use Rattle.scj_model.specs.State.{State, is_exec, is_over}
use Rattle.scj_model.specs.Steps.{Step, reporting, then_try}
use Rattle.scj_model.proofs.Units.{acts_keep_unit, arrivals_keep_unit, phase_keeps_unit}
use Rattle.mission_sound.specs.Invariant.{AfterOperation, phase_of}
use Rattle.release_turns.proofs.OtherReleases.{arrives}
use Rattle.trace_audit.specs.Passing.{is_first, is_in_order, misses_no_choice}
use Rattle.trace_audit.specs.Replay.{Replay, differs, is_executing}
use Rattle.audited_runs.proofs.Reported.{reported, reported_then}
use Rattle.audited_runs.proofs.InUnit.{Kept, Live, kept_order, kept_ready, kept_then, live_kept}
use Rattle.accepted_laws.proofs.Tools.{some_inj}
use Rattle.audited_runs.proofs.Stands.{stands_same}
use Rattle.audited_runs.proofs.Executing.{Executes, beside_same}
use Rattle.audited_runs.proofs.Arrivals.{ArrivesReported, Quiet, arrivals_quiet, arrivals_reported}
use Rattle.audited_runs.proofs.Turning.{HasChoice, has_kept}
use Rattle.audited_runs.proofs.Turned.{Tried, TurnReported, executed_reported, tried}
use Rattle.audited_runs.proofs.Following.{Follows, HoldsFor, SeqReported, Sequences, holds_beside}
use Rattle.audited_runs.proofs.Sequenced.{sequenced_reported}
use Rattle.audited_runs.proofs.Phased.{Phases, executed, sequenced}
use Rattle.audited_runs.proofs.Leaving.{exec_op}
use Rattle.audited_runs.proofs.Owing.{first_in_order, next_is_first, next_is_ready, owed_is_reported}

-- ---- a unit in its parts

record Bound (o : Option Step) (f : Step → Option Step) (r : Step) : Type 0 where
  value : Step
  is_value : o ≡ Some value
  is_next : f value ≡ Some r

bound : (o : Option Step) (f : Step → Option Step) (r : Step) → (o >>= f) ≡ Some r → Bound o f r
bound None f r e = absurd (cc (e))
bound (Some a) f r e = record { value = a; is_value = refl; is_next = e }

pub record UnitParts (code : Code) (plan : Plan) (s : State) (r : Step) : Type 0 where
  pub op : Step
  pub is_op : acts code plan.readings by_priority (arrivals code plan s).state ≡ Some op
  pub last : Step
  pub is_last : phase_after code op.state ≡ Some last
  pub is : r ≡ reporting (next_unit last.state) (((arrivals code plan s).events ++ op.events) ++ last.events)

pub unit_parts : (code : Code) (plan : Plan) (s : State) (r : Step) → one_unit code plan by_priority s ≡ Some r →
    UnitParts code plan s r
unfolding one_unit
unit_parts code plan s r e =
    let outer = bound (then_try (arrivals code plan s) (acts code plan.readings by_priority)
    >>= (λ result. then_try result (phase_after code)))
    (λ (result : Step). Some (reporting (next_unit result.state) result.events)) r e in
    let inner = bound (then_try (arrivals code plan s) (acts code plan.readings by_priority))
    (λ (result : Step). then_try result (phase_after code)) outer.value outer.is_value in
    let first = tried (arrivals code plan s) (acts code plan.readings by_priority) inner.value inner.is_value in
    let rest : Tried inner.value (phase_after code) outer.value =
    tried inner.value (phase_after code) outer.value inner.is_next in
    let state_same : inner.value.state ≡ first.second.state = ap (λ (x : Step). x.state) first.is in
    let events_same : inner.value.events ≡ (arrivals code plan s).events ++ first.second.events =
    ap (λ (x : Step). x.events) first.is in
    record {
      op = first.second;
      is_op = first.is_next;
      last = rest.second;
      is_last = ap (phase_after code) (sym state_same) ∙ rest.is_next;
      is = sym (some_inj (reporting (next_unit outer.value.state) outer.value.events) r outer.is_next)
          ∙ (ap (λ (x : Step). reporting (next_unit x.state) x.events) rest.is
          ∙ ap (λ es. reporting (next_unit rest.second.state) (es ++ rest.second.events)) events_same);
    }

-- ---- between two units

executes_next : (s : State) (r : Replay) → Executes s r → Executes (next_unit s) r
unfolding executes_since
executes_next s r h =
    record {
      stands = stands_same s (next_unit s) r.all refl refl refl h.stands;
      named = h.named;
      last = h.last;
      exec = h.exec;
      since = h.since;
    }

holds_next : (s : State) (r : Replay) (op : SeqOp) → HoldsFor s r op → HoldsFor (next_unit s) r op
holds_next s r OpenImmortal h = h
holds_next s r AllocSafelet h = h
holds_next s r (ConstructSafelet object) h = h
holds_next s r (InitializeApplication object) h = h
holds_next s r (GetSequencer object) h = h
holds_next s r (GetNextMission object) h = h
holds_next s r (OpenMission object) h = record { registry = h.registry; earlier = h.earlier }
holds_next s r (Initialize object) h =
    record { stands = stands_same s (next_unit s) r.all refl refl refl h.stands; named = h.named; none = h.none }
holds_next s r (CleanUp object) h = tt
holds_next s r Execute h = executes_next s r h
holds_next s r Finished h = tt

-- what a unit leaves
pub record UnitReported (plan : Plan) (r : Replay) (t : State) (es : List Event) : Type 0 where
  pub after : Replay
  pub is : reported plan r es ≡ Some after
  pub follows : Follows t after

-- what is known of the states of an accepted program's run
pub record Fits (code : Code) (plan : Plan) (s : State) : Type 0 where
  pub before : s.phase ≡ phase_of s.operation
  pub after : (op : Step) → acts code plan.readings by_priority (arrivals code plan s).state ≡ Some op →
      AfterOperation code op.state

exec_not_over : (phase : Phase) → is_exec phase ≡ true → is_over phase ≡ false
unfolding is_exec is_over
exec_not_over Exec e = refl
exec_not_over Boot e = absurd (cc (e))
exec_not_over Next e = absurd (cc (e))
exec_not_over Init e = absurd (cc (e))
exec_not_over Cleanup e = absurd (cc (e))
exec_not_over Over e = absurd (cc (e))

module _ (code : Code) (plan : Plan) (s : State) (r : Replay) (h : Follows s r) (fits : Fits code plan s)
    (lives : is_over s.phase ≡ false) (within : s.unit < plan.units) where
  live : Live plan s.unit r
  live =
      record {
        goes_on = h.over ∙ lives;
        in_order = first_in_order r s.unit h.first;
        ready = h.ready;
        within = within;
      }

  unit_at_op : (op : Step) → acts code plan.readings by_priority (arrivals code plan s).state ≡ Some op →
      op.state.unit ≡ s.unit
  unit_at_op op e =
      (acts_keep_unit code plan.readings by_priority (arrivals code plan s).state).is op e
      ∙ arrivals_keep_unit code plan s

  -- after the operation, whatever it was
  phases : (op : Step) → acts code plan.readings by_priority (arrivals code plan s).state ≡ Some op → (m : Replay) →
      Kept s.unit r m → HoldsFor op.state m op.state.operation → m.executes_since ≡ executes_since op.state →
      m.is_over ≡ is_over op.state.phase → (m.is_over ≡ false → Live plan s.unit m) → is_in_order m s.unit ≡ true →
      misses_no_choice m s.unit ≡ true → Phases plan op.state m
  phases op e m kept holds since over alive order ready =
      let a : AfterOperation code op.state = fits.after op e in
      let at : op.state.unit ≡ s.unit = unit_at_op op e in
      record {
        order = ap (is_in_order m) at ∙ order;
        ready = ap (misses_no_choice m) at ∙ ready;
        within = subst (λ u. u < plan.units) (sym at) within;
        holds = holds;
        since = since;
        over = over;
        fits = a.invariant.sequencer.phase;
        waits = a.invariant.handlers.none_waits;
        started = a.invariant.handlers.none_started;
      }

  -- what follows the operation, whatever the phase
  phased : (op last : Step) (m : Replay) → Phases plan op.state m → phase_after code op.state ≡ Some last →
      SeqReported plan op.state.unit m last.state last.events
  phased op last m p e = go (cases_Bool (is_exec op.state.phase))
    where
      go : (is_exec op.state.phase ≡ true) ⊎ (is_exec op.state.phase ≡ false) →
          SeqReported plan op.state.unit m last.state last.events
      go (inl exec) = executed plan code op.state m p last exec e
      go (inr out) = sequenced plan code op.state m p out last e

  -- the whole unit, from what its arrivals and its operation tell
  whole : (u : Step) (parts : UnitParts code plan s u) (m : Replay) →
      reported plan r ((arrivals code plan s).events ++ parts.op.events) ≡ Some m → Kept s.unit r m →
      Phases plan parts.op.state m → (is_executing r ≡ true → differs r ≡ true → HasChoice s.unit m) →
      UnitReported plan r u.state u.events
  unfolding executes_since
  whole u parts m is kept p owed =
      let last : SeqReported plan parts.op.state.unit m parts.last.state parts.last.events =
      phased parts.op parts.last m p parts.is_last in
      let at : parts.op.state.unit ≡ s.unit = unit_at_op parts.op parts.is_op in
      let kept_last : Kept s.unit m last.after = subst (λ n. Kept n m last.after) at last.kept in
      let kept_all : Kept s.unit r last.after = kept_then s.unit r m last.after kept kept_last in
      let unit_last : parts.last.state.unit ≡ s.unit =
      (phase_keeps_unit code parts.op.state).is parts.last parts.is_last ∙ at in
      subst (λ (x : Step). UnitReported plan r x.state x.events) (sym parts.is)
      (record {
        after = last.after;
        is = reported_then plan r m last.after ((arrivals code plan s).events ++ parts.op.events) parts.last.events is last.is;
        follows = record {
          holds = holds_next parts.last.state last.after parts.last.state.operation last.holds;
          since = last.since;
          over = last.over;
          first = subst (λ n. is_first last.after (n + 1) ≡ true) (sym unit_last)
              (next_is_first s.unit r last.after h.first kept_all);
          ready = subst (λ n. misses_no_choice last.after (n + 1) ≡ true) (sym unit_last)
              (next_is_ready s.unit r last.after h.first h.ready
              (λ e d. has_kept s.unit m last.after (owed e d) kept_last) kept_all);
        };
      })

  -- ---- in execution

  in_execution : (u : Step) → one_unit code plan by_priority s ≡ Some u → is_exec s.phase ≡ true →
      UnitReported plan r u.state u.events
  in_execution u e exec =
      let parts : UnitParts code plan s u = unit_parts code plan s u e in
      let executes : Executes s r =
      subst (λ (op : SeqOp). HoldsFor s r op) (exec_op s.operation (sym (ap is_exec fits.before) ∙ exec)) h.holds in
      let a : ArrivesReported plan s r (arrivals code plan s) = arrivals_reported plan code s r live executes in
      let t : State = (arrivals code plan s).state in
      let live_a : Live plan s.unit a.reports.after =
      live_kept plan s.unit r a.reports.after live a.reports.kept a.reports.goes_on in
      let turn : TurnReported plan t a.reports.after parts.op.state parts.op.events =
      executed_reported plan code plan.readings t a.reports.after parts.op
      (subst (λ n. Live plan n a.reports.after) (sym a.alike.unit) live_a) a.reports.executes parts.is_op in
      let m : Replay = turn.reports.after in
      let kept_op : Kept s.unit a.reports.after m =
      subst (λ n. Kept n a.reports.after m) a.alike.unit turn.reports.kept in
      let kept : Kept s.unit r m = kept_then s.unit r a.reports.after m a.reports.kept kept_op in
      let live_m : Live plan s.unit m = live_kept plan s.unit r m live kept turn.reports.goes_on in
      let op_is : parts.op.state.operation ≡ Execute =
      exec_op parts.op.state.operation
      (sym (ap is_exec (fits.after parts.op parts.is_op).invariant.sequencer.phase) ∙ turn.reports.executes.exec) in
      let p : Phases plan parts.op.state m =
      phases parts.op parts.is_op m kept
      (subst (λ (op : SeqOp). HoldsFor parts.op.state m op) (sym op_is) turn.reports.executes)
      turn.reports.executes.since
      (turn.reports.goes_on ∙ sym (exec_not_over parts.op.state.phase turn.reports.executes.exec)) (λ f. live_m)
      live_m.in_order live_m.ready in
      whole u parts m
      (reported_then plan r a.reports.after m (arrivals code plan s).events parts.op.events a.reports.is turn.reports.is) kept p
      (λ f d. subst (λ n. HasChoice n m) a.alike.unit
      (turn.has (owed_is_reported s t r executes a.alike (arrives code plan s).releases d)))

  -- ---- outside execution

  no_execution : is_exec s.phase ≡ false → is_executing r ≡ false
  unfolding executes_since
  no_execution out =
      ap is_some (h.since ∙ ap (λ (b : Bool). if b then Some s.origin else None) out)

  outside : (u : Step) → one_unit code plan by_priority s ≡ Some u → is_exec s.phase ≡ false →
      UnitReported plan r u.state u.events
  outside u e out =
      let parts : UnitParts code plan s u = unit_parts code plan s u e in
      let a : Quiet plan s r (arrivals code plan s) = arrivals_quiet plan code s r out h.since live in
      let n : Replay = a.silent.after in
      let live_n : Live plan s.unit n = live_kept plan s.unit r n live a.silent.kept a.silent.goes_on in
      let seq : Sequences plan s n =
      record {
        live = live_n;
        out = out;
        goes_on = lives;
        fits = fits.before;
        holds = holds_beside s s r n (beside_same s) a.silent.core s.operation h.holds;
        since = a.silent.core.since ∙ h.since;
      } in
      let op : SeqReported plan s.unit n parts.op.state parts.op.events =
      sequenced_reported plan s n seq code plan.readings parts.op
      (ap (acts code plan.readings by_priority) (sym a.same) ∙ parts.is_op) in
      let m : Replay = op.after in
      let kept : Kept s.unit r m = kept_then s.unit r n m a.silent.kept op.kept in
      let p : Phases plan parts.op.state m =
      phases parts.op parts.is_op m kept op.holds op.since op.over
      (λ f. live_kept plan s.unit r m live kept f) (kept_order plan s.unit r m live kept)
      (kept_ready plan s.unit r m live kept) in
      whole u parts m
      (reported_then plan r n m (arrivals code plan s).events parts.op.events a.silent.is op.is) kept p
      (λ f d. absurd (cc (f, no_execution out)))

  pub unit_reported : (u : Step) → one_unit code plan by_priority s ≡ Some u → UnitReported plan r u.state u.events
  unit_reported u e = go (cases_Bool (is_exec s.phase))
    where
      go : (is_exec s.phase ≡ true) ⊎ (is_exec s.phase ≡ false) → UnitReported plan r u.state u.events
      go (inl exec) = in_execution u e exec
      go (inr out) = outside u e out

-- Who acts in a unit, by its cases.
use Rattle.std.specs.Prelude.{Option, Some, None, if◌then◌else◌, slice_get, option_map}
use Rattle.std.proofs.Common.{◌≡◌, ◌≢◌, ◌∙◌, ℕ, Bool, true, false, List, [], ◌∷◌, length, refl, ap, sym, subst, arith}
use Rattle.scj_rules.specs.Words.{holds, ◌>>=◌}
use Rattle.scj_model.specs.declared.events.Event.{Event}
use Rattle.scj_model.specs.declared.handlers.HandlerRow.{HandlerRow}
use Rattle.scj_model.specs.declared.plans.ReadingRow.{ReadingRow}
use Rattle.scj_model.specs.Code.{code_of}
use Rattle.op_list.specs.Listed.{Listing}
use Rattle.scj_model.specs.State.{Release as ReleaseOfRun, ReleaseAt, State, TheSequencer, Turn, IdleTurn, TurnOf, activity_of, is_exec}
use Rattle.scj_model.specs.State.{Waits as WaitsSeen, Started as StartedSeen, Ended as EndedSeen, Dropped as DroppedSeen}
use Rattle.scj_model.specs.Steps.{Step, then_try}
use Rattle.scj_model.specs.Sequencer.{sequencer_op}
use Rattle.scj_model.specs.Choice.{by_priority, chosen}
use Rattle.scj_model.specs.Run.{acts, frame_op, is_same_turn, ref_op, release_op_of, sequencer_turn, start_op, report_turn, turn_acts, turn_taken}
use Rattle.job_frames.specs.declared.activities.Activity.{Activity as StoredActivity}
use Rattle.job_frames.specs.declared.frames.Frame.{Frame as StoredFrame}
use Rattle.job_frames.specs.Frames.{activity_seen, frames_of}
use Rattle.run_releases.specs.declared.rows.Release.{Release}
use Rattle.run_releases.specs.declared.rows.ReleaseStatus.{ReleaseStatus}
use Rattle.run_releases.specs.declared.rows.ReleaseStatus.TheVariants.{Waits, Started, Ended, Dropped}
use Rattle.run_releases.specs.Rows.{activity_within, release_seen, status_seen, with_releases}
use Rattle.run_releases.specs.Releases.{activity_in}
use Rattle.run_releases.specs.OtherReleases.{with_registry}
use Rattle.run_state.specs.declared.states.RunState.{RunState}
use Rattle.run_state.specs.Seen.{state_of}
use Rattle.run_state.proofs.JobLemmas.{found_activity}
use Rattle.run_state.proofs.Rows.{get_map}
use Rattle.unit_steps.specs.declared.turns.Move.TheVariants.{Starts, GoesOn, Nothing}
use Rattle.unit_steps.specs.Led.{IsLedTry}
use Rattle.unit_steps.specs.Moves.{move_at, move_by, move_of}

pub led_as : (code : Listing) (answer : Bool) (st : RunState) (before after : List Event) (found other : Option Step) →
    other ≡ found → IsLedTry code found answer st before after → IsLedTry code other answer st before after
led_as code answer st before after found other e h =
    subst (λ (o : Option Step). IsLedTry code o answer st before after) (sym e) h

-- ---- the sequencer

module _ (code : Listing) (rows : List ReadingRow) (st : RunState) where
  abbrev turn_with : List StoredFrame → Option Step
  turn_with frames =
      elim (frames_of code frames) as (λ _. Option Step) [
        | [] ↦ sequencer_op (code_of code.program) (state_of code st) (state_of code st).operation
        | f ∷ fs ↦ frame_op (code_of code.program) rows (state_of code st) TheSequencer (state_of code st).activity
      ]

  pub without_frames : length st.activity.frames ≡ 0 →
      sequencer_turn (code_of code.program) rows (state_of code st) ≡ sequencer_op (code_of code.program) (state_of code st) st.operation
  unfolding sequencer_turn state_of
  without_frames e = go st.activity.frames e
    where
      go : (frames : List StoredFrame) → length frames ≡ 0 →
          turn_with frames ≡ sequencer_op (code_of code.program) (state_of code st) st.operation
      go [] h = refl
      go (f ∷ fs) h = absurd (omega (arith, h))

  pub with_frames : length st.activity.frames ≢ 0 →
      sequencer_turn (code_of code.program) rows (state_of code st)
      ≡ frame_op (code_of code.program) rows (state_of code st) TheSequencer (state_of code st).activity
  unfolding sequencer_turn state_of
  with_frames n = go st.activity.frames n
    where
      go : (frames : List StoredFrame) → length frames ≢ 0 →
          turn_with frames ≡ frame_op (code_of code.program) rows (state_of code st) TheSequencer (state_of code st).activity
      go [] h = absurd (h refl)
      go (f ∷ fs) h = refl

pub sequencer_activity : (s : State) → activity_of s TheSequencer ≡ Some s.activity
unfolding activity_of
sequencer_activity s = refl

-- ---- a release

module _ (code : Listing) (rows : List ReadingRow) (st : RunState) (index : ℕ) where
  abbrev s : State
  s = state_of code st

  abbrev op_by : Release → ReleaseStatus → Option Step
  op_by r status =
      elim (status_seen code status) as (λ _. Option Step) [
        | WaitsSeen ↦ start_op (code_of code.program) s index (release_seen code r)
        | StartedSeen activity ↦ frame_op (code_of code.program) rows s (ReleaseAt index) activity
        | EndedSeen ↦ None
        | DroppedSeen ↦ None
      ]

  abbrev op_in : Option Release → Option Step
  op_in found = elim found as (λ _. Option Step) [ None ↦ None | Some r ↦ op_by r r.status ]

  -- the operation, by the release as the code keeps it
  operation_is : ref_op (code_of code.program) rows s (ReleaseAt index) ≡ op_in (slice_get st.releases.rows index)
  unfolding ref_op state_of release_op_of
  operation_is =
      ap (λ (o : Option ReleaseOfRun). o >>= release_op_of (code_of code.program) rows s index)
      (get_map (release_seen code) st.releases.rows index)
      ∙ of_found (slice_get st.releases.rows index)
    where
      of_found : (found : Option Release) →
          (option_map (release_seen code) found >>= release_op_of (code_of code.program) rows s index) ≡ op_in found
      of_found None = refl
      of_found (Some r) = refl

  abbrev StartsAs : ℕ → Option Step → ReleaseOfRun → Type 0
  StartsAs handler found r = (r.handler ≡ handler) × (found ≡ start_op (code_of code.program) s index r)

  pub starts_by : (handler : ℕ) → Starts handler ≡ move_at st.releases.rows index →
      (r : ReleaseOfRun) × (r.handler ≡ handler) × (ref_op (code_of code.program) rows s (ReleaseAt index) ≡ start_op (code_of code.program) s index r)
  starts_by handler e =
      let there : (r : ReleaseOfRun) × StartsAs handler (op_in (slice_get st.releases.rows index)) r =
      of_found (slice_get st.releases.rows index) e in
      (there.0, there.1.0, operation_is ∙ there.1.1)
    where
      of_status : (r : Release) (status : ReleaseStatus) → Starts handler ≡ move_by r.handler status →
          StartsAs handler (op_by r status) (release_seen code r)
      of_status r Waits k = (cc (k), refl)
      of_status r (Started activity) k = absurd (cc (k))
      of_status r Ended k = absurd (cc (k))
      of_status r Dropped k = absurd (cc (k))

      of_found : (found : Option Release) → Starts handler ≡ move_of found →
          (r : ReleaseOfRun) × StartsAs handler (op_in found) r
      of_found None k = absurd (cc (k))
      of_found (Some r) k = (release_seen code r, of_status r r.status k)

  abbrev GoesOnWith : Option StoredActivity → Option Step → StoredActivity → Type 0
  GoesOnWith within found a =
      (within ≡ Some a) × (found ≡ frame_op (code_of code.program) rows s (ReleaseAt index) (activity_seen code a))

  pub goes_on_with : GoesOn ≡ move_at st.releases.rows index →
      (a : StoredActivity) × (activity_of s (ReleaseAt index) ≡ Some (activity_seen code a)) ×
      (ref_op (code_of code.program) rows s (ReleaseAt index) ≡ frame_op (code_of code.program) rows s (ReleaseAt index) (activity_seen code a))
  goes_on_with e =
      let there : (a : StoredActivity) ×
      GoesOnWith (activity_in st.releases.rows index) (op_in (slice_get st.releases.rows index)) a =
      of_found (slice_get st.releases.rows index) e in (
        there.0,
        sym (found_activity code st index) ∙ ap (option_map (activity_seen code)) there.1.0,
        operation_is ∙ there.1.1,
      )
    where
      of_status : (r : Release) (status : ReleaseStatus) → GoesOn ≡ move_by r.handler status →
          (a : StoredActivity) × GoesOnWith (activity_within status) (op_by r status) a
      of_status r Waits k = absurd (cc (k))
      of_status r (Started activity) k = (activity, (refl, refl))
      of_status r Ended k = absurd (cc (k))
      of_status r Dropped k = absurd (cc (k))

      of_found : (found : Option Release) → GoesOn ≡ move_of found →
          (a : StoredActivity) ×
          GoesOnWith (found >>= (λ (r : Release). activity_within r.status)) (op_in found) a
      of_found None k = absurd (cc (k))
      of_found (Some r) k = of_status r r.status k

  pub nothing_done : Nothing ≡ move_at st.releases.rows index → ref_op (code_of code.program) rows s (ReleaseAt index) ≡ None
  nothing_done e = operation_is ∙ of_found (slice_get st.releases.rows index) e
    where
      of_status : (r : Release) (status : ReleaseStatus) → Nothing ≡ move_by r.handler status → op_by r status ≡ None
      of_status r Waits k = absurd (cc (k))
      of_status r (Started activity) k = absurd (cc (k))
      of_status r Ended k = refl
      of_status r Dropped k = refl

      of_found : (found : Option Release) → Nothing ≡ move_of found → op_in found ≡ None
      of_found None k = refl
      of_found (Some r) k = of_status r r.status k

-- ---- turns

module _ (s : State) (turn : Turn) where
  abbrev reported_if : Bool → List Event
  reported_if last = if last then [] else report_turn s turn

  pub same_turn : holds s.last_choice (is_same_turn turn) ≡ true → (turn_taken s turn).events ≡ []
  unfolding turn_taken
  same_turn e = ap reported_if e

  pub other_turn : holds s.last_choice (is_same_turn turn) ≡ false → (turn_taken s turn).events ≡ report_turn s turn
  unfolding turn_taken
  other_turn e = ap reported_if e

-- ---- the choice

-- the state in which the code chooses
pub seen_by_choice : (code : Listing) (st : RunState) (registry : List HandlerRow) → registry ≡ st.registry.items →
    with_registry (with_releases code (state_of code st) st.releases) registry ≡ state_of code st
unfolding state_of
seen_by_choice code st registry e =
    ap (λ (handlers : List HandlerRow). with_registry (with_releases code (state_of code st) st.releases) handlers) e

abbrev turn_by : Option ℕ → Turn
turn_by found = elim found as (λ _. Turn) [ None ↦ IdleTurn | Some index ↦ TurnOf index ]

pub turn_is : (s : State) (found : Option ℕ) → found ≡ chosen s → Some (turn_by found) ≡ by_priority s
unfolding by_priority
turn_is s found e = ap (λ (o : Option ℕ). Some (turn_by o)) e

-- ---- who acts

module _ (code : Listing) (rows : List ReadingRow) (s : State) where
  abbrev acts_by : Bool → Option Turn → Option Step
  acts_by executes found =
      if executes then found >>= (λ turn. then_try (turn_taken s turn) (turn_acts (code_of code.program) rows turn))
      else sequencer_turn (code_of code.program) rows s

  pub sequencer_acts : is_exec s.phase ≡ false → acts (code_of code.program) rows by_priority s ≡ sequencer_turn (code_of code.program) rows s
  unfolding acts
  sequencer_acts e = ap (λ (b : Bool). acts_by b (by_priority s)) e

  pub chosen_acts : (turn : Turn) → is_exec s.phase ≡ true → Some turn ≡ by_priority s →
      acts (code_of code.program) rows by_priority s ≡ then_try (turn_taken s turn) (turn_acts (code_of code.program) rows turn)
  unfolding acts
  chosen_acts turn e f =
      ap (λ (b : Bool). acts_by b (by_priority s)) e ∙ ap (λ (o : Option Turn). acts_by true o) (sym f)

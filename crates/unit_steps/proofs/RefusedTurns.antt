-- What the operation of a unit is refused, by who acts in it.
use Rattle.std.specs.Prelude.{Option, Some, None, if◌then◌else◌, option_map, slice_get}
use Rattle.std.proofs.Common.{◌≡◌, ◌≢◌, ◌∙◌, ℕ, Bool, true, false, List, [], ◌∷◌, length, refl, ap, sym, subst, arith}
use Rattle.scj_rules.specs.Words.{◌>>=◌}
use Rattle.scj_model.specs.declared.operations.Op.{Op}
use Rattle.scj_model.specs.declared.plans.ReadingRow.{ReadingRow}
use Rattle.scj_model.specs.Code.{code_of}
use Rattle.op_list.specs.Listed.{Listing}
use Rattle.scj_model.specs.State.{Activity, Release as ReleaseOfRun, ReleaseAt, State, Turn, IdleTurn, TurnOf, activity_in, activity_of, is_exec}
use Rattle.scj_model.specs.declared.events.Event.{Event}
use Rattle.scj_model.specs.Steps.{Step}
use Rattle.scj_model.specs.Effects.{Effect}
use Rattle.scj_model.specs.Choice.{Policy}
use Rattle.scj_model.specs.Run.{effect_at}
use Rattle.area_needs.specs.declared.refusals.Refusal.{Refusal}
use Rattle.scj_model.specs.Memory.{has_room, used}
use Rattle.area_needs.specs.Refusals.{refused_in as refused_in_area, refused_at, refused_by, refused_on, refused_own, refused_to_sequencer, refused_to_turn}
use Rattle.op_list.specs.Rows.{rest_at}
use Rattle.job_frames.specs.declared.frames.Frame.{Frame as StoredFrame}
use Rattle.job_frames.specs.declared.activities.Activity.{Activity as StoredActivity}
use Rattle.job_frames.specs.Frames.{activity_seen, frame_of, frames_of}
use Rattle.region_heap.specs.Contents.{Contents, with_memory}
use Rattle.run_releases.specs.declared.rows.Release.{Release}
use Rattle.run_releases.specs.declared.rows.ReleaseStatus.{ReleaseStatus}
use Rattle.run_releases.specs.declared.rows.ReleaseStatus.TheVariants.{Waits, Started, Ended, Dropped}
use Rattle.run_releases.specs.Rows.{release_seen, status_seen}
use Rattle.run_state.specs.declared.states.RunState.{RunState}
use Rattle.run_state.specs.declared.states.Turn.{Turn as CodedTurn}
use Rattle.run_state.specs.Seen.{state_of}
use Rattle.run_state.proofs.Rows.{get_map}
use Rattle.unit_steps.specs.declared.refusals.Acted.{Acted}
use Rattle.unit_steps.specs.declared.refusals.Acted.TheVariants.{Stuck, Done}
use Rattle.unit_steps.specs.declared.turns.Move.TheVariants.{Starts}
use Rattle.unit_steps.specs.Moves.{move_at, move_by, move_of}
use Rattle.unit_steps.specs.Led.{IsLedTry}
use Rattle.unit_steps.specs.Refused.{Refuses, went}

pub refuses_as : (acted : Acted) (found other : Option Refusal) → found ≡ other → Refuses acted found →
    Refuses acted other
refuses_as Stuck found other e h = tt
refuses_as (Done refusal) found other e h = h ∙ e

-- what is answered tells whether the operation was done
pub led_by : (code : Listing) (o : Option Step) (acted : Acted) (answer : Bool) (st : RunState)
    (before after : List Event) → went acted ≡ answer → IsLedTry code o answer st before after →
    IsLedTry code o (went acted) st before after
led_by code o acted answer st before after e h =
    subst (λ (b : Bool). IsLedTry code o b st before after) (sym e) h

-- ---- the highest frame

pub frames_refused : (code : Listing) (rows : List ReadingRow) (s : State) (frames below : List StoredFrame)
    (top : StoredFrame) (op : Op) (left : List Op) (effect : Effect) → frames ≡ top ∷ below →
    rest_at code.rows top.index ≡ op ∷ left → effect_at (code_of code.program) rows s (frame_of code top) op left ≡ effect →
    refused_on (code_of code.program) rows s (frames_of code frames) ≡ refused_by s effect
unfolding refused_on
frames_refused code rows s frames below top op left effect was next has =
    ap (λ (fs : List StoredFrame). elim (frames_of code fs) as (λ _. Option Refusal) [
      | [] ↦ None
      | f ∷ below ↦ elim f.rest as (λ _. Option Refusal) [
        | [] ↦ None
        | op ∷ rest ↦ refused_by s (effect_at (code_of code.program) rows s f op rest)
      ]
    ]) was
    ∙ (ap (λ (ops : List Op). elim ops as (λ _. Option Refusal) [
      | [] ↦ None
      | op ∷ rest ↦ refused_by s (effect_at (code_of code.program) rows s (frame_of code top) op rest)
    ]) next
    ∙ ap (λ (e : Effect). refused_by s e) has)

-- the same in a state whose memory is this one, of an activity that was taken out
pub refused_there : (code : Listing) (rows : List ReadingRow) (st : RunState) (m : Contents) (activity : Activity)
    (taken : StoredActivity) (below : List StoredFrame) (top : StoredFrame) (op : Op) (left : List Op)
    (effect : Effect) → m ≡ st.memory → activity_seen code taken ≡ activity → taken.frames ≡ top ∷ below →
    rest_at code.rows top.index ≡ op ∷ left → effect_at (code_of code.program) rows (state_of code st) (frame_of code top) op left ≡ effect →
    refused_by (with_memory (state_of code st) m) effect ≡ refused_on (code_of code.program) rows (state_of code st) activity.frames
unfolding state_of
refused_there code rows st m activity taken below top op left effect memory seen was next has =
    ap (λ (n : Contents). refused_by (with_memory (state_of code st) n) effect) memory
    ∙ (sym (frames_refused code rows (state_of code st) taken.frames below top op left effect was next has)
    ∙ ap (λ (a : Activity). refused_on (code_of code.program) rows (state_of code st) a.frames) seen)

-- ---- the sequencer

module _ (code : Listing) (rows : List ReadingRow) (st : RunState) where
  abbrev refused_with : List StoredFrame → Option Refusal
  refused_with frames =
      elim (frames_of code frames) as (λ _. Option Refusal) [
        | [] ↦ refused_own (code_of code.program) (state_of code st) st.operation
        | f ∷ fs ↦ refused_on (code_of code.program) rows (state_of code st) (frames_of code st.activity.frames)
      ]

  pub own_refused : length st.activity.frames ≡ 0 → refused_to_sequencer (code_of code.program) rows (state_of code st)
      ≡ refused_own (code_of code.program) (state_of code st) st.operation
  unfolding refused_to_sequencer state_of
  own_refused e = go st.activity.frames e
    where
      go : (frames : List StoredFrame) → length frames ≡ 0 →
          refused_with frames ≡ refused_own (code_of code.program) (state_of code st) st.operation
      go [] h = refl
      go (f ∷ fs) h = absurd (omega (arith, h))

  pub body_refused : length st.activity.frames ≢ 0 → refused_to_sequencer (code_of code.program) rows (state_of code st)
      ≡ refused_on (code_of code.program) rows (state_of code st) (state_of code st).activity.frames
  unfolding refused_to_sequencer state_of
  body_refused n = go st.activity.frames n
    where
      go : (frames : List StoredFrame) → length frames ≢ 0 →
          refused_with frames ≡ refused_on (code_of code.program) rows (state_of code st) (frames_of code st.activity.frames)
      go [] h = absurd (h refl)
      go (f ∷ fs) h = refl

-- ---- a release

-- what is refused to the activity of a job
abbrev refused_in : Listing → List ReadingRow → State → Option Activity → Option Refusal
refused_in code rows s found = found >>= (λ (a : Activity). refused_on (code_of code.program) rows s a.frames)

release_refused : (code : Listing) (rows : List ReadingRow) (s : State) (index : ℕ) →
    refused_to_turn (code_of code.program) rows s (TurnOf index) ≡ refused_in code rows s (activity_of s (ReleaseAt index))
unfolding refused_to_turn activity_of
release_refused code rows s index = go (slice_get s.releases index)
  where
    go : (o : Option ReleaseOfRun) →
        (o >>= (λ (r : ReleaseOfRun). activity_in r.status >>= (λ (a : Activity). refused_on (code_of code.program) rows s a.frames)))
        ≡ ((o >>= (λ (r : ReleaseOfRun). activity_in r.status)) >>= (λ (a : Activity). refused_on (code_of code.program) rows s a.frames))
    go None = refl
    go (Some r) = refl

pub started_refused : (code : Listing) (rows : List ReadingRow) (s : State) (index : ℕ) (activity : Activity) →
    activity_of s (ReleaseAt index) ≡ Some activity →
    refused_on (code_of code.program) rows s activity.frames ≡ refused_to_turn (code_of code.program) rows s (TurnOf index)
started_refused code rows s index activity e =
    sym (release_refused code rows s index ∙ ap (λ (o : Option Activity). refused_in code rows s o) e)

-- a release that waits
pub start_refused : (code : Listing) (rows : List ReadingRow) (st : RunState) (index handler : ℕ) →
    Starts handler ≡ move_at st.releases.rows index →
    None ≡ refused_to_turn (code_of code.program) rows (state_of code st) (TurnOf index)
unfolding state_of activity_of activity_in
start_refused code rows st index handler e =
    sym (release_refused code rows (state_of code st) index
    ∙ (ap (λ (o : Option ReleaseOfRun). refused_in code rows (state_of code st) (o >>= (λ (r : ReleaseOfRun). activity_in r.status)))
    (get_map (release_seen code) st.releases.rows index)
    ∙ of_found (slice_get st.releases.rows index) e))
  where
    of_status : (r : Release) (status : ReleaseStatus) → Starts handler ≡ move_by r.handler status →
        refused_in code rows (state_of code st) (activity_in (status_seen code status)) ≡ None
    of_status r Waits k = refl
    of_status r (Started activity) k = absurd (cc (k))
    of_status r Ended k = absurd (cc (k))
    of_status r Dropped k = absurd (cc (k))

    of_found : (found : Option Release) → Starts handler ≡ move_of found →
        refused_in code rows (state_of code st)
        (option_map (release_seen code) found >>= (λ (r : ReleaseOfRun). activity_in r.status)) ≡ None
    of_found None k = absurd (cc (k))
    of_found (Some r) k = of_status r r.status k

-- ---- who acts

pub turn_refused : (code : Listing) (rows : List ReadingRow) (st : RunState) (last : Option CodedTurn) (turn : Turn) →
    (let later : RunState = record st { last_choice = last } in
    refused_to_turn (code_of code.program) rows (state_of code later) turn)
    ≡ refused_to_turn (code_of code.program) rows (state_of code st) turn
unfolding refused_to_turn refused_on refused_by refused_in_area has_room used state_of
turn_refused code rows st last IdleTurn = refl
turn_refused code rows st last (TurnOf index) = refl

pub chosen_refused : (code : Listing) (rows : List ReadingRow) (policy : Policy) (s : State) (turn : Turn) →
    is_exec s.phase ≡ true → Some turn ≡ policy s →
    refused_to_turn (code_of code.program) rows s turn ≡ refused_at (code_of code.program) rows policy s
unfolding refused_at
chosen_refused code rows policy s turn exec chosen =
    ap (λ (o : Option Turn). o >>= refused_to_turn (code_of code.program) rows s) chosen
    ∙ ap (λ (b : Bool). if b then policy s >>= refused_to_turn (code_of code.program) rows s else refused_to_sequencer (code_of code.program) rows s)
    (sym exec)

pub sequencer_refused : (code : Listing) (rows : List ReadingRow) (policy : Policy) (s : State) →
    is_exec s.phase ≡ false → refused_to_sequencer (code_of code.program) rows s ≡ refused_at (code_of code.program) rows policy s
unfolding refused_at
sequencer_refused code rows policy s exec =
    ap (λ (b : Bool). if b then policy s >>= refused_to_turn (code_of code.program) rows s else refused_to_sequencer (code_of code.program) rows s)
    (sym exec)

-- Each operation of a job that may act has a result, and leaves a sound state.
use Rattle.std.specs.Prelude.{Option, Some, None, slice_get, ◌&&◌, ◌||◌, not, is_some}
use Rattle.std.proofs.Common.{◌≡◌, ℕ, List, [], ◌∷◌, Bool, true, false, refl, sym, ◌∙◌, ap, true≢false}
use Rattle.scj_rules.specs.Words.{holds, ◌>>=◌}
use Rattle.scj_model.specs.declared.plans.ReadingRow.{ReadingRow}
use Rattle.scj_model.specs.Code.{Code}
use Rattle.scj_model.specs.State.{Activity, Frame, Waits, Started, Ended, Dropped, ReleaseStatus, Release, Job, TheSequencer, ReleaseAt, State, activity_in, activity_of, is_exec, is_over, is_started, is_waiting}
use Rattle.scj_model.specs.Choice.{candidate, may_act}
use Rattle.scj_model.specs.Safety.{job_may_act}
use Rattle.scj_model.specs.Steps.{Step}
use Rattle.scj_model.specs.Sequencer.{sequencer_op}
use Rattle.scj_model.specs.Run.{frame_op, ref_op, release_op_of, sequencer_turn, start_op}
use Rattle.scope_flow.specs.Facts.{Facts}
use Rattle.mission_sound.specs.Bases.{areas_of}
use Rattle.mission_sound.specs.Invariant.{Invariant, Operates}
use Rattle.mission_sound.specs.SequencerFacts.{SequencerFacts}
use Rattle.mission_sound.proofs.Jobs.{not_under_way, sequencer_activity}
use Rattle.mission_sound.proofs.SequencerOps.{sequencer_operates}
use Rattle.reference_sound.proofs.RunHolds.{held_frameless}
use Rattle.reference_sound.proofs.SequencerHolds.{sequencer_keeps}
use Rattle.scope_sound.specs.Sound.{OperatesSoundly, Sound}
use Rattle.scope_sound.proofs.FrameOperates.{release_operates}
use Rattle.scope_sound.proofs.SequencerFrames.{sequencer_frame_operates}
use Rattle.scj_model.specs.Choice.{Candidate, handler_priority}
use Rattle.scope_sound.proofs.StartOperates.{inner_there, start_operates}

-- ---- tests

both : (a b : Bool) → (a && b) ≡ true → (a ≡ true) × (b ≡ true)
both true true e = (refl, refl)
both true false e = absurd (true≢false (sym e))
both false b e = absurd (true≢false (sym e))

is_off : (a : Bool) → not a ≡ true → a ≡ false
is_off false e = refl
is_off true e = absurd (true≢false (sym e))

module _ (code : Code) (facts : Facts code) (promised : SequencerFacts code) (rows : List ReadingRow) (s : State)
    (sound : Sound code s) where
  abbrev i : Invariant code s
  i = sound.settled.invariant

  -- ---- a release that waits or is started

  module _ (exec : is_exec s.phase ≡ true) (index : ℕ) (r : Release) (there : slice_get s.releases index ≡ Some r) where
    waiting_operates : r.status ≡ Waits → OperatesSoundly code (start_op code s index r)
    unfolding is_waiting
    waiting_operates e =
        let row = i.handlers.handled index r there
        (ap (λ (status : ReleaseStatus). is_waiting status || is_started status) e) in
        start_operates code facts promised s sound exec index r there e row.0 row.1

    started_operates : (activity : Activity) → r.status ≡ Started activity →
        OperatesSoundly code (frame_op code rows s (ReleaseAt index) activity)
    unfolding activity_of activity_in
    started_operates activity e =
        let is : activity_of s (ReleaseAt index) ≡ Some activity =
        ap (λ (o : Option Release). o >>= (λ r. activity_in r.status)) there ∙ ap activity_in e in
        let h = i.memories.have_frames index activity is in
        release_operates code facts promised rows s sound index activity is h.highest h.below h.are

    candidate_operates : is_some (candidate s index r) ≡ true → OperatesSoundly code (release_op_of code rows s index r)
    unfolding candidate release_op_of
    candidate_operates acts = go r.status refl acts
      where
        go : (status : ReleaseStatus) → r.status ≡ status → is_some (elim status as (λ z. Option Candidate) [
          | Waits ↦ Some (record { index = index; priority = handler_priority s r.handler; is_started = false })
          | Started activity ↦ Some (record { index = index; priority = activity.priority; is_started = true })
          | Ended ↦ None
          | Dropped ↦ None
        ]) ≡ true → OperatesSoundly code (elim status as (λ z. Option Step) [
          | Waits ↦ start_op code s index r
          | Started activity ↦ frame_op code rows s (ReleaseAt index) activity
          | Ended ↦ None
          | Dropped ↦ None
        ])
        go Waits e acts = waiting_operates e
        go (Started activity) e acts = started_operates activity e
        go Ended e acts = absurd (true≢false (sym acts))
        go Dropped e acts = absurd (true≢false (sym acts))

  release_operated : is_exec s.phase ≡ true → (index : ℕ) → may_act s index ≡ true →
      OperatesSoundly code (ref_op code rows s (ReleaseAt index))
  unfolding ref_op may_act
  release_operated exec index acts = go (slice_get s.releases index) refl acts
    where
      go : (o : Option Release) → slice_get s.releases index ≡ o →
          holds o (λ r. is_some (candidate s index r)) ≡ true →
          OperatesSoundly code (o >>= release_op_of code rows s index)
      go None e acts = absurd (true≢false (sym acts))
      go (Some r) e acts = candidate_operates exec index r e acts

  -- ---- the sequencer

  module _ (outside : is_exec s.phase ≡ false) (goes_on : is_over s.phase ≡ false) where
    nobody_under_way : s.activity.frames ≡ [] → (job : Job) (activity : Activity) →
        activity_of s job ≡ Some activity → activity.frames ≡ []
    nobody_under_way none TheSequencer activity e =
        ap (λ (a : Activity). a.frames) (sym (sequencer_activity s activity e)) ∙ none
    nobody_under_way none (ReleaseAt index) activity e =
        absurd (not_under_way s (i.handlers.none_started outside) index activity e)

    -- whatever it has without frames afterwards, no reference speaks of it
    alone_operates : s.activity.frames ≡ [] → OperatesSoundly code (sequencer_op code s s.operation)
    alone_operates none =
        record {
          step = o.step;
          is = o.is;
          after = record {
            after = o.after;
            references = (sequencer_keeps code s (areas_of o.after.invariant.base)
                (held_frameless s (areas_of i.base) (areas_of o.after.invariant.base) (nobody_under_way none)
                sound.references)
                (inner_there code s i none) s.operation).gives o.step o.is;
          };
        }
      where
        o : Operates code (sequencer_op code s s.operation)
        o = sequencer_operates code facts promised s sound.settled none outside goes_on

    sequencer_operated : OperatesSoundly code (ref_op code rows s TheSequencer)
    unfolding ref_op sequencer_turn
    sequencer_operated = go s.activity.frames refl
      where
        go : (fs : List Frame) → s.activity.frames ≡ fs → OperatesSoundly code (elim fs as (λ z. Option Step) [
          | [] ↦ sequencer_op code s s.operation
          | f ∷ fs ↦ frame_op code rows s TheSequencer s.activity
        ])
        go [] e = alone_operates e
        go (f ∷ fs) e = sequencer_frame_operates code facts promised rows s sound outside goes_on f fs e

pub operated : (code : Code) → Facts code → SequencerFacts code → (rows : List ReadingRow) (s : State) (job : Job) →
    Sound code s → job_may_act s job ≡ true → OperatesSoundly code (ref_op code rows s job)
unfolding job_may_act
operated code facts promised rows s TheSequencer sound acts =
    let t = both (not (is_exec s.phase)) (not (is_over s.phase)) acts in
    sequencer_operated code facts promised rows s sound (is_off (is_exec s.phase) t.0) (is_off (is_over s.phase) t.1)
operated code facts promised rows s (ReleaseAt index) sound acts =
    let t = both (is_exec s.phase) (may_act s index) acts in
    release_operated code facts promised rows s sound t.0 index t.1

-- What an operation leaves is what its effect may count on.
use Rattle.std.specs.Prelude.{Option, Some, None, slice_get}
use Rattle.std.proofs.Common.{◌≡◌, ◌∙◌, ◌<◌, ℕ, true, List, ◌∷◌, length, arith, refl, ap, subst, sym}
use Rattle.scj_model.specs.declared.handlers.HandlerRow.{HandlerRow}
use Rattle.scj_model.specs.declared.operations.Op.{Op}
use Rattle.scj_model.specs.declared.plans.ReadingRow.{ReadingRow}
use Rattle.scj_model.specs.Code.{code_of}
use Rattle.op_list.specs.Listed.{Listing}
use Rattle.scj_model.specs.Effects.{Effect, new_frame}
use Rattle.scj_model.specs.Operations.{effect_of}
use Rattle.scj_model.specs.Registry.{handler_row}
use Rattle.scj_model.specs.Run.{effect_at, no_activity}
use Rattle.scj_model.specs.State.{Activity, Frame, Job as JobOfRun, ReleaseAt, State, TheSequencer, activity_of, with_activity}
use Rattle.region_heap.specs.Contents.{Contents, is_open_area, open_count}
use Rattle.job_frames.specs.declared.activities.Activity.{Activity as StoredActivity}
use Rattle.job_frames.specs.declared.effects.Effect.{Effect as Coded}
use Rattle.job_frames.specs.declared.effects.Effect.TheVariants as coded
use Rattle.job_frames.specs.declared.frames.Frame.{Frame as StoredFrame}
use Rattle.job_frames.specs.Frames.{activity_seen, below, frame_of, frames_of}
use Rattle.job_frames.specs.EffectsSeen.{effect_seen, world}
use Rattle.run_releases.specs.declared.rows.Release.{Release}
use Rattle.run_releases.specs.declared.rows.ReleaseStatus.{ReleaseStatus}
use Rattle.run_releases.specs.declared.rows.ReleaseStatus.TheVariants.{Waits, Started, Ended, Dropped}
use Rattle.run_state.specs.declared.states.RunState.{RunState}
use Rattle.run_state.specs.declared.states.Turn.{Turn as CodedTurn}
use Rattle.run_state.specs.Seen.{state_of}
use Rattle.run_state.specs.Standing.{CloseInOrder, IsLive, IsOnLiveObject, StandsIn, below_top}
use Rattle.run_state.specs.Steps.{HasOnTop}
use Rattle.run_state.proofs.CallLemmas.{top_is, without_top}
use Rattle.unit_steps.specs.declared.turns.Move.TheVariants.{Starts}
use Rattle.unit_steps.specs.Moves.{move_at, move_by, move_of}
use Rattle.unit_steps.specs.Next.{IsNextOnTop}
use Rattle.unit_steps.specs.Standing.{EffectStands, JobStands, NamesLive, NextStands, StartStands}

-- ---- a frame that is put on top

module _ (code : Listing) (g : Frame) (before after : StoredActivity) (h : HasOnTop code g before after) (m : Contents)
  where
    pub closes_below : CloseInOrder m before.frames → CloseInOrder m (below after.frames)
    closes_below e = subst (λ (a : StoredActivity). CloseInOrder m (below a.frames)) (sym h.whole) e

    pub stands_below : StandsIn m before → StandsIn m (below_top after)
    stands_below e = subst (λ (a : StoredActivity). StandsIn m a) (sym (without_top code g before after h)) e

    pub on_live : ((r : ℕ) → g.this ≡ Some r → IsLive m r) → IsOnLiveObject m after
    on_live live f r top this =
        live r (ap (λ (x : Frame). x.this) (sym (top_is code g before after f h (sym top))) ∙ this)

-- ---- the effect of an operation

named_stands : (code : Listing) (m : Contents) (taken : StoredActivity) (changed : StoredFrame)
    (rest : List StoredFrame) (effect : Coded) → NamesLive m (effect_seen code effect (frame_of code changed)) →
    (let left : StoredActivity = record taken { frames = changed ∷ rest } in EffectStands m left effect)
unfolding effect_seen new_frame
named_stands code m taken changed rest (coded.Makes class slots) h = λ f e.
    let same : changed ≡ f = cc in
    subst (λ (x : StoredFrame). is_open_area m x.area ≡ true) same h
named_stands code m taken changed rest (coded.MakesArray class kind count) h = λ f e.
    let same : changed ≡ f = cc in
    subst (λ (x : StoredFrame). is_open_area m x.area ≡ true) same h
named_stands code m taken changed rest (coded.Calls call arguments) h = h
named_stands code m taken changed rest (coded.AsksRegistration r) h = h
named_stands code m taken changed rest coded.Goes h = tt
named_stands code m taken changed rest (coded.Prints label value) h = tt
named_stands code m taken changed rest (coded.Stores r slot value) h = tt
named_stands code m taken changed rest (coded.StoresStatic index value) h = tt
named_stands code m taken changed rest (coded.SetsHidden r hidden) h = tt
named_stands code m taken changed rest (coded.SetsCeiling r ceiling) h = tt
named_stands code m taken changed rest (coded.Opens call scope bytes) h = tt
named_stands code m taken changed rest (coded.Leaves value) h = tt
named_stands code m taken changed rest (coded.AsksRelease r) h = tt
named_stands code m taken changed rest (coded.AsksTermination r) h = tt
named_stands code m taken changed rest (coded.Faults fault) h = tt
named_stands code m taken changed rest coded.Stuck h = tt

-- ---- the activity that is taken out

abbrev memory_in : State → Contents
memory_in s = record { store = s.store; areas = s.areas; objects = s.objects; statics = s.statics }

memory_with : (s : State) (job : JobOfRun) (a : Activity) → memory_in (with_activity s job a) ≡ memory_in s
unfolding with_activity
memory_with s TheSequencer a = refl
memory_with s (ReleaseAt index) a = refl

unit_with : (s : State) (job : JobOfRun) (a : Activity) → (with_activity s job a).unit ≡ s.unit
unfolding with_activity
unit_with s TheSequencer a = refl
unit_with s (ReleaseAt index) a = refl

module _ (code : Listing) (rows : List ReadingRow) (old was : RunState) (job : JobOfRun) (taken : StoredActivity)
    (frames : List StoredFrame) (op : Op) (effect : Coded)
    (without : state_of code was ≡ with_activity (state_of code old) job no_activity)
    (there : activity_of (state_of code old) job ≡ Some (activity_seen code taken))
    (stands : JobStands code rows old job)
    (next : IsNextOnTop code (world was.memory rows was.unit) op effect taken.frames frames) where
  pub same_memory : was.memory ≡ old.memory
  unfolding state_of
  same_memory = ap memory_in without ∙ memory_with (state_of code old) job no_activity

  same_unit : was.unit ≡ old.unit
  unfolding state_of
  same_unit = ap (λ (s : State). s.unit) without ∙ unit_with (state_of code old) job no_activity

  abbrev left : Frame
  left = record (frame_of code next.top) { rest = next.done.left }

  now : NextStands code rows old (frame_of code next.top) op next.done.left
  now =
      stands.next (activity_seen code taken) (frame_of code next.top) (frames_of code (below taken.frames)) op
      next.done.left there (ap (frames_of code) next.was) next.done.next

  pub has_effect : effect_at (code_of code.program) rows (state_of code old) (frame_of code next.top) op next.done.left
      ≡ effect_seen code effect (frame_of code next.changed)
  has_effect =
      now.reads
      ∙ (ap (λ (m : Contents). effect_of (code_of code.program) (world m rows old.unit) left op) (sym same_memory)
      ∙ (ap (λ (unit : ℕ). effect_of (code_of code.program) (world was.memory rows unit) left op) (sym same_unit) ∙ next.done.does))

  pub effect_stands : (let a : StoredActivity = record taken { frames = frames } in EffectStands was.memory a effect)
  effect_stands =
      subst (λ (m : Contents). (let a : StoredActivity = record taken { frames = frames } in EffectStands m a effect))
      (sym same_memory)
      (subst (λ (fs : List StoredFrame).
      (let a : StoredActivity = record taken { frames = fs } in EffectStands old.memory a effect)) (sym next.is)
      (named_stands code old.memory taken next.changed (below taken.frames) effect
      (subst (λ (e : Effect). NamesLive old.memory e) has_effect now.names)))

  kept : StandsIn old.memory taken → CloseInOrder old.memory frames
  kept h =
      subst (λ (fs : List StoredFrame). CloseInOrder old.memory fs) (sym next.is)
      (opened_alike (subst (λ (fs : List StoredFrame). CloseInOrder old.memory fs) next.was h.closes))
    where
      opened_alike : CloseInOrder old.memory (next.top ∷ below taken.frames) →
          CloseInOrder old.memory (next.changed ∷ below taken.frames)
      opened_alike e =
          subst (λ (o : Option ℕ). CloseInOrder old.memory (record next.changed { opened = o } ∷ below taken.frames))
          next.done.opened e

  as_few : StandsIn old.memory taken → length frames < 64 → open_count old.memory < 1794
  as_few h fewer =
      let was = ap (λ (fs : List StoredFrame). length fs) next.was in
      let is = ap (λ (fs : List StoredFrame). length fs) next.is in
      h.few (omega (arith, was, is, fewer))

  pub left_stands : (let a : StoredActivity = record taken { frames = frames } in StandsIn was.memory a)
  left_stands =
      let h : StandsIn old.memory taken = stands.stands taken there in
      subst (λ (m : Contents). (let a : StoredActivity = record taken { frames = frames } in StandsIn m a))
      (sym same_memory) (record { listed = h.listed; closes = kept h; few = as_few h })

-- ---- a release that is to be started

pub start_few : (st : RunState) (index handler : ℕ) (row : HandlerRow) → StartStands st index →
    Starts handler ≡ move_at st.releases.rows index → handler_row st.registry.items handler ≡ Some row →
    open_count st.memory < 1794
start_few st index handler row h move is_row = go (slice_get st.releases.rows index) refl
  where
    of_status : (r : Release) → slice_get st.releases.rows index ≡ Some r → (status : ReleaseStatus) →
        r.status ≡ status → Starts handler ≡ move_by r.handler status → open_count st.memory < 1794
    of_status r there Waits e f =
        let same : handler ≡ r.handler = cc (f) in
        h r row there e (ap (handler_row st.registry.items) (sym same) ∙ is_row)
    of_status r there (Started activity) e f = absurd (cc (f))
    of_status r there Ended e f = absurd (cc (f))
    of_status r there Dropped e f = absurd (cc (f))

    go : (found : Option Release) → slice_get st.releases.rows index ≡ found → open_count st.memory < 1794
    go None e = absurd (let none : Starts handler ≡ move_of None = move ∙ ap move_of e in cc (none))
    go (Some r) e = of_status r e r.status refl (move ∙ ap move_of e)

-- ---- the turn that was taken

pub job_with_turn : (code : Listing) (rows : List ReadingRow) (st : RunState) (job : JobOfRun) (turn : Option CodedTurn) →
    JobStands code rows st job → JobStands code rows (record st { last_choice = turn }) job
unfolding state_of activity_of
job_with_turn code rows st TheSequencer turn h = record {
  stands = h.stands;
  next = λ activity f below op rest there frames ops.
      let now : NextStands code rows st f op rest = h.next activity f below op rest there frames ops in
      record { reads = now.reads; names = now.names };
}
job_with_turn code rows st (ReleaseAt index) turn h = record {
  stands = h.stands;
  next = λ activity f below op rest there frames ops.
      let now : NextStands code rows st f op rest = h.next activity f below op rest there frames ops in
      record { reads = now.reads; names = now.names };
}

pub start_with_turn : (st : RunState) (index : ℕ) (turn : Option CodedTurn) → StartStands st index →
    (let with_turn : RunState = record st { last_choice = turn } in StartStands with_turn index)
start_with_turn st index turn h = h

-- Calls by their cases, and a frame on top of others.
use Rattle.std.specs.Prelude.{Bool, true, false, not, Option, Some, None, is_some, nat_lt, slice_get, unwrap_or, if◌then◌else◌}
use Rattle.std.proofs.Common.{◌≡◌, ◌∙◌, ℕ, suc, List, ◌∷◌, ◌++◌, length, refl, ap, sym, arith}
use Rattle.std.proofs.lemmas.Bool.{le-ltb, lt-ltb, ltb-false, ltb-true}
use Rattle.std.proofs.lemmas.List.{length-map}
use Rattle.scj_base.specs.declared.positions.Position.{Position}
use Rattle.scj_base.specs.declared.faults.RunFault.TheVariants.{ScopedCycle, CeilingViolation, DepthFull}
use Rattle.scj_model.specs.declared.events.Event.{Event}
use Rattle.scj_model.specs.Code.{code_of}
use Rattle.op_list.specs.Listed.{Listing}
use Rattle.scj_rules.specs.declared.views.Body.{Body}
use Rattle.scj_rules.specs.declared.views.Body.TheVariants.{Written, Empty}
use Rattle.scj_rules.specs.Bodies.{is_synchronized_body}
use Rattle.scj_rules.specs.Words.{◌>>=◌}
use Rattle.region_heap.specs.Contents.{Contents, live_object}
use Rattle.scj_model.specs.State.{Frame, Activity, Job, Object, State, object_at, with_activity}
use Rattle.scj_model.specs.Effects.{monitor_of}
use Rattle.scj_model.specs.Memory.{area_with_scope}
use Rattle.scj_model.specs.Steps.{fault_in, silently}
use Rattle.scj_model.specs.Apply.{called, ceiling_entered, is_full, opened_in, report_priority}
use Rattle.job_frames.specs.declared.activities.Activity.{Activity as StoredActivity}
use Rattle.job_frames.specs.declared.frames.Frame.{Frame as StoredFrame}
use Rattle.job_frames.specs.Frames.{activity_seen, below, frame_of, frames_of}
use Rattle.run_state.specs.Calls.{call_entered, call_opened}
use Rattle.run_state.specs.Tops.{moved_in, with_saved}
use Rattle.run_state.specs.Standing.{IsOnLiveObject}
use Rattle.run_state.specs.Steps.{HasOnTop}

-- ---- a frame on top

pub on_top_seen : (code : Listing) (g : Frame) (before after : StoredActivity) → HasOnTop code g before after →
    activity_seen code after ≡ record (activity_seen code before) { frames = g ∷ frames_of code before.frames }
on_top_seen code g before after h =
    ap (activity_seen code) h.whole ∙ ap (λ (f : Frame). (
    let a : Activity = record (activity_seen code before) { frames = f ∷ frames_of code before.frames } in a)) h.seen

pub without_top : (code : Listing) (g : Frame) (before after : StoredActivity) → HasOnTop code g before after →
    (let a : StoredActivity = record after { frames = below after.frames } in a) ≡ before
without_top code g before after h =
    ap (λ (x : StoredActivity). (let a : StoredActivity = record x { frames = below x.frames } in a)) h.whole

-- the frames below are as many as may be where one more is on top
pub full_below : (code : Listing) (g : Frame) (before after : StoredActivity) (n : ℕ) → HasOnTop code g before after →
    n ≡ length after.frames → nat_lt 64 n ≡ is_full (frames_of code before.frames)
full_below code g before after n h e =
    full_is (length (frames_of code before.frames)) n
    (e ∙ (ap (λ (a : StoredActivity). length a.frames) h.whole
    ∙ ap (λ (k : ℕ). suc k) (sym (length-map before.frames (frame_of code)))))
  where
    full_is : (k m : ℕ) → m ≡ suc k → nat_lt 64 m ≡ not (nat_lt k 64)
    full_is k m f = go (nat_lt k 64) refl
      where
        go : (b : Bool) → nat_lt k 64 ≡ b → nat_lt 64 m ≡ not b
        go true t = le-ltb 64 m (omega (arith, f, ltb-true k 64 t))
        go false t = lt-ltb 64 m (omega (arith, f, ltb-false k 64 t))

-- what the frame on top is, and what becomes of the activity when it changes
pub top_is : (code : Listing) (g : Frame) (before after : StoredActivity) (f : StoredFrame) →
    HasOnTop code g before after →
    Some f ≡ slice_get after.frames 0 → frame_of code f ≡ g
top_is code g before after f h e =
    let k : Some f ≡ Some h.frame = e ∙ ap (λ (a : StoredActivity). slice_get a.frames 0) h.whole in
    ap (λ (o : Option StoredFrame). frame_of code (unwrap_or o f)) k ∙ h.seen

pub none_on_top : (code : Listing) (g : Frame) (before after : StoredActivity) → HasOnTop code g before after →
    None ≡ slice_get after.frames 0 → ⊥
none_on_top code g before after h e =
    let k : None ≡ Some h.frame = e ∙ ap (λ (a : StoredActivity). slice_get a.frames 0) h.whole in cc

-- the priority that was before the call is told
pub priority_below : (code : Listing) (s : State) (job : Job) (g : Frame) (before after : StoredActivity) (ceiling : ℕ)
    (first second : List Event) → HasOnTop code g before after →
    second ≡ first ++ report_priority s job after.priority ceiling →
    second ≡ first ++ report_priority s job before.priority ceiling
priority_below code s job g before after ceiling first second h t =
    t ∙ ap (λ (a : StoredActivity). first ++ report_priority s job a.priority ceiling) h.whole

-- the frame on top saves the priority, or has moved into an area that it opened
pub entered_seen : (code : Listing) (g : Frame) (before after : StoredActivity) (frames : List StoredFrame) (ceiling : ℕ) →
    HasOnTop code g before after → frames ≡ with_saved after.priority after.frames →
    (let a : Activity = activity_seen code (record after { frames = frames; priority = ceiling }) in a)
    ≡ record (activity_seen code before) {
      frames = record g { saved = Some before.priority } ∷ frames_of code before.frames;
      priority = ceiling;
    }
entered_seen code g before after frames ceiling h e =
    ap (λ (fs : List StoredFrame). (let a : Activity =
    activity_seen code (record after { frames = fs; priority = ceiling }) in a)) e
    ∙ (ap (λ (x : StoredActivity). (let a : Activity =
    activity_seen code (record x { frames = with_saved x.priority x.frames; priority = ceiling }) in a)) h.whole
    ∙ ap (λ (x : Frame). (let b : Activity = record (activity_seen code before) {
      frames = record x { saved = Some before.priority } ∷ frames_of code before.frames;
      priority = ceiling;
    } in b)) h.seen)

pub moved_seen : (code : Listing) (g : Frame) (before after : StoredActivity) (frames : List StoredFrame) (areas : List ℕ)
    (area : ℕ) → HasOnTop code g before after → frames ≡ moved_in area after.frames → areas ≡ area ∷ after.areas →
    (let a : Activity = activity_seen code (record after { frames = frames; areas = areas }) in a)
    ≡ record (activity_seen code before) {
      frames = record g { area = area; opened = Some area } ∷ frames_of code before.frames;
      areas = area ∷ before.areas;
    }
moved_seen code g before after frames areas area h e o =
    ap (λ (fs : List StoredFrame). (let a : Activity =
    activity_seen code (record after { frames = fs; areas = areas }) in a)) e
    ∙ (ap (λ (os : List ℕ). (let a : Activity =
    activity_seen code (record after { frames = moved_in area after.frames; areas = os }) in a)) o
    ∙ (ap (λ (x : StoredActivity). (let a : Activity =
    activity_seen code (record x { frames = moved_in area x.frames; areas = area ∷ x.areas }) in a)) h.whole
    ∙ ap (λ (x : Frame). (let b : Activity = record (activity_seen code before) {
      frames = record x { area = area; opened = Some area } ∷ frames_of code before.frames;
      areas = area ∷ before.areas;
    } in b)) h.seen))

-- ---- calls

module _ (code : Listing) (s : State) (job : Job) (activity : Activity) (frames : List Frame) (position : Position)
    (g : Frame) where
  pub called_full : is_full frames ≡ true →
      called (code_of code.program) s job activity frames position g ≡ fault_in s job activity position DepthFull
  unfolding called
  called_full e = rw e refl

  pub called_plainly : is_full frames ≡ false → ceiling_entered (code_of code.program) s g ≡ None →
      called (code_of code.program) s job activity frames position g ≡ silently
      (with_activity s job (record activity { frames = g ∷ frames }))
  unfolding called
  called_plainly e c = rw (e, c) refl

  pub called_above : (ceiling : ℕ) → is_full frames ≡ false → ceiling_entered (code_of code.program) s g ≡ Some ceiling →
      nat_lt ceiling activity.priority ≡ true →
      called (code_of code.program) s job activity frames position g ≡ fault_in s job activity position CeilingViolation
  unfolding called
  called_above ceiling e c l = rw (e, c, l) refl

  pub called_entering : (ceiling : ℕ) → is_full frames ≡ false → ceiling_entered (code_of code.program) s g ≡ Some ceiling →
      nat_lt ceiling activity.priority ≡ false →
      called (code_of code.program) s job activity frames position g ≡ call_entered s job activity frames g ceiling
  unfolding called call_entered
  called_entering ceiling e c l = rw (e, c, l) refl

  -- ---- calls in a new area

  pub opened_in_cycle : (scope bytes : ℕ) → is_some (area_with_scope s scope activity.areas) ≡ true →
      opened_in s job activity frames position g scope bytes ≡ fault_in s job activity position ScopedCycle
  unfolding opened_in
  opened_in_cycle scope bytes e = rw e refl

  pub opened_in_full : (scope bytes : ℕ) → is_some (area_with_scope s scope activity.areas) ≡ false →
      is_full frames ≡ true → opened_in s job activity frames position g scope bytes ≡ fault_in s job activity position
      DepthFull
  unfolding opened_in
  opened_in_full scope bytes e f = rw (e, f) refl

  pub opened_in_new : (scope bytes : ℕ) → is_some (area_with_scope s scope activity.areas) ≡ false →
      is_full frames ≡ false →
      opened_in s job activity frames position g scope bytes
      ≡ call_opened s job activity frames position g scope (Some g.area) bytes
  unfolding opened_in call_opened
  opened_in_new scope bytes e f = rw (e, f) refl

-- ---- the ceiling of the monitor that is entered

module _ (code : Listing) (s : State) (g : Frame) where
  pub no_monitor : None ≡ monitor_of (code_of code.program) g → None ≡ ceiling_entered (code_of code.program) s g
  unfolding ceiling_entered
  no_monitor e = ap (λ (m : Option ℕ). m >>= object_at s >>= (λ (o : Object). Some o.ceiling)) e

  pub no_object : (r : ℕ) → Some r ≡ monitor_of (code_of code.program) g → None ≡ object_at s r → None ≡ ceiling_entered (code_of code.program) s g
  unfolding ceiling_entered
  no_object r e n =
      ap (λ (x : Option Object). x >>= (λ (o : Object). Some o.ceiling)) n
      ∙ ap (λ (m : Option ℕ). m >>= object_at s >>= (λ (o : Object). Some o.ceiling)) e

  pub ceiling_there : (r : ℕ) (object : Object) → Some r ≡ monitor_of (code_of code.program) g → Some object ≡ object_at s r →
      Some object.ceiling ≡ ceiling_entered (code_of code.program) s g
  unfolding ceiling_entered
  ceiling_there r object e n =
      ap (λ (x : Option Object). x >>= (λ (o : Object). Some o.ceiling)) n
      ∙ ap (λ (m : Option ℕ). m >>= object_at s >>= (λ (o : Object). Some o.ceiling)) e

-- the object whose monitor the highest frame enters is found, since it lies in an open area
pub live_monitor : (code : Listing) (m : Contents) (activity : StoredActivity) (f : StoredFrame) (r : ℕ) →
    IsOnLiveObject m activity → Some f ≡ slice_get activity.frames 0 → Some r ≡ monitor_of (code_of code.program) (frame_of code f) →
    live_object m r ≡ slice_get m.objects r
unfolding monitor_of
live_monitor code m activity f r live top e = live f r (sym top) (this_of f.body e)
  where
    by : (b : Bool) → Some r ≡ (if b then f.this else None) → f.this ≡ Some r
    by true h = sym h
    by false h = absurd (cc)

    this_of : (b : Body) →
        Some r ≡ (elim b [
          | Written node ↦ if is_synchronized_body (code_of code.program).program node then f.this else None
          | Empty ↦ None
        ]) → f.this ≡ Some r
    this_of (Written node) h = by (is_synchronized_body (code_of code.program).program node) h
    this_of Empty h = absurd (cc)

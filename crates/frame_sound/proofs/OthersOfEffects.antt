-- What each effect leaves as it was.
use Rattle.scj_model.specs.declared.events.Event.TheVariants.{Terminate}
use Rattle.std.specs.Prelude.{Option, Some, None, slice_get, slice_set, drop, ◌==◌, ◌++◌, if◌then◌else◌, is_some, nat_lt, not, option_map, option_to_list, unwrap_or, map}
use Rattle.std.proofs.Common.{◌≡◌, ℕ, ◌≤◌, List, [], ◌∷◌, length, Bool, true, false, refl, sym, ◌∙◌, ap, subst, arith, inl, inr, length-append}
use Rattle.std.proofs.lemmas.Bool.Decides.{nat_tests}
use Rattle.scj_base.specs.declared.faults.RunFault.{RunFault}
use Rattle.scj_base.specs.declared.faults.RunFault.TheVariants.{CeilingViolation, DepthFull, MemoryFull, NotInitializing, ScopedCycle, StoreFull, TooManyHandlers}
use Rattle.scj_base.specs.declared.positions.Position.{Position}
use Rattle.scj_base.specs.declared.values.Value.{Value}
use Rattle.scj_base.specs.declared.values.Value.TheVariants.{Null}
use Rattle.scj_rules.specs.Words.{is_among}
use Rattle.accepted_laws.proofs.Lists.{get_left, length_set}
use Rattle.accepted_laws.proofs.Tools.{some_inj}
use Rattle.scj_model.specs.declared.operations.SeqOp.TheVariants.{Finished}
use Rattle.scj_model.specs.declared.phases.Phase.TheVariants.{Over}
use Rattle.scj_model.specs.Code.{Code}
use Rattle.scj_model.specs.State.{MemoryArea, Object, Frame, Activity, Ended, Job, TheSequencer, ReleaseAt, State, changed, is_exec, is_init, object_at, with_activity, is_waiting}
use Rattle.scj_model.specs.Registry.{handler_number, most_handlers, new_row}
use Rattle.scj_model.specs.Memory.{area_with_scope, closed, has_room, has_store_for, new_object}
use Rattle.scj_model.specs.Steps.{Step, closed_all, fault_in, allocating, job_ended, opening, silently, reporting}
use Rattle.scj_model.specs.Effects.{Effect, Goes, Prints, Makes, Stores, StoresStatic, SetsHidden, SetsCeiling, Calls, Opens, Leaves, AsksRegistration, AsksRelease, AsksTermination, Faults, Stuck}
use Rattle.scj_model.specs.Apply.{applied, asks_for_end, called, ceiling_entered, frame_left, is_full, is_sequencer, most_waiting, opened_in, registered, release_taken, released, returned, takes_releases, termination, termination_asked, waiting_of, with_ceiling, with_first, with_frame, without, report_dropped, dropped_release}
use Rattle.frame_sound.specs.OwnJob.{opened_by}
use Rattle.frame_sound.specs.Others.{AreaStays, KeepsOthers, ObjectStays}
use Rattle.frame_sound.proofs.Changes.{changed_at, changed_off, with_value}
use Rattle.frame_sound.proofs.HiddenSlots.{length_drop}
use Rattle.frame_sound.proofs.OwnEnds.{closed_all_is, closed_is}
use Rattle.frame_sound.proofs.OthersOfReleases.{asked_keeps, dropped_keep, row_keeps, taken_keeps, handler_is}
use Rattle.frame_sound.proofs.OthersOfChanges.{activity_keeps, activity_none, closed_all_keeps, closed_keeps, status_keeps}
use Rattle.frame_sound.proofs.Others.{area_is, keeps_then, memory_keeps, object_is, sequencer_keeps}

-- ---- what an effect has to be for it

-- a frame closes an area that its job opened; hidden slots are some of an object's slots
abbrev pub StaysWithin : State → List Frame → Effect → Type 0
StaysWithin s frames (Leaves h v) =
    (a : ℕ) → is_among a (option_to_list h.opened) ≡ true → is_among a (opened_by frames) ≡ true
StaysWithin s frames (SetsHidden h r values) = (o : Object) → object_at s r ≡ Some o → length values ≤ length o.slots
StaysWithin s frames _ = Unit {0}

-- ---- results

module _ (s : State) (job : Job) (frames : List Frame) where
  abbrev Keeps : Step → Type 0
  Keeps step = KeepsOthers s job frames step.state

  pub record KeepsIf (o : Option Step) : Type 0 where
    pub is : (step : Step) → o ≡ Some step → Keeps step

  keeps_some : (step : Step) → Keeps step → KeepsIf (Some step)
  keeps_some step h = record { is = λ q e. subst (λ (x : Step). Keeps x) (some_inj step q e) h }

  keeps_none : KeepsIf None
  keeps_none = record { is = λ q e. absurd (cc (e)) }

  either : (b : Bool) (x y : Step) → Keeps x → Keeps y → Keeps (if b then x else y)
  either true x y h k = h
  either false x y h k = k

  option : {A : Type 0} (o : Option A) (x : Step) (f : A → Step) → Keeps x → ((a : A) → Keeps (f a)) →
      Keeps (elim o [ None ↦ x | Some a ↦ f a ])
  option None x f h k = h
  option (Some a) x f h k = k a

  mapped : {A : Type 0} (o : Option A) (f : A → Step) → ((a : A) → Keeps (f a)) → KeepsIf (option_map f o)
  mapped None f h = keeps_none
  mapped (Some a) f h = keeps_some (f a) (h a)

  -- memory changes, and then the job has another activity
  memory_then : (areas : List MemoryArea) (objects : List Object) (statics : List Value) →
      ((a : ℕ) (x : MemoryArea) → slice_get s.areas a ≡ Some x → AreaStays (record s { areas = areas }) frames a x) →
      ((r : ℕ) (o : Object) → object_at s r ≡ Some o → ObjectStays (record s { objects = objects }) r o) →
      (a : Activity) →
      KeepsOthers s job frames
      (with_activity (record s { areas = areas; objects = objects; statics = statics }) job a)
  memory_then areas objects statics ha ho a =
      keeps_then s job frames (record s { areas = areas; objects = objects; statics = statics }) _ (λ position e. e)
      (memory_keeps s job frames areas objects statics ha ho) (activity_keeps _ job frames a)

  -- one object changes, and keeps its class, its area and its size
  object_changes : (f : Object → Object) (r : ℕ) → ((o : Object) → (f o).class ≡ o.class) →
      ((o : Object) → (f o).area ≡ o.area) →
      ((o : Object) → object_at s r ≡ Some o → length (f o).slots ≡ length o.slots) → (n : ℕ) (o : Object) →
      object_at s n ≡ Some o → ObjectStays (record s { objects = changed f r s.objects }) n o
  object_changes f r class area size n o e = go (r == n) refl
    where
      go : (t : Bool) → (r == n) ≡ t → ObjectStays (record s { objects = changed f r s.objects }) n o
      go true t =
          let same : r ≡ n = grind (arith, nat_tests) in
          let there : slice_get s.objects r ≡ Some o = ap (slice_get s.objects) same ∙ e in
          record {
            object = f o;
            found = ap (slice_get (changed f r s.objects)) (sym same) ∙ changed_at f r s.objects o there;
            class = class o;
            area = area o;
            size = size o there;
          }
      go false t =
          record {
            object = o;
            found = changed_off f r s.objects n (λ same. grind (arith, nat_tests)) ∙ e;
            class = refl;
            area = refl;
            size = refl;
          }

pub fault_keeps : (s : State) (job : Job) (activity : Activity) (position : Position) (fault : RunFault) →
    KeepsOthers s job activity.frames (fault_in s job activity position fault).state
unfolding fault_in is_waiting
fault_keeps s TheSequencer activity position fault =
    sequencer_keeps s TheSequencer activity.frames Over Finished None s.activity refl (inr (refl, refl, refl))
fault_keeps s (ReleaseAt n) activity position fault =
    keeps_then s (ReleaseAt n) activity.frames (closed_all s activity.frames) _
    (λ p e. ap (λ (u : State). slice_get u.releases p) (closed_all_is s activity.frames) ∙ e)
    (closed_all_keeps s (ReleaseAt n) activity.frames)
    (status_keeps (closed_all s activity.frames) n Ended activity.frames refl)

-- ---- all effects

module _ (code : Code) (s : State) (job : Job) (activity : Activity) (below : List Frame) (position : Position) where
  abbrev Keeping : Step → Type 0
  Keeping step = KeepsOthers s job activity.frames step.state

  abbrev All : Effect → Type 0
  All e = KeepsIf s job activity.frames (applied code s job activity below position e)

  faults : (fault : RunFault) → Keeping (fault_in s job activity position fault)
  faults fault = fault_keeps s job activity position fault

  one_of : (b : Bool) (x y : Step) → Keeping x → Keeping y → Keeping (if b then x else y)
  one_of b x y h k = either s job activity.frames b x y h k

  called_keeps : (frames : List Frame) (g : Frame) → Keeping (called code s job activity frames position g)
  unfolding called
  called_keeps frames g =
      one_of (is_full frames) _ _ (faults DepthFull)
      (option s job activity.frames (ceiling_entered code s g) _ _ (activity_keeps s job activity.frames _)
      (λ ceiling. one_of (nat_lt ceiling activity.priority) _ _ (faults CeilingViolation)
      (activity_keeps s job activity.frames _)))

  opened_keeps : (frames : List Frame) (g : Frame) (scope bytes : ℕ) →
      Keeping (opened_in s job activity frames position g scope bytes)
  unfolding opened_in opening
  opened_keeps frames g scope bytes =
      one_of (is_some (area_with_scope s scope activity.areas)) _ _ (faults ScopedCycle)
      (one_of (is_full frames) _ _ (faults DepthFull)
      (one_of (has_store_for s bytes) _ _
      (memory_then s job activity.frames (s.areas ++ new ∷ []) s.objects s.statics
      (λ a x e. inl (get_left s.areas (new ∷ []) a x e)) (object_is s) _) (faults StoreFull)))
    where
      new : MemoryArea
      new = record { scope = scope; parent = Some g.area; bytes = bytes; is_open = true }

  ended_keeps : (t : State) (a : Activity) (value : Option Value) →
      KeepsOthers t job activity.frames (job_ended t job a value).state
  unfolding job_ended is_waiting
  ended_keeps t a value = go job
    where
      go : (j : Job) → KeepsOthers t j activity.frames (job_ended t j a value).state
      go TheSequencer =
          sequencer_keeps t TheSequencer activity.frames t.phase t.operation (Some (unwrap_or value Null)) a refl
          (inl (refl, refl))
      go (ReleaseAt n) = status_keeps t n Ended activity.frames refl

  left_keeps : (h : Frame) (value : Option Value) →
      ((a : ℕ) → is_among a (option_to_list h.opened) ≡ true → is_among a (opened_by activity.frames) ≡ true) →
      Keeping (frame_left s job activity h below value)
  unfolding frame_left
  left_keeps h value own =
      go below
      (record activity {
        frames = returned value below;
        areas = without h.opened activity.areas;
        priority = unwrap_or h.saved activity.priority;
      })
    where
      closing : (u : State) → KeepsOthers (closed s h.opened) job activity.frames u →
          KeepsOthers s job activity.frames u
      closing u k =
          keeps_then s job activity.frames (closed s h.opened) u
          (λ p e. ap (λ (v : State). slice_get v.releases p) (closed_is s h.opened) ∙ e)
          (closed_keeps s job activity.frames h.opened own) k

      go : (fs : List Frame) (a : Activity) → KeepsOthers s job activity.frames (elim fs as (λ z. Step) [
        | [] ↦ job_ended (closed s h.opened) job a value
        | g ∷ gs ↦ silently (with_activity (closed s h.opened) job a)
      ]).state
      go [] a = closing _ (ended_keeps (closed s h.opened) a value)
      go (g ∷ gs) a = closing _ (activity_keeps (closed s h.opened) job activity.frames a)

  -- behind the frame that has gone on
  module _ (h : Frame) (r : ℕ) where
    abbrev t : State
    t = with_frame s job activity h below

    goes_keeps : KeepsOthers s job activity.frames t
    goes_keeps = activity_keeps s job activity.frames (record activity { frames = h ∷ below })

    next : (u : State) → KeepsOthers t job activity.frames u → KeepsOthers s job activity.frames u
    next u k =
        keeps_then s job activity.frames t u (activity_none s job (record activity { frames = h ∷ below })) goes_keeps k

    registered_keeps : (o : Object) → Keeping (registered code s job activity position r o t)
    unfolding registered
    registered_keeps o =
        one_of (not (is_init s.phase)) _ _ (faults NotInitializing)
        (one_of (is_some (handler_number s.registry r)) _ _ goes_keeps
        (one_of (not (nat_lt (length s.registry) most_handlers)) _ _ (faults TooManyHandlers)
        (next _ (row_keeps t job activity.frames (new_row code.program r o)))))

    -- a release of a registered handler is taken in
    taken_in_keeps : (handler : ℕ) → takes_releases t ≡ true → handler_number t.registry r ≡ Some handler →
        Keeping (release_taken t handler)
    unfolding release_taken
    taken_in_keeps handler takes registered =
        one_of (not (nat_lt (length (waiting_of t handler)) most_waiting)) _ _ goes_keeps
        (next _ (taken_keeps t job activity.frames _ refl (handler_is t.registry r handler registered) takes))

    released_keeps : Keeping (released t r)
    unfolding released
    released_keeps = go (takes_releases t) refl (handler_number t.registry r) refl
      where
        go : (b : Bool) → takes_releases t ≡ b → (o : Option ℕ) → handler_number t.registry r ≡ o →
            Keeping (if b then (elim o as (λ z. Step) [ None ↦ silently t | Some handler ↦ release_taken t handler ])
            else silently t)
        go false takes o e = goes_keeps
        go true takes None e = goes_keeps
        go true takes (Some handler) e = taken_in_keeps handler takes e

    termination_keeps : Keeping (termination_asked t r)
    unfolding termination_asked termination
    termination_keeps = go (asks_for_end t.mission t.phase t.is_end_asked r) (is_exec t.phase) refl
      where
        go : (b d : Bool) → is_exec t.phase ≡ d → Keeping
            (if b then (if d then reporting (record t { is_end_asked = true; releases = map dropped_release t.releases })
            (Terminate t.unit ∷ report_dropped t) else silently (record t { is_end_asked = true })) else silently t)
        go false d e = goes_keeps
        go true true e = next _ (dropped_keep t job activity.frames)
        go true false e = next _ (asked_keeps t job activity.frames e)

  some : (step : Step) → Keeping step → KeepsIf s job activity.frames (Some step)
  some step h = keeps_some s job activity.frames step h

  with_objects : (f : Object → Object) (r : ℕ) → ((o : Object) → (f o).class ≡ o.class) →
      ((o : Object) → (f o).area ≡ o.area) →
      ((o : Object) → object_at s r ≡ Some o → length (f o).slots ≡ length o.slots) → (a : Activity) →
      KeepsOthers s job activity.frames (with_activity (record s { objects = changed f r s.objects }) job a)
  with_objects f r class area size a =
      memory_then s job activity.frames s.areas (changed f r s.objects) s.statics (area_is s activity.frames)
      (object_changes s job activity.frames f r class area size) a

  as_long : (values : List Value) (o : Object) → length values ≤ length o.slots →
      length (values ++ drop (length values) o.slots) ≡ length o.slots
  as_long values o l =
      let a = length-append values (drop (length values) o.slots) in
      let d = length_drop (length values) o.slots in omega (arith, l, a, d)

  pub applied_keeps : (e : Effect) → StaysWithin s activity.frames e → All e
  unfolding applied allocating
  applied_keeps (Goes h) x = some _ (goes_keeps h 0)
  applied_keeps (Prints h label value) x = some _ (goes_keeps h 0)
  applied_keeps (Makes h class values) x =
      some _ (one_of (has_room s h.area (length values)) _ _
      (memory_then s job activity.frames s.areas (s.objects ++ new_object class h.area values ∷ []) s.statics
      (area_is s activity.frames)
      (λ r o e. record {
        object = o;
        found = get_left s.objects (new_object class h.area values ∷ []) r o e;
        class = refl;
        area = refl;
        size = refl;
      }) _) (faults MemoryFull))
  applied_keeps (Stores h r slot v) x =
      some _ (with_objects (with_value slot v) r (λ o. refl) (λ o. refl) (λ o e. length_set o.slots slot v) _)
  applied_keeps (StoresStatic h n v) x =
      some _ (memory_then s job activity.frames s.areas s.objects (slice_set s.statics n v) (area_is s activity.frames)
      (object_is s) _)
  applied_keeps (SetsHidden h r values) x =
      some _ (with_objects (with_first values) r (λ o. refl) (λ o. refl) (λ o e. as_long values o (x o e)) _)
  applied_keeps (SetsCeiling h r ceiling) x = go (is_sequencer job)
    where
      go : (b : Bool) → KeepsIf s job activity.frames (if b
          then Some
          (silently
          (with_frame (record s { objects = changed (with_ceiling ceiling) r s.objects }) job activity h below))
          else Some (fault_in s job activity position NotInitializing))
      go true = some _ (with_objects (with_ceiling ceiling) r (λ o. refl) (λ o. refl) (λ o e. refl) _)
      go false = some _ (faults NotInitializing)
  applied_keeps (Calls h g) x = some _ (called_keeps (h ∷ below) g)
  applied_keeps (Opens h g scope bytes) x = some _ (opened_keeps (h ∷ below) g scope bytes)
  applied_keeps (Leaves h v) x = some _ (left_keeps h v x)
  applied_keeps (AsksRegistration h r) x = mapped s job activity.frames (object_at s r) _ (λ o. registered_keeps h r o)
  applied_keeps (AsksRelease h r) x = some _ (released_keeps h r)
  applied_keeps (AsksTermination h r) x = some _ (termination_keeps h r)
  applied_keeps (Faults fault) x = some _ (faults fault)
  applied_keeps Stuck x = keeps_none s job activity.frames

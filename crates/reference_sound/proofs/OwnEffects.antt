-- What an effect does keeps the references of the job that acts: the frame goes on, stores, and makes objects.
use Rattle.std.specs.Prelude.{Option, Some, slice_set, if◌then◌else◌, ◌++◌, ℤ, option_to_list}
use Rattle.std.proofs.Common.{◌≡◌, ℕ, List, ◌∷◌, length, Bool, true, false, refl, sym, ◌∙◌, ap, subst}
use Rattle.scj_base.specs.declared.faults.RunFault.TheVariants.{MemoryFull, NotInitializing}
use Rattle.scj_base.specs.declared.positions.Position.{Position}
use Rattle.scj_base.specs.declared.values.Value.{Value}
use Rattle.scj_base.specs.declared.values.Value.TheVariants.{At}
use Rattle.scj_model.specs.Code.{Code}
use Rattle.scj_model.specs.State.{Frame, Activity, Job, State, activity_of, changed}
use Rattle.scj_model.specs.Memory.{has_room, with_object, with_slot, new_object}
use Rattle.scj_model.specs.Steps.{silently, fault_in, allocating}
use Rattle.scj_model.specs.Effects.{Effect, Goes, Prints, Makes, Stores, StoresStatic, SetsHidden, SetsCeiling}
use Rattle.scj_model.specs.Apply.{with_frame, with_first, with_ceiling, applied, is_sequencer}
use Rattle.frame_sound.specs.Places.{world_of}
use Rattle.frame_sound.specs.Fine.{IsOnList, list_of}
use Rattle.frame_sound.specs.EffectsFine.{IsSame}
use Rattle.frame_sound.proofs.Changes.{with_value}
use Rattle.frame_sound.proofs.Frames.{same_list}
use Rattle.reference_sound.specs.References.{EachReference, JobHolds, MemoryHolds, ParentsAreEarlier, ReferencesHold}
use Rattle.reference_sound.specs.Objects.{ObjectsStay}
use Rattle.reference_sound.proofs.Plain.{each_weaker}
use Rattle.reference_sound.proofs.Memory.{memory_made, memory_stored, memory_hidden, memory_ceiling, memory_static}
use Rattle.reference_sound.proofs.Held.{AllLead, all_lead, goes_on, faults_hold}
use Rattle.reference_sound.specs.EffectsHold.{EffectHolds}
use Rattle.reference_sound.proofs.Objects.{objects_same, objects_made, objects_changed, on_list_still, job_holds}

module _ (code : Code) (s : State) (job : Job) (activity : Activity) (is : activity_of s job ≡ Some activity)
    (base : List ℕ) (held : ReferencesHold s base) (f : Frame) (below : List Frame)
    (frames : activity.frames ≡ f ∷ below) (position : Position) where
  abbrev list : List ℕ
  list = list_of base (f ∷ below)

  abbrev pub HoldsHere : Frame → Type 0
  HoldsHere h = EachReference (IsOnList (world_of s) list) h.locals

  abbrev pub Asks : Effect → Type 0
  Asks e = EffectHolds (world_of s) (IsOnList (world_of s) list) e

  abbrev pub Kept : Effect → Type 0
  Kept e = AllLead base (applied code s job activity below position e)

  pub frames_hold : JobHolds (world_of s) base (f ∷ below)
  frames_hold = subst (JobHolds (world_of s) base) frames (held.jobs job activity is)

  -- a frame in the place of the one that acts, in a state with other objects
  pub frame_holds : (m : State) → ObjectsStay (world_of s) (world_of m) → (h k : Frame) → IsSame f h →
      k.opened ≡ h.opened → HoldsHere k → JobHolds (world_of m) base (k ∷ below)
  frame_holds m stay h k same opened locals = (
    subst (λ l. EachReference (IsOnList (world_of m) l) k.locals)
        (same_list code (world_of s) base f h below same ∙ ap (λ (o : Option ℕ). option_to_list o ++ list_of base below)
        (sym opened))
        (each_weaker (IsOnList (world_of s) list) (IsOnList (world_of m) list)
        (on_list_still (world_of s) (world_of m) stay list) k.locals locals),
    job_holds (world_of s) (world_of m) stay base below frames_hold.1,
  )

  -- the job with this frame, in a state where the releases and the sequencer are as they were
  pub framed : (m : State) → m.releases ≡ s.releases → m.activity ≡ s.activity → (h k : Frame) → IsSame f h →
      k.opened ≡ h.opened → HoldsHere k → MemoryHolds (world_of m) m.statics → ParentsAreEarlier (world_of m).areas →
      ObjectsStay (world_of s) (world_of m) → ReferencesHold (with_frame m job activity k below) base
  framed m e g h k same opened locals memory order stay =
      goes_on s base held job m e g (record activity { frames = k ∷ below }) memory order stay
      (frame_holds m stay h k same opened locals)

  pub plain_holds : (h : Frame) → IsSame f h → HoldsHere h → ReferencesHold (with_frame s job activity h below) base
  plain_holds h same locals =
      framed s refl refl h h same refl locals held.memory held.order (objects_same (world_of s))

  pub goes_hold : (h : Frame) → IsSame f h → Asks (Goes h) → Kept (Goes h)
  unfolding applied
  goes_hold h same a = all_lead base _ (plain_holds h same a)

  pub prints_hold : (h : Frame) (label : ℕ) (value : ℤ) → IsSame f h → Asks (Prints h label value) →
      Kept (Prints h label value)
  unfolding applied
  prints_hold h label value same a = all_lead base _ (plain_holds h same a)

  pub stores_hold : (h : Frame) (r slot : ℕ) (v : Value) → IsSame f h → Asks (Stores h r slot v) →
      Kept (Stores h r slot v)
  unfolding applied
  stores_hold h r slot v same a =
      let stay = objects_changed s (with_value slot v) (λ o. refl) (λ o. refl) r in
      all_lead base _ (framed (with_slot s r slot v) refl refl h h same refl a.0
      (memory_stored (world_of s).areas s.objects s.statics held.memory r slot v a.1 stay) held.order stay)

  pub statics_hold : (h : Frame) (n : ℕ) (v : Value) → IsSame f h → Asks (StoresStatic h n v) →
      Kept (StoresStatic h n v)
  unfolding applied
  statics_hold h n v same a =
      all_lead base _ (framed (record s { statics = slice_set s.statics n v }) refl refl h h same refl a.0
      (memory_static (world_of s).areas s.objects s.statics held.memory n v a.1) held.order (objects_same (world_of s)))

  pub hidden_hold : (h : Frame) (r : ℕ) (values : List Value) → IsSame f h → Asks (SetsHidden h r values) →
      Kept (SetsHidden h r values)
  unfolding applied
  hidden_hold h r values same a =
      let stay = objects_changed s (with_first values) (λ o. refl) (λ o. refl) r in
      all_lead base _
      (framed (record s { objects = changed (with_first values) r s.objects }) refl refl h h same refl
      a.0 (memory_hidden (world_of s).areas s.objects s.statics held.memory r values a.1 stay) held.order stay)

  pub ceiling_holds : (h : Frame) (r ceiling : ℕ) → IsSame f h → Asks (SetsCeiling h r ceiling) →
      Kept (SetsCeiling h r ceiling)
  unfolding applied
  ceiling_holds h r ceiling same a = go (is_sequencer job)
    where
      go : (t : Bool) → AllLead base
          (if t then Some
          (silently
          (with_frame (record s { objects = changed (with_ceiling ceiling) r s.objects }) job activity h below))
          else Some (fault_in s job activity position NotInitializing))
      go true =
          let stay = objects_changed s (with_ceiling ceiling) (λ o. refl) (λ o. refl) r in
          all_lead base _
          (framed (record s { objects = changed (with_ceiling ceiling) r s.objects }) refl refl h h same
          refl a (memory_ceiling (world_of s).areas s.objects s.statics held.memory r ceiling stay) held.order stay)
      go false = all_lead base _ (faults_hold s base held job activity position NotInitializing)

  pub makes_hold : (h : Frame) (class : ℕ) (values : List Value) → IsSame f h → Asks (Makes h class values) →
      Kept (Makes h class values)
  unfolding applied allocating
  makes_hold h class values same a = go (has_room s h.area (length values))
    where
      go : (t : Bool) → AllLead base
          (Some (if t then silently (with_frame (with_object s class h.area values) job activity
          (record h { operands = At (length s.objects) ∷ h.operands }) below)
          else fault_in s job activity position MemoryFull))
      go true =
          let stay = objects_made s class h.area values in
          all_lead base _ (framed (with_object s class h.area values) refl refl h
          (record h { operands = At (length s.objects) ∷ h.operands }) same refl a.0
          (memory_made (world_of s).areas s.objects s.statics held.memory (new_object class h.area values) a.1 stay)
          held.order stay)
      go false = all_lead base _ (faults_hold s base held job activity position MemoryFull)

-- Each effect keeps what is known of handlers and releases.
use Rattle.std.specs.Prelude.{Option, Some, None, slice_set, length, nat_lt, is_some, option_map, if◌then◌else◌, unwrap_or}
use Rattle.std.proofs.Common.{◌≡◌, ℕ, List, [], ◌∷◌, Bool, true, false, refl, ◌∙◌, subst}
use Rattle.scj_base.specs.declared.faults.RunFault.{RunFault}
use Rattle.scj_base.specs.declared.faults.RunFault.TheVariants.{ScopedCycle, CeilingViolation, NotInitializing, DepthFull, MemoryFull, StoreFull}
use Rattle.scj_base.specs.declared.positions.Position.{Position}
use Rattle.scj_base.specs.declared.values.Value.{Value}
use Rattle.scj_base.specs.declared.values.Value.TheVariants.{At}
use Rattle.accepted_laws.proofs.Tools.{some_inj}
use Rattle.scj_model.specs.declared.events.Event.{Event}
use Rattle.scj_model.specs.Code.{Code}
use Rattle.scj_model.specs.State.{Object, Frame, Activity, Job, State, changed, activity_of, with_activity, object_at, is_init}
use Rattle.scj_model.specs.Registry.{new_row}
use Rattle.scj_model.specs.Memory.{new_object, closed, has_room, has_store_for, area_with_scope, with_object, with_area, with_slot}
use Rattle.scj_model.specs.Steps.{Step, silently, reporting, allocating, opening, fault_in, job_ended}
use Rattle.scj_model.specs.Effects.{Effect, Goes, Prints, Makes, Stores, StoresStatic, SetsHidden, SetsCeiling, Calls, Opens, Leaves, AsksRegistration, AsksRelease, AsksTermination, Faults, Stuck}
use Rattle.scj_model.specs.Apply.{applied, called, opened_in, returned, without, frame_left, is_full, ceiling_entered, report_priority, registered, with_first, with_ceiling, with_frame, is_sequencer}
use Rattle.frame_sound.specs.Places.{world_of}
use Rattle.frame_sound.proofs.Changes.{new_is_kept, change_is_kept, with_value}
use Rattle.frame_sound.proofs.OwnJobs.{same_activity}
use Rattle.mission_sound.specs.Bases.{Base}
use Rattle.mission_sound.specs.Invariant.{RowFine, HandlersFine}
use Rattle.mission_sound.proofs.Carried.{row_kept}
use Rattle.mission_sound.proofs.Handling.{handlers_stay}
use Rattle.mission_sound.proofs.HandlersKept.{Outside, objects_same, same_objects, goes_on, job_is_ended, closes, fault_handled, release_asked, end_is_asked, registration_asked}

pub record HandlersIf (code : Code) (base : Base) (o : Option Step) : Type 0 where
  pub is : (step : Step) → o ≡ Some step → HandlersFine code step.state base

module _ (code : Code) (base : Base) (s : State) (job : Job) (activity : Activity)
    (acts : activity_of s job ≡ Some activity) (outside : Outside code base job s) (h : HandlersFine code s base)
    (below : List Frame) (position : Position) where
  abbrev Handlers : State → Type 0
  Handlers t = HandlersFine code t base

  abbrev Kept : Effect → Type 0
  Kept e = HandlersIf code base (applied code s job activity below position e)

  some_if : (step : Step) → Handlers step.state → HandlersIf code base (Some step)
  some_if step k = record { is = λ q e. subst (λ (x : Step). Handlers x.state) (some_inj step q e) k }

  fault : (f : RunFault) → Handlers (fault_in s job activity position f).state
  fault f = fault_handled code base s job activity position f outside h

  -- the job goes on in a state with other memory
  moves : (t : State) → t.releases ≡ s.releases → t.activity ≡ s.activity → Handlers t → (a : Activity) →
      Handlers (with_activity t job a)
  moves t e g k a = goes_on code base t job activity a (same_activity s t job e g ∙ acts) k

  here : (a : Activity) → Handlers (with_activity s job a)
  here a = moves s refl refl h a

  -- ---- memory

  makes : (f : Frame) (class : ℕ) (slots : List Value) → Kept (Makes f class slots)
  unfolding applied allocating
  makes f class slots = go (has_room s f.area (length slots))
    where
      made : State
      made = with_object s class f.area slots

      go : (b : Bool) → HandlersIf code base (Some (if b
          then silently
          (with_frame made job activity (record f { operands = At (length s.objects) ∷ f.operands }) below)
          else fault_in s job activity position MemoryFull))
      go true =
          some_if _ (moves made refl refl (handlers_stay code base s made
          (new_is_kept (world_of s).areas s.objects (new_object class f.area slots)) h) _)
      go false = some_if _ (fault MemoryFull)

  changes : (f : Object → Object) → ((o : Object) → (f o).class ≡ o.class) → ((o : Object) → (f o).area ≡ o.area) →
      (r : ℕ) → Handlers (record s { objects = changed f r s.objects })
  changes f class_same area_same r =
      handlers_stay code base s (record s { objects = changed f r s.objects })
      (change_is_kept code.program (world_of s).areas s.objects f class_same area_same r) h

  stores : (f : Frame) (r slot : ℕ) (v : Value) → Kept (Stores f r slot v)
  unfolding applied
  stores f r slot v =
      some_if _ (moves (with_slot s r slot v) refl refl (changes (with_value slot v) (λ o. refl) (λ o. refl) r) _)

  sets_hidden : (f : Frame) (r : ℕ) (values : List Value) → Kept (SetsHidden f r values)
  unfolding applied
  sets_hidden f r values =
      some_if _ (moves (record s { objects = changed (with_first values) r s.objects }) refl refl
      (changes (with_first values) (λ o. refl) (λ o. refl) r) _)

  sets_ceiling : (f : Frame) (r ceiling : ℕ) → Kept (SetsCeiling f r ceiling)
  unfolding applied
  sets_ceiling f r ceiling = go (is_sequencer job)
    where
      go : (b : Bool) → HandlersIf code base (if b
          then Some
          (silently
          (with_frame (record s { objects = changed (with_ceiling ceiling) r s.objects }) job activity f below))
          else Some (fault_in s job activity position NotInitializing))
      go true =
          some_if _ (moves (record s { objects = changed (with_ceiling ceiling) r s.objects }) refl refl
          (changes (with_ceiling ceiling) (λ o. refl) (λ o. refl) r) _)
      go false = some_if _ (fault NotInitializing)

  stores_static : (f : Frame) (n : ℕ) (v : Value) → Kept (StoresStatic f n v)
  unfolding applied
  stores_static f n v =
      some_if _ (moves (record s { statics = slice_set s.statics n v }) refl refl
      (handlers_stay code base s (record s { statics = slice_set s.statics n v }) (objects_same code base s s refl) h)
      _)

  -- ---- calls

  calls : (f g : Frame) → Kept (Calls f g)
  unfolding applied called
  calls f g = go (is_full (f ∷ below)) (ceiling_entered code s g)
    where
      entered : (ceiling : ℕ) (b : Bool) (events : List Event) → HandlersIf code base (Some (if b
          then fault_in s job activity position CeilingViolation
          else reporting
          (with_activity s job (record activity {
            frames = record g { saved = Some activity.priority } ∷ (f ∷ below);
            priority = ceiling;
          })) events))
      entered ceiling true events = some_if _ (fault CeilingViolation)
      entered ceiling false events = some_if _ (here _)

      go : (b : Bool) (o : Option ℕ) → HandlersIf code base (Some (if b then fault_in s job activity position DepthFull
          else (elim o as (λ z. Step) [
            | None ↦ silently (with_activity s job (record activity { frames = g ∷ (f ∷ below) }))
            | Some ceiling ↦
                if nat_lt ceiling activity.priority then fault_in s job activity position CeilingViolation
                else reporting
                (with_activity s job (record activity {
                  frames = record g { saved = Some activity.priority } ∷ (f ∷ below);
                  priority = ceiling;
                })) (report_priority s job activity.priority ceiling)
          ])))
      go true o = some_if _ (fault DepthFull)
      go false None = some_if _ (here _)
      go false (Some ceiling) =
          entered ceiling (nat_lt ceiling activity.priority) (report_priority s job activity.priority ceiling)

  opens : (f g : Frame) (scope bytes : ℕ) → Kept (Opens f g scope bytes)
  unfolding applied opened_in opening
  opens f g scope bytes =
      go (is_some (area_with_scope s scope activity.areas)) (is_full (f ∷ below)) (has_store_for s bytes)
    where
      opened : State
      opened = with_area s scope (Some g.area) bytes

      go : (a b c : Bool) → HandlersIf code base (Some (if a then fault_in s job activity position ScopedCycle
          else (if b then fault_in s job activity position DepthFull
          else (if c then silently (with_activity opened job (record activity {
            frames = record g { area = length s.areas; opened = Some (length s.areas) } ∷ (f ∷ below);
            areas = length s.areas ∷ activity.areas;
          })) else fault_in s job activity position StoreFull))))
      go true b c = some_if _ (fault ScopedCycle)
      go false true c = some_if _ (fault DepthFull)
      go false false true =
          some_if _
          (moves opened refl refl (handlers_stay code base s opened (objects_same code base s opened refl) h) _)
      go false false false = some_if _ (fault StoreFull)

  -- ---- leaving

  closed_same : (o : Option ℕ) → activity_of (closed s o) job ≡ activity_of s job
  unfolding closed
  closed_same None = refl
  closed_same (Some a) = same_activity s (closed s (Some a)) job refl refl

  leaves : (f : Frame) (value : Option Value) → Kept (Leaves f value)
  unfolding applied frame_left
  leaves f value = some_if _ (go below after)
    where
      k : Handlers (closed s f.opened)
      k = closes code base s f.opened h

      after : Activity
      after =
          record activity {
            frames = returned value below;
            areas = without f.opened activity.areas;
            priority = unwrap_or f.saved activity.priority;
          }

      go : (frames : List Frame) (a : Activity) → Handlers (elim frames as (λ z. Step) [
        | [] ↦ job_ended (closed s f.opened) job a value
        | g ∷ gs ↦ silently (with_activity (closed s f.opened) job a)
      ]).state
      go [] a = job_is_ended code base (closed s f.opened) job a value k
      go (g ∷ gs) a = goes_on code base (closed s f.opened) job activity a (closed_same f.opened ∙ acts) k

  -- ---- what is asked of the mission

  asks_release : (f : Frame) (r : ℕ) → Kept (AsksRelease f r)
  unfolding applied
  asks_release f r = some_if _ (release_asked code base (with_frame s job activity f below) r (here _))

  asks_termination : (f : Frame) (r : ℕ) → Kept (AsksTermination f r)
  unfolding applied
  asks_termination f r = some_if _ (end_is_asked code base (with_frame s job activity f below) r (here _))

  asks_registration : (f : Frame) (r : ℕ) → ((o : Object) → object_at s r ≡ Some o → is_init s.phase ≡ true →
      RowFine code.program (world_of s) base (new_row code.program r o)) → Kept (AsksRegistration f r)
  unfolding applied
  asks_registration f r row = go (object_at s r) refl
    where
      after : State
      after = with_frame s job activity f below

      go : (o : Option Object) → object_at s r ≡ o → HandlersIf code base
          (option_map (λ (o : Object). registered code s job activity position r o after) o)
      go None there = record { is = λ q e. absurd (cc (e)) }
      go (Some o) there =
          some_if _ (registration_asked code base s job activity position r o after outside h (here _)
          (λ e. row_kept code.program (world_of s) (world_of after)
          (objects_same code base s after (same_objects code base s job (record activity { frames = f ∷ below }))) base
          (new_row code.program r o) (row o there e)))

  -- ---- all of them

  pub handlers_of_effect : (e : Effect) → ((f : Frame) (r : ℕ) (o : Object) → e ≡ AsksRegistration f r →
      object_at s r ≡ Some o → is_init s.phase ≡ true →
      RowFine code.program (world_of s) base (new_row code.program r o)) → Kept e
  unfolding applied
  handlers_of_effect (Goes f) row = some_if _ (here _)
  handlers_of_effect (Prints f label value) row = some_if _ (here _)
  handlers_of_effect (Makes f class slots) row = makes f class slots
  handlers_of_effect (Stores f r slot value) row = stores f r slot value
  handlers_of_effect (StoresStatic f n value) row = stores_static f n value
  handlers_of_effect (SetsHidden f r values) row = sets_hidden f r values
  handlers_of_effect (SetsCeiling f r ceiling) row = sets_ceiling f r ceiling
  handlers_of_effect (Calls f g) row = calls f g
  handlers_of_effect (Opens f g scope bytes) row = opens f g scope bytes
  handlers_of_effect (Leaves f value) row = leaves f value
  handlers_of_effect (AsksRegistration f r) row = asks_registration f r (λ o there e. row f r o refl there e)
  handlers_of_effect (AsksRelease f r) row = asks_release f r
  handlers_of_effect (AsksTermination f r) row = asks_termination f r
  handlers_of_effect (Faults f) row = some_if _ (fault f)
  handlers_of_effect Stuck row = record { is = λ q e. absurd (cc (e)) }

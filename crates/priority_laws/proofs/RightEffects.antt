-- Priorities stay right under each effect of an operation, whichever job does it.
use Rattle.std.proofs.Common.{◌≡◌, ℕ, not, List, [], ◌∷◌, length, Option, Some, None, refl, ap, ◌∙◌}
use Rattle.std.specs.Prelude.{slice_get, slice_set, is_some, nat_lt, unwrap_or}
use Rattle.scj_base.specs.declared.positions.Position.{Position}
use Rattle.scj_base.specs.declared.faults.RunFault.{RunFault}
use Rattle.scj_base.specs.declared.values.Value.{Value}
use Rattle.scj_model.specs.Code.{Code}
use Rattle.scj_model.specs.State.{Object, Frame, Activity, Job, TheSequencer, ReleaseAt, State, with_activity, object_at, changed, is_init}
use Rattle.scj_model.specs.Registry.{handler_number, most_handlers}
use Rattle.scj_model.specs.Memory.{closed, has_room, has_store_for, area_with_scope, with_area, with_object, with_slot}
use Rattle.scj_model.specs.Steps.{Step, closed_all, job_ended, fault_in, allocating, opening, silently}
use Rattle.scj_model.specs.Effects.{Effect, Goes, Prints, Makes, Stores, StoresStatic, SetsHidden, SetsCeiling, Calls, Opens, Leaves, AsksRegistration, AsksRelease, AsksTermination, Faults, Stuck}
use Rattle.scj_model.specs.Apply.{is_sequencer, is_full, ceiling_entered, called, opened_in, returned, without, frame_left, registered, with_frame, with_first, with_ceiling, applied}
use Rattle.scj_model.proofs.Reaching.{Gives, gives_some}
use Rattle.priority_laws.specs.Handlers.{IsPriority, IsHandlerClass, BeginWithPriority, PrioritiesAreRight}
use Rattle.priority_laws.proofs.StepCases.{step_if, step_option, gives_nothing, gives_if, gives_mapped}
use Rattle.priority_laws.proofs.Still.{IsStill, still_released, still_asked}
use Rattle.priority_laws.proofs.Shapes.{MakesRightly, SparesPriority}
use Rattle.priority_laws.proofs.RightObjects.{right_same, right_slot, right_hidden, right_ceiling, right_object, right_row}

-- what an effect has to keep
abbrev pub IsRight : Code → State → Effect → Type 0
IsRight code s (Makes f class slots) = MakesRightly code class slots
IsRight code s (Stores f r slot value) = SparesPriority code (λ q. slice_get s.objects q) r slot
IsRight code s (SetsHidden f r values) = BeginWithPriority values
IsRight code s (SetsCeiling f r ceiling) = IsPriority ceiling
IsRight code s (AsksRegistration f r) =
    (o : Object) → object_at s r ≡ Some o → IsHandlerClass code.program o.class
IsRight code s _ = Unit {0}

pub record Right (code : Code) (s : State) (e : Effect) : Type 0 where
  pub is : IsRight code s e

-- ---- states with the same objects and handlers

pub right_still : (code : Code) (s t : State) → PrioritiesAreRight code s → IsStill s t → PrioritiesAreRight code t
right_still code s t h k = right_same code s h t k.objects k.registry

pub right_activity : (code : Code) (s : State) (job : Job) (a : Activity) → PrioritiesAreRight code s →
    PrioritiesAreRight code (with_activity s job a)
unfolding with_activity
right_activity code s TheSequencer a h = right_same code s h _ refl refl
right_activity code s (ReleaseAt p) a h = right_same code s h _ refl refl

objects_with : (s : State) (job : Job) (a : Activity) → (with_activity s job a).objects ≡ s.objects
unfolding with_activity
objects_with s TheSequencer a = refl
objects_with s (ReleaseAt p) a = refl

pub right_closed : (code : Code) (s : State) (a : Option ℕ) → PrioritiesAreRight code s →
    PrioritiesAreRight code (closed s a)
unfolding closed
right_closed code s None h = h
right_closed code s (Some a) h = right_same code s h _ refl refl

right_closed_all : (code : Code) (s : State) (fs : List Frame) → PrioritiesAreRight code s →
    PrioritiesAreRight code (closed_all s fs)
unfolding closed_all
right_closed_all code s [] h = h
right_closed_all code s (f ∷ fs) h = right_closed_all code (closed s f.opened) fs (right_closed code s f.opened h)

pub right_fault : (code : Code) (s : State) (job : Job) (a : Activity) (position : Position) (fault : RunFault) →
    PrioritiesAreRight code s → PrioritiesAreRight code (fault_in s job a position fault).state
unfolding fault_in
right_fault code s TheSequencer a position fault h = right_same code s h _ refl refl
right_fault code s (ReleaseAt p) a position fault h =
    right_same code (closed_all s a.frames) (right_closed_all code s a.frames h) _ refl refl

right_ended : (code : Code) (s : State) (job : Job) (a : Activity) (value : Option Value) → PrioritiesAreRight code s →
    PrioritiesAreRight code (job_ended s job a value).state
unfolding job_ended
right_ended code s TheSequencer a value h = right_same code s h _ refl refl
right_ended code s (ReleaseAt p) a value h = right_same code s h _ refl refl

-- ---- the effects

module _ (code : Code) (s : State) (h : PrioritiesAreRight code s) (job : Job) (a : Activity) (below : List Frame)
    (position : Position) where
  goes : (u : State) → PrioritiesAreRight code u → (f : Frame) → PrioritiesAreRight code (with_frame u job a f below)
  goes u k f = right_activity code u job (record a { frames = f ∷ below }) k

  faults : (fault : RunFault) → PrioritiesAreRight code (fault_in s job a position fault).state
  faults fault = right_fault code s job a position fault h

  pub right_made : (class area : ℕ) (slots : List Value) → MakesRightly code class slots → (next : State → ℕ → Step) →
      ((u : State) (q : ℕ) → PrioritiesAreRight code u → PrioritiesAreRight code (next u q).state) →
      PrioritiesAreRight code (allocating s job a position class area slots next).state
  unfolding allocating
  right_made class area slots m next more =
      step_if (PrioritiesAreRight code) (has_room s area (length slots)) _ _
      (λ e. more (with_object s class area slots) (length s.objects) (right_object code s h class area slots m))
      (λ e. faults _)

  calls : (frames : List Frame) (g : Frame) → PrioritiesAreRight code (called code s job a frames position g).state
  unfolding called
  calls frames g =
      step_if (PrioritiesAreRight code) (is_full frames) _ _ (λ e. faults _)
      (λ e. step_option (PrioritiesAreRight code) (ceiling_entered code s g) _ _ (λ e. right_activity code s job _ h)
      (λ ceiling e. step_if (PrioritiesAreRight code) (nat_lt ceiling a.priority) _ _ (λ e. faults _)
      (λ e. right_activity code s job _ h)))

  pub right_opening : (scope : ℕ) (parent : Option ℕ) (bytes : ℕ) (next : State → ℕ → Step) →
      ((u : State) (q : ℕ) → PrioritiesAreRight code u → PrioritiesAreRight code (next u q).state) →
      PrioritiesAreRight code (opening s job a position scope parent bytes next).state
  unfolding opening
  right_opening scope parent bytes next more =
      step_if (PrioritiesAreRight code) (has_store_for s bytes) _ _
      (λ e. more (with_area s scope parent bytes) (length s.areas) (right_same code s h _ refl refl)) (λ e. faults _)

  opens : (frames : List Frame) (g : Frame) (scope bytes : ℕ) →
      PrioritiesAreRight code (opened_in s job a frames position g scope bytes).state
  unfolding opened_in
  opens frames g scope bytes =
      step_if (PrioritiesAreRight code) (is_some (area_with_scope s scope a.areas)) _ _ (λ e. faults _)
      (λ e. step_if (PrioritiesAreRight code) (is_full frames) _ _ (λ e. faults _)
      (λ e. right_opening scope (Some g.area) bytes _ (λ u q k. right_activity code u job _ k)))

  leaves : (f : Frame) (value : Option Value) → PrioritiesAreRight code (frame_left s job a f below value).state
  unfolding frame_left
  leaves f value = go below
    where
      after : Activity
      after =
          record a {
            frames = returned value below;
            areas = without f.opened a.areas;
            priority = unwrap_or f.saved
                a.priority;
          }

      go : (fs : List Frame) →
          PrioritiesAreRight code
          (elim fs as (λ z. Step) [
            | [] ↦ job_ended (closed s f.opened) job after value
            | g
                ∷ gs ↦ silently (with_activity (closed s f.opened) job after)
          ]).state
      go [] = right_ended code (closed s f.opened) job after value (right_closed code s f.opened h)
      go (g ∷ gs) = right_activity code (closed s f.opened) job after (right_closed code s f.opened h)

  registers : (f : Frame) (r : ℕ) (o : Object) → object_at s r ≡ Some o → IsHandlerClass code.program o.class →
      PrioritiesAreRight code (registered code s job a position r o (with_frame s job a f below)).state
  unfolding registered
  registers f r o there c =
      step_if (PrioritiesAreRight code) (not (is_init s.phase)) _ _ (λ e. faults _)
      (λ e. step_if (PrioritiesAreRight code) (is_some (handler_number s.registry r)) _ _ (λ e. goes s h f)
      (λ e. step_if (PrioritiesAreRight code) (not (nat_lt (length s.registry) most_handlers)) _ _ (λ e. faults _)
      (λ e. right_row code (with_frame s job a f below) (goes s h f) _ refl r o
      (ap (λ (xs : List Object). slice_get xs r) (objects_with s job (record a { frames = f ∷ below })) ∙ there) c
      refl)))

  pub right_applied : (e : Effect) → Right code s e →
      Gives (PrioritiesAreRight code) (applied code s job a below position e)
  unfolding applied
  right_applied (Goes f) x = gives_some _ _ (goes s h f)
  right_applied (Prints f label value) x = gives_some _ _ (goes s h f)
  right_applied (Makes f class slots) x = gives_some _ _ (right_made class f.area slots x.is _ (λ u q k. goes u k _))
  right_applied (Stores f r slot value) x =
      gives_some _ _ (goes (with_slot s r slot value) (right_slot code s h r slot value x.is) f)
  right_applied (StoresStatic f n value) x =
      gives_some _ _ (goes (record s { statics = slice_set s.statics n value }) (right_same code s h _ refl refl) f)
  right_applied (SetsHidden f r values) x =
      gives_some _ _
      (goes (record s { objects = changed (with_first values) r s.objects }) (right_hidden code s h r values x.is)
      f)
  right_applied (SetsCeiling f r ceiling) x =
      gives_if _ (is_sequencer job) _ _
      (λ e. gives_some _ _
      (goes (record s { objects = changed (with_ceiling ceiling) r s.objects })
      (right_ceiling code s h r ceiling x.is) f))
      (λ e. gives_some _ _ (faults _))
  right_applied (Calls f g) x = gives_some _ _ (calls (f ∷ below) g)
  right_applied (Opens f g scope bytes) x = gives_some _ _ (opens (f ∷ below) g scope bytes)
  right_applied (Leaves f value) x = gives_some _ _ (leaves f value)
  right_applied (AsksRegistration f r) x = gives_mapped _ (object_at s r) _ (λ o e. registers f r o e (x.is o e))
  right_applied (AsksRelease f r) x =
      gives_some _ _
      (right_still code (with_frame s job a f below) _ (goes s h f) (still_released (with_frame s job a f below) r))
  right_applied (AsksTermination f r) x =
      gives_some _ _
      (right_still code (with_frame s job a f below) _ (goes s h f) (still_asked (with_frame s job a f below) r))
  right_applied (Faults fault) x = gives_some _ _ (faults fault)
  right_applied Stuck x = gives_nothing _

-- An effect doesn't see the activity of the sequencer in the state, where the sequencer acts: it is given beside the
-- state, and put back at the end. Only a fault leaves it, and then the run is over.
use Rattle.std.specs.Prelude.{Option, Some, None, if◌then◌else◌, slice_get, ◌==◌, is_some, nat_lt, not, option_map}
use Rattle.std.proofs.Common.{◌≡◌, ℕ, List, [], ◌∷◌, length, refl, ◌∙◌, ap}
use Rattle.scj_base.specs.declared.faults.RunFault.{RunFault}
use Rattle.scj_base.specs.declared.faults.RunFault.TheVariants.{CeilingViolation, DepthFull, MemoryFull, NotInitializing, ScopedCycle, StoreFull, TooManyHandlers}
use Rattle.scj_base.specs.declared.positions.Position.{Position}
use Rattle.scj_base.specs.declared.values.Value.{Value}
use Rattle.scj_rules.specs.Words.{holds}
use Rattle.scj_model.specs.Code.{Code}
use Rattle.scj_model.specs.State.{Object, Frame, Activity, Job, MemoryArea, TheSequencer, State, with_activity, object_at, area_at, is_init, is_over}
use Rattle.scj_model.specs.Memory.{has_room, has_store_for, used, reserved, closed, area_with_scope}
use Rattle.scj_model.specs.Registry.{handler_number, most_handlers}
use Rattle.scj_model.specs.Steps.{Step, silently, reporting, allocating, opening, fault_in, job_ended}
use Rattle.scj_model.specs.Effects.{Effect, Goes, Prints, Makes, Stores, StoresStatic, SetsHidden, SetsCeiling, Calls, Opens, Leaves, AsksRegistration, AsksRelease, AsksTermination, Faults, Stuck}
use Rattle.scj_model.specs.Apply.{applied, called, ceiling_entered, frame_left, is_full, opened_in, registered, with_frame, report_priority}
use Rattle.unit_steps.specs.Alike.{over, IsAlikeStep, IsAlikeTry, none, some}
use Rattle.unit_steps.proofs.Alike.{stays, each_way, either_way}

-- ---- what areas are found doesn't depend on activities

pub scope_sees_areas : (s t : State) → t.areas ≡ s.areas → (scope : ℕ) (areas : List ℕ) →
    area_with_scope t scope areas ≡ area_with_scope s scope areas
unfolding area_with_scope
scope_sees_areas s t e scope [] = refl
scope_sees_areas s t e scope (a ∷ areas) =
    ap (λ (xs : List MemoryArea). if holds (slice_get xs a) (λ x. x.scope == scope) then Some a
    else area_with_scope t scope areas) e
    ∙ ap (λ o. if holds (area_at s a) (λ x. x.scope == scope) then Some a else o)
    (scope_sees_areas s t e scope areas)

module _ (code : Code) (s : State) (x : Activity) where
  abbrev t : State
  t = record s { activity = x }

  pub closed_beside : (opened : Option ℕ) → closed t opened ≡ record (closed s opened) { activity = x }
  unfolding closed
  closed_beside None = refl
  closed_beside (Some a) = refl

  broken : (activity : Activity) (position : Position) (fault : RunFault) →
      IsAlikeStep (fault_in s TheSequencer activity position fault) (fault_in t TheSequencer activity position fault)
  unfolding fault_in is_over
  broken activity position fault = record { states = over x refl refl; events = refl }

  abbrev seq : Job
  seq = TheSequencer

  -- a frame that is called: the ceiling of its monitor is asked of the objects
  called_alike : (activity : Activity) (frames : List Frame) (position : Position) (g : Frame) →
      IsAlikeStep (called code s seq activity frames position g) (called code t seq activity frames position g)
  unfolding called ceiling_entered with_activity
  called_alike activity frames position g =
      each_way (is_full frames) (broken activity position DepthFull) (entered (ceiling_entered code s g))
    where
      entered : (o : Option ℕ) →
          IsAlikeStep
          (elim o as (λ z. Step) [
            | None ↦ silently (with_activity s seq (record activity { frames = g ∷ frames }))
            | Some ceiling ↦
                if nat_lt ceiling activity.priority then fault_in s seq activity position CeilingViolation
                else reporting
                (with_activity s seq (record activity {
                  frames = record g { saved = Some activity.priority } ∷ frames;
                  priority = ceiling;
                }))
                (report_priority s seq activity.priority ceiling)
          ])
          (elim o as (λ z. Step) [
            | None ↦ silently (with_activity t seq (record activity { frames = g ∷ frames }))
            | Some ceiling ↦
                if nat_lt ceiling activity.priority then fault_in t seq activity position CeilingViolation
                else reporting
                (with_activity t seq (record activity {
                  frames = record g { saved = Some activity.priority } ∷ frames;
                  priority = ceiling;
                }))
                (report_priority t seq activity.priority ceiling)
          ])
      entered None = stays
      entered (Some ceiling) =
          each_way (nat_lt ceiling activity.priority) (broken activity position CeilingViolation) stays

  opened_alike : (activity : Activity) (frames : List Frame) (position : Position) (g : Frame) (scope bytes : ℕ) →
      IsAlikeStep (opened_in s seq activity frames position g scope bytes)
      (opened_in t seq activity frames position g scope bytes)
  unfolding opened_in opening has_store_for reserved with_activity
  opened_alike activity frames position g scope bytes =
      either_way (is_some (area_with_scope s scope activity.areas)) (is_some (area_with_scope t scope activity.areas))
      (ap (λ (o : Option ℕ). is_some o) (scope_sees_areas s t refl scope activity.areas))
      (broken activity position ScopedCycle)
      (each_way (is_full frames) (broken activity position DepthFull)
      (each_way (has_store_for s bytes) stays (broken activity position StoreFull)))

  left_alike : (activity : Activity) (f : Frame) (below : List Frame) (value : Option Value) →
      IsAlikeStep (frame_left s seq activity f below value) (frame_left t seq activity f below value)
  unfolding frame_left job_ended with_activity closed
  left_alike activity f below value = go f.opened below
    where
      go : (opened : Option ℕ) (below : List Frame) →
          IsAlikeStep (frame_left s seq activity (record f { opened = opened }) below value)
          (frame_left t seq activity (record f { opened = opened }) below value)
      go None [] = stays
      go None (g ∷ gs) = stays
      go (Some a) [] = stays
      go (Some a) (g ∷ gs) = stays

  registered_alike : (activity : Activity) (f : Frame) (below : List Frame) (position : Position) (r : ℕ) (o : Object) →
      IsAlikeStep (registered code s seq activity position r o (with_frame s seq activity f below))
      (registered code t seq activity position r o (with_frame t seq activity f below))
  unfolding registered with_activity
  registered_alike activity f below position r o =
      each_way (not (is_init s.phase)) (broken activity position NotInitializing)
      (each_way (is_some (handler_number s.registry r)) stays
      (each_way (not (nat_lt (length s.registry) most_handlers)) (broken activity position TooManyHandlers) stays))

  pub sequencer_unseen : (activity : Activity) (below : List Frame) (position : Position) (e : Effect) →
      IsAlikeTry (applied code s seq activity below position e) (applied code t seq activity below position e)
  unfolding applied allocating has_room used with_activity
  sequencer_unseen activity below position (Goes f) = some stays
  sequencer_unseen activity below position (Prints f label value) = some stays
  sequencer_unseen activity below position (Makes f class slots) =
      some (each_way (has_room s f.area (length slots)) stays (broken activity position MemoryFull))
  sequencer_unseen activity below position (Stores f r slot value) = some stays
  sequencer_unseen activity below position (StoresStatic f n value) = some stays
  sequencer_unseen activity below position (SetsHidden f r values) = some stays
  sequencer_unseen activity below position (SetsCeiling f r ceiling) = some stays
  sequencer_unseen activity below position (Calls f g) = some (called_alike activity (f ∷ below) position g)
  sequencer_unseen activity below position (Opens f g scope bytes) =
      some (opened_alike activity (f ∷ below) position g scope bytes)
  sequencer_unseen activity below position (Leaves f value) = some (left_alike activity f below value)
  sequencer_unseen activity below position (AsksRegistration f r) = asked (object_at s r)
    where
      asked : (o : Option Object) →
          IsAlikeTry
          (option_map (λ (x : Object). registered code s seq activity position r x (with_frame s seq activity f below)) o)
          (option_map (λ (x : Object). registered code t seq activity position r x (with_frame t seq activity f below)) o)
      asked None = none
      asked (Some o) = some (registered_alike activity f below position r o)
  sequencer_unseen activity below position (AsksRelease f r) = some stays
  sequencer_unseen activity below position (AsksTermination f r) = some stays
  sequencer_unseen activity below position (Faults fault) = some (broken activity position fault)
  sequencer_unseen activity below position Stuck = none

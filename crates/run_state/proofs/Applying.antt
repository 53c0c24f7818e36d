-- What an effect leads to depends on the highest frame of the activity by the area alone that this frame opened: so the
-- frame may stand there as it was before the operation, or as the operation left it.
use Rattle.std.specs.Prelude.{Option, Some, None, if◌then◌else◌, nat_lt, option_map}
use Rattle.std.proofs.Common.{◌≡◌, ℕ, List, [], ◌∷◌, refl, ap}
use Rattle.scj_base.specs.declared.positions.Position.{Position}
use Rattle.scj_base.specs.declared.faults.RunFault.{RunFault}
use Rattle.scj_base.specs.declared.faults.RunFault.TheVariants.{MemoryFull, StoreFull, NotInitializing, TooManyHandlers, DepthFull, CeilingViolation, ScopedCycle}
use Rattle.scj_model.specs.declared.events.Event.TheVariants.{Fault, End}
use Rattle.scj_model.specs.Code.{Code}
use Rattle.scj_model.specs.State.{Frame, Activity, Object, Ended, Release, Job, TheSequencer, ReleaseAt, State, object_at, with_activity, with_status}
use Rattle.scj_model.specs.Memory.{closed}
use Rattle.scj_model.specs.Steps.{Step, allocating, closed_all, fault_in, of_release, opening, silently, reporting}
use Rattle.scj_model.specs.Effects.{Effect, Goes, Prints, Makes, Stores, StoresStatic, SetsHidden, SetsCeiling, Calls, Opens, Leaves, AsksRegistration, AsksRelease, AsksTermination, Faults, Stuck}
use Rattle.scj_model.specs.Apply.{applied, called, ceiling_entered, frame_left, is_full, opened_in, registered, report_priority, with_frame}

module _ (code : Code) (s : State) (job : Job) (activity : Activity) (below : List Frame) (position : Position) where
  abbrev pub topped : Frame → Activity
  topped f = record activity { frames = f ∷ below }

  fault_alike : (f g : Frame) (fault : RunFault) → f.opened ≡ g.opened →
      fault_in s job (topped f) position fault ≡ fault_in s job (topped g) position fault
  unfolding fault_in closed_all
  fault_alike f g fault e = go job
    where
      go : (j : Job) → fault_in s j (topped f) position fault ≡ fault_in s j (topped g) position fault
      go TheSequencer = refl
      go (ReleaseAt n) =
          ap (λ (o : Option ℕ). reporting (with_status (closed_all (closed s o) below) n Ended)
          (Fault s.unit fault position ∷ of_release s (ReleaseAt n) (λ (r : Release). End s.unit r.handler r.number ∷ [])))
          e

  registered_alike : (f g : Frame) (r : ℕ) (o : Object) (after : State) → f.opened ≡ g.opened →
      registered code s job (topped f) position r o after ≡ registered code s job (topped g) position r o after
  unfolding registered
  registered_alike f g r o after e =
      rw (fault_alike f g NotInitializing e, fault_alike f g TooManyHandlers e) refl

  abbrev called_by : Frame → Frame → Activity → Option ℕ → Step
  called_by h k a found =
      if is_full (h ∷ below) then fault_in s job a position DepthFull
      else (elim found [
        | None ↦ silently (with_activity s job (record a { frames = k ∷ h ∷ below }))
        | Some ceiling ↦
            if nat_lt ceiling a.priority then fault_in s job a position CeilingViolation
            else reporting
            (with_activity s job (record a {
              frames = record k { saved = Some a.priority } ∷ h ∷ below;
              priority = ceiling;
            }))
            (report_priority s job a.priority ceiling)
      ])

  called_alike : (f g h k : Frame) → f.opened ≡ g.opened → (found : Option ℕ) →
      called_by h k (topped f) found ≡ called_by h k (topped g) found
  called_alike f g h k e None = rw (fault_alike f g DepthFull e) refl
  called_alike f g h k e (Some ceiling) =
      rw (fault_alike f g DepthFull e, fault_alike f g CeilingViolation e) refl

  pub applied_alike : (f g : Frame) → f.opened ≡ g.opened → (effect : Effect) →
      applied code s job (topped f) below position effect ≡ applied code s job (topped g) below position effect
  unfolding applied allocating called opened_in opening frame_left
  applied_alike f g e (Goes h) = refl
  applied_alike f g e (Prints h label value) = refl
  applied_alike f g e (Makes h class slots) = rw (fault_alike f g MemoryFull e) refl
  applied_alike f g e (Stores h r slot value) = refl
  applied_alike f g e (StoresStatic h n value) = refl
  applied_alike f g e (SetsHidden h r values) = refl
  applied_alike f g e (SetsCeiling h r ceiling) = rw (fault_alike f g NotInitializing e) refl
  applied_alike f g e (Calls h k) =
      ap (λ (t : Step). Some t) (called_alike f g h k e (ceiling_entered code s k))
  applied_alike f g e (Opens h k scope bytes) =
      rw (fault_alike f g ScopedCycle e, fault_alike f g DepthFull e, fault_alike f g StoreFull e) refl
  applied_alike f g e (Leaves h value) = refl
  applied_alike f g e (AsksRegistration h r) = go (object_at s r)
    where
      go : (o : Option Object) →
          option_map (λ (x : Object). registered code s job (topped f) position r x (with_frame s job activity h below)) o
          ≡ option_map (λ (x : Object). registered code s job (topped g) position r x (with_frame s job activity h below))
          o
      go None = refl
      go (Some x) = ap (λ (t : Step). Some t) (registered_alike f g r x (with_frame s job activity h below) e)
  applied_alike f g e (AsksRelease h r) = refl
  applied_alike f g e (AsksTermination h r) = refl
  applied_alike f g e (Faults fault) = ap (λ (t : Step). Some t) (fault_alike f g fault e)
  applied_alike f g e Stuck = refl

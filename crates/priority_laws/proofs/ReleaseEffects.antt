-- What each effect of a release's operation does to the order.
use Rattle.std.proofs.Common.{◌≡◌, ℕ, true, false, List, [], ◌∷◌, Option, Some, None, refl, sym, ◌∙◌, subst, arith}
use Rattle.std.specs.Prelude.{slice_get, unwrap_or}
use Rattle.scj_base.specs.declared.positions.Position.{Position}
use Rattle.scj_base.specs.declared.faults.RunFault.{RunFault}
use Rattle.scj_base.specs.declared.values.Value.{Value}
use Rattle.scj_model.specs.declared.phases.Phase.{Phase}
use Rattle.scj_model.specs.declared.phases.Phase.TheVariants.{Boot, Next, Init, Exec, Cleanup, Over}
use Rattle.scj_model.specs.Code.{Code}
use Rattle.scj_model.specs.State.{Object, Frame, Activity, Release, ReleaseAt, State, with_activity, is_exec, is_init}
use Rattle.scj_model.specs.Memory.{closed}
use Rattle.scj_model.specs.Steps.{Step, closed_all, job_ended, fault_in, silently}
use Rattle.scj_model.specs.Apply.{without, returned, frame_left, with_frame}
use Rattle.priority_laws.specs.Nesting.{opened_by}
use Rattle.priority_laws.proofs.AreaMoves.{AreasMove, areas_stay, closed_move, all_closed}
use Rattle.priority_laws.proofs.ReleaseMoves.{KeepsCeilings, ceilings_same, StandsAs, rises_same, guards_same, guards_kept, opened_same, rises_returned, guards_returned, opened_returned, IsNear, ReleaseMoves, moves_on, moves_out}

-- ---- states that differ in memory alone

pub near_same : (s : State) → IsNear s s
near_same s =
    record {
      phase = refl;
      activity = refl;
      outcome = refl;
      registry = refl;
      releases = refl;
      objects = ceilings_same s.objects;
    }

pub near_objects : (s : State) (objects : List Object) → KeepsCeilings s.objects objects →
    IsNear s (record s { objects = objects })
near_objects s objects k =
    record { phase = refl; activity = refl; outcome = refl; registry = refl; releases = refl; objects = k }

near_closed : (s : State) (a : Option ℕ) → IsNear s (closed s a)
unfolding closed
near_closed s None = near_same s
near_closed s (Some a) =
    record {
      phase = refl;
      activity = refl;
      outcome = refl;
      registry = refl;
      releases = refl;
      objects = ceilings_same s.objects;
    }

near_then : (s t u : State) → IsNear s t → t.objects ≡ s.objects → IsNear t u → IsNear s u
near_then s t u h same k =
    record {
      phase = k.phase ∙ h.phase;
      activity = k.activity ∙ h.activity;
      outcome = k.outcome ∙ h.outcome;
      registry = k.registry ∙ h.registry;
      releases = k.releases ∙ h.releases;
      objects = subst (λ objects. KeepsCeilings objects u.objects) same k.objects;
    }

objects_closed : (s : State) (a : Option ℕ) → (closed s a).objects ≡ s.objects
unfolding closed
objects_closed s None = refl
objects_closed s (Some a) = refl

near_closed_all : (s : State) (fs : List Frame) → IsNear s (closed_all s fs)
unfolding closed_all
near_closed_all s [] = near_same s
near_closed_all s (f ∷ fs) =
    near_then s (closed s f.opened) _ (near_closed s f.opened) (objects_closed s f.opened)
    (near_closed_all (closed s f.opened) fs)

pub not_init : (phase : Phase) → is_exec phase ≡ true → is_init phase ≡ false
unfolding is_exec is_init
not_init Boot h = refl
not_init Next h = refl
not_init Init h = absurd (cc (h))
not_init Exec h = refl
not_init Cleanup h = refl
not_init Over h = refl

-- ---- a fault ends the release

pub moves_fault : (code : Code) (condition : Type 0) (s : State) (p : ℕ) (r : Release) →
    slice_get s.releases p ≡ Some r → (priority : ℕ) (old : List Frame) (a : Activity) → a.frames ≡ old →
    (position : Position) (fault : RunFault) → ReleaseMoves code condition s p r.handler priority old
    (fault_in s (ReleaseAt p) a position fault).state
unfolding fault_in
moves_fault code condition s p r there priority old a same position fault =
    moves_out code condition s p r there priority old (closed_all s a.frames) (near_closed_all s a.frames)
    (subst (λ fs. AreasMove s.areas (closed_all s a.frames).areas (opened_by fs) []) same (all_closed s a.frames))

-- ---- the effects

module _ (code : Code) (s : State) (p : ℕ) (r : Release) (there : slice_get s.releases p ≡ Some r)
    (a : Activity) (f : Frame) (below : List Frame)
    (frames : a.frames ≡ f ∷ below) where
  pub fault_moves : (condition : Type 0) (position : Position) (fault : RunFault) →
      ReleaseMoves code condition s p r.handler a.priority (f ∷ below) (fault_in s (ReleaseAt p) a position fault).state
  fault_moves condition position fault = moves_fault code condition s p r there a.priority (f ∷ below) a frames position fault

  -- the frame stands where it stood
  pub stays_on : (condition : Type 0) (u : State) → IsNear s u → s.areas ≡ u.areas → (h : Frame) → StandsAs f h →
      ReleaseMoves code condition s p r.handler a.priority (f ∷ below) (with_frame u (ReleaseAt p) a h below)
  stays_on condition u near same h k =
      moves_on code condition s p r there a.priority (f ∷ below) u near (record a { frames = h ∷ below })
      (λ own x. rises_same f h below own a.priority k x) (λ most c own x l. l)
      (λ c g. guards_kept code s.objects u.objects near.objects a.priority (h ∷ below)
      (guards_same code s.objects f h below a.priority k g))
      (subst (λ areas. AreasMove s.areas areas (opened_by (f ∷ below)) (opened_by (h ∷ below))) same
      (subst (λ xs. AreasMove s.areas s.areas (opened_by (f ∷ below)) xs) (sym (opened_same f h below k))
      (areas_stay s.areas (opened_by (f ∷ below)))))

  -- a frame leaves
  pub left_moves : (condition : Type 0) (h : Frame) (value : Option Value) → StandsAs f h →
      ReleaseMoves code condition s p r.handler a.priority (f ∷ below)
      (frame_left s (ReleaseAt p) a h below value).state
  unfolding frame_left job_ended
  left_moves condition h value k = go below refl
    where
      areas_left : AreasMove s.areas (closed s h.opened).areas (opened_by (f ∷ below)) (opened_by below)
      areas_left = subst (λ xs. AreasMove s.areas (closed s h.opened).areas xs (opened_by below))
          (opened_same f h below k) (closed_move s h.opened (opened_by below))

      after : Activity
      after =
          record a {
            frames = returned value below;
            areas = without h.opened a.areas;
            priority = unwrap_or h.saved
                a.priority;
          }

      go : (fs : List Frame) → below ≡ fs → ReleaseMoves code condition s p r.handler a.priority (f ∷ below)
          (elim fs as (λ z. Step) [
            | [] ↦ job_ended (closed s h.opened) (ReleaseAt p) after value
            | g
                ∷ gs ↦ silently (with_activity (closed s h.opened) (ReleaseAt p) after)
          ]).state
      go [] e =
          moves_out code condition s p r there a.priority (f ∷ below) (closed s h.opened) (near_closed s h.opened)
          (subst (λ fs. AreasMove s.areas (closed s h.opened).areas (opened_by (f ∷ below)) (opened_by fs)) e
          areas_left)
      go (g ∷ gs) e =
          moves_on code condition s p r there a.priority (f ∷ below) (closed s h.opened) (near_closed s h.opened) after
          (λ own x. rises_returned value below own _ (rises_same f h below own a.priority k x).1)
          (λ most c own x l. let y = (rises_same f h below own a.priority k x).0 in omega (arith, l, y))
          (λ c x. guards_returned code (closed s h.opened).objects value below _
          (guards_kept code s.objects (closed s h.opened).objects (near_closed s h.opened).objects _ below
          (guards_same code s.objects f h below a.priority k x).1))
          (subst (λ xs. AreasMove s.areas (closed s h.opened).areas (opened_by (f ∷ below)) xs)
          (sym (opened_returned value below)) areas_left)

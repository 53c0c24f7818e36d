-- Each effect of a release's operation in execution leaves the others alone.
use Rattle.std.proofs.Common.{◌≡◌, ℕ, true, not, List, ◌∷◌, length, Some, refl, ap}
use Rattle.std.specs.Prelude.{slice_get, slice_set}
use Rattle.scj_base.specs.declared.positions.Position.{Position}
use Rattle.scj_base.specs.declared.values.Value.{Value}
use Rattle.scj_model.specs.Code.{Code}
use Rattle.scj_model.specs.State.{Object, Frame, Activity, Release, ReleaseAt, State, object_at, changed, is_exec, is_init}
use Rattle.scj_model.specs.Memory.{has_room, with_object, with_slot}
use Rattle.scj_model.specs.Steps.{Step, allocating}
use Rattle.scj_model.specs.Effects.{Effect, Goes, Prints, Makes, Stores, StoresStatic, SetsHidden, SetsCeiling, Calls, Opens, Leaves, AsksRegistration, AsksRelease, AsksTermination, Faults, Stuck}
use Rattle.scj_model.specs.Apply.{registered, with_frame, applied, with_first}
use Rattle.scj_model.proofs.Reaching.{Gives, gives_some}
use Rattle.priority_laws.proofs.StepCases.{step_if, gives_nothing, gives_mapped}
use Rattle.priority_laws.proofs.Still.{still_released, still_asked}
use Rattle.priority_laws.proofs.ReleaseMoves.{ceilings_same, ceilings_more, ceilings_changed, StandsAs, IsNear, ReleaseMoves, moves_still}
use Rattle.priority_laws.proofs.ReleaseEffects.{not_init, near_same, near_objects, fault_moves, stays_on, left_moves}
use Rattle.priority_laws.proofs.ReleaseCalls.{called_moves, opened_moves}
use Rattle.priority_laws.proofs.Shapes.{Shaped, Enters}

module _ (code : Code) (s : State) (p : ℕ) (r : Release) (there : slice_get s.releases p ≡ Some r)
    (exec : is_exec s.phase ≡ true) (a : Activity) (f : Frame) (below : List Frame)
    (frames : a.frames ≡ f ∷ below) where
  -- memory alone is another one, and the frame goes on
  goes_in : (u : State) → IsNear s u → s.areas ≡ u.areas → (h : Frame) → StandsAs f h →
      ReleaseMoves code (Unit {0}) s p r.handler a.priority (f ∷ below) (with_frame u (ReleaseAt p) a h below)
  goes_in u near same h k = stays_on code s p r there a f below frames (Unit {0}) u near same h k

  goes : (h : Frame) → StandsAs f h → ReleaseMoves code (Unit {0}) s p r.handler a.priority (f ∷ below)
      (with_frame s (ReleaseAt p) a h below)
  goes h k = goes_in s (near_same s) refl h k

  made : (h : Frame) (class : ℕ) (slots : List Value) → StandsAs f h → (position : Position) (next : State → ℕ → Step)
      → ((u : State) (q : ℕ) → IsNear s u → s.areas ≡ u.areas → ReleaseMoves code (Unit {0}) s p r.handler a.priority
      (f ∷ below) (next u q).state)
      → ReleaseMoves code (Unit {0}) s p r.handler a.priority (f ∷ below)
      (allocating s (ReleaseAt p) a position class h.area slots next).state
  unfolding allocating
  made h class slots k position next more =
      step_if (ReleaseMoves code (Unit {0}) s p r.handler a.priority (f ∷ below)) (has_room s h.area (length slots)) _ _
      (λ e. more (with_object s class h.area slots) (length s.objects)
      (record {
        phase = refl;
        activity = refl;
        outcome = refl;
        registry = refl;
        releases = refl;
        objects = ceilings_more
            s.objects _;
      }) refl)
      (λ e. fault_moves code s p r there a f below frames (Unit {0}) position _)

  asked : (h : Frame) (q : ℕ) (o : Object) → StandsAs f h → (position : Position) →
      ReleaseMoves code (Unit {0}) s p r.handler a.priority (f ∷ below)
      (registered code s (ReleaseAt p) a position q o (with_frame s (ReleaseAt p) a h below)).state
  unfolding registered
  asked h q o k position =
      step_if (ReleaseMoves code (Unit {0}) s p r.handler a.priority (f ∷ below)) (not (is_init s.phase)) _ _
      (λ e. fault_moves code s p r there a f below frames (Unit {0}) position _)
      (λ e. absurd (cc (ap not (not_init s.phase exec), e)))

  pub applied_moves : (position : Position) (e : Effect) → Shaped f e →
      Gives (ReleaseMoves code (Enters code s e) s p r.handler a.priority (f ∷ below))
      (applied code s (ReleaseAt p) a below position e)
  unfolding applied
  applied_moves position (Goes h) x = gives_some _ _ (goes h x.is)
  applied_moves position (Prints h label value) x = gives_some _ _ (goes h x.is)
  applied_moves position (Makes h class slots) x =
      gives_some _ _
      (made h class slots x.is position _
      (λ u q near same. goes_in u near same _
      (record { body = x.is.body; this = x.is.this; saved = x.is.saved; opened = x.is.opened })))
  applied_moves position (Stores h q slot value) x =
      gives_some _ _
      (goes_in (with_slot s q slot value) (near_objects s _ (ceilings_changed _ q s.objects (λ o. refl))) refl h x.is)
  applied_moves position (StoresStatic h n value) x =
      gives_some _ _
      (goes_in (record s { statics = slice_set s.statics n value })
      (record {
        phase = refl;
        activity = refl;
        outcome = refl;
        registry = refl;
        releases = refl;
        objects = ceilings_same
            s.objects;
      }) refl h x.is)
  applied_moves position (SetsHidden h q values) x =
      gives_some _ _
      (goes_in (record s { objects = changed (with_first values) q s.objects })
      (near_objects s _ (ceilings_changed (with_first values) q s.objects (λ o. refl))) refl h x.is)
  applied_moves position (SetsCeiling h q ceiling) x =
      gives_some _ _ (fault_moves code s p r there a f below frames (Unit {0}) position _)
  applied_moves position (Calls h g) x =
      gives_some _ _ (called_moves code s p r there a f below frames h g x.is.0 x.is.1 position)
  applied_moves position (Opens h g scope bytes) x =
      gives_some _ _ (opened_moves code s p r there a f below frames h g scope bytes x.is.0 x.is.1 position)
  applied_moves position (Leaves h value) x =
      gives_some _ _ (left_moves code s p r there a f below frames (Unit {0}) h value x.is)
  applied_moves position (AsksRegistration h q) x = gives_mapped _ (object_at s q) _ (λ o e. asked h q o x.is position)
  applied_moves position (AsksRelease h q) x =
      gives_some _ _
      (moves_still code (Unit {0}) s p r there a.priority (f ∷ below) (with_frame s (ReleaseAt p) a h below) _
      (goes h x.is)
      (still_released (with_frame s (ReleaseAt p) a h below) q))
  applied_moves position (AsksTermination h q) x =
      gives_some _ _
      (moves_still code (Unit {0}) s p r there a.priority (f ∷ below) (with_frame s (ReleaseAt p) a h below) _
      (goes h x.is)
      (still_asked (with_frame s (ReleaseAt p) a h below) q))
  applied_moves position (Faults fault) x =
      gives_some _ _ (fault_moves code s p r there a f below frames (Unit {0}) position fault)
  applied_moves position Stuck x = gives_nothing _

-- A call by a release: without a monitor it leaves the active priority alone, into a monitor it raises it to the
-- ceiling, and an area that is opened is the last one.
use Rattle.std.proofs.Common.{◌≡◌, ℕ, ◌≤◌, true, List, ◌∷◌, ◌++◌, length, Option, Some, None, refl, sym, ap, ◌∙◌, subst, arith}
use Rattle.std.specs.Prelude.{slice_get, unwrap_or, is_some, nat_lt, option_to_list}
use Rattle.std.proofs.lemmas.Bool.Decides.{nat_tests}
use Rattle.scj_base.specs.declared.positions.Position.{Position}
use Rattle.scj_rules.specs.Words.{◌>>=◌}
use Rattle.accepted_laws.proofs.Tools.{some_inj}
use Rattle.scj_model.specs.Code.{Code}
use Rattle.scj_model.specs.State.{Object, Frame, Activity, Release, ReleaseAt, State, with_activity, object_at}
use Rattle.scj_model.specs.Memory.{has_store_for, area_with_scope, with_area}
use Rattle.scj_model.specs.Steps.{opening}
use Rattle.scj_model.specs.Effects.{Calls, Opens, monitor_of}
use Rattle.scj_model.specs.Apply.{is_full, called, opened_in, ceiling_entered}
use Rattle.priority_laws.specs.Rising.{Rises, Guards, HasCeilingBetween}
use Rattle.priority_laws.specs.Nesting.{opened_by}
use Rattle.priority_laws.proofs.AreaMoves.{AreasMove, areas_stay, area_added}
use Rattle.priority_laws.proofs.Shapes.{IsNew, Enters}
use Rattle.priority_laws.proofs.StepCases.{step_if, step_option}
use Rattle.priority_laws.proofs.ReleaseMoves.{AreAtMost, ceilings_same, StandsAs, rises_same, guards_same, opened_same, ReleaseMoves, moves_on}
use Rattle.priority_laws.proofs.ReleaseEffects.{near_same, fault_moves}

module _ (code : Code) (s : State) (p : ℕ) (r : Release) (there : slice_get s.releases p ≡ Some r)
    (a : Activity) (f : Frame) (below : List Frame)
    (frames : a.frames ≡ f ∷ below) where
  -- a call without a monitor, and one that enters a monitor
  calls_plainly : (condition : Type 0) (h g : Frame) → StandsAs f h → IsNew g → (condition → monitor_of code g ≡ None) →
      ReleaseMoves code condition s p r.handler a.priority (f ∷ below)
      (with_activity s (ReleaseAt p) (record a { frames = g ∷ h ∷ below }))
  calls_plainly condition h g k n free =
      moves_on code condition s p r there a.priority (f ∷ below) s (near_same s) (record a { frames = g ∷ h ∷ below })
      (λ own x. new_rises g h own n (rises_same f h below own a.priority k x)) (λ most c own x l. l)
      (λ c x. new_guards g h n (free c) (guards_same code s.objects f h below a.priority k x))
      (subst (λ xs. AreasMove s.areas s.areas (opened_by (f ∷ below)) xs)
      (sym (opened_same f h below k)
      ∙ sym (ap (λ (o : Option ℕ). option_to_list o ++ opened_by (h ∷ below)) n.opened))
      (areas_stay s.areas (opened_by (f ∷ below))))
    where
      new_rises : (g h : Frame) (own : ℕ) → IsNew g → Rises own a.priority (h ∷ below) →
          Rises own a.priority (g ∷ h ∷ below)
      new_rises g h own n x =
          subst (λ (o : Option ℕ). (unwrap_or o a.priority ≤ a.priority) × Rises own (unwrap_or o a.priority)
          (h ∷ below)) (sym n.saved)
          (omega arith, x)

      new_guards : (g h : Frame) → IsNew g → monitor_of code g ≡ None → Guards code s.objects a.priority (h ∷ below) →
          Guards code s.objects a.priority (g ∷ h ∷ below)
      new_guards g h n m x = (
        λ q e. absurd (cc (m, e)),
        subst (λ (o : Option ℕ). Guards code s.objects (unwrap_or o a.priority) (h ∷ below)) (sym n.saved) x,
      )

  calls_into : (condition : Type 0) (h g : Frame) (ceiling : ℕ) → StandsAs f h → IsNew g → a.priority ≤ ceiling →
      ceiling_entered code s g ≡ Some ceiling → ReleaseMoves code condition s p r.handler a.priority (f ∷ below)
      (with_activity s (ReleaseAt p)
      (record a { frames = record g { saved = Some a.priority } ∷ h ∷ below; priority = ceiling }))
  unfolding ceiling_entered monitor_of
  calls_into condition h g ceiling k n l entered =
      moves_on code condition s p r there a.priority (f ∷ below) s (near_same s)
      (record a { frames = record g { saved = Some a.priority } ∷ h ∷ below; priority = ceiling })
      (λ own x. (l, rises_same f h below own a.priority k x)) (λ most c own x u. at_most most c)
      (λ c x. (λ q m. guarded q m, guards_same code s.objects f h below a.priority k x))
      (subst (λ xs. AreasMove s.areas s.areas (opened_by (f ∷ below)) xs)
      (sym (opened_same f h below k)
      ∙ sym (ap (λ (o : Option ℕ). option_to_list o ++ opened_by (h ∷ below)) n.opened))
      (areas_stay s.areas (opened_by (f ∷ below))))
    where
      at_most : (most : ℕ) → AreAtMost most s.objects → ceiling ≤ most
      at_most most c = look (monitor_of code g) entered
        where
          found : (o : Option Object) → ((x : Object) → o ≡ Some x → x.ceiling ≤ most) →
              (o >>= (λ (x : Object). Some x.ceiling)) ≡ Some ceiling → ceiling ≤ most
          found None h e = absurd (cc (e))
          found (Some x) h e = subst (λ n. n ≤ most) (some_inj x.ceiling ceiling e) (h x refl)

          look : (o : Option ℕ) → (o >>= object_at s >>= (λ (x : Object). Some x.ceiling)) ≡ Some ceiling →
              ceiling ≤ most
          look None e = absurd (cc (e))
          look (Some q) e = found (slice_get s.objects q) (λ x there. c.is q x there) e

      guarded : (q : ℕ) → monitor_of code g ≡ Some q → HasCeilingBetween s.objects q a.priority ceiling
      guarded q m =
          go (slice_get s.objects q) refl
          (ap (λ (o : Option ℕ). o >>= object_at s >>= (λ (x : Object). Some x.ceiling)) (sym m) ∙ entered)
        where
          go : (o : Option Object) → slice_get s.objects q ≡ o →
              (slice_get s.objects q >>= (λ (x : Object). Some x.ceiling)) ≡ Some ceiling →
              HasCeilingBetween s.objects q a.priority ceiling
          go None e c = absurd (cc (e, c))
          go (Some x) e c =
              let same : Some x.ceiling ≡ Some ceiling =
              sym (ap (λ (o : Option Object). o >>= (λ (x : Object). Some x.ceiling)) e) ∙ c in
              let eq : x.ceiling ≡ ceiling = some_inj x.ceiling ceiling same in
              record {
                object = x;
                is_there = e;
                from = subst (λ m. a.priority ≤ m) (sym eq) l;
                upto = omega
                    (arith, eq);
              }

  enters_none : (g : Frame) → ceiling_entered code s g ≡ None →
      ((r : ℕ) → monitor_of code g ≡ Some r → is_some (object_at s r) ≡ true) → monitor_of code g ≡ None
  unfolding ceiling_entered
  enters_none g none enters = go (monitor_of code g) refl
    where
      look : (q : ℕ) (o : Option Object) → slice_get s.objects q ≡ o → is_some (slice_get s.objects q) ≡ true →
          (slice_get s.objects q >>= (λ (x : Object). Some x.ceiling)) ≡ None → ⊥
      look q None e i c = absurd (cc (i, ap (λ (o : Option Object). is_some o) e))
      look q (Some x) e i c = absurd (cc (c, e))

      go : (o : Option ℕ) → monitor_of code g ≡ o → monitor_of code g ≡ None
      go None m = m
      go (Some q) m =
          absurd (look q (slice_get s.objects q) refl (enters q m)
          (ap (λ (o : Option ℕ). o >>= object_at s >>= (λ (x : Object). Some x.ceiling)) (sym m) ∙ none))

  pub called_moves : (h g : Frame) → StandsAs f h → IsNew g → (position : Position) →
      ReleaseMoves code (Enters code s (Calls h g)) s p r.handler a.priority (f ∷ below)
      (called code s (ReleaseAt p) a (h ∷ below) position g).state
  unfolding called
  called_moves h g k n position =
      step_if (ReleaseMoves code (Enters code s (Calls h g)) s p r.handler a.priority (f ∷ below))
      (is_full (h ∷ below)) _ _
      (λ e. fault_moves code s p r there a f below frames (Enters code s (Calls h g)) position _)
      (λ e. step_option (ReleaseMoves code (Enters code s (Calls h g)) s p r.handler a.priority (f ∷ below))
      (ceiling_entered code s g) _ _
      (λ none. calls_plainly (Enters code s (Calls h g)) h g k n (enters_none g none))
      (λ ceiling entered. step_if (ReleaseMoves code (Enters code s (Calls h g)) s p r.handler a.priority (f ∷ below))
      (nat_lt ceiling a.priority) _ _
      (λ e. fault_moves code s p r there a f below frames (Enters code s (Calls h g)) position _)
      (λ e. calls_into (Enters code s (Calls h g)) h g ceiling k n (grind (arith, nat_tests)) entered)))

  -- a call in an area that is opened
  pub opened_moves : (h g : Frame) (scope bytes : ℕ) → StandsAs f h → IsNew g → (position : Position) →
      ReleaseMoves code (Enters code s (Opens h g scope bytes)) s p r.handler a.priority (f ∷ below)
      (opened_in s (ReleaseAt p) a (h ∷ below) position g scope bytes).state
  unfolding opened_in opening monitor_of
  opened_moves h g scope bytes k n position =
      step_if (ReleaseMoves code (Enters code s (Opens h g scope bytes)) s p r.handler a.priority (f ∷ below))
      (is_some (area_with_scope s scope a.areas)) _ _
      (λ e. fault_moves code s p r there a f below frames (Enters code s (Opens h g scope bytes)) position _)
      (λ e. step_if (ReleaseMoves code (Enters code s (Opens h g scope bytes)) s p r.handler a.priority (f ∷ below))
      (is_full (h ∷ below)) _ _
      (λ e. fault_moves code s p r there a f below frames (Enters code s (Opens h g scope bytes)) position _)
      (λ e. step_if (ReleaseMoves code (Enters code s (Opens h g scope bytes)) s p r.handler a.priority (f ∷ below))
      (has_store_for s bytes) _ _
      (λ e. moves_on code (Enters code s (Opens h g scope bytes)) s p r there a.priority (f ∷ below)
      (with_area s scope (Some g.area) bytes)
      (record {
        phase = refl;
        activity = refl;
        outcome = refl;
        registry = refl;
        releases = refl;
        objects = ceilings_same
            s.objects;
      })
      (record a {
        frames = record g { area = length s.areas; opened = Some (length s.areas) } ∷ h
            ∷ below;
        areas = length s.areas ∷ a.areas;
      })
      (λ own x. subst (λ (o : Option ℕ). (unwrap_or o a.priority ≤ a.priority) × Rises own (unwrap_or o a.priority)
      (h ∷ below)) (sym n.saved)
      (omega arith, rises_same f h below own a.priority k x)) (λ most c own x l. l)
      (λ c x. (
        λ q e. absurd (cc (c, e)),
        subst (λ (o : Option ℕ). Guards code s.objects (unwrap_or o a.priority) (h ∷ below)) (sym n.saved)
            (guards_same code s.objects f h below a.priority k x),
      ))
      (subst (λ xs. AreasMove s.areas (with_area s scope (Some g.area) bytes).areas (opened_by (f ∷ below))
      (length s.areas ∷ xs)) (sym (opened_same f h below k)) (area_added s.areas _ (opened_by (f ∷ below)))))
      (λ e. fault_moves code s p r there a f below frames (Enters code s (Opens h g scope bytes)) position _)))

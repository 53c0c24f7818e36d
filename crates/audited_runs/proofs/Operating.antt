-- An operation of a release in execution: what it tells, and what it leaves.
use Rattle.std.proofs.Common.{◌≡◌, ℕ, nat_lt, List, [], ◌∷◌, ◌++◌, length, Option, Some, None, refl, sym, subst}
use Rattle.std.specs.Prelude.{unwrap_or, is_some}
use Rattle.scj_base.specs.declared.positions.Position.{Position}
use Rattle.scj_base.specs.declared.faults.RunFault.{RunFault}
use Rattle.scj_base.specs.declared.values.Value.{Value}
use Rattle.scj_model.specs.declared.events.Event.{Event}
use Rattle.scj_model.specs.declared.events.Event.TheVariants as event
use Rattle.scj_model.specs.Code.{Code}
use Rattle.scj_model.specs.Plan.{Plan}
use Rattle.scj_model.specs.TraceText.{unit_of}
use Rattle.scj_model.specs.State.{Frame, Activity, Started, Ended, Release, ReleaseAt, State, with_status, with_activity}
use Rattle.scj_model.specs.Memory.{closed, has_room, has_store_for, area_with_scope, with_area, with_object}
use Rattle.scj_model.specs.Steps.{Step, silently, reporting, closed_all, job_ended, fault_in, allocating, opening, of_release}
use Rattle.scj_model.specs.Apply.{is_full, called, opened_in, frame_left, ceiling_entered, report_priority}
use Rattle.trace_audit.specs.Replay.{Replay}
use Rattle.audited_runs.proofs.Reported.{reported_then}
use Rattle.audited_runs.proofs.InUnit.{Live, kept_then, live_kept}
use Rattle.audited_runs.proofs.Executing.{Acts, Beside, Reports, acts_beside, acts_core, becomes_from, beside_same, beside_then}
use Rattle.audited_runs.proofs.Acting.{Raised, Silent, acts_stays, end_reported, fault_reports_none, none_reported, priority_reported, stays_reported}
use Rattle.audited_runs.proofs.Arriving.{ReportsOf, reports_if}

-- ---- memory

pub closed_beside : (s : State) (a : Option ℕ) → Beside s (closed s a)
unfolding closed
closed_beside s None = beside_same s
closed_beside s (Some a) =
    record {
      alike = record { registry = refl; earlier = refl; last = refl; phase = refl; unit = refl; origin = refl };
      releases = refl;
    }

pub closed_all_beside : (s : State) (fs : List Frame) → Beside s (closed_all s fs)
unfolding closed_all
closed_all_beside s [] = beside_same s
closed_all_beside s (f ∷ fs) =
    beside_then s (closed s f.opened) (closed_all (closed s f.opened) fs) (closed_beside s f.opened)
    (closed_all_beside (closed s f.opened) fs)

pub reports_option : {A : Type 0} (plan : Plan) (s : State) (r : Replay) (o : Option A) (x : Step) (f : A → Step) →
    ReportsOf plan s r x → ((a : A) → o ≡ Some a → ReportsOf plan s r (f a)) →
    ReportsOf plan s r (elim o as (λ z. Step) [ None ↦ x | Some a ↦ f a ])
reports_option plan s r None x f h k = h
reports_option plan s r (Some a) x f h k = k a refl

-- ---- a fault ends the release

module _ (plan : Plan) (s : State) (p active : ℕ) (r : Replay) (live : Live plan s.unit r) (h : Acts s p active r) where
  pub fault_reported : (activity : Activity) (position : Position) (fault : RunFault) →
      ReportsOf plan s r (fault_in s (ReleaseAt p) activity position fault)
  unfolding fault_in unit_of
  fault_reported activity position fault =
      let t : State = with_status (closed_all s activity.frames) p Ended in
      let one : Silent plan s.unit r (event.Fault s.unit fault position ∷ []) =
      none_reported plan s.unit r (event.Fault s.unit fault position) (fault_reports_none s.unit fault position) live refl in
      let rest : Reports plan s.unit one.after t
      (of_release s (ReleaseAt p) (λ (x : Release). event.End s.unit x.handler x.number ∷ [])) =
      end_reported plan one.after s t p active (live_kept plan s.unit r one.after live one.kept one.goes_on)
      (acts_core s p active r one.after one.core h)
      (becomes_from s (closed_all s activity.frames) p Ended (closed_all_beside s activity.frames)) in
      record {
        after = rest.after;
        is = reported_then plan r one.after rest.after (event.Fault s.unit fault position ∷ []) _ one.is rest.is;
        kept = kept_then s.unit r one.after rest.after one.kept rest.kept;
        executes = rest.executes;
        goes_on = rest.goes_on;
      }

  -- it goes on, in another memory
  pub gets : (t : State) (a : Activity) → Beside s t → a.priority ≡ active →
      ReportsOf plan s r (silently (with_status t p (Started a)))
  gets t a b same =
      stays_reported plan r s (with_status t p (Started a)) p active a live h same (becomes_from s t p (Started a) b)

  -- it goes on with another active priority
  pub raises : (priority : ℕ) (a : Activity) → a.priority ≡ priority →
      ReportsOf plan s r
      (reporting (with_status s p (Started a)) (report_priority s (ReleaseAt p) active priority))
  raises priority a same =
      let k : Raised plan s.unit r s p priority (report_priority s (ReleaseAt p) active priority) =
      priority_reported plan r s p active priority live h in
      record {
        after = k.after;
        is = k.is;
        kept = k.kept;
        executes = acts_stays s p priority k.after k.acts (with_status s p (Started a)) a same
            (becomes_from s s p (Started a) (beside_same s));
        goes_on = k.goes_on;
      }

  -- ---- calls, areas and objects

  pub called_reported : (code : Code) (activity : Activity) (frames : List Frame) (position : Position) (g : Frame) →
      activity.priority ≡ active → ReportsOf plan s r (called code s (ReleaseAt p) activity frames position g)
  unfolding called with_activity
  called_reported code activity frames position g same =
      reports_if plan s r (is_full frames) _ _ (fault_reported activity position _)
      (reports_option plan s r (ceiling_entered code s g) _ _ (gets s _ (beside_same s) same)
      (λ ceiling e. reports_if plan s r (nat_lt ceiling activity.priority) _ _ (fault_reported activity position _)
      (subst (λ n. ReportsOf plan s r
      (reporting
      (with_status s p (Started (record activity {
        frames = record g { saved = Some activity.priority } ∷ frames;
        priority = ceiling;
      })))
      (report_priority s (ReleaseAt p) n ceiling))) (sym same)
      (raises ceiling (record activity {
        frames = record g { saved = Some activity.priority } ∷ frames;
        priority = ceiling;
      }) refl))))

  pub opening_reported : (activity : Activity) (position : Position) (scope : ℕ) (parent : Option ℕ) (bytes : ℕ)
      (next : State → ℕ → Step) → ((t : State) (a : ℕ) → Beside s t → ReportsOf plan s r (next t a)) →
      ReportsOf plan s r (opening s (ReleaseAt p) activity position scope parent bytes next)
  unfolding opening
  opening_reported activity position scope parent bytes next k =
      reports_if plan s r (has_store_for s bytes) _ _
      (k (with_area s scope parent bytes) (length s.areas)
      (record {
        alike = record { registry = refl; earlier = refl; last = refl; phase = refl; unit = refl; origin = refl };
        releases = refl;
      }))
      (fault_reported activity position _)

  pub allocating_reported : (activity : Activity) (position : Position) (class area : ℕ) (slots : List Value)
      (next : State → ℕ → Step) → ((t : State) (a : ℕ) → Beside s t → ReportsOf plan s r (next t a)) →
      ReportsOf plan s r (allocating s (ReleaseAt p) activity position class area slots next)
  unfolding allocating
  allocating_reported activity position class area slots next k =
      reports_if plan s r (has_room s area (length slots)) _ _
      (k (with_object s class area slots) (length s.objects)
      (record {
        alike = record { registry = refl; earlier = refl; last = refl; phase = refl; unit = refl; origin = refl };
        releases = refl;
      }))
      (fault_reported activity position _)

  pub opened_reported : (activity : Activity) (frames : List Frame) (position : Position) (g : Frame) (scope bytes : ℕ) →
      activity.priority ≡ active →
      ReportsOf plan s r (opened_in s (ReleaseAt p) activity frames position g scope bytes)
  unfolding opened_in with_activity
  opened_reported activity frames position g scope bytes same =
      reports_if plan s r (is_some (area_with_scope s scope activity.areas)) _ _ (fault_reported activity position _)
      (reports_if plan s r (is_full frames) _ _ (fault_reported activity position _)
      (opening_reported activity position scope (Some g.area) bytes _ (λ t a b. gets t _ b same)))

-- ---- a frame leaves

left_from : (plan : Plan) (s t : State) (p active priority : ℕ) (r : Replay) (es : List Event) (value : Option Value)
    (a : Activity) (fs : List Frame) → Beside s t → Live plan s.unit r → Raised plan s.unit r s p priority es →
    a.priority ≡ priority →
    ReportsOf plan s r
    (let second : Step =
    elim fs as (λ z. Step) [
      | [] ↦ job_ended t (ReleaseAt p) a value
      | g ∷ gs ↦ silently (with_activity t (ReleaseAt p) a)
    ] in reporting second.state (es ++ second.events))
unfolding job_ended with_activity
left_from plan s t p active priority r es value a [] b live k same =
    let rest : Reports plan t.unit k.after (with_status t p Ended)
    (of_release t (ReleaseAt p) (λ (x : Release). event.End t.unit x.handler x.number ∷ [])) =
    end_reported plan k.after t (with_status t p Ended) p priority
    (subst (λ u. Live plan u k.after) (sym b.alike.unit)
    (live_kept plan s.unit r k.after live k.kept k.goes_on))
    (acts_beside s t p priority k.after b k.acts) (becomes_from t t p Ended (beside_same t)) in
    let rest_now : Reports plan s.unit k.after (with_status t p Ended)
    (of_release t (ReleaseAt p) (λ (x : Release). event.End t.unit x.handler x.number ∷ [])) =
    subst (λ u. Reports plan u k.after (with_status t p Ended)
    (of_release t (ReleaseAt p) (λ (x : Release). event.End t.unit x.handler x.number ∷ []))) b.alike.unit rest in
    record {
      after = rest_now.after;
      is = reported_then plan r k.after rest_now.after es _ k.is rest_now.is;
      kept = kept_then s.unit r k.after rest_now.after k.kept rest_now.kept;
      executes = rest_now.executes;
      goes_on = rest_now.goes_on;
    }
left_from plan s t p active priority r es value a (g ∷ gs) b live k same =
    let rest : Reports plan s.unit k.after (with_status t p (Started a)) [] =
    stays_reported plan k.after s (with_status t p (Started a)) p priority a
    (live_kept plan s.unit r k.after live k.kept k.goes_on) k.acts same (becomes_from s t p (Started a) b) in
    record {
      after = rest.after;
      is = reported_then plan r k.after rest.after es [] k.is rest.is;
      kept = kept_then s.unit r k.after rest.after k.kept rest.kept;
      executes = rest.executes;
      goes_on = rest.goes_on;
    }

pub left_reported : (plan : Plan) (s : State) (p : ℕ) (r : Replay) (activity : Activity) (f : Frame) (below : List Frame)
    (value : Option Value) → Live plan s.unit r → Acts s p activity.priority r →
    ReportsOf plan s r (frame_left s (ReleaseAt p) activity f below value)
unfolding frame_left
left_reported plan s p r activity f below value live h =
    left_from plan s (closed s f.opened) p activity.priority (unwrap_or f.saved activity.priority) r _ value _ below
    (closed_beside s f.opened) live
    (priority_reported plan r s p activity.priority (unwrap_or f.saved activity.priority) live h) refl

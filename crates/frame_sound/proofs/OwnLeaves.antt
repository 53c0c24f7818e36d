-- Leaving keeps the invariant for the job that acts, in the state; with its last frame the job comes to its end.
use Rattle.std.specs.Prelude.{Option, Some, None, slice_get, ◌==◌, ◌||◌, ◌++◌, cond, filter, not, option_map, option_to_list, unwrap_or}
use Rattle.std.proofs.Common.{◌≡◌, ℕ, List, [], ◌∷◌, Bool, true, false, refl, sym, ◌∙◌, ap, subst, arith, ◌⊎◌, inl, inr}
use Rattle.std.proofs.lemmas.Bool.Decides.{nat_tests}
use Rattle.scj_base.specs.declared.positions.Position.{Position}
use Rattle.scj_base.specs.declared.values.Value.{Value}
use Rattle.scj_rules.specs.Words.{is_among}
use Rattle.accepted_laws.proofs.Tools.{some_inj}
use Rattle.scj_model.specs.Code.{Code}
use Rattle.scj_model.specs.State.{MemoryArea, Object, Frame, Activity, Job, TheSequencer, ReleaseAt, State, activity_of, with_activity}
use Rattle.scj_model.specs.Memory.{closed}
use Rattle.scj_model.specs.Steps.{closed_all, job_ended, silently, reporting, then_do}
use Rattle.scj_model.specs.Effects.{Leaves}
use Rattle.scj_model.specs.Apply.{applied, frame_left, returned, report_priority, without}
use Rattle.scope_flow.specs.Facts.{Facts}
use Rattle.scope_flow.specs.Signatures.{Runs, Signature}
use Rattle.frame_sound.specs.Places.{denote, world_of}
use Rattle.frame_sound.specs.Fine.{AreDistinct, ListFine, Stands, list_of}
use Rattle.frame_sound.specs.EffectsFine.{IsSame, ReturnFine}
use Rattle.frame_sound.specs.OwnJob.{KeepsOperation, ComesToEnd, HasLeft, JobGoesOn, KeepsItsAreas, KeepsItsJob, closed_if, lowest, opened_by}
use Rattle.frame_sound.proofs.Changes.{look}
use Rattle.frame_sound.proofs.Kept.{ActsHere}
use Rattle.frame_sound.proofs.KeptAreas.{areas_left, leaves_keep}
use Rattle.frame_sound.proofs.GivenValues.{given_lies, returns_kept}
use Rattle.frame_sound.proofs.Keeps.{ObjectsAreKept}
use Rattle.frame_sound.proofs.OwnEnds.{all_closed, among_both, closed_at, closed_is, job_there, memory_of, release_ended, stands_still}
use Rattle.frame_sound.proofs.OwnJobs.{operation_stays, operation_then, outcome_stays, areas_stay, lowest_same, memory_stays, registry_stays, same_activity, set_activity}

-- ---- lists

without_first : (a : ℕ) (xs : List ℕ) → is_among a xs ≡ false → filter (λ b. not (b == a)) xs ≡ xs
without_first a [] e = refl
without_first a (x ∷ xs) e = go (a == x) refl e (without_first a xs)
  where
    go : (t : Bool) → (a == x) ≡ t → (t || is_among a xs) ≡ false →
        (is_among a xs ≡ false → filter (λ b. not (b == a)) xs ≡ xs) → filter (λ b. not (b == a)) (x ∷ xs) ≡ x ∷ xs
    go true f g ih = absurd (cc (g))
    go false f g ih =
        let n : (x == a) ≡ false = grind (arith, nat_tests) in
        ap (λ t. cond (not t) (x ∷ filter (λ b. not (b == a)) xs) (filter (λ b. not (b == a)) xs)) n
        ∙ ap (λ ys. x ∷ ys) (ih g)

without_own : (o : Option ℕ) (xs : List ℕ) → AreDistinct (option_to_list o ++ xs) →
    without o (option_to_list o ++ xs) ≡ xs
without_own None xs d = refl
without_own (Some a) xs d =
    let t : (a == a) ≡ true = grind (arith, nat_tests) in
    ap (λ t. cond (not t) (a ∷ filter (λ b. not (b == a)) xs) (filter (λ b. not (b == a)) xs)) t
    ∙ without_first a xs d.0

-- ---- closing, in the state

left_is : (s : State) (o : Option ℕ) → (closed s o).areas ≡ areas_left s.areas o
unfolding closed
left_is s None = refl
left_is s (Some a) = refl

list_of_returned : (base : List ℕ) (value : Option Value) (fs : List Frame) →
    list_of base (returned value fs) ≡ list_of base fs
unfolding returned
list_of_returned base None fs = refl
list_of_returned base (Some v) [] = refl
list_of_returned base (Some v) (f ∷ fs) = refl

none_returned : (value : Option Value) → returned value [] ≡ []
unfolding returned
none_returned None = refl
none_returned (Some v) = refl

-- the frame below gets the value
pub record IsReturned (value : Option Value) (g : Frame) (gs : List Frame) : Type 0 where
  pub top : Frame
  pub is : returned value (g ∷ gs) ≡ top ∷ gs
  pub same : IsSame g top

is_returned : (value : Option Value) (g : Frame) (gs : List Frame) → IsReturned value g gs
unfolding returned
is_returned None g gs =
    record { top = g; is = refl; same = record { body = refl; called_at = refl; this = refl; area = refl; saved = refl; opened = refl } }
is_returned (Some v) g gs =
    record {
      top = record g { operands = v ∷ g.operands };
      is = refl;
      same = record { body = refl; called_at = refl; this = refl; area = refl; saved = refl; opened = refl };
    }

module _ (code : Code) (facts : Facts code) (s : State) (job : Job) (activity : Activity)
    (is : activity_of s job ≡ Some activity) (base : List ℕ) (f : Frame) (below : List Frame)
    (is_list : activity.areas ≡ list_of base (f ∷ below)) (c : ℕ) (sig : Signature)
    (runs : Runs code.program f.body c sig) (m : ActsHere code s.areas s.objects s.statics base f below c sig)
    (place : Position) (h : Frame) (value : Option Value) (same : IsSame f h)
    (gives : ReturnFine code.program (look (λ a. slice_get s.areas a) s.objects)
    (denote (look (λ a. slice_get s.areas a) s.objects) (list_of base (f ∷ below)) f.this f.area) sig.gives value) where
  abbrev t : State
  t = closed s h.opened

  t_is : t ≡ record s { areas = t.areas }
  t_is = closed_is s h.opened

  t_operation : KeepsOperation s t
  t_operation =
      record { phase = ap (λ (u : State). u.phase) t_is; operation = ap (λ (u : State). u.operation) t_is }

  left : (closed s h.opened).areas ≡ areas_left s.areas f.opened
  left = left_is s h.opened ∙ ap (areas_left s.areas) same.opened

  list_left : without h.opened activity.areas ≡ list_of base below
  list_left =
      ap (λ o. without o activity.areas) same.opened
      ∙ (ap (without f.opened) is_list ∙ without_own f.opened (list_of base below) m.fine.are_distinct)

  stands : Stands code t.areas t.objects t.statics base (returned value below)
  stands =
      stands_still code (areas_left s.areas f.opened) t.areas s.objects t.objects s.statics t.statics base
      (returned value below) left (ap (λ (u : State). u.objects) t_is) (ap (λ (u : State). u.statics) t_is)
      (leaves_keep code facts s.areas s.objects s.statics base f below c sig m value gives)

  abbrev after : Activity
  after =
      record activity {
        frames = returned value below;
        areas = without h.opened activity.areas;
        priority = unwrap_or h.saved activity.priority;
      }

  -- the areas of the frames below
  own_areas : (u : State) → u.areas ≡ t.areas → (rest : List Frame) → opened_by rest ≡ opened_by below →
      KeepsItsAreas code s (f ∷ below) u rest
  own_areas u e rest same_rest =
      record {
        has = λ a on. inl (among_both a (option_to_list f.opened) (opened_by below)
            ∙ or_true (is_among a (option_to_list f.opened)) _ (is_there a on));
        lost = λ a x on there.
            lost a x there (is_among a (option_to_list f.opened)) refl
            (sym (among_both a (option_to_list f.opened) (opened_by below)) ∙ on);
        new =
            λ a x none there. (let e : slice_get u.areas a ≡ None = at a
            ∙ ap (option_map (closed_if (is_among a (option_to_list f.opened)))) none in
            absurd (cc (e, there)));
      }
    where
      at : (a : ℕ) →
          slice_get u.areas a ≡ option_map (closed_if (is_among a (option_to_list f.opened))) (slice_get s.areas a)
      at a =
          ap (λ (xs : List MemoryArea). slice_get xs a) (e ∙ (left ∙ sym (left_is s f.opened))) ∙ closed_at s f.opened a

      is_there : (a : ℕ) → is_among a (opened_by rest) ≡ true → is_among a (opened_by below) ≡ true
      is_there a on = subst (λ l. is_among a l ≡ true) same_rest on

      or_true : (b d : Bool) → d ≡ true → (b || d) ≡ true
      or_true true d e = refl
      or_true false d e = e

      is_closed : (o : Option MemoryArea) (x : MemoryArea) → option_map (closed_if true) o ≡ Some x → x.is_open ≡ false
      is_closed None x e = absurd (cc (e))
      is_closed (Some y) x e = ap (λ (z : MemoryArea). z.is_open) (sym (some_inj (closed_if true y) x e))

      lost : (a : ℕ) (x : MemoryArea) → slice_get u.areas a ≡ Some x → (b : Bool) →
          is_among a (option_to_list f.opened) ≡ b → (b || is_among a (opened_by below)) ≡ true →
          (is_among a (opened_by rest) ≡ true) ⊎ (x.is_open ≡ false)
      lost a x there true h on =
          inr (is_closed (slice_get s.areas a) x
          (sym (ap (λ b. option_map (closed_if b) (slice_get s.areas a)) h) ∙ (sym (at a) ∙ there)))
      lost a x there false h on = inl (subst (λ l. is_among a l ≡ true) (sym same_rest) on)

  -- a frame below goes on
  pub goes_below : (g : Frame) (gs : List Frame) → below ≡ g ∷ gs →
      JobGoesOn code s job base f below (with_activity t job after)
  unfolding lowest
  goes_below g gs e =
      let r = is_returned value g gs in
      record {
        stands = record {
          activity = after;
          is = set_activity t job activity after
              (same_activity s t job (ap (λ (u : State). u.releases) t_is) (ap (λ (u : State). u.activity) t_is) ∙ is);
          is_list = list_left ∙ sym (list_of_returned base value below);
          stands = memory_stays code t job after base (returned value below) stands;
        };
        top = r.top;
        others = gs;
        are = ap (returned value) e ∙ r.is;
        operation = operation_then s t (with_activity t job after) t_operation (operation_stays t job after);
        outcome = outcome_stays t job after ∙ ap (λ (u : State). u.outcome) t_is;
        same = subst (λ fs. IsSame (lowest f fs) (lowest r.top gs)) (sym e) (lowest_same g r.top gs r.same);
        areas = own_areas (with_activity t job after) (areas_stay t job after) (r.top ∷ gs)
            (ap (λ o. option_to_list o ++ opened_by gs) r.same.opened ∙ ap opened_by (sym e));
      }

  -- the last frame is left
  module _ (e : below ≡ []) where
    base_list : without h.opened activity.areas ≡ base
    base_list = list_left ∙ ap (list_of base) e

    left_last : (j : Job) (u : State) → u.areas ≡ t.areas → u.objects ≡ t.objects → u.statics ≡ t.statics →
        KeepsOperation t u → ComesToEnd u j base value → HasLeft code s j base f u
    unfolding closed_all
    left_last j u ea eo es operation ends =
        record {
          value = value;
          ends = ends;
          operation = operation_then s t u t_operation operation;
          class = c;
          sig = sig;
          runs = runs;
          gives = returns_kept code.program (world_of s) (world_of u) same_objects
              (denote (world_of s) (list_of base (f ∷ [])) f.this f.area) sig.gives value
              (subst
              (λ fs. ReturnFine code.program (world_of s)
              (denote (world_of s) (list_of base (f ∷ fs)) f.this f.area) sig.gives value) e gives);
          lies =
              λ r is.
              (let l = given_lies code.program (world_of s) (list_of base (f ∷ below)) c sig f.body f.this f.area m.home
              sig.gives value gives r is in
              record {
                object = l.object;
                found = ap (λ (xs : List Object). slice_get xs r) objects_same ∙ l.found;
                on_list = subst (λ fs. is_among l.object.area (list_of base (f ∷ fs)) ≡ true) e l.on_list;
              });
          memory = memory_of code u base (returned value below)
              (stands_still code t.areas u.areas t.objects u.objects t.statics u.statics base
              (returned value below) ea eo es stands);
          closed = all_closed s u (f ∷ []) (ea ∙ (left ∙ sym (left_is s f.opened))) objects_same
              (es ∙ ap (λ (u : State). u.statics) t_is);
          list = λ none. subst (λ (xs : List MemoryArea). ListFine (λ a. slice_get xs a) base)
              (sym (ea ∙ (left ∙ ap (areas_left s.areas) none)))
              (subst (ListFine (λ a. slice_get s.areas a))
              (ap (λ o. option_to_list o ++ list_of base below) none ∙ ap (list_of base) e) m.fine);
        }
      where
        objects_same : u.objects ≡ s.objects
        objects_same = eo ∙ ap (λ (u : State). u.objects) t_is

        same_objects : ObjectsAreKept (world_of s) (world_of u)
        same_objects r o there =
            record {
              object = o;
              found = ap (λ (xs : List Object). slice_get xs r) objects_same ∙ there;
              class = refl;
              area = refl;
            }

    ended : (j : Job) → activity_of s j ≡ Some activity → HasLeft code s j base f (job_ended t j after value).state
    unfolding job_ended
    ended TheSequencer there =
        left_last TheSequencer _ refl refl refl (record { phase = refl; operation = refl })
        (record { frames = ap (returned value) e ∙ none_returned value; areas = base_list; outcome = refl })
    ended (ReleaseAt place) there =
        left_last (ReleaseAt place) _ refl refl refl (record { phase = refl; operation = refl })
        (release_ended s t place (ap (λ (u : State). u.releases) t_is) (job_there s (ReleaseAt place) activity there))

    ended_registry : (j : Job) → (job_ended t j after value).state.registry ≡ s.registry
    unfolding job_ended
    ended_registry TheSequencer = ap (λ (u : State). u.registry) t_is
    ended_registry (ReleaseAt place) = ap (λ (u : State). u.registry) t_is

  pub leaves_kept : KeepsItsJob code s job activity base f below
      (applied code s job activity below place (Leaves h value))
  unfolding applied frame_left
  leaves_kept = go below refl
    where
      go : (fs : List Frame) → below ≡ fs → KeepsItsJob code s job activity base f below
          (Some (then_do (reporting t (report_priority s job activity.priority (unwrap_or h.saved activity.priority)))
          (λ u. elim fs [
            | [] ↦ job_ended u job after value
            | g ∷ gs ↦ silently (with_activity u job after)
          ])))
      go [] e =
          record { step = _; is = refl; either = inr (inl (e, ended e job is)); registry = inl (ended_registry e job) }
      go (g ∷ gs) e =
          record {
            step = _;
            is = refl;
            either = inl (goes_below g gs e);
            registry = inl (registry_stays t job after ∙ ap (λ (u : State). u.registry) t_is);
          }

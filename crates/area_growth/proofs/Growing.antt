-- How the steps of which operations are made go on in the memory.
use Rattle.std.proofs.Common.{◌≡◌, ◌∙◌, ℕ, zero, suc, ◌+◌, nat_lt, Bool, true, false, not, List, [], ◌∷◌, ◌++◌, length, Option, Some, None, if◌then◌else◌, refl, sym, ap, subst, arith}
use Rattle.std.specs.Prelude.{slice_get, slice_set, is_some}
use Rattle.scj_base.specs.declared.positions.Position.{Position}
use Rattle.scj_base.specs.declared.faults.RunFault.{RunFault}
use Rattle.scj_base.specs.declared.values.Value.{Value}
use Rattle.scj_model.specs.Code.{Code}
use Rattle.scj_model.specs.State.{MemoryArea, Object, Frame, Activity, Job, TheSequencer, ReleaseAt, State, changed, with_activity, is_init, is_exec, is_open_area}
use Rattle.scj_model.specs.Registry.{most_handlers, handler_number}
use Rattle.scj_model.specs.Memory.{closed, has_room, has_store_for, area_with_scope, new_object, with_area, with_object}
use Rattle.scj_model.specs.Steps.{Step, silently, closed_all, job_ended, fault_in, allocating, opening}
use Rattle.scj_model.specs.Apply.{is_full, called, opened_in, frame_left, waiting_of, most_waiting, takes_releases, release_taken, registered, released, termination, termination_asked, asks_for_end, ceiling_entered}
use Rattle.region_heap.specs.Contents.{closed_area, new_area}
use Rattle.region_heap.specs.Kept.{used_bytes}
use Rattle.region_heap.proofs.Sums.{sum_changed, used_beside, used_more}
use Rattle.region_heap.specs.Kept.{bytes_in, object_bytes}
use Rattle.area_growth.specs.Growth.{AreasStay, GoesOn, StaysSame, StaysStill, makes, opens, still}

-- ---- areas

pub stay : (xs : List MemoryArea) → AreasStay xs xs
stay [] = tt
stay (x ∷ xs) = (record { scope = refl; bytes = refl; was_open = λ e. e }, stay xs)

stay_on : (xs ys zs : List MemoryArea) → AreasStay xs ys → AreasStay ys zs → AreasStay xs zs
stay_on [] [] [] g h = tt
stay_on [] [] (z ∷ zs) g h = absurd h
stay_on [] (y ∷ ys) zs g h = absurd g
stay_on (x ∷ xs) [] zs g h = absurd g
stay_on (x ∷ xs) (y ∷ ys) [] g h = absurd h
stay_on (x ∷ xs) (y ∷ ys) (z ∷ zs) g h = (
  record {
    scope = h.0.scope ∙ g.0.scope;
    bytes = h.0.bytes ∙ g.0.bytes;
    was_open = λ e. g.0.was_open (h.0.was_open e);
  },
  stay_on xs ys zs g.1 h.1,
)

one_closed : (xs : List MemoryArea) (i : ℕ) (x : MemoryArea) → slice_get xs i ≡ Some x →
    AreasStay xs (slice_set xs i (closed_area x))
one_closed [] i x e = tt
one_closed (z ∷ xs) zero x e =
    let same : x ≡ z = cc in (
      record { scope = ap (λ (y : MemoryArea). y.scope) same; bytes = ap (λ (y : MemoryArea). y.bytes) same; was_open = λ f. absurd (cc (f)) },
      stay xs,
    )
one_closed (z ∷ xs) (suc i) x e = (record { scope = refl; bytes = refl; was_open = λ f. f }, one_closed xs i x e)

closed_at : (xs : List MemoryArea) (a : ℕ) → AreasStay xs (changed closed_area a xs)
closed_at xs a = go (slice_get xs a) refl
  where
    go : (o : Option MemoryArea) → slice_get xs a ≡ o →
        AreasStay xs (elim o as (λ z. List MemoryArea) [ None ↦ xs | Some y ↦ slice_set xs a (closed_area y) ])
    go None e = stay xs
    go (Some x) e = one_closed xs a x e

-- ---- states

pub same_still : (s t : State) → StaysSame s t → StaysStill s t
same_still s t g =
    record { areas = subst (λ (xs : List MemoryArea). AreasStay s.areas xs) (sym g.areas) (stay s.areas); used = g.used }

pub goes_still : (s t : State) → StaysStill s t → GoesOn s t
goes_still s t g = still g

pub goes_same : (s t : State) → StaysSame s t → GoesOn s t
goes_same s t g = still (same_still s t g)

pub unchanged : (s t : State) → t.areas ≡ s.areas → t.objects ≡ s.objects → StaysSame s t
unchanged s t e f = record { areas = e; used = λ a. ap (λ (os : List Object). used_bytes os a) f }

pub same_then_same : (s t u : State) → StaysSame s t → StaysSame t u → StaysSame s u
same_then_same s t u g h = record { areas = h.areas ∙ g.areas; used = λ a. h.used a ∙ g.used a }

pub still_then_still : (s t u : State) → StaysStill s t → StaysStill t u → StaysStill s u
still_then_still s t u g h =
    record { areas = stay_on s.areas t.areas u.areas g.areas h.areas; used = λ a. h.used a ∙ g.used a }

pub goes_then_same : (s t u : State) → GoesOn s t → StaysSame t u → GoesOn s u
goes_then_same s t u (still g) h = still (still_then_still s t u g (same_still t u h))
goes_then_same s t u (makes area o e l same) h =
    makes area o (h.areas ∙ e) (omega (arith, l, h.used area)) (λ a d. h.used a ∙ same a d)
goes_then_same s t u (opens area o e same) h = opens area o (h.areas ∙ e) (λ a. h.used a ∙ same a)

-- ---- steps

abbrev pub SameTo : State → Step → Type 0
SameTo s r = StaysSame s r.state

abbrev pub StillTo : State → Step → Type 0
StillTo s r = StaysStill s r.state

abbrev pub GoesTo : State → Step → Type 0
GoesTo s r = GoesOn s r.state

pub of_if : (P : Step → Type 0) (b : Bool) (x y : Step) → P x → P y → P (if b then x else y)
of_if P true x y g h = g
of_if P false x y g h = h

pub of_option : {A : Type 0} (P : Step → Type 0) (o : Option A) (x : Step) (f : A → Step) → P x → ((a : A) → P (f a)) →
    P (elim o [ None ↦ x | Some a ↦ f a ])
of_option P None x f g h = g
of_option P (Some a) x f g h = h a

-- ---- what opens no area and makes no object

pub same_active : (s : State) (job : Job) (activity : Activity) → StaysSame s (with_activity s job activity)
unfolding with_activity
same_active s TheSequencer activity = unchanged s _ refl refl
same_active s (ReleaseAt n) activity = unchanged s _ refl refl

pub still_active : (s : State) (job : Job) (activity : Activity) → StaysStill s (with_activity s job activity)
still_active s job activity = same_still s _ (same_active s job activity)

pub still_closed : (s : State) (a : Option ℕ) → StaysStill s (closed s a)
unfolding closed
still_closed s None = same_still s s (unchanged s s refl refl)
still_closed s (Some a) = record { areas = closed_at s.areas a; used = λ b. refl }

pub still_closed_all : (s : State) (fs : List Frame) → StaysStill s (closed_all s fs)
unfolding closed_all
still_closed_all s [] = same_still s s (unchanged s s refl refl)
still_closed_all s (f ∷ fs) =
    still_then_still s (closed s f.opened) _ (still_closed s f.opened) (still_closed_all (closed s f.opened) fs)

pub still_fault : (s : State) (job : Job) (activity : Activity) (position : Position) (fault : RunFault) →
    StillTo s (fault_in s job activity position fault)
unfolding fault_in
still_fault s TheSequencer activity position fault = same_still s _ (unchanged s _ refl refl)
still_fault s (ReleaseAt n) activity position fault =
    still_then_still s (closed_all s activity.frames) _ (still_closed_all s activity.frames)
    (same_still (closed_all s activity.frames) _ (unchanged (closed_all s activity.frames) _ refl refl))

pub faulted : (s : State) (job : Job) (activity : Activity) (position : Position) (fault : RunFault) →
    GoesTo s (fault_in s job activity position fault)
faulted s job activity position fault = goes_still s _ (still_fault s job activity position fault)

pub same_ended : (s : State) (job : Job) (activity : Activity) (value : Option Value) →
    SameTo s (job_ended s job activity value)
unfolding job_ended
same_ended s TheSequencer activity value = unchanged s _ refl refl
same_ended s (ReleaseAt n) activity value = unchanged s _ refl refl

-- an object changes, and neither its area nor the number of its slots
pub same_changed : (s t : State) (change : Object → Object) (r : ℕ) → t.areas ≡ s.areas →
    t.objects ≡ changed change r s.objects →
    ((o : Object) → slice_get s.objects r ≡ Some o → (a : ℕ) → bytes_in a (change o) ≡ bytes_in a o) →
    StaysSame s t
unfolding used_bytes
same_changed s t change r e f keeps =
    record {
      areas = e;
      used = λ a. ap (λ (os : List Object). used_bytes os a) f
          ∙ sum_changed (bytes_in a) change r s.objects (λ o there. keeps o there a);
    }

-- ---- effects

pub still_called : (code : Code) (s : State) (job : Job) (activity : Activity) (frames : List Frame) (position : Position)
    (g : Frame) → StillTo s (called code s job activity frames position g)
unfolding called
still_called code s job activity frames position g =
    of_if (λ r. StillTo s r) (is_full frames) _ _ (still_fault s job activity position _)
    (of_option (λ r. StillTo s r) (ceiling_entered code s g) _ _ (still_active s job _)
    (λ ceiling. of_if (λ r. StillTo s r) (nat_lt ceiling activity.priority) _ _ (still_fault s job activity position _)
    (still_active s job _)))

one_area : (s : State) (scope : ℕ) (parent : Option ℕ) (bytes : ℕ) → GoesOn s (with_area s scope parent bytes)
one_area s scope parent bytes = opens (new_area scope parent bytes) refl refl (λ a. refl)

one_object : (s : State) (class area : ℕ) (slots : List Value) → is_open_area s area ≡ true →
    GoesOn s (with_object s class area slots)
one_object s class area slots is_open =
    let more : used_bytes (s.objects ++ new_object class area slots ∷ []) area
    ≡ used_bytes s.objects area + object_bytes (new_object class area slots) =
    used_more s.objects area (new_object class area slots) refl in
    makes area is_open refl (omega (arith, more))
    (λ a d. used_beside s.objects a (new_object class area slots) (λ e. d (sym e)))

pub goes_opening : (s : State) (job : Job) (activity : Activity) (position : Position) (scope : ℕ) (parent : Option ℕ)
    (bytes : ℕ) (next : State → ℕ → Step) → ((t : State) (a : ℕ) → SameTo t (next t a)) →
    GoesTo s (opening s job activity position scope parent bytes next)
unfolding opening
goes_opening s job activity position scope parent bytes next h =
    of_if (λ r. GoesTo s r) (has_store_for s bytes) _ _
    (goes_then_same s (with_area s scope parent bytes) _ (one_area s scope parent bytes)
    (h (with_area s scope parent bytes) (length s.areas)))
    (faulted s job activity position _)

pub goes_allocating : (s : State) (job : Job) (activity : Activity) (position : Position) (class area : ℕ) (slots : List Value)
    (next : State → ℕ → Step) → is_open_area s area ≡ true → ((t : State) (r : ℕ) → SameTo t (next t r)) →
    GoesTo s (allocating s job activity position class area slots next)
unfolding allocating
goes_allocating s job activity position class area slots next is_open h =
    of_if (λ r. GoesTo s r) (has_room s area (length slots)) _ _
    (goes_then_same s (with_object s class area slots) _ (one_object s class area slots is_open)
    (h (with_object s class area slots) (length s.objects)))
    (faulted s job activity position _)

pub goes_opened : (s : State) (job : Job) (activity : Activity) (frames : List Frame) (position : Position) (g : Frame)
    (scope bytes : ℕ) → GoesTo s (opened_in s job activity frames position g scope bytes)
unfolding opened_in
goes_opened s job activity frames position g scope bytes =
    of_if (λ r. GoesTo s r) (is_some (area_with_scope s scope activity.areas)) _ _ (faulted s job activity position _)
    (of_if (λ r. GoesTo s r) (is_full frames) _ _ (faulted s job activity position _)
    (goes_opening s job activity position scope (Some g.area) bytes _ (λ t a. same_active t job _)))

pub still_left : (s : State) (job : Job) (activity : Activity) (f : Frame) (below : List Frame)
    (value : Option Value) → StillTo s (frame_left s job activity f below value)
unfolding frame_left
still_left s job activity f below value = go _ below
  where
    go : (a : Activity) (fs : List Frame) →
        StillTo s (elim fs [
          | [] ↦ job_ended (closed s f.opened) job a value
          | g ∷ gs ↦ silently (with_activity (closed s f.opened) job a)
        ])
    go a [] =
        still_then_still s (closed s f.opened) _ (still_closed s f.opened)
        (same_still (closed s f.opened) _ (same_ended (closed s f.opened) job a value))
    go a (g ∷ gs) =
        still_then_still s (closed s f.opened) _ (still_closed s f.opened)
        (still_active (closed s f.opened) job a)

pub same_taken : (s : State) (handler : ℕ) → SameTo s (release_taken s handler)
unfolding release_taken
same_taken s handler =
    of_if (λ r. SameTo s r) (not (nat_lt (length (waiting_of s handler)) most_waiting)) _ _ (unchanged s _ refl refl)
    (unchanged s _ refl refl)

pub same_released : (s : State) (r : ℕ) → SameTo s (released s r)
unfolding released
same_released s r =
    of_if (λ x. SameTo s x) (takes_releases s) _ _
    (of_option (λ x. SameTo s x) (handler_number s.registry r) _ _ (unchanged s _ refl refl)
    (λ handler. same_taken s handler))
    (unchanged s _ refl refl)

pub same_asked : (s : State) (r : ℕ) → SameTo s (termination_asked s r)
unfolding termination_asked termination
same_asked s r =
    of_if (λ x. SameTo s x) (asks_for_end s.mission s.phase s.is_end_asked r) _ _
    (of_if (λ x. SameTo s x) (is_exec s.phase) _ _ (unchanged s _ refl refl) (unchanged s _ refl refl))
    (unchanged s _ refl refl)

pub still_registered : (code : Code) (s : State) (job : Job) (activity : Activity) (position : Position) (r : ℕ) (o : Object)
    (after : State) → StaysSame s after → StillTo s (registered code s job activity position r o after)
unfolding registered
still_registered code s job activity position r o after g =
    of_if (λ x. StillTo s x) (not (is_init s.phase)) _ _ (still_fault s job activity position _)
    (of_if (λ x. StillTo s x) (is_some (handler_number s.registry r)) _ _ (same_still s after g)
    (of_if (λ x. StillTo s x) (not (nat_lt (length s.registry) most_handlers)) _ _
    (still_fault s job activity position _)
    (same_still s _ (same_then_same s after _ g (unchanged after _ refl refl)))))

-- How much the steps make of which operations are made: at most one object or one area.
use Rattle.std.proofs.Common.{◌≡◌, ℕ, ◌+◌, ◌≤◌, nat_lt, Bool, true, false, not, List, [], ◌∷◌, length, Option, Some, None, if◌then◌else◌, refl, arith, length-append, length-set}
use Rattle.std.specs.Prelude.{slice_get, slice_set, is_some}
use Rattle.scj_base.specs.declared.positions.Position.{Position}
use Rattle.scj_base.specs.declared.faults.RunFault.{RunFault}
use Rattle.scj_base.specs.declared.values.Value.{Value}
use Rattle.scj_model.specs.Code.{Code}
use Rattle.scj_model.specs.State.{MemoryArea, Object, Frame, Activity, Job, TheSequencer, ReleaseAt, State, changed, with_activity, is_init, is_exec}
use Rattle.scj_model.specs.Registry.{most_handlers, handler_number}
use Rattle.scj_model.specs.Memory.{closed, has_room, has_store_for, area_with_scope, new_object, with_area, with_object}
use Rattle.scj_model.specs.Steps.{Step, silently, closed_all, job_ended, fault_in, allocating, opening}
use Rattle.scj_model.specs.Apply.{is_full, called, opened_in, frame_left, waiting_of, most_waiting, takes_releases, release_taken, registered, released, termination, termination_asked, asks_for_end, ceiling_entered}

-- at most so many objects and so many areas more
pub record Grows (more : ℕ) (s t : State) : Type 0 where
  pub objects : length t.objects ≤ length s.objects + more
  pub areas : length t.areas ≤ length s.areas + more

abbrev pub GrowsTo : ℕ → State → Step → Type 0
GrowsTo more s r = Grows more s r.state

pub record GrowsIf (more : ℕ) (s : State) (o : Option Step) : Type 0 where
  pub is : (r : Step) → o ≡ Some r → GrowsTo more s r

pub unchanged : (s t : State) → length t.objects ≡ length s.objects → length t.areas ≡ length s.areas → Grows 0 s t
unchanged s t e f = record { objects = omega (arith, e); areas = omega (arith, f) }

pub by_one : (s t : State) → Grows 0 s t → Grows 1 s t
by_one s t g = record { objects = omega (arith, g.objects); areas = omega (arith, g.areas) }

pub then_grows : (more : ℕ) (s t u : State) → Grows 0 s t → Grows more t u → Grows more s u
then_grows more s t u g h =
    record { objects = omega (arith, g.objects, h.objects); areas = omega (arith, g.areas, h.areas) }

grows_then : (more : ℕ) (s t u : State) → Grows more s t → Grows 0 t u → Grows more s u
grows_then more s t u g h =
    record { objects = omega (arith, g.objects, h.objects); areas = omega (arith, g.areas, h.areas) }

pub grows_if : (more : ℕ) (s : State) (b : Bool) (x y : Step) → GrowsTo more s x → GrowsTo more s y →
    GrowsTo more s (if b then x else y)
grows_if more s true x y g h = g
grows_if more s false x y g h = h

pub grows_option : {A : Type 0} (more : ℕ) (s : State) (o : Option A) (x : Step) (f : A → Step) → GrowsTo more s x →
    ((a : A) → GrowsTo more s (f a)) → GrowsTo more s (elim o [ None ↦ x | Some a ↦ f a ])
grows_option more s None x f g h = g
grows_option more s (Some a) x f g h = h a

pub length_changed : {A : Type 0} (f : A → A) (index : ℕ) (xs : List A) → length (changed f index xs) ≡ length xs
length_changed {A} f index xs = go (slice_get xs index)
  where
    go : (o : Option A) →
        length (elim o as (λ z. List A) [ None ↦ xs | Some y ↦ slice_set xs index (f y) ]) ≡ length xs
    go None = refl
    go (Some y) = length-set xs index (f y)

-- ---- what makes nothing

pub grows_active : (s : State) (job : Job) (activity : Activity) → Grows 0 s (with_activity s job activity)
unfolding with_activity
grows_active s TheSequencer activity = unchanged s _ refl refl
grows_active s (ReleaseAt n) activity = unchanged s _ refl refl

pub grows_closed : (s : State) (a : Option ℕ) → Grows 0 s (closed s a)
unfolding closed
grows_closed s None = unchanged s s refl refl
grows_closed s (Some a) =
    unchanged s _ refl (length_changed (λ (x : MemoryArea). record x { is_open = false }) a s.areas)

pub grows_closed_all : (s : State) (fs : List Frame) → Grows 0 s (closed_all s fs)
unfolding closed_all
grows_closed_all s [] = unchanged s s refl refl
grows_closed_all s (f ∷ fs) =
    then_grows 0 s (closed s f.opened) _ (grows_closed s f.opened) (grows_closed_all (closed s f.opened) fs)

pub grows_fault : (s : State) (job : Job) (activity : Activity) (position : Position) (fault : RunFault) →
    GrowsTo 0 s (fault_in s job activity position fault)
unfolding fault_in
grows_fault s TheSequencer activity position fault = unchanged s _ refl refl
grows_fault s (ReleaseAt n) activity position fault =
    grows_then 0 s (closed_all s activity.frames) _ (grows_closed_all s activity.frames)
    (unchanged (closed_all s activity.frames) _ refl refl)

pub faulted : (s : State) (job : Job) (activity : Activity) (position : Position) (fault : RunFault) →
    GrowsTo 1 s (fault_in s job activity position fault)
faulted s job activity position fault = by_one s _ (grows_fault s job activity position fault)

pub grows_ended : (s : State) (job : Job) (activity : Activity) (value : Option Value) →
    GrowsTo 0 s (job_ended s job activity value)
unfolding job_ended
grows_ended s TheSequencer activity value = unchanged s _ refl refl
grows_ended s (ReleaseAt n) activity value = unchanged s _ refl refl

-- ---- effects

pub grows_called : (code : Code) (s : State) (job : Job) (activity : Activity) (frames : List Frame) (position : Position)
    (g : Frame) → GrowsTo 0 s (called code s job activity frames position g)
unfolding called
grows_called code s job activity frames position g =
    grows_if 0 s (is_full frames) _ _ (grows_fault s job activity position _)
    (grows_option 0 s (ceiling_entered code s g) _ _ (grows_active s job _)
    (λ ceiling. grows_if 0 s (nat_lt ceiling activity.priority) _ _ (grows_fault s job activity position _)
    (grows_active s job _)))

one_area : (s : State) (scope : ℕ) (parent : Option ℕ) (bytes : ℕ) → Grows 1 s (with_area s scope parent bytes)
one_area s scope parent bytes =
    record {
      objects = omega arith;
      areas = omega (
        arith,
        length-append s.areas
            (record { scope = scope; parent = parent; bytes = bytes; is_open = true } ∷ []),
      );
    }

one_object : (s : State) (class area : ℕ) (slots : List Value) → Grows 1 s (with_object s class area slots)
one_object s class area slots =
    record {
      objects = omega (arith, length-append s.objects (new_object class area slots ∷ []));
      areas = omega arith;
    }

pub grows_opening : (s : State) (job : Job) (activity : Activity) (position : Position) (scope : ℕ) (parent : Option ℕ) (bytes : ℕ)
    (next : State → ℕ → Step) → ((t : State) (a : ℕ) → GrowsTo 0 t (next t a)) →
    GrowsTo 1 s (opening s job activity position scope parent bytes next)
unfolding opening
grows_opening s job activity position scope parent bytes next h =
    grows_if 1 s (has_store_for s bytes) _ _
    (grows_then 1 s (with_area s scope parent bytes) _ (one_area s scope parent bytes)
    (h (with_area s scope parent bytes) (length s.areas)))
    (faulted s job activity position _)

pub grows_allocating : (s : State) (job : Job) (activity : Activity) (position : Position) (class area : ℕ) (slots : List Value)
    (next : State → ℕ → Step) → ((t : State) (r : ℕ) → GrowsTo 0 t (next t r)) →
    GrowsTo 1 s (allocating s job activity position class area slots next)
unfolding allocating
grows_allocating s job activity position class area slots next h =
    grows_if 1 s (has_room s area (length slots)) _ _
    (grows_then 1 s (with_object s class area slots) _ (one_object s class area slots)
    (h (with_object s class area slots) (length s.objects)))
    (faulted s job activity position _)

pub grows_opened : (s : State) (job : Job) (activity : Activity) (frames : List Frame) (position : Position) (g : Frame)
    (scope bytes : ℕ) → GrowsTo 1 s (opened_in s job activity frames position g scope bytes)
unfolding opened_in
grows_opened s job activity frames position g scope bytes =
    grows_if 1 s (is_some (area_with_scope s scope activity.areas)) _ _ (faulted s job activity position _)
    (grows_if 1 s (is_full frames) _ _ (faulted s job activity position _)
    (grows_opening s job activity position scope (Some g.area) bytes _ (λ t a. grows_active t job _)))

pub grows_left : (s : State) (job : Job) (activity : Activity) (f : Frame) (below : List Frame) (value : Option Value) →
    GrowsTo 0 s (frame_left s job activity f below value)
unfolding frame_left
grows_left s job activity f below value = go _ below
  where
    go : (a : Activity) (fs : List Frame) →
        GrowsTo 0 s (elim fs [
          | [] ↦ job_ended (closed s f.opened) job a value
          | g ∷ gs ↦ silently (with_activity (closed s f.opened) job a)
        ])
    go a [] =
        then_grows 0 s (closed s f.opened) _ (grows_closed s f.opened) (grows_ended (closed s f.opened) job a value)
    go a (g ∷ gs) =
        then_grows 0 s (closed s f.opened) _ (grows_closed s f.opened) (grows_active (closed s f.opened) job a)

pub grows_taken : (s : State) (handler : ℕ) → GrowsTo 0 s (release_taken s handler)
unfolding release_taken
grows_taken s handler =
    grows_if 0 s (not (nat_lt (length (waiting_of s handler)) most_waiting)) _ _ (unchanged s _ refl refl)
    (unchanged s _ refl refl)

pub grows_released : (s : State) (r : ℕ) → GrowsTo 0 s (released s r)
unfolding released
grows_released s r =
    grows_if 0 s (takes_releases s) _ _
    (grows_option 0 s (handler_number s.registry r) _ _ (unchanged s _ refl refl) (λ handler. grows_taken s handler))
    (unchanged s _ refl refl)

pub grows_asked : (s : State) (r : ℕ) → GrowsTo 0 s (termination_asked s r)
unfolding termination_asked termination
grows_asked s r =
    grows_if 0 s (asks_for_end s.mission s.phase s.is_end_asked r) _ _
    (grows_if 0 s (is_exec s.phase) _ _ (unchanged s _ refl refl) (unchanged s _ refl refl))
    (unchanged s _ refl refl)

pub grows_registered : (code : Code) (s : State) (job : Job) (activity : Activity) (position : Position) (r : ℕ) (o : Object)
    (after : State) → Grows 0 s after → GrowsTo 0 s (registered code s job activity position r o after)
unfolding registered
grows_registered code s job activity position r o after g =
    grows_if 0 s (not (is_init s.phase)) _ _ (grows_fault s job activity position _)
    (grows_if 0 s (is_some (handler_number s.registry r)) _ _ g
    (grows_if 0 s (not (nat_lt (length s.registry) most_handlers)) _ _ (grows_fault s job activity position _)
    (grows_then 0 s after _ g (unchanged after _ refl refl))))

-- No reference that can be used dangles: each leads to an object of an open area.
use Rattle.std.specs.Prelude.{Option, Some, None, slice_get, flat_map, filter, filter_map, map, option_to_list, ◌++◌, ◌==◌, ◌||◌, if◌then◌else◌}
use Rattle.std.specs.List.{All, cons_option}
use Rattle.std.proofs.Common.{◌≡◌, ℕ, suc, List, [], ◌∷◌, Bool, true, false, refl, sym, ◌∙◌, ap}
use Rattle.std.proofs.lemmas.List.Elements.{All-nil, All-cons, All-head, All-tail, All-append, All-weaker, All-map, All-contains}
use Rattle.scj_base.specs.declared.values.Value.{Value}
use Rattle.scj_base.specs.declared.values.Value.TheVariants.{Int, Bool as Truth, Null, At}
use Rattle.scj_rules.specs.Contexts.{Declarations}
use Rattle.scj_rules.specs.Words.{is_among, holds, ◌>>=◌}
use Rattle.scj_model.specs.declared.handlers.HandlerRow.{HandlerRow}
use Rattle.scj_model.specs.Code.{Code}
use Rattle.scj_model.specs.State.{MemoryArea, Object, Frame, Activity, Release, Job, TheSequencer, ReleaseAt, State, activity_in, activity_of, is_open_area}
use Rattle.scj_model.specs.Safety.{reference_in, references, references_of_frame, references_of_job, started_activities, open_objects, live, IsRightlyHeld, NoDangling}
use Rattle.frame_sound.specs.Places.{World, world_of, denote, Held}
use Rattle.frame_sound.specs.Fine.{ListFine, HeapFine, IsOnList, Ready, Under, FramesFine, JobFine, list_of}
use Rattle.frame_sound.proofs.Places.{denote_on}
use Rattle.reference_sound.specs.References.{IfReference, EachReference, LiesIn, is_itself, lies_deeper, LiesAround, LiesInImmortal, JobHolds}
use Rattle.reference_sound.specs.Roots.{LiesOpen, ImmortalIsOpen, IsRooted}
use Rattle.reference_sound.proofs.Around.{all_on_list}

-- ---- lists

pub all_references : (Q : ℕ → Type 0) (vs : List Value) → EachReference Q vs → All Q (references vs)
unfolding reference_in
all_references Q [] h = All-nil Q
all_references Q (Int z ∷ vs) h = all_references Q vs (All-tail (IfReference Q) (Int z) vs h)
all_references Q (Truth b ∷ vs) h = all_references Q vs (All-tail (IfReference Q) (Truth b) vs h)
all_references Q (Null ∷ vs) h = all_references Q vs (All-tail (IfReference Q) Null vs h)
all_references Q (At r ∷ vs) h = All-cons Q r (references vs) (All-head (IfReference Q) (At r) vs h)
    (all_references Q vs (All-tail (IfReference Q) (At r) vs h))

module _ {A : Type 0} (Q : ℕ → Type 0) (f : A → List ℕ) where
  all_flat : (xs : List A) → All (λ x. All Q (f x)) xs → All Q (flat_map f xs)
  all_flat [] h = All-nil Q
  all_flat (x ∷ xs) h =
      All-append Q (f x) (flat_map f xs) (All-head (λ x. All Q (f x)) x xs h)
      (all_flat xs (All-tail (λ x. All Q (f x)) x xs h))

module _ {A : Type 0} (P : A → Type 0) where
  all_indices : (xs : List A) → ((i : ℕ) (x : A) → slice_get xs i ≡ Some x → P x) → All P xs
  all_indices [] h = All-nil P
  all_indices (x ∷ xs) h = All-cons P x xs (h 0 x refl) (all_indices xs (λ i y e. h (suc i) y e))

  all_filtered : (test : A → Bool) (xs : List A) →
      ((i : ℕ) (x : A) → slice_get xs i ≡ Some x → test x ≡ true → P x) → All P (filter test xs)
  all_filtered test [] h = All-nil P
  all_filtered test (x ∷ xs) h = go (test x) refl (all_filtered test xs (λ i y e t. h (suc i) y e t))
    where
      go : (t : Bool) → test x ≡ t → All P (filter test xs) →
          All P (if t then x ∷ filter test xs else filter test xs)
      go true e rest = All-cons P x (filter test xs) (h 0 x refl e) rest
      go false e rest = rest

  all_mapped : {B : Type 0} (f : B → Option A) (xs : List B) →
      ((i : ℕ) (a : A) → slice_get xs i >>= f ≡ Some a → P a) → All P (filter_map f xs)
  all_mapped f [] h = All-nil P
  all_mapped f (x ∷ xs) h = go (f x) refl (all_mapped f xs (λ i a e. h (suc i) a e))
    where
      go : (o : Option A) → f x ≡ o → All P (filter_map f xs) →
          All P (cons_option o (filter_map f xs))
      go None e rest = rest
      go (Some a) e rest = All-cons P a (filter_map f xs) (h 0 a e) rest

  all_of_option : (o : Option A) → ((a : A) → o ≡ Some a → P a) → All P (option_to_list o)
  all_of_option None h = All-nil P
  all_of_option (Some a) h = All-cons P a [] (h a refl) (All-nil P)

-- ---- open areas

pub list_open : (s : State) (list : List ℕ) (r : ℕ) → ListFine (world_of s).areas list → IsOnList (world_of s) list r →
    LiesOpen s r
list_open s list r fine h =
    let x = fine.found h.object.area h.on_list in
    record {
      object = h.object;
      found = h.found;
      is_open = ap (λ (o : Option MemoryArea). holds o (λ x. x.is_open)) x.1
          ∙ fine.are_open h.object.area x.0 h.on_list x.1;
    }

pub first_open : (p : Declarations) (s : State) (r : ℕ) → HeapFine p (world_of s) → ImmortalIsOpen s →
    LiesInImmortal (world_of s) r → LiesOpen s r
first_open p s r heap immortal h =
    let o = heap r h.object h.found in
    record {
      object = h.object;
      found = h.found;
      is_open = ap (λ (o : Option MemoryArea). holds o (λ x. x.is_open)) o.is_area
          ∙ immortal o.area (ap (world_of s).areas (sym h.in_first) ∙ o.is_area);
    }

-- the list that a frame leaves lies behind what it opened
pub still_on : (w : World) (base : List ℕ) (f : Frame) (fs : List Frame) (r : ℕ) → IsOnList w (list_of base fs) r →
    IsOnList w (list_of base (f ∷ fs)) r
still_on w base f fs r h =
    record { object = h.object; found = h.found; on_list = behind f.opened h.on_list }
  where
    behind : (o : Option ℕ) → is_among h.object.area (list_of base fs) ≡ true →
        is_among h.object.area (option_to_list o ++ list_of base fs) ≡ true
    behind None e = e
    behind (Some a) e = elim (h.object.area == a) as (λ t. (t || is_among h.object.area (list_of base fs)) ≡ true)
        [ true ↦ refl | false ↦ e ]

module _ (code : Code) (s : State) (base : List ℕ) (rooted : IsRooted code s base) where
  abbrev w : World
  w = world_of s

  abbrev Lives : ℕ → Type 0
  Lives r = LiesOpen s r

  -- ---- open areas

  outwards : (a b : ℕ) → LiesIn w.areas a b → is_open_area s a ≡ true → is_open_area s b ≡ true
  outwards _ _ (is_itself a) h = h
  outwards _ _ (lies_deeper a b c x there up deep) h =
      outwards b c deep
      (rooted.parents a b x there (sym (ap (λ (o : Option MemoryArea). holds o (λ x. x.is_open)) there) ∙ h) up)

  around_open : (a : ℕ) → is_open_area s a ≡ true → (r : ℕ) → LiesAround w a r → Lives r
  around_open a o r h =
      record { object = h.object; found = h.found; is_open = outwards a h.object.area h.around o }

  immortal_open : (r : ℕ) → LiesInImmortal w r → Lives r
  immortal_open r h = first_open code.program s r rooted.heap rooted.immortal h

  -- ---- frames

  abbrev On : List Frame → ℕ → Type 0
  On fs r = IsOnList w (list_of base fs) r

  -- what a frame refers to lies on its list
  frame_on : (f : Frame) (fs : List Frame) (given : Option Held) → Under code w base (f ∷ fs) given →
      JobHolds w base (f ∷ fs) → All (On (f ∷ fs)) (references_of_frame f)
  unfolding references_of_frame
  frame_on f fs given u h =
      All-append (On (f ∷ fs)) (option_to_list f.this) (references f.locals ++ references f.operands)
      (all_of_option (On (f ∷ fs)) f.this (λ r e. ready.home.on_list r e))
      (All-append (On (f ∷ fs)) (references f.locals) (references f.operands)
      (all_references (On (f ∷ fs)) f.locals h.0)
      (all_references (On (f ∷ fs)) f.operands operands))
    where
      ready : Ready code w (list_of base (f ∷ fs)) u.0.class u.0.sig f u.0.kind
      ready = u.0.ready

      operands : EachReference (On (f ∷ fs)) f.operands
      operands =
          all_on_list code.program w (list_of base (f ∷ fs)) (denote w (list_of base (f ∷ fs)) f.this f.area)
          (λ s a e. denote_on code.program w (list_of base (f ∷ fs)) u.0.class u.0.sig f.body f.this f.area ready.home s
          a e)
          ready.kinds f.operands ready.operands

  frames_live : (fs : List Frame) (given : Option Held) → Under code w base fs given → JobHolds w base fs →
      All Lives (flat_map references_of_frame fs)
  frames_live [] given u h = All-nil Lives
  frames_live (f ∷ fs) given u h =
      All-append Lives (references_of_frame f) (flat_map references_of_frame fs)
      (All-weaker (On (f ∷ fs)) Lives (λ r x. list_open s (list_of base (f ∷ fs)) r u.1 x) (references_of_frame f)
      (frame_on f fs given u h)) (frames_live fs _ u.2 h.1)

  job_lives : (job : Job) (activity : Activity) → activity_of s job ≡ Some activity →
      All Lives (references_of_job activity)
  job_lives job activity e =
      go activity.frames (rooted.jobs job activity e).frames (rooted.references.jobs job activity e)
    where
      go : (fs : List Frame) → FramesFine code w base fs → JobHolds w base fs →
          All Lives (flat_map references_of_frame fs)
      go [] fine h = All-nil Lives
      go (f ∷ fs) fine h = frames_live (f ∷ fs) None fine h

  -- what the frames of a job refer to lies on the job's own list
  frames_on : (fs : List Frame) (given : Option Held) → Under code w base fs given → JobHolds w base fs →
      All (On fs) (flat_map references_of_frame fs)
  frames_on [] given u h = All-nil (On [])
  frames_on (f ∷ fs) given u h =
      All-append (On (f ∷ fs)) (references_of_frame f) (flat_map references_of_frame fs) (frame_on f fs given u h)
      (All-weaker (On fs) (On (f ∷ fs)) (λ r x. still_on w base f fs r x) (flat_map references_of_frame fs)
      (frames_on fs _ u.2 h.1))

  job_on : (job : Job) (activity : Activity) → activity_of s job ≡ Some activity → IsRightlyHeld s activity
  job_on job activity e r h =
      let x = All-contains (On activity.frames) (references_of_job activity) r (go activity.frames fine.frames held) h in
      ap (λ (o : Option Object). holds o (λ o. is_among o.area activity.areas)) x.found
      ∙ (ap (λ list. is_among x.object.area list) fine.is_list ∙ x.on_list)
    where
      fine : JobFine code w base activity
      fine = rooted.jobs job activity e

      held : JobHolds w base activity.frames
      held = rooted.references.jobs job activity e

      go : (fs : List Frame) → FramesFine code w base fs → JobHolds w base fs →
          All (On fs) (flat_map references_of_frame fs)
      go [] fine h = All-nil (On [])
      go (f ∷ fs) fine h = frames_on (f ∷ fs) None fine h

  -- ---- all that can be used

  sequencer_lives : All Lives (references_of_job s.activity)
  unfolding activity_of
  sequencer_lives = job_lives TheSequencer s.activity refl

  releases_live : All Lives (flat_map references_of_job (started_activities s))
  unfolding started_activities activity_of
  releases_live =
      all_flat Lives references_of_job (started_activities s)
      (all_mapped (λ a. All Lives (references_of_job a)) (λ (r : Release). activity_in r.status) s.releases
      (λ i a e. job_lives (ReleaseAt i) a e))

  statics_live : All Lives (references s.statics)
  statics_live =
      All-weaker (LiesInImmortal w) Lives immortal_open (references s.statics)
      (all_references (LiesInImmortal w) s.statics rooted.references.memory.statics)

  handlers_live : All Lives (map (λ (row : HandlerRow). row.at) s.registry)
  handlers_live =
      All-map Lives (λ (row : HandlerRow). row.at) s.registry
      (all_indices (λ (row : HandlerRow). Lives row.at) s.registry rooted.roots.handlers)

  objects_live : All Lives (flat_map (λ (o : Object). references o.slots) (open_objects s))
  objects_live =
      all_flat Lives (λ (o : Object). references o.slots) (open_objects s)
      (all_filtered (λ (o : Object). All Lives (references o.slots)) (λ (o : Object). is_open_area s o.area) s.objects
      (λ i o e t.
      All-weaker (LiesAround w o.area) Lives (around_open o.area t) (references o.slots)
      (all_references (LiesAround w o.area) o.slots (rooted.references.memory.slots i o e))))

  all_live : All Lives (live s)
  unfolding live
  all_live =
      All-append Lives _ _ sequencer_lives
      (All-append Lives _ _ releases_live
      (All-append Lives _ _ statics_live
      (All-append Lives _ _ handlers_live
      (All-append Lives _ _ (all_of_option Lives s.safelet rooted.roots.safelet)
      (All-append Lives _ _ (all_of_option Lives s.mission_sequencer rooted.roots.mission_sequencer)
      (All-append Lives _ _ (all_of_option Lives s.mission rooted.roots.mission) objects_live))))))

  pub none_dangles : NoDangling s
  none_dangles =
      record {
        are_open = λ r h. (let x = All-contains Lives (live s) r all_live h in
            ap (λ (o : Option Object). holds o (λ o. is_open_area s o.area)) x.found ∙ x.is_open);
        are_on_lists = job_on;
      }

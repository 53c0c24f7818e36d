-- A job comes to its end: the areas that its frames opened are closed, and no other ones; the memory is as fine as
-- before.
use Rattle.std.specs.Prelude.{Option, Some, None, slice_get, slice_set, ◌||◌, ◌==◌, ◌++◌, option_map, option_to_list}
use Rattle.std.proofs.Common.{◌≡◌, ℕ, List, [], ◌∷◌, Bool, true, false, refl, sym, ◌∙◌, ap, subst, arith, inl}
use Rattle.std.proofs.lemmas.Bool.Decides.{nat_tests}
use Rattle.scj_base.specs.declared.faults.RunFault.{RunFault}
use Rattle.scj_base.specs.declared.positions.Position.{Position}
use Rattle.scj_base.specs.declared.values.Value.{Value}
use Rattle.scj_rules.specs.Words.{is_among, ◌>>=◌}
use Rattle.scj_model.specs.Code.{Code}
use Rattle.scj_model.specs.State.{MemoryArea, Object, Frame, Activity, Ended, Release, Job, TheSequencer, ReleaseAt, State, changed, activity_in, activity_of, with_status, area_at}
use Rattle.scj_model.specs.Memory.{closed}
use Rattle.scj_model.specs.Steps.{closed_all, fault_in}
use Rattle.frame_sound.specs.Fine.{MemoryFine, Stands}
use Rattle.frame_sound.specs.OwnJob.{opened_by, closed_if, KeepsItsAreas, IsClosedBehind, HasEnded, HasFaulted}
use Rattle.frame_sound.proofs.Changes.{changed_at, changed_off}
use Rattle.frame_sound.proofs.Closes.{with_closed, areas_closed, heap_closed, statics_closed}

-- ---- what stands in equal memory

pub stands_still : (code : Code) (areas more : List MemoryArea) (objects others : List Object)
    (statics values : List Value)
    (base : List ℕ) (frames : List Frame) → more ≡ areas → others ≡ objects → values ≡ statics →
    Stands code areas objects statics base frames → Stands code more others values base frames
stands_still code areas more objects others statics values base frames e f g h =
    subst (λ x. Stands code x others values base frames) (sym e)
    (subst (λ x. Stands code areas x values base frames) (sym f)
    (subst (λ x. Stands code areas objects x base frames) (sym g) h))

pub memory_of : (code : Code) (s : State) (base : List ℕ) (frames : List Frame) →
    Stands code s.areas s.objects s.statics base frames → MemoryFine code s
memory_of code s base frames m = record { areas = m.areas_fine; heap = m.heap; statics = m.statics_fine }

-- ---- closing

-- it changes areas alone
pub closed_is : (s : State) (o : Option ℕ) → closed s o ≡ record s { areas = (closed s o).areas }
unfolding closed
closed_is s None = refl
closed_is s (Some a) = refl

pub closed_all_is : (s : State) (frames : List Frame) →
    closed_all s frames ≡ record s { areas = (closed_all s frames).areas }
unfolding closed_all
closed_all_is s [] = refl
closed_all_is s (f ∷ fs) =
    closed_all_is (closed s f.opened) fs
    ∙ ap (λ (t : State). record t { areas = (closed_all (closed s f.opened) fs).areas }) (closed_is s f.opened)

pub closed_memory : (code : Code) (s : State) (o : Option ℕ) → MemoryFine code s → MemoryFine code (closed s o)
unfolding closed
closed_memory code s None m = m
closed_memory code s (Some a) m =
    record {
      areas = areas_closed s.areas a (λ r. slice_get s.objects r) code.program m.areas;
      heap = heap_closed s.areas a (λ r. slice_get s.objects r) code.program m.heap;
      statics = statics_closed s.areas a (λ r. slice_get s.objects r) code.program s.statics m.statics;
    }

pub closed_all_memory : (code : Code) (s : State) (frames : List Frame) → MemoryFine code s →
    MemoryFine code (closed_all s frames)
unfolding closed_all
closed_all_memory code s [] m = m
closed_all_memory code s (f ∷ fs) m =
    closed_all_memory code (closed s f.opened) fs (closed_memory code s f.opened m)

-- ---- which areas are closed

if_none : (o : Option MemoryArea) → o ≡ option_map (closed_if false) o
if_none None = refl
if_none (Some x) = refl

if_both : (t u : Bool) (o : Option MemoryArea) →
    option_map (closed_if u) (option_map (closed_if t) o) ≡ option_map (closed_if (t || u)) o
if_both t u None = refl
if_both true true (Some x) = refl
if_both true false (Some x) = refl
if_both false true (Some x) = refl
if_both false false (Some x) = refl

pub among_both : (a : ℕ) (xs ys : List ℕ) → is_among a (xs ++ ys) ≡ (is_among a xs || is_among a ys)
among_both a [] ys = refl
among_both a (x ∷ xs) ys = go (a == x) (among_both a xs ys)
  where
    go : (t : Bool) → is_among a (xs ++ ys) ≡ (is_among a xs || is_among a ys) →
        (t || is_among a (xs ++ ys)) ≡ ((t || is_among a xs) || is_among a ys)
    go true e = refl
    go false e = e

pub closed_at : (s : State) (o : Option ℕ) (a : ℕ) →
    area_at (closed s o) a ≡ option_map (closed_if (is_among a (option_to_list o))) (area_at s a)
unfolding closed
closed_at s None a = if_none (area_at s a)
closed_at s (Some b) a = go (a == b) refl
  where
    there : (o : Option MemoryArea) → slice_get s.areas b ≡ o →
        slice_get (changed with_closed b s.areas) b ≡ option_map (closed_if true) (slice_get s.areas b)
    there None e =
        ap (λ (o : Option MemoryArea). slice_get
        (elim o as (λ z. List MemoryArea) [ None ↦ s.areas | Some y ↦ slice_set s.areas b (with_closed y) ]) b) e
        ∙ (e ∙ ap (option_map (closed_if true)) (sym e))
    there (Some x) e = changed_at with_closed b s.areas x e ∙ ap (option_map (closed_if true)) (sym e)

    go : (t : Bool) → (a == b) ≡ t →
        slice_get (changed with_closed b s.areas) a ≡ option_map (closed_if (t || false)) (slice_get s.areas a)
    go true e =
        let same : b ≡ a = grind (arith, nat_tests) in
        subst (λ n. slice_get (changed with_closed b s.areas) n ≡ option_map (closed_if true) (slice_get s.areas n))
        same
        (there (slice_get s.areas b) refl)
    go false e = changed_off with_closed b s.areas a (λ same. grind (arith, nat_tests)) ∙ if_none (slice_get s.areas a)

pub closed_all_at : (s : State) (frames : List Frame) (a : ℕ) →
    area_at (closed_all s frames) a ≡ option_map (closed_if (is_among a (opened_by frames))) (area_at s a)
unfolding closed_all
closed_all_at s [] a = if_none (area_at s a)
closed_all_at s (f ∷ fs) a =
    closed_all_at (closed s f.opened) fs a
    ∙ (ap (option_map (closed_if (is_among a (opened_by fs)))) (closed_at s f.opened a)
    ∙ (if_both (is_among a (option_to_list f.opened)) (is_among a (opened_by fs)) (area_at s a)
    ∙ ap (λ t. option_map (closed_if t) (area_at s a)) (sym (among_both a (option_to_list f.opened) (opened_by fs)))))

pub all_closed : (s t : State) (frames : List Frame) → t.areas ≡ (closed_all s frames).areas → t.objects ≡ s.objects →
    t.statics ≡ s.statics → IsClosedBehind s frames t
all_closed s t frames e f g =
    record {
      areas = λ a. ap (λ (xs : List MemoryArea). slice_get xs a) e ∙ closed_all_at s frames a;
      objects = f;
      statics = g;
    }

-- ---- the areas of a job that goes on

-- where no area changes, and the frames opened the same ones
pub same_areas : (code : Code) (s t : State) (frames left : List Frame) → t.areas ≡ s.areas →
    opened_by left ≡ opened_by frames → KeepsItsAreas code s frames t left
same_areas code s t frames left e same =
    record {
      has = λ a h. inl (subst (λ l. is_among a l ≡ true) same h);
      lost = λ a x h there. inl (subst (λ l. is_among a l ≡ true) (sym same) h);
      new = λ a x none there.
          (let y : area_at t a ≡ None = ap (λ (xs : List MemoryArea). slice_get xs a) e ∙ none in
          absurd (cc (y, there)));
    }

-- ---- the release of a job

-- the release that a job is
pub record IsUnderWay (s : State) (index : ℕ) (activity : Activity) : Type 0 where
  pub release : Release
  pub is : slice_get s.releases index ≡ Some release
  pub has : activity_in release.status ≡ Some activity

pub under_way : (s : State) (index : ℕ) (activity : Activity) → activity_of s (ReleaseAt index) ≡ Some activity →
    IsUnderWay s index activity
unfolding activity_of
under_way s index activity e = go (slice_get s.releases index) refl e
  where
    go : (o : Option Release) → slice_get s.releases index ≡ o → o >>= (λ r. activity_in r.status) ≡ Some activity →
        IsUnderWay s index activity
    go None f g = absurd (cc (g))
    go (Some r) f g = record { release = r; is = f; has = g }

-- there is such a job
abbrev pub JobThere : State → Job → Type 0
JobThere s TheSequencer = Unit {0}
JobThere s (ReleaseAt index) = (r : Release) × (slice_get s.releases index ≡ Some r)

pub job_there : (s : State) (job : Job) (activity : Activity) → activity_of s job ≡ Some activity → JobThere s job
job_there s TheSequencer activity e = tt
job_there s (ReleaseAt index) activity e = let u = under_way s index activity e in (u.release, u.is)

pub release_ended : (s t : State) (index : ℕ) → t.releases ≡ s.releases → JobThere s (ReleaseAt index) →
    HasEnded (with_status t index Ended) index
release_ended s t index e there =
    record {
      release = record there.0 { status = Ended };
      is = changed_at (λ (r : Release). record r { status = Ended }) index t.releases there.0
          (ap (λ (rs : List Release). slice_get rs index) e ∙ there.1);
      ended = refl;
    }

-- ---- faults

pub faulted : (code : Code) (s : State) (job : Job) (activity : Activity) → JobThere s job → MemoryFine code s →
    (position : Position) (fault : RunFault) →
    HasFaulted code s job activity (fault_in s job activity position fault)
unfolding fault_in
faulted code s TheSequencer activity there m position fault =
    record {
      position = position;
      fault = fault;
      is = refl;
      memory = record { areas = m.areas; heap = m.heap; statics = m.statics };
      ends = refl;
    }
faulted code s (ReleaseAt n) activity there m position fault =
    let c = closed_all_memory code s activity.frames m in
    let e = closed_all_is s activity.frames in
    record {
      position = position;
      fault = fault;
      is = refl;
      memory = record { areas = c.areas; heap = c.heap; statics = c.statics };
      ends = record {
        closed = all_closed s _ activity.frames refl (ap (λ (t : State). t.objects) e)
            (ap (λ (t : State). t.statics) e);
        ended = release_ended s (closed_all s activity.frames) n (ap (λ (t : State). t.releases) e) there;
      };
    }

pub fault_keeps_registry : (s : State) (job : Job) (activity : Activity) (position : Position) (fault : RunFault) →
    (fault_in s job activity position fault).state.registry ≡ s.registry
unfolding fault_in
fault_keeps_registry s TheSequencer activity position fault = refl
fault_keeps_registry s (ReleaseAt n) activity position fault =
    ap (λ (t : State). t.registry) (closed_all_is s activity.frames)

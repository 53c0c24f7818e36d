-- What a job does leaves the other releases bounded: it puts objects into no area that another job opened.
use Rattle.std.specs.Prelude.{Option, Some, None, option_to_list}
use Rattle.std.proofs.Common.{◌≡◌, ℕ, ◌==◌, ◌||◌, List, [], ◌∷◌, ◌++◌, Bool, true, false, ◌⊎◌, inl, inr, ⊎_elim, refl, sym, ◌∙◌, ap, subst, arith}
use Rattle.std.proofs.lemmas.Bool.{true≢false}
use Rattle.std.proofs.lemmas.Bool.Decides.{nat_tests}
use Rattle.scj_rules.proofs.ChainLemmas.{or_right}
use Rattle.scj_rules.specs.Words.{is_among}
use Rattle.scj_model.specs.Code.{Code}
use Rattle.scj_model.specs.State.{Frame, Activity, Job, State, activity_of}
use Rattle.frame_sound.specs.Places.{world_of}
use Rattle.frame_sound.specs.Fine.{AreDistinct, FramesFine, list_of}
use Rattle.frame_sound.specs.OwnJob.{opened_by}
use Rattle.mission_sound.specs.Bases.{Base, areas_of}
use Rattle.mission_sound.specs.Invariant.{IsOpenedBy, MemoriesFine}
use Rattle.memory_needs.specs.Need.{Table}
use Rattle.memory_bounds.specs.Bounded.{IsBounded}
use Rattle.memory_bounds.proofs.Kept.{others_keep}
use Rattle.memory_bounds.proofs.Spares.{Spares}

-- ---- the list of a job

among_cons : (a x : ℕ) (xs : List ℕ) → is_among a (x ∷ xs) ≡ true → (a ≡ x) ⊎ (is_among a xs ≡ true)
among_cons a x xs e = of (a == x) refl e
  where
    of : (b : Bool) → (a == x) ≡ b → (b || is_among a xs) ≡ true → (a ≡ x) ⊎ (is_among a xs ≡ true)
    of true p q = inl (grind (arith, nat_tests))
    of false p q = inr q

behind_optional : (o : Option ℕ) (xs : List ℕ) (a : ℕ) → is_among a xs ≡ true →
    is_among a (option_to_list o ++ xs) ≡ true
behind_optional None xs a k = k
behind_optional (Some x) xs a k = or_right (a == x) (is_among a xs) k

first_of : (a x : ℕ) (xs : List ℕ) → a ≡ x → is_among a (x ∷ xs) ≡ true
first_of a x xs same = let t : (a == x) ≡ true = grind (arith, nat_tests) in rw t refl

optional_step : (o : Option ℕ) (xs ys base : List ℕ) (a : ℕ) →
    (is_among a xs ≡ true → (is_among a ys ≡ true) ⊎ (is_among a base ≡ true)) →
    is_among a (option_to_list o ++ xs) ≡ true →
    (is_among a (option_to_list o ++ ys) ≡ true) ⊎ (is_among a base ≡ true)
optional_step None xs ys base a h e = h e
optional_step (Some x) xs ys base a h e =
    ⊎_elim (λ (same : a ≡ x). inl (first_of a x ys same))
    (λ (later : is_among a xs ≡ true).
    ⊎_elim (λ (k : is_among a ys ≡ true). inl (or_right (a == x) (is_among a ys) k))
    (λ (k : is_among a base ≡ true). inr k) (h later)) (among_cons a x xs e)

-- what stands on it was opened by its frames, or is one that the job had without them
opened_or_base : (base : List ℕ) (frames : List Frame) (a : ℕ) → is_among a (list_of base frames) ≡ true →
    (is_among a (list_of [] frames) ≡ true) ⊎ (is_among a base ≡ true)
opened_or_base base [] a e = inr e
opened_or_base base (f ∷ fs) a e =
    optional_step f.opened (list_of base fs) (list_of [] fs) base a (λ k. opened_or_base base fs a k) e

in_list : (base : List ℕ) (frames : List Frame) (a : ℕ) → is_among a base ≡ true →
    is_among a (list_of base frames) ≡ true
in_list base [] a e = e
in_list base (f ∷ fs) a e = behind_optional f.opened (list_of base fs) a (in_list base fs a e)

distinct_step : (o : Option ℕ) (xs ys : List ℕ) (a : ℕ) → is_among a xs ≡ true →
    (AreDistinct xs → is_among a ys ≡ true → ⊥) → AreDistinct (option_to_list o ++ xs) →
    is_among a (option_to_list o ++ ys) ≡ true → ⊥
distinct_step None xs ys a there h d e = h d e
distinct_step (Some x) xs ys a there h d e =
    ⊎_elim (λ (same : a ≡ x). true≢false (sym there ∙ (ap (λ n. is_among n xs) same ∙ d.0)))
    (λ (k : is_among a ys ≡ true). h d.1 k) (among_cons a x ys e)

-- an area that was opened is none of these others
not_both : (base : List ℕ) (frames : List Frame) (a : ℕ) → AreDistinct (list_of base frames) →
    is_among a (list_of [] frames) ≡ true → is_among a base ≡ true → ⊥
not_both base [] a d o e = true≢false (sym o)
not_both base (f ∷ fs) a d o e =
    distinct_step f.opened (list_of base fs) (list_of [] fs) a (in_list base fs a e) (λ k m. not_both base fs a k m e) d o

-- ---- two jobs

module _ (code : Code) (s : State) (base : Base) (memories : MemoriesFine code s base) (job other : Job)
    (differ : job ≡ other → ⊥) (activity others : Activity) (is : activity_of s job ≡ Some activity)
    (is_other : activity_of s other ≡ Some others) where
  -- the area of the acting frame was opened by no other job
  pub apart : (f : Frame) (below : List Frame) → activity.frames ≡ f ∷ below → (a : ℕ) →
      is_among a (opened_by others.frames) ≡ true → a ≡ f.area → ⊥
  apart f below frames a o here = of (opened_or_base (areas_of base) (f ∷ below) f.area fine.0.ready.home.now_on_list)
    where
      fine : FramesFine code (world_of s) (areas_of base) (f ∷ below)
      fine = subst (FramesFine code (world_of s) (areas_of base)) frames (memories.jobs job activity is).frames

      theirs : IsOpenedBy s f.area other
      theirs = record { activity = others; is = is_other; on_list = subst (λ n. is_among n (opened_by others.frames) ≡ true) here o }

      distinct : (fs : List Frame) → others.frames ≡ fs → AreDistinct (list_of (areas_of base) fs)
      distinct [] e = absurd (true≢false (sym o ∙ ap (λ (xs : List Frame). is_among a (opened_by xs)) e))
      distinct (g ∷ gs) e =
          let k : FramesFine code (world_of s) (areas_of base) (g ∷ gs) =
          subst (FramesFine code (world_of s) (areas_of base)) e (memories.jobs other others is_other).frames in
          k.1.are_distinct

      of : (is_among f.area (list_of [] (f ∷ below)) ≡ true) ⊎ (is_among f.area (areas_of base) ≡ true) → ⊥
      of (inl mine) =
          differ (memories.apart f.area job other (record {
            activity = activity;
            is = is;
            on_list = ap (λ (xs : List Frame). is_among f.area (opened_by xs)) frames ∙ mine;
          }) theirs)
      of (inr low) =
          not_both (areas_of base) others.frames f.area (distinct others.frames refl) theirs.on_list low

  -- so an operation of the one leaves the other bounded
  pub other_stays : (table : Table) (f : Frame) (below : List Frame) → activity.frames ≡ f ∷ below → (t : State) →
      Spares s t f.area → IsBounded code table s others.frames → IsBounded code table t others.frames
  other_stays table f below frames t spares b =
      others_keep code table s t others.frames
      (λ a o. spares.in_use a (λ same. apart f below frames a o same)) spares.areas b

-- An operation of one job lets all jobs stand.
use Rattle.std.specs.Prelude.{Option, Some, None, ◌||◌, ◌==◌, ◌++◌, option_to_list}
use Rattle.std.proofs.Common.{◌≡◌, ℕ, List, [], ◌∷◌, Bool, true, false, refl, sym, ◌∙◌, ap, subst, arith, true≢false, ◌⊎◌, inl, inr}
use Rattle.std.proofs.lemmas.Bool.Decides.{nat_tests}
use Rattle.std.proofs.lemmas.List.{append_assoc}
use Rattle.scj_rules.specs.Words.{holds, is_among}
use Rattle.accepted_laws.proofs.Tools.{some_inj}
use Rattle.scope_flow.proofs.Known.{or_cases}
use Rattle.scj_model.specs.Code.{Code}
use Rattle.scj_model.specs.State.{MemoryArea, Activity, Frame, Job, TheSequencer, ReleaseAt, State, activity_of, area_at, is_open_area}
use Rattle.frame_sound.specs.Places.{World, world_of}
use Rattle.frame_sound.specs.Fine.{AreDistinct, FramesFine, JobFine, ListFine, MemoryFine, list_of}
use Rattle.frame_sound.specs.OwnJob.{closed_if, opened_by}
use Rattle.frame_sound.specs.Others.{AreNotOf, AreaStays, KeepsOthers, OthersStand}
use Rattle.frame_sound.specs.AllJobs.{AllStand, IsOpenedBy}
use Rattle.frame_sound.proofs.OtherJobs.{job_still, list_still}
use Rattle.frame_sound.proofs.OwnEnds.{among_both}
use Rattle.frame_sound.proofs.OwnedAreas.{Owns}

-- ---- a list of areas

pub list_of_both : (base : List ℕ) (frames : List Frame) → list_of base frames ≡ opened_by frames ++ base
list_of_both base [] = refl
list_of_both base (f ∷ fs) =
    ap (λ l. option_to_list f.opened ++ l) (list_of_both base fs)
    ∙ sym (append_assoc (option_to_list f.opened) (opened_by fs) base)

among_left : (a : ℕ) (xs ys : List ℕ) → is_among a xs ≡ true → is_among a (xs ++ ys) ≡ true
among_left a xs ys h = among_both a xs ys ∙ ap (λ t. t || is_among a ys) h

among_right : (a : ℕ) (xs ys : List ℕ) → is_among a ys ≡ true → is_among a (xs ++ ys) ≡ true
among_right a xs ys h = among_both a xs ys ∙ go (is_among a xs) (is_among a ys) h
  where
    go : (t u : Bool) → u ≡ true → (t || u) ≡ true
    go true u e = refl
    go false u e = e

-- what stands behind stands not in front
distinct_apart : (a : ℕ) (xs ys : List ℕ) → AreDistinct (xs ++ ys) → is_among a ys ≡ true → is_among a xs ≡ false
distinct_apart a [] ys d h = refl
distinct_apart a (x ∷ xs) ys d h = go (a == x) refl (distinct_apart a xs ys d.1 h)
  where
    go : (t : Bool) → (a == x) ≡ t → is_among a xs ≡ false → (t || is_among a xs) ≡ false
    go true e ih =
        let same : a ≡ x = grind (arith, nat_tests) in
        absurd (true≢false (sym (among_right x xs ys (subst (λ b. is_among b ys ≡ true) same h)) ∙ d.0))
    go false e ih = ih

module _ (code : Code) (w : World) (base : List ℕ) (activity : Activity) (fine : JobFine code w base activity) where
  on_list : (f : Frame) (fs : List Frame) → activity.frames ≡ f ∷ fs → ListFine w.areas (list_of base (f ∷ fs))
  on_list f fs e =
      let u : FramesFine code w base (f ∷ fs) = subst (FramesFine code w base) e fine.frames in u.1

  -- the areas that a job opened aren't those of the sequencer
  pub off_base : AreNotOf activity.frames base
  off_base a on = go activity.frames refl
    where
      go : (fs : List Frame) → activity.frames ≡ fs → is_among a (opened_by activity.frames) ≡ false
      go [] e = ap (λ fs. is_among a (opened_by fs)) e
      go (f ∷ fs) e =
          ap (λ fs. is_among a (opened_by fs)) e
          ∙ distinct_apart a (opened_by (f ∷ fs)) base
          (subst AreDistinct (list_of_both base (f ∷ fs)) (on_list f fs e).are_distinct) on

  -- and are there
  pub opened_there : (a : ℕ) → is_among a (opened_by activity.frames) ≡ true →
      (x : MemoryArea) × (w.areas a ≡ Some x)
  opened_there a on = go activity.frames refl
    where
      go : (fs : List Frame) → activity.frames ≡ fs → (x : MemoryArea) × (w.areas a ≡ Some x)
      go [] e = absurd (true≢false (sym on ∙ ap (λ fs. is_among a (opened_by fs)) e))
      go (f ∷ fs) e =
          let here : is_among a (list_of base (f ∷ fs)) ≡ true =
          ap (is_among a) (list_of_both base (f ∷ fs))
          ∙ among_left a (opened_by (f ∷ fs)) base (sym (ap (λ fs. is_among a (opened_by fs)) e) ∙ on) in
          let x = (on_list f fs e).found a here in (x.0, x.1)

same_or_other : (job other : Job) → (other ≡ job) ⊎ (other ≡ job → ⊥)
same_or_other TheSequencer TheSequencer = inl refl
same_or_other TheSequencer (ReleaseAt n) = inr (λ e. cc (e))
same_or_other (ReleaseAt n) TheSequencer = inr (λ e. cc (e))
same_or_other (ReleaseAt n) (ReleaseAt m) = go (m == n) refl
  where
    go : (t : Bool) → (m == n) ≡ t → (ReleaseAt m ≡ ReleaseAt n) ⊎ (ReleaseAt m ≡ ReleaseAt n → ⊥)
    go true e = inl (let same : m ≡ n = grind (arith, nat_tests) in ap ReleaseAt same)
    go false e = inr (λ f. (let same : m ≡ n = cc (f) in grind (arith, nat_tests)))

module _ (code : Code) (s : State) (base : List ℕ) (all : AllStand code s base) (job : Job) (frames left : List Frame)
    (after : State) (P : MemoryArea → Type 0) (keeps : KeepsOthers s job frames after) (stand : OthersStand s job after)
    (memory : MemoryFine code after) (off : AreNotOf frames base)
    (had : (a : ℕ) → is_among a (opened_by frames) ≡ true → IsOpenedBy s a job) (before : (a : ℕ) → IsOpenedBy s a job →
    is_among a (opened_by frames) ≡ true) (own : (activity : Activity) → activity_of after job ≡ Some activity →
    JobFine code (world_of after) base activity) (are : (activity : Activity) → activity_of after job ≡ Some activity →
    activity.frames ≡ left) (there : (a : ℕ) → is_among a (opened_by left) ≡ true → IsOpenedBy after a job)
    (owns : Owns s frames after left P) where
  -- another job has opened none of the acting job's areas
  other_off : (other : Job) (activity : Activity) → (other ≡ job → ⊥) → activity_of s other ≡ Some activity →
      AreNotOf frames activity.areas
  other_off other activity n is a on =
      go (is_among a (opened_by frames)) refl
      (or_cases (is_among a (opened_by activity.frames)) (is_among a base)
      (sym (among_both a (opened_by activity.frames) base)
      ∙ (sym (ap (is_among a) ((all.jobs other activity is).is_list ∙ list_of_both base activity.frames)) ∙ on)))
    where
      go : (t : Bool) → is_among a (opened_by frames) ≡ t →
          (is_among a (opened_by activity.frames) ≡ true) ⊎ (is_among a base ≡ true) →
          is_among a (opened_by frames) ≡ false
      go false e h = e
      go true e (inl h) =
          absurd (n (all.apart a other job (record { activity = activity; is = is; on_list = h }) (had a e)))
      go true e (inr h) = off a h

  jobs_after : (other : Job) (activity : Activity) → activity_of after other ≡ Some activity →
      JobFine code (world_of after) base activity
  jobs_after other activity is = go (same_or_other job other)
    where
      go : (other ≡ job) ⊎ (other ≡ job → ⊥) → JobFine code (world_of after) base activity
      go (inl e) = own activity (ap (activity_of after) (sym e) ∙ is)
      go (inr n) =
          let was : activity_of s other ≡ Some activity = sym (stand other n) ∙ is in
          job_still s job frames after keeps code base activity (other_off other activity n was)
          (all.jobs other activity was)

  was_opened : (a : ℕ) (other : Job) → (other ≡ job → ⊥) → IsOpenedBy after a other → IsOpenedBy s a other
  was_opened a other n o =
      record { activity = o.activity; is = sym (stand other n) ∙ o.is; on_list = o.on_list }

  -- what the acting job has opened now no other job has
  own_apart : (a : ℕ) (other : Job) → (other ≡ job → ⊥) → IsOpenedBy after a job → IsOpenedBy after a other → ⊥
  own_apart a other n o p =
      go (owns.has a (sym (ap (λ fs. is_among a (opened_by fs)) (are o.activity o.is)) ∙ o.on_list))
    where
      q : IsOpenedBy s a other
      q = was_opened a other n p

      go : (is_among a (opened_by frames) ≡ true) ⊎ (area_at s a ≡ None) → ⊥
      go (inl h) = n (all.apart a other job q (had a h))
      go (inr h) =
          let x = opened_there code (world_of s) base q.activity (all.jobs other q.activity q.is) a q.on_list in
          let e : area_at s a ≡ Some x.0 = x.1 in cc (e, h)

  apart_after : (a : ℕ) (one other : Job) → IsOpenedBy after a one → IsOpenedBy after a other → one ≡ other
  apart_after a one other o p = go (same_or_other job one) (same_or_other job other)
    where
      go : (one ≡ job) ⊎ (one ≡ job → ⊥) → (other ≡ job) ⊎ (other ≡ job → ⊥) → one ≡ other
      go (inl e) (inl f) = e ∙ sym f
      go (inl e) (inr n) = absurd (own_apart a other n (subst (IsOpenedBy after a) e o) p)
      go (inr n) (inl f) = absurd (own_apart a one n (subst (IsOpenedBy after a) f p) o)
      go (inr n) (inr m) = all.apart a one other (was_opened a one n o) (was_opened a other m p)

  abbrev Owned : ℕ → Type 0
  Owned a = (is_among a base ≡ true) ⊎ ((owner : Job) × IsOpenedBy after a owner)

  owned_after : (a : ℕ) (x : MemoryArea) → area_at after a ≡ Some x → x.is_open ≡ true → Owned a
  owned_after a x is opens = go (area_at s a) refl
    where
      mine : is_among a (opened_by frames) ≡ true → Owned a
      mine h =
          elim (owns.lost a x h is) as (λ z. Owned a) [
            | inl g ↦ inr (job, there a g)
            | inr g ↦ absurd (true≢false (sym opens ∙ g))
          ]

      by_owner : (owner : Job) → IsOpenedBy s a owner → (owner ≡ job) ⊎ (owner ≡ job → ⊥) → Owned a
      by_owner owner o (inr n) =
          inr (owner, record { activity = o.activity; is = stand owner n ∙ o.is; on_list = o.on_list })
      by_owner owner o (inl e) = mine (before a (subst (IsOpenedBy s a) e o))

      by_change : (y : MemoryArea) → area_at s a ≡ Some y → AreaStays after frames a y → Owned a
      by_change y e (inl h) =
          let same : y ≡ x = some_inj y x (sym h ∙ is) in
          elim (all.owned a y e (ap (λ (z : MemoryArea). z.is_open) same ∙ opens)) as (λ z. Owned a) [
            | inl g ↦ inl g
            | inr g ↦ by_owner g.0 g.1 (same_or_other job g.0)
          ]
      by_change y e (inr h) =
          absurd (let same : closed_if true y ≡ x = some_inj (closed_if true y) x (sym h.1 ∙ is) in
          true≢false (sym opens ∙ ap (λ (z : MemoryArea). z.is_open) (sym same)))

      go : (o : Option MemoryArea) → area_at s a ≡ o → Owned a
      go None e = inr (job, there a (owns.new a x e is).0)
      go (Some y) e = by_change y e (keeps.areas a y e)

  pub all_after : AllStand code after base
  all_after =
      record {
        memory = memory;
        base_fine = list_still s job frames after keeps base off all.base_fine;
        jobs = jobs_after;
        apart = apart_after;
        owned = owned_after;
      }

-- ---- areas in one another

-- what an open area lies in is open
pub nested : (code : Code) (s : State) (base : List ℕ) → AllStand code s base → (a b : ℕ) (x : MemoryArea) →
    area_at s a ≡ Some x → x.is_open ≡ true → x.parent ≡ Some b → is_open_area s b ≡ true
nested code s base all a b x is opens up = go (all.owned a x is opens)
  where
    on_fine : (list : List ℕ) → ListFine (world_of s).areas list → is_among a list ≡ true → is_open_area s b ≡ true
    on_fine list fine on =
        let onto : is_among b list ≡ true = fine.closed_up a b x on is up in
        let y = fine.found b onto in
        ap (λ (o : Option MemoryArea). holds o (λ x. x.is_open)) y.1 ∙ fine.are_open b y.0 onto y.1

    by_frames : (job : Job) (o : IsOpenedBy s a job) (fs : List Frame) → o.activity.frames ≡ fs →
        is_open_area s b ≡ true
    by_frames job o [] e = absurd (true≢false (sym o.on_list ∙ ap (λ fs. is_among a (opened_by fs)) e))
    by_frames job o (f ∷ fs) e =
        on_fine (list_of base (f ∷ fs))
        (on_list code (world_of s) base o.activity (all.jobs job o.activity o.is) f fs e)
        (ap (is_among a) (list_of_both base (f ∷ fs))
        ∙ among_left a (opened_by (f ∷ fs)) base (sym (ap (λ fs. is_among a (opened_by fs)) e) ∙ o.on_list))

    go : (is_among a base ≡ true) ⊎ ((job : Job) × IsOpenedBy s a job) → is_open_area s b ≡ true
    go (inl on) = on_fine base all.base_fine on
    go (inr o) = by_frames o.0 o.1 o.1.activity.frames refl

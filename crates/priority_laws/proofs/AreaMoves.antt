-- How the areas of a job change, and with them which areas are open: they stay, one more is opened, the last one is
-- closed, all are closed.
use Rattle.std.proofs.Common.{◌≡◌, ℕ, ◌+◌, ◌<◌, ◌≤◌, true, false, ◌⊎◌, inl, inr, List, [], ◌∷◌, ◌++◌, length, Option, Some, None, refl, sym, ◌∙◌, subst, arith}
use Rattle.std.specs.Prelude.{option_to_list}
use Rattle.std.proofs.lemmas.List.{length-append}
use Rattle.scj_rules.specs.Words.{is_among}
use Rattle.scj_model.specs.State.{MemoryArea, Frame, State}
use Rattle.scj_model.specs.Memory.{closed}
use Rattle.scj_model.specs.Steps.{closed_all}
use Rattle.priority_laws.specs.Nesting.{AreBelow, Falls, opened_by}
use Rattle.priority_laws.proofs.AreaLists.{bool_cases, not_both, among_cases, among_here, among_later, among_right, open_in, shut, length_changed, shut_open, shut_only, snoc_open, snoc_stays, as_closed}

-- the areas before and after, and the numbers of those that a job has opened before and after
pub record AreasMove (before after : List MemoryArea) (old new : List ℕ) : Type 0 where
  pub grows : length before ≤ length after
  -- it has opened what it had, and what is new
  pub news : (b : ℕ) → is_among b new ≡ true → (is_among b old ≡ true) ⊎ ((length before ≤ b) × (b < length after))
  pub falls : AreBelow (length before) old → Falls old → Falls new
  -- what is open is its own, or was open before and isn't what it had
  pub stays : (b : ℕ) → open_in after b ≡ true →
      (is_among b new ≡ true) ⊎ ((open_in before b ≡ true) × (is_among b old ≡ true → ⊥))
  -- what is closed was its own, and was opened after all that it still has
  pub closes : (a : ℕ) → open_in before a ≡ true → open_in after a ≡ false → is_among a old ≡ true
  pub last : Falls old → (a b : ℕ) → open_in before a ≡ true → open_in after a ≡ false → is_among b new ≡ true → b < a

-- an open area is among some numbers or isn't
among_or_not : (areas : List MemoryArea) (old : List ℕ) (b : ℕ) → open_in areas b ≡ true →
    (is_among b old ≡ true) ⊎ ((open_in areas b ≡ true) × (is_among b old ≡ true → ⊥))
among_or_not areas old b o = go (bool_cases (is_among b old))
  where
    go : (is_among b old ≡ true) ⊎ (is_among b old ≡ false) →
        (is_among b old ≡ true) ⊎ ((open_in areas b ≡ true) × (is_among b old ≡ true → ⊥))
    go (inl t) = inl t
    go (inr f) = inr (o, λ h. not_both (is_among b old) h f)

pub areas_stay : (areas : List MemoryArea) (old : List ℕ) → AreasMove areas areas old old
areas_stay areas old =
    record {
      grows = omega arith;
      news = λ b h. inl h;
      falls = λ l h. h;
      stays = among_or_not areas old;
      closes = λ a o c. not_both (open_in areas a) o c;
      last = λ h a b o c m. not_both (open_in areas a) o c;
    }

pub area_added : (areas : List MemoryArea) (x : MemoryArea) (old : List ℕ) →
    AreasMove areas (areas ++ x ∷ []) old (length areas ∷ old)
area_added areas x old =
    record {
      grows = let e : length (areas ++ x ∷ []) ≡ length areas + 1 = length-append areas (x ∷ []) in omega (arith, e);
      news = λ b h. new b (among_cases b (length areas) old h);
      falls = λ l h. (l, h);
      stays = λ b o. was_open b (snoc_open areas x b o);
      closes = λ a o c. not_both (open_in (areas ++ x ∷ []) a) (snoc_stays areas x a o) c;
      last = λ h a b o c m. not_both (open_in (areas ++ x ∷ []) a) (snoc_stays areas x a o) c;
    }
  where
    new : (b : ℕ) → (b ≡ length areas) ⊎ (is_among b old ≡ true) →
        (is_among b old ≡ true) ⊎ ((length areas ≤ b) × (b < length (areas ++ x ∷ [])))
    new b (inl e) =
        let n : length (areas ++ x ∷ []) ≡ length areas + 1 = length-append areas (x ∷ []) in
        inr (omega (arith, e), omega (arith, e, n))
    new b (inr m) = inl m

    later : (b : ℕ) → (is_among b old ≡ true) ⊎ ((open_in areas b ≡ true) × (is_among b old ≡ true → ⊥)) →
        (is_among b (length areas ∷ old) ≡ true) ⊎ ((open_in areas b ≡ true) × (is_among b old ≡ true → ⊥))
    later b (inl m) = inl (among_later b (length areas) old m)
    later b (inr n) = inr n

    was_open : (b : ℕ) → (open_in areas b ≡ true) ⊎ (b ≡ length areas) →
        (is_among b (length areas ∷ old) ≡ true) ⊎ ((open_in areas b ≡ true) × (is_among b old ≡ true → ⊥))
    was_open b (inl o) = later b (among_or_not areas old b o)
    was_open b (inr e) =
        inl (subst (λ c. is_among c (length areas ∷ old) ≡ true) (sym e) (among_here (length areas) old))

pub area_closed : (areas : List MemoryArea) (a : ℕ) (rest : List ℕ) → AreasMove areas (shut a areas) (a ∷ rest) rest
area_closed areas a rest =
    record {
      grows = let e : length (shut a areas) ≡ length areas = length_changed as_closed a areas in omega (arith, e);
      news = λ b h. inl (among_later b a rest h);
      falls = λ l h. h.1;
      stays = λ b o. let k : (open_in areas b ≡ true) × (b ≡ a → ⊥) = shut_open a b areas o in
          stay b k.1 (among_or_not areas rest b k.0);
      closes = λ b o c. subst (λ d. is_among d (a ∷ rest) ≡ true) (sym (shut_only a b areas o c)) (among_here a rest);
      last = λ h c b o d m. subst (λ e. b < e) (sym (shut_only a c areas o d)) (h.0 b m);
    }
  where
    stay : (b : ℕ) → (b ≡ a → ⊥) →
        (is_among b rest ≡ true) ⊎ ((open_in areas b ≡ true) × (is_among b rest ≡ true → ⊥)) →
        (is_among b rest ≡ true) ⊎ ((open_in areas b ≡ true) × (is_among b (a ∷ rest) ≡ true → ⊥))
    stay b n (inl m) = inl m
    stay b n (inr k) = inr (k.0, λ h. none (among_cases b a rest h))
      where
        none : (b ≡ a) ⊎ (is_among b rest ≡ true) → ⊥
        none (inl e) = n e
        none (inr m) = k.1 m

-- ---- what frames opened is closed

pub closed_move : (s : State) (a : Option ℕ) (rest : List ℕ) →
    AreasMove s.areas (closed s a).areas (option_to_list a ++ rest) rest
unfolding closed
closed_move s None rest = areas_stay s.areas rest
closed_move s (Some a) rest = area_closed s.areas a rest

length_closed : (s : State) (a : Option ℕ) → length (closed s a).areas ≡ length s.areas
unfolding closed
length_closed s None = refl
length_closed s (Some a) = length_changed as_closed a s.areas

length_closed_all : (s : State) (fs : List Frame) → length (closed_all s fs).areas ≡ length s.areas
unfolding closed_all
length_closed_all s [] = refl
length_closed_all s (f ∷ fs) = length_closed_all (closed s f.opened) fs ∙ length_closed s f.opened

-- what is open afterwards was open, and none of them opened it
open_after : (s : State) (fs : List Frame) (b : ℕ) → open_in (closed_all s fs).areas b ≡ true →
    (open_in s.areas b ≡ true) × (is_among b (opened_by fs) ≡ true → ⊥)
unfolding closed_all
open_after s [] b o = (o, λ h. absurd (cc (h)))
open_after s (f ∷ fs) b o =
    let more = open_after (closed s f.opened) fs b o in
    go ((closed_move s f.opened (opened_by fs)).stays b more.0) more.1
  where
    go : (is_among b (opened_by fs) ≡ true) ⊎
        ((open_in s.areas b ≡ true) × (is_among b (opened_by (f ∷ fs)) ≡ true → ⊥)) →
        (is_among b (opened_by fs) ≡ true → ⊥) → (open_in s.areas b ≡ true) ×
        (is_among b (opened_by (f ∷ fs)) ≡ true → ⊥)
    go (inl m) n = absurd (n m)
    go (inr k) n = k

-- what is closed was opened by one of them
closed_after : (s : State) (fs : List Frame) (a : ℕ) → open_in s.areas a ≡ true →
    open_in (closed_all s fs).areas a ≡ false → is_among a (opened_by fs) ≡ true
unfolding closed_all
closed_after s [] a o c = not_both (open_in s.areas a) o c
closed_after s (f ∷ fs) a o c =
    go (bool_cases (open_in (closed s f.opened).areas a)) (λ k. closed_after (closed s f.opened) fs a k c)
  where
    go : (open_in (closed s f.opened).areas a ≡ true) ⊎ (open_in (closed s f.opened).areas a ≡ false) →
        (open_in (closed s f.opened).areas a ≡ true → is_among a (opened_by fs) ≡ true) →
        is_among a (opened_by (f ∷ fs)) ≡ true
    go (inl t) more = among_right a (option_to_list f.opened) (opened_by fs) (more t)
    go (inr k) more = (closed_move s f.opened (opened_by fs)).closes a o k

pub all_closed : (s : State) (fs : List Frame) → AreasMove s.areas (closed_all s fs).areas (opened_by fs) []
all_closed s fs =
    record {
      grows = let e : length (closed_all s fs).areas ≡ length s.areas = length_closed_all s fs in omega (arith, e);
      news = λ b h. absurd (cc (h));
      falls = λ l h. tt;
      stays = λ b o. inr (open_after s fs b o);
      closes = closed_after s fs;
      last = λ h a b o c m. absurd (cc (m));
    }

-- The areas of a job whose new frame opened an area, and those of a job that has come to its end.
use Rattle.std.specs.Prelude.{Option, Some, None, slice_get, ◌||◌, ◌==◌, ◌++◌, option_map, option_to_list}
use Rattle.std.proofs.Common.{◌≡◌, ℕ, zero, suc, List, [], ◌∷◌, length, Bool, true, false, refl, sym, ◌∙◌, ap, subst, arith, ◌⊎◌, inl, inr, true≢false}
use Rattle.std.proofs.lemmas.Bool.Decides.{nat_tests}
use Rattle.scj_rules.specs.Words.{is_among}
use Rattle.accepted_laws.proofs.Tools.{some_inj}
use Rattle.scj_model.specs.State.{MemoryArea, Frame, State, area_at}
use Rattle.frame_sound.specs.OwnJob.{IsClosedBehind, closed_if, opened_by}

-- what the frames of a job opened, before and after: as in KeepsItsAreas, of whichever kind a new area is
pub record Owns (s : State) (frames : List Frame) (after : State) (left : List Frame) (P : MemoryArea → Type 0) : Type 0
  where
    pub has : (a : ℕ) → is_among a (opened_by left) ≡ true →
        (is_among a (opened_by frames) ≡ true) ⊎ (area_at s a ≡ None)
    pub lost : (a : ℕ) (x : MemoryArea) → is_among a (opened_by frames) ≡ true → area_at after a ≡ Some x →
        (is_among a (opened_by left) ≡ true) ⊎ (x.is_open ≡ false)
    pub new : (a : ℕ) (x : MemoryArea) → area_at s a ≡ None → area_at after a ≡ Some x →
        (is_among a (opened_by left) ≡ true) × P x

-- ---- a new area

none_behind : (xs : List MemoryArea) → slice_get xs (length xs) ≡ None
none_behind [] = refl
none_behind (x ∷ xs) = none_behind xs

last_is : (xs : List MemoryArea) (new : MemoryArea) (a : ℕ) (x : MemoryArea) → slice_get xs a ≡ None →
    slice_get (xs ++ new ∷ []) a ≡ Some x → (a ≡ length xs) × (new ≡ x)
last_is [] new zero x none e = (refl, some_inj new x e)
last_is [] new (suc a) x none e = absurd (cc (e))
last_is (y ∷ xs) new zero x none e = absurd (cc (none))
last_is (y ∷ xs) new (suc a) x none e = let q = last_is xs new a x none e in (ap suc q.0, q.1)

pub new_area_owned : (s : State) (frames : List Frame) (t : State) (g : Frame) (low : List Frame) (new : MemoryArea) →
    t.areas ≡ s.areas ++ new ∷ [] → g.opened ≡ Some (length s.areas) → opened_by low ≡ opened_by frames →
    Owns s frames t (g ∷ low) (λ x. new ≡ x)
new_area_owned s frames t g low new are opens same =
    record {
      has = λ a h. has a (a == length s.areas) refl (is_own a h);
      lost =
          λ a x h there. inl (ap (λ l. is_among a l) list ∙ behind a (subst (λ l. is_among a l ≡ true) (sym same) h));
      new = λ a x none there. opened_now a x none (ap (λ (xs : List MemoryArea). slice_get xs a) (sym are) ∙ there);
    }
  where
    list : opened_by (g ∷ low) ≡ length s.areas ∷ opened_by low
    list = ap (λ o. option_to_list o ++ opened_by low) opens

    is_own : (a : ℕ) → is_among a (opened_by (g ∷ low)) ≡ true → is_among a (length s.areas ∷ opened_by low) ≡ true
    is_own a h = sym (ap (λ l. is_among a l) list) ∙ h

    behind : (a : ℕ) → is_among a (opened_by low) ≡ true → is_among a (length s.areas ∷ opened_by low) ≡ true
    behind a h = elim (a == length s.areas) as (λ t. (t || is_among a (opened_by low)) ≡ true)
        [ true ↦ refl | false ↦ h ]

    has : (a : ℕ) (t : Bool) → (a == length s.areas) ≡ t → (t || is_among a (opened_by low)) ≡ true →
        (is_among a (opened_by frames) ≡ true) ⊎ (slice_get s.areas a ≡ None)
    has a true e h =
        let at : a ≡ length s.areas = grind (arith, nat_tests) in inr (ap (slice_get s.areas) at ∙ none_behind s.areas)
    has a false e h = inl (subst (λ l. is_among a l ≡ true) same h)

    opened_now : (a : ℕ) (x : MemoryArea) → slice_get s.areas a ≡ None → slice_get (s.areas ++ new ∷ []) a ≡ Some x →
        (is_among a (opened_by (g ∷ low)) ≡ true) × (new ≡ x)
    opened_now a x none e =
        let q = last_is s.areas new a x none e in
        let t : (a == length s.areas) ≡ true = (let at : a ≡ length s.areas = q.0 in grind (arith, nat_tests)) in
        (ap (λ l. is_among a l) list ∙ ap (λ b. b || is_among a (opened_by low)) t, q.1)

-- ---- the areas of a job that has come to its end

pub closed_owned : (s : State) (frames : List Frame) (after : State) → IsClosedBehind s frames after →
    Owns s frames after [] (λ x. Unit {0})
closed_owned s frames after c =
    record {
      has = λ a on. absurd (true≢false (sym on));
      lost = λ a x on there.
          inr (is_closed (area_at s a) x
          (sym (ap (λ t. option_map (closed_if t) (area_at s a)) on) ∙ (sym (c.areas a) ∙ there)));
      new = λ a x none there.
          (let e : area_at after a ≡ None = c.areas a ∙ ap (option_map (closed_if (is_among a (opened_by frames)))) none
          in
          absurd (cc (e, there)));
    }
  where
    is_closed : (o : Option MemoryArea) (x : MemoryArea) → option_map (closed_if true) o ≡ Some x → x.is_open ≡ false
    is_closed None x e = absurd (cc (e))
    is_closed (Some y) x e = ap (λ (z : MemoryArea). z.is_open) (sym (some_inj (closed_if true y) x e))

-- A list of areas that stay as they were is as fine as before, and names what it named.
use Rattle.std.specs.Prelude.{Option, Some, ◌||◌, ◌==◌, if◌then◌else◌}
use Rattle.std.proofs.Common.{◌≡◌, ℕ, List, [], ◌∷◌, true, false, refl, sym, ◌∙◌, ap, arith}
use Rattle.std.proofs.lemmas.Bool.Decides.{nat_tests}
use Rattle.scj_rules.specs.Words.{is_among, holds}
use Rattle.accepted_laws.proofs.Tools.{some_inj}
use Rattle.scj_model.specs.State.{MemoryArea}
use Rattle.frame_sound.specs.Places.{area_named}
use Rattle.frame_sound.specs.Fine.{ListFine}

module _ (old more : ℕ → Option MemoryArea) where
  -- the areas of a list are as they were
  abbrev pub Stay : List ℕ → Type 0
  Stay list = (a : ℕ) (x : MemoryArea) → is_among a list ≡ true → old a ≡ Some x → more a ≡ Some x

  abbrev pub AreThere : List ℕ → Type 0
  AreThere list = (a : ℕ) → is_among a list ≡ true → (x : MemoryArea) × (old a ≡ Some x)

  first_of : (a : ℕ) (list : List ℕ) → is_among a (a ∷ list) ≡ true
  first_of a list = let t : (a == a) ≡ true = grind (arith, nat_tests) in ap (λ b. b || is_among a list) t

  later_of : (a b : ℕ) (list : List ℕ) → is_among b list ≡ true → is_among b (a ∷ list) ≡ true
  later_of a b list h = elim (b == a) as (λ t. (t || is_among b list) ≡ true) [ true ↦ refl | false ↦ h ]

  -- scopes are found as before
  pub named_stays : (s : ℕ) (list : List ℕ) → AreThere list → Stay list → area_named more s list ≡ area_named old s list
  unfolding area_named
  named_stays s [] there stay = refl
  named_stays s (a ∷ list) there stay =
      let x = there a (first_of a list) in
      let rest = named_stays s list (λ b h. there b (later_of a b list h)) (λ b y h e. stay b y (later_of a b list h) e)
      in
      ap (λ (o : Option MemoryArea). if holds o (λ y. y.scope == s) then Some a else area_named more s list)
      (stay a x.0 (first_of a list) x.1)
      ∙ (ap (λ r. if x.0.scope == s then Some a else r) rest
      ∙ ap (λ (o : Option MemoryArea). if holds o (λ y. y.scope == s) then Some a else area_named old s list) (sym x.1))

  pub are_there : (list : List ℕ) → ListFine old list → AreThere list
  are_there list fine a on = let x = fine.found a on in (x.0, x.1)

  pub list_stays : (list : List ℕ) → ListFine old list → Stay list → ListFine more list
  list_stays list fine stay =
      record {
        found = λ a on. (let x = fine.found a on in
            (x.0, stay a x.0 on x.1, named_stays x.0.scope list (are_there list fine) stay ∙ x.2));
        closed_up = λ a b x on there up. fine.closed_up a b x on (was a x on there) up;
        are_open = λ a x on there. fine.are_open a x on (was a x on there);
        are_distinct = fine.are_distinct;
        immortal = record {
          area = fine.immortal.area;
          is_there = stay 0 fine.immortal.area fine.has_immortal fine.immortal.is_there;
          is_immortal = fine.immortal.is_immortal;
        };
        has_immortal = fine.has_immortal;
      }
    where
      was : (a : ℕ) (x : MemoryArea) → is_among a list ≡ true → more a ≡ Some x → old a ≡ Some x
      was a x on there =
          let y = fine.found a on in y.1 ∙ ap (λ z. Some z) (some_inj y.0 x (sym (stay a y.0 on y.1) ∙ there))

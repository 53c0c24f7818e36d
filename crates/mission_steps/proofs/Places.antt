-- The place of the first element of which a test holds, found by going through a list.
use Rattle.std.proofs.Common.{◌≡◌, ◌∙◌, ◌≤◌, ℕ, ◌+◌, ◌-◌, drop, get_or, subst, take, List, [], ◌∷◌, length, position, Option, Some, None, option_map, Bool, true, false, if◌then◌else◌, refl, ap, sym, arith}
use Rattle.std.proofs.lemmas.List.{take_all}
use Rattle.accepted_laws.proofs.Fields.{position-cons}

module _ {A : Type 0} (test : A → Bool) (all : List A) where
  -- the test holds of none of the elements before the rest
  pub record Passed (rest : List A) (index : ℕ) : Type 0 where
    pub same : position test all ≡ option_map (λ k. index + k) (position test rest)
    pub count : index + length rest ≡ length all

  more_behind : (index : ℕ) (o : Option ℕ) →
      option_map (λ k. index + k) (option_map (λ k. 1 + k) o) ≡ option_map (λ k. index + 1 + k) o
  more_behind index None = refl
  more_behind index (Some k) = ap (λ (n : ℕ). Some n) (omega arith)

  none_before : (o : Option ℕ) → o ≡ option_map (λ k. 0 + k) o
  none_before None = refl
  none_before (Some k) = ap (λ (n : ℕ). Some n) (omega arith)

  pub passed_none : Passed all 0
  passed_none = record { same = none_before (position test all); count = omega arith }

  abbrev tested : Bool → List A → Option ℕ
  tested holds rest = if holds then Some 0 else option_map (λ k. 1 + k) (position test rest)

  pub passed_more : (x : A) (rest : List A) (index : ℕ) → test x ≡ false → Passed (x ∷ rest) index →
      Passed rest (index + 1)
  passed_more x rest index e h = record {
    same = h.same ∙ (ap (option_map (λ k. index + k)) (position-cons test x rest ∙ ap (λ (b : Bool). tested b rest) e)
        ∙ more_behind index (position test rest));
    count = omega (arith, h.count);
  }

  -- the rest behind the first element
  pub passed_on : (x : A) (rest : List A) (index : ℕ) → 1 ≤ length rest → x ≡ get_or rest 0 x → test x ≡ false →
      Passed rest index → Passed (take (length rest - 1) (drop 1 rest)) (index + 1)
  passed_on x [] index n first e h = absurd (omega (arith, n))
  passed_on x (y ∷ ys) index n first e h =
      let all_behind : length (y ∷ ys) - 1 ≡ length ys = omega arith in
      let others : take (length (y ∷ ys) - 1) ys ≡ ys =
      ap (λ (k : ℕ). take k ys) all_behind ∙ take_all (length ys) ys (omega arith) in
      subst (λ (zs : List A). Passed zs (index + 1)) (sym others)
      (passed_more y ys index (ap test (sym first) ∙ e) h)

  pub found_first : (x : A) (rest : List A) (index : ℕ) → test x ≡ true → Passed (x ∷ rest) index →
      Some index ≡ position test all
  found_first x rest index e h =
      sym (h.same ∙ (ap (option_map (λ k. index + k)) (position-cons test x rest ∙ ap (λ (b : Bool). tested b rest) e)
      ∙ ap (λ (n : ℕ). Some n) (omega arith)))

  pub found_nowhere : (index : ℕ) → Passed [] index → None ≡ position test all
  found_nowhere index h = sym h.same

-- Rows of bytes of a class, decimal digits, and the first `*/`.
use Rattle.std.proofs.Common.{◌≡◌, ℕ, zero, suc, ◌+◌, ◌-◌, ◌*◌, ◌≤◌, List, [], ◌∷◌, ◌++◌, length, take, drop, Bool, true, false, ◌&&◌, ◌==◌, nat_le, Some, None, Option, refl, ap, sym, ◌∙◌, arith, inl, inr}
use Rattle.std.specs.Prelude.{fold, option_map}
use Rattle.std.specs.List.{prefix_len, list_all}
use Rattle.std.proofs.lemmas.Bool.{and_parts, and_from, and_right, or_parts, or_from, le-leb, leb-true, cond-true, cond-false, cases_Bool, eqb-true}
use Rattle.scj_base.specs.Lexeme.{AllOf, EndsHere, is_digit, has_close}
use Rattle.std.proofs.lemmas.List.{length-take-le}
use Rattle.std.proofs.lemmas.List.Sums.{prefix_len-le-length}
use Rattle.scj_lexer.specs.First.{digits_of, close_of}

pub prefix_len_exact : (p : ℕ → Bool) (w rest : List ℕ) → AllOf p w → EndsHere p rest →
    prefix_len p (w ++ rest) ≡ length w
prefix_len_exact p [] [] a e = refl
prefix_len_exact p [] (b ∷ s) a e = cond-false _ _ _ e
prefix_len_exact p (x ∷ w) rest a e = let parts : (p x ≡ true) × (list_all p w ≡ true) = and_parts _ _ a in
    cond-true _ _ _ parts.0 ∙ ap (λ n. 1 + n) (prefix_len_exact p w rest parts.1 e) ∙ omega arith

pub prefix_len_all : (p : ℕ → Bool) (s : List ℕ) → AllOf p (take (prefix_len p s) s)
prefix_len_all p [] = refl
prefix_len_all p (b ∷ s) =
    elim (cases_Bool (p b)) [
      | inl e ↦ let t : prefix_len p (b ∷ s) ≡ suc (prefix_len p s) = cond-true _ _ _ e ∙ omega arith in
          rw t (and_from _ _ e (prefix_len_all p s))
      | inr e ↦ let t : prefix_len p (b ∷ s) ≡ zero = cond-false _ _ _ e in rw t refl
    ]

pub prefix_len_ends : (p : ℕ → Bool) (s : List ℕ) → EndsHere p (drop (prefix_len p s) s)
prefix_len_ends p [] = tt
prefix_len_ends p (b ∷ s) =
    elim (cases_Bool (p b)) [
      | inl e ↦ let t : prefix_len p (b ∷ s) ≡ suc (prefix_len p s) = cond-true _ _ _ e ∙ omega arith in
          rw t (prefix_len_ends p s)
      | inr e ↦ let t : prefix_len p (b ∷ s) ≡ zero = cond-false _ _ _ e in rw t e
    ]

-- the number that digits write behind those of n
abbrev pub value_from : ℕ → List ℕ → ℕ
value_from n s = fold (λ m d. 10 * m + (d - 48)) n s

value_grows : (n : ℕ) (s : List ℕ) → n ≤ value_from n s
value_grows n [] = omega arith
value_grows n (d ∷ s) = let h : 10 * n + (d - 48) ≤ value_from (10 * n + (d - 48)) s = value_grows (10 * n + (d - 48)) s
    in omega arith

pub digits_exact : (n : ℕ) (s : List ℕ) → AllOf is_digit s → value_from n s ≤ 2147483648 →
    digits_of n s ≡ Some (value_from n s)
unfolding digits_of
digits_exact n [] a h = refl
digits_exact n (d ∷ s) a h =
    let g : 10 * n + (d - 48) ≤ value_from (10 * n + (d - 48)) s = value_grows (10 * n + (d - 48)) s in
    let parts = and_parts _ _ a in
    let below : 10 * n + (d - 48) ≤ 2147483648 = omega arith in
    cond-true _ _ _ (and_from _ _ parts.0 (le-leb _ _ below)) ∙ digits_exact (10 * n + (d - 48)) s parts.1 h

pub record AreDigits (n : ℕ) (s : List ℕ) (v : ℕ) : Type 0 where
  pub digits : AllOf is_digit s
  pub value : v ≡ value_from n s
  pub small : v ≤ 2147483648

pub none≢some : {X : Type 0} {n : ℕ} → None ≡ Some n → X
none≢some e = absurd (cc)

pub digits_sound : (n : ℕ) (s : List ℕ) (v : ℕ) → n ≤ 2147483648 → digits_of n s ≡ Some v → AreDigits n s v
unfolding digits_of
digits_sound n [] v h e = let same : n ≡ v = cc in record { digits = refl; value = sym same; small = rw (← same) h }
digits_sound n (d ∷ s) v h e =
    elim (cases_Bool (is_digit d && nat_le (10 * n + (d - 48)) 2147483648)) [
      | inl t ↦
          let parts = and_parts _ _ t in
          let r : AreDigits (10 * n + (d - 48)) s v =
          digits_sound (10 * n + (d - 48)) s v (leb-true _ _ parts.1) (sym (cond-true _ _ _ t) ∙ e) in
          record { digits = and_from _ _ parts.0 r.digits; value = r.value; small = r.small }
      | inr f ↦ none≢some (sym (cond-false _ _ _ f) ∙ e)
    ]

pub close_exact : (inside rest : List ℕ) → has_close inside ≡ false → close_of ((inside ++ 42 ∷ 47 ∷ []) ++ rest) ≡ Some
    (length inside)
unfolding close_of has_close
close_exact [] rest h = refl
close_exact (a ∷ []) rest h = cond-false _ _ _ (and_right (a == 42) false refl)
close_exact (a ∷ b ∷ s) rest h =
    let parts = or_parts _ _ h in
    cond-false _ _ _ parts.0 ∙ ap (option_map suc) (close_exact (b ∷ s) rest parts.1)

pub close_none_exact : (s : List ℕ) → has_close s ≡ false → close_of s ≡ None
unfolding close_of has_close
close_none_exact [] h = refl
close_none_exact (a ∷ []) h = refl
close_none_exact (a ∷ b ∷ s) h =
    let parts = or_parts _ _ h in
    cond-false _ _ _ parts.0 ∙ ap (option_map suc) (close_none_exact (b ∷ s) parts.1)

map_none : (o : Option ℕ) → option_map suc o ≡ None → o ≡ None
map_none None e = refl
map_none (Some n) e = none≢some (sym e)

pub close_none_sound : (s : List ℕ) → close_of s ≡ None → has_close s ≡ false
unfolding close_of has_close
close_none_sound [] h = refl
close_none_sound (a ∷ []) h = refl
close_none_sound (a ∷ b ∷ s) h =
    elim (cases_Bool ((a == 42) && (b == 47))) [
      | inl t ↦ none≢some (sym h ∙ cond-true _ _ _ t)
      | inr f ↦ or_from _ _ f (close_none_sound (b ∷ s) (map_none _ (sym (cond-false _ _ _ f) ∙ h)))
    ]

pub record Closed (s : List ℕ) (n : ℕ) : Type 0 where
  pub inside : List ℕ
  pub rest : List ℕ
  pub whole : s ≡ (inside ++ 42 ∷ 47 ∷ []) ++ rest
  pub len : length inside ≡ n
  pub open_so_far : has_close inside ≡ false

map_some : (o : Option ℕ) (n : ℕ) → option_map suc o ≡ Some n → (m : ℕ) × (o ≡ Some m) × (n ≡ suc m)
map_some None n e = none≢some e
map_some (Some m) n e = (m, refl, cc)

cc_some : {m n : ℕ} → Some m ≡ Some n → m ≡ n
cc_some e = cc

-- the bytes up to a close hold none, with one byte more in front that begins none
still_open : (a b : ℕ) (s inside rest : List ℕ) → ((a == 42) && (b == 47)) ≡ false → b ∷ s ≡ (inside ++ 42 ∷ 47 ∷ [])
    ++ rest → has_close inside ≡ false → has_close (a ∷ inside) ≡ false
unfolding has_close
still_open a b s [] rest f e h = refl
still_open a b s (c ∷ inside) rest f e h =
    let same : b ≡ c = cc in
    or_from _ _ (rw (← same) f) h

close_cons : (a b n m : ℕ) (s : List ℕ) → ((a == 42) && (b == 47)) ≡ false → n ≡ suc m → Closed (b ∷ s) m →
    Closed (a ∷ b ∷ s) n
unfolding has_close
close_cons a b n m s f e c = record {
  inside = a ∷ c.inside;
  rest = c.rest;
  whole = ap (λ u. a ∷ u) c.whole;
  len = ap suc c.len ∙ sym e;
  open_so_far = still_open a b s c.inside c.rest f c.whole c.open_so_far;
}

pub close_sound : (s : List ℕ) (n : ℕ) → close_of s ≡ Some n → Closed s n
unfolding close_of has_close
close_sound [] n e = none≢some e
close_sound (a ∷ []) n e = none≢some e
close_sound (a ∷ b ∷ s) n e =
    elim (cases_Bool ((a == 42) && (b == 47))) [
      | inl t ↦
          let parts = and_parts _ _ t in
          let here : 0 ≡ n = cc_some (sym (cond-true _ _ _ t) ∙ e) in
          let star : a ≡ 42 = eqb-true _ _ parts.0 in
          let slash : b ≡ 47 = eqb-true _ _ parts.1 in
          record { inside = []; rest = s; whole = rw (star, slash) refl; len = here; open_so_far = refl }
      | inr f ↦
          let (m, found, is) = map_some (close_of (b ∷ s)) n (sym (cond-false _ _ _ f) ∙ e) in
          close_cons a b n m s f is (close_sound (b ∷ s) m found)
    ]

pub run_len : (p : ℕ → Bool) (s : List ℕ) → length (take (prefix_len p s) s) ≡ prefix_len p s
run_len p s = length-take-le (prefix_len p s) s (prefix_len-le-length p s)

-- Numbers that are printed in decimal are read back.
use Rattle.std.proofs.Common.{◌≡◌, ℕ, suc, ◌+◌, ◌-◌, ◌*◌, ◌/◌, ◌%◌, ◌^◌, ◌<◌, ◌≤◌, ◌==◌, Bool, true, false, not, ◌&&◌, List, [], ◌∷◌, ◌++◌, Option, None, Some, if◌then◌else◌, refl, sym, ap, ◌∙◌, arith, inl, inr, ◌⊎◌, ℤ, pos, negsuc, decimal}
use Rattle.std.specs.Prelude.{nat_le}
use Rattle.std.specs.Fmt.{signed_decimal}
use Rattle.std.specs.List.{list_all}
use Rattle.std.proofs.lemmas.Bool.Decides.{nat_tests}
use Rattle.std.proofs.lemmas.Fmt.{decimal_by_steps, decimal_digit}
use Rattle.std.proofs.lemmas.List.Folds.{list_all-append}
use Rattle.scj_base.specs.Lexeme.{is_digit}
use Rattle.scj_rules.specs.Words.{◌>>=◌, holds}
use Rattle.trace_audit.specs.Printed.{Has32Bits}
use Rattle.trace_audit.specs.Parts.{greatest, is_value, number_of, number_within, with_digit, with_digits}

-- ---- digits, one behind the other

digit_is : (d : ℕ) → d < 10 → is_digit (48 + d) ≡ true
unfolding is_digit
digit_is d h = grind (arith, nat_tests, h)

with_digit_is : (m d n : ℕ) → d < 10 → 10 * m + d ≡ n → n < 2 ^ 64 → with_digit m (48 + d) ≡ Some n
with_digit_is m d n h e small =
    let sum : 10 * m + (48 + d - 48) ≡ n = omega (arith, e) in
    let le : nat_le (10 * m + (48 + d - 48)) greatest ≡ true = (let s = small in grind (arith, nat_tests, sum, s)) in
    ap (λ (b : Bool). if b && nat_le (10 * m + (48 + d - 48)) greatest then Some (10 * m + (48 + d - 48)) else None)
    (digit_is d h)
    ∙ (ap (λ (b : Bool). if b then Some (10 * m + (48 + d - 48)) else None) le
    ∙ ap (λ (k : ℕ). Some k) sum)

with_digits_none : (m : ℕ) → with_digits m [] ≡ Some m
unfolding with_digits
with_digits_none m = refl

with_digits_more : (m b : ℕ) (bytes : List ℕ) →
    with_digits m (b ∷ bytes) ≡ (with_digit m b >>= (λ k. with_digits k bytes))
unfolding with_digits
with_digits_more m b bytes = refl

by_first : (o : Option ℕ) (xs ys : List ℕ) →
    ((k : ℕ) → with_digits k (xs ++ ys) ≡ (with_digits k xs >>= (λ j. with_digits j ys))) →
    (o >>= (λ k. with_digits k (xs ++ ys))) ≡ ((o >>= (λ k. with_digits k xs)) >>= (λ j. with_digits j ys))
by_first None xs ys more = refl
by_first (Some k) xs ys more = more k

with_digits_append : (m : ℕ) (xs ys : List ℕ) →
    with_digits m (xs ++ ys) ≡ (with_digits m xs >>= (λ j. with_digits j ys))
with_digits_append m [] ys = sym (ap (λ (o : Option ℕ). o >>= (λ j. with_digits j ys)) (with_digits_none m))
with_digits_append m (x ∷ xs) ys =
    with_digits_more m x (xs ++ ys)
    ∙ (by_first (with_digit m x) xs ys (λ k. with_digits_append k xs ys)
    ∙ sym (ap (λ (o : Option ℕ). o >>= (λ j. with_digits j ys)) (with_digits_more m x xs)))

bind_some : (o : Option ℕ) → (o >>= (λ m. with_digits m [])) ≡ o
bind_some None = refl
bind_some (Some m) = with_digits_none m

with_one : (m b : ℕ) → with_digits m (b ∷ []) ≡ with_digit m b
with_one m b = with_digits_more m b [] ∙ bind_some (with_digit m b)

-- ---- a number in decimal

pub record Written (n : ℕ) (ds : List ℕ) : Type 0 where
  pub digits : list_all is_digit ds ≡ true
  pub value : n < 2 ^ 64 → with_digits 0 ds ≡ Some n
  pub first : ℕ
  pub rest : List ℕ
  pub are : ds ≡ first ∷ rest
  pub nonzero : 0 < n → (first == 48) ≡ false

written_digit : (n : ℕ) → n < 10 → Written n ((48 + n) ∷ [])
written_digit n h =
    record {
      digits = ap (λ (b : Bool). b && true) (digit_is n h);
      value = λ small. with_one 0 (48 + n) ∙ with_digit_is 0 n n h (omega arith) small;
      first = 48 + n;
      rest = [];
      are = refl;
      nonzero = λ above. grind (arith, nat_tests, above);
    }

written_more : (n : ℕ) (ds : List ℕ) → 10 ≤ n → Written (n / 10) ds → Written n (ds ++ (48 + n % 10) ∷ [])
written_more n ds h front =
    let low : n % 10 < 10 = omega arith in
    record {
      digits = list_all-append is_digit ds ((48 + n % 10) ∷ [])
          ∙ (ap (λ (b : Bool). b && list_all is_digit ((48 + n % 10) ∷ [])) front.digits
          ∙ ap (λ (b : Bool). b && true) (digit_is (n % 10) low));
      value = λ small.
          let part : n / 10 < 2 ^ 64 = omega (arith, small) in
          with_digits_append 0 ds ((48 + n % 10) ∷ [])
          ∙ (ap (λ (o : Option ℕ). o >>= (λ j. with_digits j ((48 + n % 10) ∷ []))) (front.value part)
          ∙ (with_one (n / 10) (48 + n % 10) ∙ with_digit_is (n / 10) (n % 10) n low (omega arith) small));
      first = front.first;
      rest = front.rest ++ (48 + n % 10) ∷ [];
      are = ap (λ (l : List ℕ). l ++ (48 + n % 10) ∷ []) front.are;
      nonzero = λ above. front.nonzero (omega (arith, h));
    }

pub written : (n : ℕ) → n < 2 ^ 64 → Written n (decimal n)
written n small = decimal_by_steps Written written_digit written_more n small

number_one : (b : ℕ) → number_of (b ∷ []) ≡ with_digit 0 b
unfolding number_of
number_one b = refl

number_more : (b c : ℕ) (bytes : List ℕ) → (b == 48) ≡ false →
    number_of (b ∷ c ∷ bytes) ≡ with_digits 0 (b ∷ c ∷ bytes)
unfolding number_of
number_more b c bytes e = ap (λ (t : Bool). if t then None else with_digits 0 (b ∷ c ∷ bytes)) e

number_first : (b : ℕ) (rest : List ℕ) → (b == 48) ≡ false → number_of (b ∷ rest) ≡ with_digits 0 (b ∷ rest)
number_first b [] e = number_one b ∙ sym (with_one 0 b)
number_first b (c ∷ rest) e = number_more b c rest e

below_or_from : (n : ℕ) → (n < 10) ⊎ (10 ≤ n)
below_or_from n = by_test (nat_le 10 n) refl
  where
    by_test : (b : Bool) → nat_le 10 n ≡ b → (n < 10) ⊎ (10 ≤ n)
    by_test true e = inr (grind (arith, nat_tests, e))
    by_test false e = inl (grind (arith, nat_tests, e))

pub number_read : (n : ℕ) → n < 2 ^ 64 → number_of (decimal n) ≡ Some n
number_read n small = go (below_or_from n)
  where
    go : (n < 10) ⊎ (10 ≤ n) → number_of (decimal n) ≡ Some n
    go (inl h) =
        ap number_of (decimal_digit n h)
        ∙ (number_one (48 + n) ∙ with_digit_is 0 n n h (omega arith) small)
    go (inr h) =
        let w = written n small in
        ap number_of w.are
        ∙ (number_first w.first w.rest (w.nonzero (omega (arith, h)))
        ∙ (sym (ap (with_digits 0) w.are) ∙ w.value small))

pub number_within_read : (least most n : ℕ) → n < 2 ^ 64 → least ≤ n → n ≤ most →
    number_within least most (decimal n) ≡ Some n
number_within_read least most n small low high =
    let a : nat_le least n ≡ true = grind (arith, nat_tests, low) in
    let b : nat_le n most ≡ true = grind (arith, nat_tests, high) in
    ap (λ (o : Option ℕ). o >>= (λ m. if nat_le least m && nat_le m most then Some m else None)) (number_read n small)
    ∙ (ap (λ (t : Bool). if t && nat_le n most then Some n else None) a
    ∙ ap (λ (t : Bool). if t then Some n else None) b)

-- ---- digits are no blanks, colons or minus signs

digit_differs : (b other : ℕ) → is_digit b ≡ true → (other < 48) ⊎ (57 < other) → (b == other) ≡ false
unfolding is_digit
digit_differs b other h (inl l) = grind (arith, nat_tests, h, l)
digit_differs b other h (inr l) = grind (arith, nat_tests, h, l)

pub both_true : (a b : Bool) → (a && b) ≡ true → (a ≡ true) × (b ≡ true)
both_true true true h = (refl, refl)
both_true true false h = absurd (cc (h))
both_true false b h = absurd (cc (h))

pub none_is : (other : ℕ) → (other < 48) ⊎ (57 < other) → (ds : List ℕ) → list_all is_digit ds ≡ true →
    list_all (λ b. not (b == other)) ds ≡ true
none_is other h [] all = refl
none_is other h (d ∷ ds) all =
    let both = both_true (is_digit d) (list_all is_digit ds) all in
    ap (λ (b : Bool). not b && list_all (λ b. not (b == other)) ds) (digit_differs d other both.0 h)
    ∙ none_is other h ds both.1

pub no_byte_in_decimal : (other n : ℕ) → n < 2 ^ 64 → (other < 48) ⊎ (57 < other) →
    list_all (λ b. not (b == other)) (decimal n) ≡ true
no_byte_in_decimal other n small h = none_is other h (decimal n) (written n small).digits

-- ---- a value of 32 bits

value_first : (b : ℕ) (bytes : List ℕ) → (b == 45) ≡ false →
    is_value (b ∷ bytes) ≡ holds (number_of (b ∷ bytes)) (λ n. nat_le n 2147483647)
value_first b bytes e =
    ap (λ (t : Bool). if t then holds (number_of bytes) (λ n. nat_le 1 n && nat_le n 2147483648)
    else holds (number_of (b ∷ bytes)) (λ n. nat_le n 2147483647)) e

minus_first : (other : ℕ) → (other ≡ 45 → ⊥) → (other < 48) ⊎ (57 < other) → (ds : List ℕ) →
    list_all is_digit ds ≡ true → list_all (λ b. not (b == other)) (45 ∷ ds) ≡ true
minus_first other ne h ds all =
    let t : (45 == other) ≡ false = grind (arith, nat_tests, ne) in
    ap (λ (b : Bool). not b && list_all (λ b. not (b == other)) ds) t ∙ none_is other h ds all

-- a value holds no blank
pub no_byte_in_value : (z : ℤ) → Has32Bits z → list_all (λ b. not (b == 32)) (signed_decimal z) ≡ true
no_byte_in_value (pos n) h = no_byte_in_decimal 32 n (omega (arith, h)) (inl (omega arith))
no_byte_in_value (negsuc n) h =
    minus_first 32 (λ e. omega (arith, e)) (inl (omega arith)) (decimal (suc n))
    (written (suc n) (omega (arith, h))).digits

pub no_feed_in_value : (z : ℤ) → Has32Bits z → list_all (λ b. not (b == 10)) (signed_decimal z) ≡ true
no_feed_in_value (pos n) h = no_byte_in_decimal 10 n (omega (arith, h)) (inl (omega arith))
no_feed_in_value (negsuc n) h =
    minus_first 10 (λ e. omega (arith, e)) (inl (omega arith)) (decimal (suc n))
    (written (suc n) (omega (arith, h))).digits

pub value_read : (z : ℤ) → Has32Bits z → is_value (signed_decimal z) ≡ true
value_read (pos n) h =
    let small : n < 2 ^ 64 = omega (arith, h) in
    let w = written n small in
    let digit : is_digit w.first ≡ true =
    (both_true (is_digit w.first) (list_all is_digit w.rest) (sym (ap (list_all is_digit) w.are) ∙ w.digits)).0 in
    ap is_value w.are
    ∙ (value_first w.first w.rest (digit_differs w.first 45 digit (inl (omega arith)))
    ∙ (sym (ap (λ (l : List ℕ). holds (number_of l) (λ n. nat_le n 2147483647)) w.are)
    ∙ (ap (λ (o : Option ℕ). holds o (λ n. nat_le n 2147483647)) (number_read n small)
    ∙ grind (arith, nat_tests, h))))
value_read (negsuc n) h =
    let small : suc n < 2 ^ 64 = omega (arith, h) in
    ap (λ (o : Option ℕ). holds o (λ n. nat_le 1 n && nat_le n 2147483648)) (number_read (suc n) small)
    ∙ grind (arith, nat_tests, h)

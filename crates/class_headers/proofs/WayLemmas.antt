-- What is met on ways that go on by ways, and that ways that are far enough end where the chain comes back.
use Rattle.std.proofs.Common.{◌≡◌, ℕ, zero, suc, ◌+◌, ◌-◌, ◌^◌, ◌<◌, ◌≤◌, Bool, true, false, ◌||◌, ◌==◌, true≢false, List, [], ◌∷◌, ◌++◌, length, map, take, get_or, slice_get, bit_or, Option, Some, None, option_and_then, option_map, unwrap_or, refl, sym, ap, ◌∙◌, subst, arith, zero-add, inl, inr, ◌⊎◌, ⊎_elim}
use Rattle.std.specs.Int.Bits.{or_zero_r}
use Rattle.std.specs.List.{list_any, flat_map}
use Rattle.std.proofs.Math.Nat.{pow-suc}
use Rattle.std.proofs.lemmas.Bool.{cases_lt}
use Rattle.std.proofs.lemmas.Bool.Decides.{nat_tests}
use Rattle.std.proofs.lemmas.Grind.{common_steps}
use Rattle.std.proofs.lemmas.List.Concat.{flat_map-append}
use Rattle.std.proofs.lemmas.List.Folds.{Any-from_list_any, list_any_at}
use Rattle.std.proofs.lemmas.Nat.Bits.{bit_at-zero, bit_at_or, bit_at-lt, bit_at-pow_same, bit_at-pow_other, same_from_bits}
use Rattle.std.proofs.lemmas.Option.{slice_get-map, same_Some}
use Rattle.scj_tree.specs.Recursion.{listed, lookup}
use Rattle.scj_tree.proofs.RecursionLemmas.{length-listed, listed-at, lookup-behind}
use Rattle.scj_rules.specs.Words.{is_among, holds, chain, chain_behind, StaysBelow}
use Rattle.scj_rules.specs.Chains.{Follows, one, more, ComesBack}
use Rattle.scj_rules.proofs.ChainLemmas.{same_number, is_same_number, or_cases, chain_reaches, chain_comes_back}
use Rattle.class_headers.specs.declared.ways.Way.{Way}
use Rattle.class_headers.specs.Ways.{bit_of, bits_of, has_bit, no_way, way_from, twice, doubled, AreDoubled, ends_at}
use Rattle.class_headers.proofs.SuperLemmas.{bools, any_alike, any_flat}

-- ---- sets of classes as bits

or_assoc : (a b c : ℕ) → bit_or (bit_or a b) c ≡ bit_or a (bit_or b c)
or_assoc a b c =
    same_from_bits (bit_or (bit_or a b) c) (bit_or a (bit_or b c))
    (λ i. omega (arith, bit_at_or (bit_or a b) c i, bit_at_or a b i, bit_at_or a (bit_or b c) i, bit_at_or b c i))

bits-append : (xs ys : List ℕ) → bits_of (xs ++ ys) ≡ bit_or (bits_of xs) (bits_of ys)
unfolding bits_of
bits-append [] ys = refl
bits-append (x ∷ xs) ys = ap (bit_or (bit_of x)) (bits-append xs ys)
    ∙ sym (or_assoc (bit_of x) (bits_of xs) (bits_of ys))

has_none : (k : ℕ) → has_bit 0 k ≡ false
unfolding has_bit
has_none k = grind (arith, nat_tests, bit_at-zero k)

pub has_or : (a b k : ℕ) → has_bit (bit_or a b) k ≡ (has_bit a k || has_bit b k)
unfolding has_bit
has_or a b k = grind (arith, nat_tests, bit_at_or a b k, bit_at-lt a k, bit_at-lt b k)

has_one : (k x : ℕ) → k < 8 → has_bit (bit_of x) k ≡ (k == x)
unfolding has_bit bit_of
has_one k x h = grind (arith, nat_tests, bit_at-pow_same x, bit_at-pow_other x k, bit_at-zero k)

has_bits : (k : ℕ) (xs : List ℕ) → k < 8 → has_bit (bits_of xs) k ≡ is_among k xs
unfolding bits_of
has_bits k [] h = has_none k
has_bits k (x ∷ xs) h = grind (arith, common_steps, has_or (bit_of x) (bits_of xs) k, has_one k x h, has_bits k xs h)

pub bits_push : (xs : List ℕ) (i x bits bit : ℕ) → i < length xs → x ≡ get_or xs i x → bits ≡ bits_of (take i xs) →
    bit ≡ bit_of x → bit_or bits bit ≡ bits_of (take (i + 1) xs)
unfolding bits_of
bits_push xs i x bits bit h e before f =
    grind (arith, common_steps, bits-append (take i xs) (x ∷ []), or_zero_r (bit_of x))

-- ---- lists of lists, and lists that are made number by number

pub list_there : {A B : Type 0} (f : A → List B) (xs : List A) (i : ℕ) (x : A) → slice_get xs i ≡ Some x →
    f x ≡ unwrap_or (slice_get (map f xs) i) []
list_there f xs i x e = sym (ap (λ o. unwrap_or o []) (slice_get-map f xs i ∙ ap (option_map f) e))

pub list_past : {A B : Type 0} (f : A → List B) (xs : List A) (i : ℕ) → slice_get xs i ≡ None →
    [] ≡ unwrap_or (slice_get (map f xs) i) []
list_past f xs i e = sym (ap (λ o. unwrap_or o []) (slice_get-map f xs i ∙ ap (option_map f) e))

listed-there : {A : Type 0} (d : A) (f : ℕ → A) (n k : ℕ) → k < n → lookup d (listed f n) k ≡ f k
listed-there d f n k h = grind (arith, common_steps, nat_tests, h, listed-at d f n k)

listed-map : {A B : Type 0} (g : A → B) (f : ℕ → A) (h : ℕ → B) (n : ℕ) → ((k : ℕ) → k < n → g (f k) ≡ h k) →
    map g (listed f n) ≡ listed h n
unfolding listed
listed-map g f h zero e = refl
listed-map g f h (suc n) e =
    let before : map g (listed f n) ≡ listed h n = listed-map g f h n (λ k l. e k (omega (arith, l))) in
    grind (arith, common_steps, before, e n (omega arith))

one-listed : {A : Type 0} (p : A → Bool) (f : ℕ → A) (n : ℕ) → list_any p (listed f n) ≡ true → (i : ℕ) × (i < n) ×
    (p (f i) ≡ true)
one-listed p f n t =
    let a = Any-from_list_any p (listed f n) t in
    let l : a.0 < n = omega (arith, a.2, length-listed f n) in
    (a.0, l, ap p (sym (listed-there a.1 f n a.0 l) ∙ a.3) ∙ a.4)

any-listed : {A : Type 0} (p : A → Bool) (f : ℕ → A) (n i : ℕ) → i < n → p (f i) ≡ true → list_any p (listed f n) ≡ true
any-listed p f n i h t =
    list_any_at p (listed f n) i (f i) (omega (arith, h, length-listed f n)) (ap p (listed-there (f i) f n i h) ∙ t)

-- ---- rounds

pub of_one_step : (first : List Way) → AreDoubled first 1 first
unfolding doubled
of_one_step first = record { rounds = 0; far = omega arith; are = refl }

pub twice_as_far : (first ways : List Way) (steps farther : ℕ) → AreDoubled first steps ways →
    farther ≤ steps + steps → AreDoubled first farther (map (twice ways) ways)
unfolding doubled
twice_as_far first ways steps farther d h = record {
  rounds = suc d.rounds;
  far = omega (arith, d.far, h, pow-suc 2 d.rounds);
  are = ap (λ ws. map (twice ws) ws) d.are;
}

pub far_enough : (first ways : List Way) (steps : ℕ) → AreDoubled first steps ways → length ways ≤ steps →
    AreDoubled first (length ways) ways
far_enough first ways steps d h = record { rounds = d.rounds; far = omega (arith, d.far, h); are = d.are }

-- ---- climbing

-- the class so many steps above, where the chain is that long
pub climb : (ℕ → Option ℕ) → ℕ → ℕ → Option ℕ
climb next zero a = Some a
climb next (suc m) a = option_and_then (climb next m) (next a)

-- what is met on the way of m steps
abbrev pub reported : (ℕ → List ℕ) → Option ℕ → List ℕ → Way
reported own e xs = record { end = e; above = bits_of xs; implemented = bits_of (flat_map own xs) }

abbrev pub way : (ℕ → Option ℕ) → (ℕ → List ℕ) → ℕ → ℕ → Way
way next own m x = reported own (climb next m x) (chain next m x)

module _ (next : ℕ → Option ℕ) where
  abbrev rest : ℕ → Option ℕ → List ℕ
  rest m o = elim o as (λ _. List ℕ) [ None ↦ [] | Some b ↦ chain next m b ]

  climb-add : (m k a : ℕ) → climb next (m + k) a ≡ option_and_then (climb next k) (climb next m a)
  unfolding climb
  climb-add zero k a = ap (λ i. climb next i a) (zero-add k)
  climb-add (suc m) k a =
      ap (λ i. climb next i a) (let e : suc m + k ≡ suc (m + k) = omega arith in e)
      ∙ grind (arith, common_steps, climb-add m k)

  chain-add : (m k a : ℕ) → chain next (m + k) a ≡ chain next m a ++ rest k (climb next m a)
  unfolding chain climb
  chain-add zero k a = ap (λ i. chain next i a) (zero-add k)
  chain-add (suc m) k a =
      ap (λ i. chain next i a) (let e : suc m + k ≡ suc (m + k) = omega arith in e)
      ∙ grind (arith, common_steps, chain-add m k)

  follows_from : (r a b : ℕ) → ((c : ℕ) → climb next r c ≡ Some b → (c ≡ b) ⊎ Follows next c b) → (o : Option ℕ) →
      next a ≡ o → option_and_then (climb next r) o ≡ Some b → Follows next a b
  follows_from r a b later None f e = cc
  follows_from r a b later (Some c) f e =
      ⊎_elim (λ (s : c ≡ b). one (f ∙ ap (λ x. Some x) s)) (λ (g : Follows next c b). more f g) (later c e)

  climbed : (r a b : ℕ) → climb next r a ≡ Some b → (a ≡ b) ⊎ Follows next a b
  unfolding climb
  climbed zero a b e = inl (same_Some a b e)
  climbed (suc r) a b e = inr (follows_from r a b (λ c. climbed r c b) (next a) refl e)

  -- what stands on a chain is reached by steps
  met_later : (bound a b : ℕ)
      → ((c : ℕ) → is_among b (chain next bound c) ≡ true → (p : ℕ) × (p < bound) × (climb next p c ≡ Some b))
      → (o : Option ℕ) → next a ≡ o → is_among b (rest bound o) ≡ true →
      (p : ℕ) × (p < suc bound) × (climb next p a ≡ Some b)
  unfolding climb
  met_later bound a b later None f k = absurd (true≢false (sym k))
  met_later bound a b later (Some c) f k =
      let r = later c k in
      (suc r.0, omega (arith, r.1), ap (option_and_then (climb next r.0)) f ∙ r.2)

  met : (bound a b : ℕ) → is_among b (chain next bound a) ≡ true → (p : ℕ) × (p < bound) × (climb next p a ≡ Some b)
  unfolding chain climb
  met zero a b h = absurd (true≢false (sym h))
  met (suc bound) a b h = ⊎_elim (λ (e : (b == a) ≡ true). (0, omega arith, ap (λ x. Some x) (sym (same_number b a e))))
      (λ (k : is_among b (rest bound (next a)) ≡ true). met_later bound a b (λ c. met bound c b) (next a) refl k)
      (or_cases (b == a) (is_among b (rest bound (next a))) h)

  -- what comes back is reached from something that comes back
  last_step : {a b : ℕ} → Follows next a b → (y : ℕ) × (next y ≡ Some b) × ((a ≡ y) ⊎ Follows next a y)
  last_step (one {a = a} e) = (a, e, inl refl)
  last_step (more {a = a} {b = b} e f) =
      let r = last_step f in (
        r.0,
        r.1,
        inr (⊎_elim (λ (s : b ≡ r.0). one (e ∙ ap (λ x. Some x) s)) (λ (g : Follows next b r.0). more e g) r.2),
      )

  back : (x : ℕ) → ComesBack next x → (y : ℕ) × (next y ≡ Some x) × ComesBack next y
  back x c =
      let r = last_step c in
      (r.0, r.1, ⊎_elim (λ (s : x ≡ r.0). subst (ComesBack next) s c) (λ (g : Follows next x r.0). more r.1 g) r.2)

  module _ (n : ℕ) (stays : StaysBelow next n) where
    climb-below : (m a b : ℕ) → a < n → climb next m a ≡ Some b → b < n
    climb-below m a b h e =
        ⊎_elim (λ (s : a ≡ b). omega (arith, h, s)) (λ (f : Follows next a b). let y = last_step f in stays y.0 b y.1)
        (climbed m a b e)

    -- far ways end where the chain comes back
    end_comes_back : (m i x : ℕ) → n ≤ m → i < n → climb next m i ≡ Some x → ComesBack next x
    unfolding climb
    end_comes_back m i x far h e =
        let there = (chain_reaches next n i x stays h).1 (climbed m i x e) in
        let at = met n i x there in
        let r : ℕ = m - at.0 - 1 in
        let parts : at.0 + suc r ≡ m = omega (arith, at.1, far) in
        follows_from r x x (λ c. climbed r c x) (next x) refl
        (sym (ap (option_and_then (climb next (suc r))) at.2) ∙ sym (climb-add at.0 (suc r) i)
        ∙ ap (λ k. climb next k i) parts ∙ e)

    climbed_to : (m x : ℕ) → ComesBack next x → (i : ℕ) × (i < n) × (climb next m i ≡ Some x)
    unfolding climb
    climbed_to zero x c = let b = back x c in (x, stays b.0 x b.1, refl)
    climbed_to (suc m) x c =
        let b = back x c in
        let r = climbed_to m b.0 b.2 in (
          r.0,
          r.1,
          ap (λ k. climb next k r.0) (let e : suc m ≡ m + 1 = omega arith in e) ∙ climb-add m 1 r.0
              ∙ ap (option_and_then (climb next 1)) r.2 ∙ ap (option_and_then (climb next 0)) b.1,
        )

    -- a chain of as many numbers as there are has all that a longer one has
    far_test : (m x : ℕ) (test : ℕ → Bool) → n ≤ m → x < n →
        list_any test (chain next m x) ≡ list_any test (chain next n x)
    far_test m x test far h =
        any_alike test (chain next m x) (chain next n x) (λ b.
        let short = chain_reaches next n x b stays h in
        let long = chain_reaches next m x b (λ c d e. let low = stays c d e in omega (arith, low, far))
        (omega (arith, h, far)) in
        bools (is_among b (chain next m x)) (is_among b (chain next n x))
        (λ k. short.1 (long.0 k)) (λ k. long.1 (short.0 k)))

    nothing_past : (m x : ℕ) (test : ℕ → Bool) → next x ≡ None → test x ≡ false → list_any test (chain next m x) ≡ false
    unfolding chain
    nothing_past zero x test e t = refl
    nothing_past (suc m) x test e t = rw (t, e) refl

    module _ (own : ℕ → List ℕ) where
      joins : (ways : List Way) (e f : Option ℕ) (xs ys : List ℕ) → way_from ways e ≡ reported own f ys →
          twice ways (reported own e xs) ≡ reported own f (xs ++ ys)
      unfolding twice
      joins ways e f xs ys h =
          rw (h, flat_map-append own xs ys, bits-append xs ys, bits-append (flat_map own xs) (flat_map own ys)) refl

      from_end : (m : ℕ) (o : Option ℕ) → ((b : ℕ) → o ≡ Some b → b < n) →
          way_from (listed (way next own m) n) o ≡ reported own (option_and_then (climb next m) o) (rest m o)
      unfolding way_from bits_of
      from_end m None s = refl
      from_end m (Some b) s = listed-there no_way (way next own m) n b (s b refl)

      twice_is : (m x : ℕ) → x < n → twice (listed (way next own m) n) (way next own m x) ≡ way next own (m + m) x
      twice_is m x h =
          joins (listed (way next own m) n) (climb next m x) (option_and_then (climb next m) (climb next m x))
          (chain next m x) (rest m (climb next m x)) (from_end m (climb next m x) (λ b e. climb-below m x b h e))
          ∙ (rw (climb-add m m x, chain-add m m x) refl)

      pub first_is : (x : ℕ)
          → ◌≡◌ {A = Way} (record { end = next x; above = bit_of x; implemented = bits_of (own x) }) (way next own 1 x)
      unfolding climb chain bits_of
      first_is x = grind (arith, common_steps, or_zero_r (bit_of x))

      pub doubled_is : (rounds : ℕ) → doubled rounds (listed (way next own 1) n) ≡ listed (way next own (2 ^ rounds)) n
      unfolding doubled
      doubled_is zero = refl
      doubled_is (suc r) =
          ap (λ ws. map (twice ws) ws) (doubled_is r)
          ∙ listed-map (twice (listed (way next own (2 ^ r)) n)) (way next own (2 ^ r)) (way next own (2 ^ r + 2 ^ r)) n
          (twice_is (2 ^ r))
          ∙ ap (λ m. listed (way next own m) n) (let e : 2 ^ r + 2 ^ r ≡ 2 ^ suc r = omega (arith, pow-suc 2 r) in e)

      module _ (m : ℕ) (far : n ≤ m) where
        held : (x : ℕ) (o : Option ℕ) → holds o (λ e. x == e) ≡ true → o ≡ Some x
        held x o h = grind (arith, common_steps, nat_tests, h)

        pub ends_are : (x : ℕ) → x < n →
            list_any (ends_at x) (listed (way next own m) n) ≡ is_among x (chain_behind next n x)
        ends_are x h =
            let law = chain_comes_back next n x stays in
            bools (list_any (ends_at x) (listed (way next own m) n)) (is_among x (chain_behind next n x))
            (λ t. let a = one-listed (ends_at x) (way next own m) n t in
            law.1 (end_comes_back m a.0 x far a.1 (held x (climb next m a.0) a.2)))
            (λ t. let a = climbed_to m x (law.0 t) in
            any-listed (ends_at x) (way next own m) n a.0 a.1 (rw a.2 (is_same_number x x refl)))

        pub none_behind : (x : ℕ) → next x ≡ None → is_among x (chain_behind next n x) ≡ false
        unfolding chain_behind
        none_behind x e = ap (λ o. is_among x (rest n o)) e

        -- what is looked up by bits is what is found on the chain
        shown : (kind : ℕ) (pick : Way → ℕ) (test : ℕ → Bool) →
            ((x : ℕ) → has_bit (pick (way next own m x)) kind ≡ list_any test (chain next m x)) →
            has_bit (pick no_way) kind ≡ false → ((x : ℕ) → n ≤ x → (next x ≡ None) × (test x ≡ false)) → (x : ℕ) →
            has_bit (pick (lookup no_way (listed (way next own m) n) x)) kind ≡ list_any test (chain next n x)
        shown kind pick test there none past x =
            ⊎_elim (λ (h : x < n). ap (λ w. has_bit (pick w) kind) (listed-there no_way (way next own m) n x h)
            ∙ there x ∙ far_test m x test far h)
            (λ (h : n ≤ x). ap (λ w. has_bit (pick w) kind)
            (lookup-behind no_way (listed (way next own m) n) x (omega (arith, h, length-listed (way next own m) n)))
            ∙ none ∙ sym (nothing_past n x test (past x h).0 (past x h).1)) (cases_lt x n)

        pub above_are : (kind : ℕ) → kind < 8 → kind < n → ((x : ℕ) → n ≤ x → next x ≡ None) → (x : ℕ) →
            has_bit (lookup no_way (listed (way next own m) n) x).above kind ≡ is_among kind (chain next n x)
        above_are kind h l past =
            shown kind (λ w. w.above) (λ x. kind == x) (λ x. has_bits kind (chain next m x) h) (has_none kind)
            (λ x k. (past x k, (let e : kind < x = omega (arith, l, k) in grind (arith, nat_tests))))

        pub implemented_are : (kind : ℕ) → kind < 8 → ((x : ℕ) → n ≤ x → (next x ≡ None) × (own x ≡ [])) → (x : ℕ) →
            has_bit (lookup no_way (listed (way next own m) n) x).implemented kind ≡ is_among kind
            (flat_map own (chain next n x))
        implemented_are kind h past x =
            shown kind (λ w. w.implemented) (λ y. is_among kind (own y))
            (λ y. has_bits kind (flat_map own (chain next m y)) h
            ∙ sym (any_flat (λ j. kind == j) own (chain next m y))) (has_none kind)
            (λ y k. ((past y k).0, ap (is_among kind) (past y k).1)) x ∙ any_flat (λ j. kind == j) own (chain next n x)

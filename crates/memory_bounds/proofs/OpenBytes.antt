-- How many bytes the open areas reserve, where each of them stands on a list (as CountOpen of `area_laws` counts them).
use Rattle.std.specs.Prelude.{cond, filter, map, not, slice_get, sum, if◌then◌else◌, ◌==◌}
use Rattle.std.proofs.Common.{◌≡◌, ◌∙◌, Bool, true, false, ℕ, suc, ◌+◌, ◌≤◌, List, [], ◌∷◌, Some, ◌⊎◌, inl, inr, refl, ap, sym, subst, arith}
use Rattle.std.proofs.lemmas.List.Sums.{sum_by-cons}
use Rattle.scj_rules.specs.Words.{is_among}
use Rattle.scj_model.specs.Memory.{reserved, rounded_up}
use Rattle.scj_model.specs.State.{MemoryArea, State}
use Rattle.priority_laws.proofs.AreaLists.{among_cases, among_here, among_later, bool_cases, other_number, same_number}

-- ---- a list without a number

abbrev besides : ℕ → List ℕ → List ℕ
besides n xs = filter (λ b. not (b == n)) xs

-- what follows on the first element, by whether it is the number
first : (n x : ℕ) (xs : List ℕ) (c : Bool) → (x == n) ≡ c →
    besides n (x ∷ xs) ≡ (if not c then x ∷ besides n xs else besides n xs)
first n x xs c e = ap (λ (d : Bool). if not d then x ∷ besides n xs else besides n xs) e

stays : (n b : ℕ) (xs : List ℕ) → (b ≡ n → ⊥) → is_among b xs ≡ true → is_among b (besides n xs) ≡ true
stays n b [] d m = absurd (cc (m))
stays n b (x ∷ xs) d m = go (bool_cases (x == n)) (among_cases b x xs m) (stays n b xs d)
  where
    go : ((x == n) ≡ true) ⊎ ((x == n) ≡ false) → (b ≡ x) ⊎ (is_among b xs ≡ true) →
        (is_among b xs ≡ true → is_among b (besides n xs) ≡ true) → is_among b (besides n (x ∷ xs)) ≡ true
    go (inl t) (inl e) more = absurd (d (e ∙ same_number x n t))
    go (inl t) (inr k) more = subst (λ (ys : List ℕ). is_among b ys ≡ true) (sym (first n x xs true t)) (more k)
    go (inr f) (inl e) more =
        subst (λ (ys : List ℕ). is_among b ys ≡ true) (sym (first n x xs false f))
        (subst (λ (c : ℕ). is_among c (x ∷ besides n xs) ≡ true) (sym e) (among_here x (besides n xs)))
    go (inr f) (inr k) more =
        subst (λ (ys : List ℕ). is_among b ys ≡ true) (sym (first n x xs false f))
        (among_later b x (besides n xs) (more k))

module _ (weight : ℕ → ℕ) where
  abbrev pub total : List ℕ → ℕ
  total xs = sum (map weight xs)

  more_total : (x : ℕ) (xs : List ℕ) → total (x ∷ xs) ≡ weight x + total xs
  more_total x xs = sum_by-cons (λ m. m) (weight x) (map weight xs)

  no_more : (n : ℕ) (xs : List ℕ) → total (besides n xs) ≤ total xs
  no_more n [] = omega arith
  no_more n (x ∷ xs) = go (bool_cases (x == n)) (no_more n xs)
    where
      go : ((x == n) ≡ true) ⊎ ((x == n) ≡ false) → total (besides n xs) ≤ total xs →
          total (besides n (x ∷ xs)) ≤ total (x ∷ xs)
      go (inl t) h =
          let e : total (besides n (x ∷ xs)) ≡ total (besides n xs) = ap total (first n x xs true t) in
          let c = more_total x xs in
          omega (arith, e, h, c)
      go (inr f) h =
          let e : total (besides n (x ∷ xs)) ≡ total (x ∷ besides n xs) = ap total (first n x xs false f) in
          let c = more_total x xs in
          let d = more_total x (besides n xs) in
          omega (arith, e, h, c, d)

  one_less : (n : ℕ) (xs : List ℕ) → is_among n xs ≡ true → weight n + total (besides n xs) ≤ total xs
  one_less n [] m = absurd (cc (m))
  one_less n (x ∷ xs) m = go (bool_cases (x == n)) (among_cases n x xs m) (one_less n xs)
    where
      go : ((x == n) ≡ true) ⊎ ((x == n) ≡ false) → (n ≡ x) ⊎ (is_among n xs ≡ true) →
          (is_among n xs ≡ true → weight n + total (besides n xs) ≤ total xs) →
          weight n + total (besides n (x ∷ xs)) ≤ total (x ∷ xs)
      go (inl t) c more =
          let e : total (besides n (x ∷ xs)) ≡ total (besides n xs) = ap total (first n x xs true t) in
          let d = more_total x xs in
          let same : weight x ≡ weight n = ap weight (same_number x n t) in
          let h : total (besides n xs) ≤ total xs = no_more n xs in
          omega (arith, e, h, same, d)
      go (inr f) (inl s) more = absurd (other_number x n f (sym s))
      go (inr f) (inr k) more =
          let e : total (besides n (x ∷ xs)) ≡ total (x ∷ besides n xs) = ap total (first n x xs false f) in
          let d = more_total x xs in
          let g = more_total x (besides n xs) in
          let h : weight n + total (besides n xs) ≤ total xs = more k in
          omega (arith, e, h, d, g)

  -- ---- the open ones of areas, numbered from n on

  abbrev bytes_of : List MemoryArea → ℕ
  bytes_of areas = sum (map (λ (x : MemoryArea). rounded_up x.bytes) (filter (λ (x : MemoryArea). x.is_open) areas))

  open_bytes : (areas : List MemoryArea) (n : ℕ) (xs : List ℕ) →
      ((i : ℕ) (x : MemoryArea) → slice_get areas i ≡ Some x → x.is_open ≡ true →
      (is_among (n + i) xs ≡ true) × (rounded_up x.bytes ≤ weight (n + i))) → bytes_of areas ≤ total xs
  open_bytes [] n xs h = omega arith
  open_bytes (x ∷ areas) n xs h = go x.is_open refl (λ ys k. open_bytes areas (n + 1) ys k)
    where
      next : (i : ℕ) → n + suc i ≡ n + 1 + i
      next i = omega arith

      go : (b : Bool) → x.is_open ≡ b →
          ((ys : List ℕ) → ((i : ℕ) (y : MemoryArea) → slice_get areas i ≡ Some y → y.is_open ≡ true →
          (is_among (n + 1 + i) ys ≡ true) × (rounded_up y.bytes ≤ weight (n + 1 + i))) →
          bytes_of areas ≤ total ys) → bytes_of (x ∷ areas) ≤ total xs
      go false e more =
          let k : bytes_of areas ≤ total xs =
          more xs (λ i y g t. (
            subst (λ (m : ℕ). is_among m xs ≡ true) (next i) (h (suc i) y g t).0,
            subst (λ (m : ℕ). rounded_up y.bytes ≤ weight m) (next i) (h (suc i) y g t).1,
          )) in
          let c : bytes_of (x ∷ areas) ≡ bytes_of areas =
          ap (λ (b : Bool). sum (map (λ (x : MemoryArea). rounded_up x.bytes)
          (cond b (x ∷ filter (λ (y : MemoryArea). y.is_open) areas) (filter (λ (y : MemoryArea). y.is_open) areas)))) e in
          omega (arith, k, c)
      go true e more =
          let zero_on : n + 0 ≡ n = omega arith in
          let here : is_among n xs ≡ true = subst (λ (m : ℕ). is_among m xs ≡ true) zero_on (h 0 x refl e).0 in
          let mine : rounded_up x.bytes ≤ weight n =
          subst (λ (m : ℕ). rounded_up x.bytes ≤ weight m) zero_on (h 0 x refl e).1 in
          let k : bytes_of areas ≤ total (besides n xs) =
          more (besides n xs) (λ i y g t. (
            stays n (n + 1 + i) xs (λ s. omega (arith, s))
                (subst (λ (m : ℕ). is_among m xs ≡ true) (next i) (h (suc i) y g t).0),
            subst (λ (m : ℕ). rounded_up y.bytes ≤ weight m) (next i) (h (suc i) y g t).1,
          )) in
          let c : bytes_of (x ∷ areas) ≡ rounded_up x.bytes + bytes_of areas =
          ap (λ (b : Bool). sum (map (λ (x : MemoryArea). rounded_up x.bytes)
          (cond b (x ∷ filter (λ (y : MemoryArea). y.is_open) areas) (filter (λ (y : MemoryArea). y.is_open) areas)))) e
          ∙ sum_by-cons (λ m. m) (rounded_up x.bytes)
          (map (λ (y : MemoryArea). rounded_up y.bytes) (filter (λ (y : MemoryArea). y.is_open) areas)) in
          let l : weight n + total (besides n xs) ≤ total xs = one_less n xs here in
          omega (arith, k, c, l, mine)

  -- what is reserved, where the open areas are among these and no larger than their weights
  pub reserved_by : (s : State) (xs : List ℕ) → ((a : ℕ) (x : MemoryArea) → slice_get s.areas a ≡ Some x →
      x.is_open ≡ true → (is_among a xs ≡ true) × (rounded_up x.bytes ≤ weight a)) → reserved s ≤ total xs
  unfolding reserved
  reserved_by s xs h =
      open_bytes s.areas 0 xs (λ i x g t.
      (let none : 0 + i ≡ i = omega arith in
      subst (λ a. (is_among a xs ≡ true) × (rounded_up x.bytes ≤ weight a)) (sym none) (h i x g t)))

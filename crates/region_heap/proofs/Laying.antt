-- Words that are written one by one.
use Rattle.std.specs.Prelude.{Some, None, IsSome, replicate, slice_get, slice_set}
use Rattle.std.proofs.Common.{◌≡◌, ◌∙◌, ◌⊎◌, inl, inr, ℕ, zero, suc, ◌+◌, ◌<◌, ◌≤◌, List, length, get_or, refl, ap, sym, arith, subst, length-set, get_or-set_same, get_or-set_other}
use Rattle.scj_base.specs.declared.values.Value.{Value}
use Rattle.region_heap.specs.Words.{Words, area_in, ceiling_in, class_in, count_in, number_or_zero, object_in, slots_at, value_in, word}
use Rattle.region_heap.specs.Written.{IsBegun, IsLaid, IsWrittenWithin}
use Rattle.region_heap.proofs.Slots.{slots_are}

-- ---- one word

pub same_or_other : (i j : ℕ) → (i ≡ j) ⊎ (i ≡ j → ⊥)
same_or_other zero zero = inl refl
same_or_other zero (suc j) = inr (λ e. omega (arith, e))
same_or_other (suc i) zero = inr (λ e. omega (arith, e))
same_or_other (suc i) (suc j) = go (same_or_other i j)
  where
    go : (i ≡ j) ⊎ (i ≡ j → ⊥) → (suc i ≡ suc j) ⊎ (suc i ≡ suc j → ⊥)
    go (inl e) = inl (ap suc e)
    go (inr d) = inr (λ e. d (omega (arith, e)))

module _ (ws : Words) (k w : ℕ) (within : k < length ws) where
  abbrev set : Words
  set = slice_set ws k (Some w)

  pub set_here : get_or set k None ≡ Some w
  set_here = get_or-set_same ws k (Some w) None within

  pub set_beside : (j : ℕ) → (j ≡ k → ⊥) → get_or set j None ≡ get_or ws j None
  set_beside j d = get_or-set_other ws k j (Some w) None d

  pub word_here : word set k ≡ w
  word_here = ap number_or_zero set_here

  pub word_beside : (j : ℕ) → (j ≡ k → ⊥) → word set j ≡ word ws j
  word_beside j d = ap number_or_zero (set_beside j d)

  pub stays_written : (j : ℕ) → IsSome (get_or ws j None) → IsSome (get_or set j None)
  stays_written j h = go (same_or_other j k)
    where
      go : (j ≡ k) ⊎ (j ≡ k → ⊥) → IsSome (get_or set j None)
      go (inl e) = rw (ap (λ (i : ℕ). get_or set i None) e ∙ set_here) refl
      go (inr d) = rw (set_beside j d) h

  pub is_written : IsSome (get_or set k None)
  is_written = rw set_here refl

-- one more word within the same bounds
pub within_more : (old ws : Words) (from to k w : ℕ) → IsWrittenWithin old from to ws → k < length ws → from ≤ k →
    k < to →
    IsWrittenWithin old from to (slice_set ws k (Some w))
within_more old ws from to k w h lt low high =
    record {
      long = length-set ws k (Some w) ∙ h.long;
      same = λ j out. set_beside ws k w lt j (beside j out) ∙ h.same j out;
      kept = λ j s. stays_written ws k w lt j (h.kept j s);
    }
  where
    beside : (j : ℕ) → (j < from) ⊎ (to ≤ j) → j ≡ k → ⊥
    beside j (inl b) e = omega (arith, b, e, low)
    beside j (inr b) e = omega (arith, b, e, high)

pub within_none : (ws : Words) (from to : ℕ) → IsWrittenWithin ws from to ws
within_none ws from to = record { long = refl; same = λ j out. refl; kept = λ j s. s }

-- ---- an object

pub header_begun : (ws : Words) (first class area u w : ℕ) (slots : List Value) → first + 2 + length slots ≤ length ws →
    class_in u ≡ class → area_in u ≡ area → count_in w ≡ length slots → ceiling_in w ≡ 28 →
    IsBegun ws first class area slots 0 (slice_set (slice_set ws first (Some u)) (first + 1) (Some w))
header_begun ws first class area u w slots room ec ea en el =
    let one : IsWrittenWithin ws first (first + 2 + length slots) us =
    within_more ws ws first (first + 2 + length slots) first u (within_none ws first (first + 2 + length slots))
    lt_first
    (omega arith) (omega arith) in
    let first_word : word vs first ≡ u =
    word_beside us (first + 1) w lt_second first (λ e. omega (arith, e)) ∙ word_here ws first u lt_first in
    let second_word : word vs (first + 1) ≡ w = word_here us (first + 1) w lt_second in
    record {
      most = omega arith;
      within = within_more ws us first (first + 2 + length slots) (first + 1) w one lt_second (omega arith)
          (omega arith);
      class_is = ap class_in first_word ∙ ec;
      area_is = ap area_in first_word ∙ ea;
      count_is = ap count_in second_word ∙ en;
      ceiling_is = ap ceiling_in second_word ∙ el;
      values = λ i h. absurd (omega (arith, h));
      written = λ j low high. two j low high (same_or_other j (first + 1));
    }
  where
    us : Words
    us = slice_set ws first (Some u)

    vs : Words
    vs = slice_set us (first + 1) (Some w)

    lt_first : first < length ws
    lt_first = omega (arith, room)

    lt_second : first + 1 < length us
    lt_second = omega (arith, room, length-set ws first (Some u))

    two : (j : ℕ) → first ≤ j → j < first + 2 + 0 → (j ≡ first + 1) ⊎ (j ≡ first + 1 → ⊥) → IsSome (get_or vs j None)
    two j low high (inl e) = subst (λ (i : ℕ). IsSome (get_or vs i None)) (sym e) (is_written us
        (first + 1) w lt_second)
    two j low high (inr d) =
        let at_first : j ≡ first = omega (arith, low, high, d) in
        subst (λ (i : ℕ). IsSome (get_or vs i None)) (sym at_first)
        (stays_written us (first + 1) w lt_second first (is_written ws first u lt_first))

pub one_more_slot : (old ws : Words) (first class area i w : ℕ) (slots : List Value) →
    first + 2 + length slots ≤ length old → IsBegun old first class area slots i ws → i < length slots →
    slice_get slots i ≡ Some (value_in w) →
    IsBegun old first class area slots (i + 1) (slice_set ws (first + 2 + i) (Some w))
one_more_slot old ws first class area i w slots room b h is =
    let first_word : word us first ≡ word ws first = word_beside ws (first + 2 + i) w lt first (λ e. omega (
      arith,
      e,
    )) in
    let second_word : word us (first + 1) ≡ word ws (first + 1) =
    word_beside ws (first + 2 + i) w lt (first + 1) (λ e. omega (arith, e)) in
    record {
      most = omega (arith, h);
      within = within_more old ws first (first + 2 + length slots) (first + 2 + i) w b.within lt (omega arith)
          (omega (arith, h));
      class_is = ap class_in first_word ∙ b.class_is;
      area_is = ap area_in first_word ∙ b.area_is;
      count_is = ap count_in second_word ∙ b.count_is;
      ceiling_is = ap ceiling_in second_word ∙ b.ceiling_is;
      values = λ j lj. value j lj (same_or_other j i);
      written = λ j low high. written j low high (same_or_other j (first + 2 + i));
    }
  where
    us : Words
    us = slice_set ws (first + 2 + i) (Some w)

    lt : first + 2 + i < length ws
    lt = omega (arith, room, b.within.long, h)

    value : (j : ℕ) → j < i + 1 → (j ≡ i) ⊎ (j ≡ i → ⊥) → slice_get slots j ≡ Some (value_in (word us (first + 2 + j)))
    value j lj (inl e) =
        subst (λ (n : ℕ). slice_get slots n ≡ Some (value_in (word us (first + 2 + n)))) (sym e)
        (is ∙ ap (λ (n : ℕ). Some (value_in n)) (sym (word_here ws (first + 2 + i) w lt)))
    value j lj (inr d) =
        b.values j (omega (arith, lj, d))
        ∙ ap (λ (n : ℕ). Some (value_in n)) (sym (word_beside ws (first + 2 + i) w lt (first + 2 + j) (λ e. d (omega
        (arith, e)))))

    written : (j : ℕ) → first ≤ j → j < first + 2 + (i + 1) → (j ≡ first + 2 + i) ⊎ (j ≡ first + 2 + i → ⊥) →
        IsSome (get_or us j None)
    written j low high (inl e) =
        subst (λ (n : ℕ). IsSome (get_or us n None)) (sym e) (is_written ws (first + 2 + i) w lt)
    written j low high (inr d) =
        stays_written ws (first + 2 + i) w lt j (b.written j low (omega (arith, high, d)))

-- the header and all slots are the object
pub all_slots : (old ws : Words) (first class area i : ℕ) (slots : List Value) →
    first + 2 + length slots ≤ length old → IsBegun old first class area slots i ws → length slots ≤ i →
    IsLaid old first class area slots ws
unfolding object_in
all_slots old ws first class area i slots room b h =
    let values : slots_at ws (first + 2) (length slots) ≡ slots =
    slots_are ws (first + 2) slots (λ j lj. b.values j (omega (arith, lj, h))) in
    let all : slots_at ws (first + 2) (count_in (word ws (first + 1))) ≡ slots =
    ap (slots_at ws (first + 2)) b.count_is ∙ values in
    record {
      within = b.within;
      lies = record {
        is = rw (b.class_is, b.area_is, b.ceiling_is, all) refl;
        written = λ j low high. b.written j low (omega (arith, high, h));
        within = omega (arith, room, b.within.long);
      };
    }

pub replicated : (n i : ℕ) (v : Value) → i < n → slice_get (replicate n v) i ≡ Some v
replicated zero i v h = absurd (omega (arith, h))
replicated (suc n) zero v h = refl
replicated (suc n) (suc i) v h = replicated n i v (omega (arith, h))

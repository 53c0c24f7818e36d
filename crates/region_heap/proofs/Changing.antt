-- The object at a word is changed, and what the words keep of the others stays.
use Rattle.std.specs.Prelude.{Option, Some, None, IsSome, slice_set}
use Rattle.std.proofs.Common.{◌≡◌, ◌∙◌, ℕ, zero, suc, ◌+◌, ◌<◌, ◌≤◌, List, [], ◌∷◌, length, get_or, refl, ap, sym, arith, subst}
use Rattle.scj_base.specs.declared.values.Value.{Value}
use Rattle.scj_model.specs.State.{Object}
use Rattle.scj_model.specs.Apply.{with_ceiling}
use Rattle.region_heap.specs.Contents.{with_value}
use Rattle.region_heap.specs.Kept.{LiesAt}
use Rattle.region_heap.specs.Words.{Words, ceiling_in, count_in, number_or_zero, object_in, slots_at, value_in, word}
use Rattle.region_heap.specs.Written.{IsChangedAt, IsObject}
use Rattle.region_heap.proofs.Laying.{word_beside, word_here, within_more, within_none}
use Rattle.region_heap.proofs.Slots.{object_count}

-- words that are the same tell the same
pub same_slots : (ws us : Words) (index count : ℕ) →
    ((j : ℕ) → index ≤ j → j < index + count → word us j ≡ word ws j) → slots_at us index count ≡ slots_at ws index
    count
unfolding slots_at
same_slots ws us index zero h = refl
same_slots ws us index (suc count) h =
    let here : word us index ≡ word ws index = h index (omega arith) (omega arith) in
    let rest : slots_at us (index + 1) count ≡ slots_at ws (index + 1) count =
    same_slots ws us (index + 1) count (λ j low high. h j (omega (arith, low)) (omega (arith, high))) in
    ap (λ (n : ℕ). value_in n ∷ slots_at us (index + 1) count) here
    ∙ ap (λ (xs : List Value). value_in (word ws index) ∷ xs) rest

pub same_object : (ws us : Words) (first : ℕ) →
    ((j : ℕ) → first ≤ j → j < first + 2 + count_in (word ws (first + 1)) → word us j ≡ word ws j) →
    object_in us first ≡ object_in ws first
unfolding object_in
same_object ws us first h =
    let one : word us first ≡ word ws first = h first (omega arith) (omega arith) in
    let two : word us (first + 1) ≡ word ws (first + 1) = h (first + 1) (omega arith) (omega arith) in
    let slots : slots_at us (first + 2) (count_in (word us (first + 1)))
    ≡ slots_at ws (first + 2) (count_in (word ws (first + 1))) =
    ap (λ (n : ℕ). slots_at us (first + 2) (count_in n)) two
    ∙ same_slots ws us (first + 2) (count_in (word ws (first + 1)))
    (λ j low high. h j (omega (arith, low)) (omega (arith, high))) in
    rw (one, slots, two) refl

-- an object whose words stay lies where it lay
pub lies_still : (ws us : Words) (first : ℕ) (o : Object) → LiesAt ws first o → length us ≡ length ws →
    ((j : ℕ) → first ≤ j → j < first + 2 + length o.slots → get_or us j None ≡ get_or ws j None) → LiesAt us first o
lies_still ws us first o l long h =
    let count : length o.slots ≡ count_in (word ws (first + 1)) =
    ap (λ (x : Object). length x.slots) (sym l.is) ∙ object_count ws first in
    record {
      is = same_object ws us first (λ j low high. ap number_or_zero (h j low (omega (arith, high, count)))) ∙ l.is;
      written = λ j low high. subst (λ (x : Option ℕ). IsSome x) (sym (h j low high)) (l.written j low high);
      within = omega (arith, l.within, long);
    }

-- the words of an object that lies at a word
pub object_lies : (ws : Words) (first : ℕ) (o : Object) → LiesAt ws first o → length ws ≤ 8388608 → IsObject ws first
object_lies ws first o l most =
    let count : length o.slots ≡ count_in (word ws (first + 1)) =
    ap (λ (x : Object). length x.slots) (sym l.is) ∙ object_count ws first in
    record {
      within = omega (arith, l.within, count);
      most = most;
      written = λ j low high. l.written j low (omega (arith, high, count));
    }

-- an object that is changed lies where it lay, if it has as many slots
pub lies_changed : (ws us : Words) (first : ℕ) (o : Object) (change : Object → Object) → LiesAt ws first o →
    length (change o).slots ≡ length o.slots → IsChangedAt ws first change us → LiesAt us first (change o)
lies_changed ws us first o change l same c =
    record {
      is = c.object ∙ ap change l.is;
      written = λ j low high. c.within.kept j (l.written j low (omega (arith, high, same)));
      within = omega (arith, l.within, c.within.long, same);
    }

-- ---- a slot

pub set_slots : (ws : Words) (index count k w : ℕ) → k < count → index + k < length ws →
    slots_at (slice_set ws (index + k) (Some w)) index count ≡ slice_set (slots_at ws index count) k (value_in w)
unfolding slots_at
set_slots ws index zero k w h lt = absurd (omega (arith, h))
set_slots ws index (suc count) zero w h lt =
    let here : word (slice_set ws (index + 0) (Some w)) (index + 0) ≡ w = word_here ws (index + 0) w lt in
    let at : index + 0 ≡ index = omega arith in
    let first : word (slice_set ws (index + 0) (Some w)) index ≡ w =
    ap (word (slice_set ws (index + 0) (Some w))) (sym at) ∙ here in
    let rest : slots_at (slice_set ws (index + 0) (Some w)) (index + 1) count ≡ slots_at ws (index + 1) count =
    same_slots ws (slice_set ws (index + 0) (Some w)) (index + 1) count
    (λ j low high. word_beside ws (index + 0) w lt j (λ e. omega (arith, e, low))) in
    ap (λ (n : ℕ). value_in n ∷ slots_at (slice_set ws (index + 0) (Some w)) (index + 1) count) first
    ∙ ap (λ (xs : List Value). value_in w ∷ xs) rest
set_slots ws index (suc count) (suc k) w h lt =
    let at : index + suc k ≡ index + 1 + k = omega arith in
    let beside : word (slice_set ws (index + suc k) (Some w)) index ≡ word ws index =
    word_beside ws (index + suc k) w lt index (λ e. omega (arith, e)) in
    let rest : slots_at (slice_set ws (index + suc k) (Some w)) (index + 1) count
    ≡ slice_set (slots_at ws (index + 1) count) k (value_in w) =
    ap (λ (n : ℕ). slots_at (slice_set ws n (Some w)) (index + 1) count) at
    ∙ set_slots ws (index + 1) count k w (omega (arith, h)) (omega (arith, lt)) in
    ap (λ (n : ℕ). value_in n ∷ slots_at (slice_set ws (index + suc k) (Some w)) (index + 1) count) beside
    ∙ ap (λ (xs : List Value). value_in (word ws index) ∷ xs) rest

module _ (ws : Words) (first k w : ℕ) (within : first + 2 + count_in (word ws (first + 1)) ≤ length ws)
    (lt : k < count_in (word ws (first + 1))) where
  abbrev set : Words
  set = slice_set ws (first + 2 + k) (Some w)

  inside : first + 2 + k < length ws
  inside = omega (arith, within, lt)

  pub slot_set : object_in set first ≡ with_value k (value_in w) (object_in ws first)
  unfolding object_in
  slot_set =
      let one : word set first ≡ word ws first = word_beside ws (first + 2 + k) w inside first (λ e. omega (
        arith,
        e,
      )) in
      let two : word set (first + 1) ≡ word ws (first + 1) =
      word_beside ws (first + 2 + k) w inside (first + 1) (λ e. omega (arith, e)) in
      let slots : slots_at set (first + 2) (count_in (word set (first + 1)))
      ≡ slice_set (slots_at ws (first + 2) (count_in (word ws (first + 1)))) k (value_in w) =
      ap (λ (n : ℕ). slots_at set (first + 2) (count_in n)) two
      ∙ set_slots ws (first + 2) (count_in (word ws (first + 1))) k w lt inside in
      rw (one, slots, two) refl

  pub slot_changed : IsChangedAt ws first (with_value k (value_in w)) set
  slot_changed =
      record {
        within = within_more ws ws first (first + 2 + count_in (word ws (first + 1))) (first + 2 + k) w
            (within_none ws first (first + 2 + count_in (word ws (first + 1)))) inside (omega arith) (omega (
              arith,
              lt,
            ));
        object = slot_set;
      }

-- a slot that isn't there
pub set_past : {A : Type 0} (xs : List A) (k : ℕ) (x : A) → length xs ≤ k → slice_set xs k x ≡ xs
set_past [] k x h = refl
set_past (y ∷ ys) zero x h = absurd (omega (arith, h))
set_past (y ∷ ys) (suc k) x h = ap (λ zs. y ∷ zs) (set_past ys k x (omega (arith, h)))

pub no_slot_changed : (ws : Words) (first k : ℕ) (value : Value) → length (object_in ws first).slots ≤ k →
    IsChangedAt ws first (with_value k value) ws
no_slot_changed ws first k value h =
    record {
      within = within_none ws first (first + 2 + count_in (word ws (first + 1)));
      object = ap (λ (xs : List Value). record (object_in ws first) { slots = xs })
          (sym (set_past (object_in ws first).slots k value h));
    }

-- ---- the ceiling

pub ceiling_changed : (ws : Words) (first ceiling w : ℕ) → first + 2 + count_in (word ws (first + 1)) ≤ length ws →
    count_in w ≡ count_in (word ws (first + 1)) → ceiling_in w ≡ ceiling →
    IsChangedAt ws first (with_ceiling ceiling) (slice_set ws (first + 1) (Some w))
unfolding object_in
ceiling_changed ws first ceiling w within ec el =
    let inside : first + 1 < length ws = omega (arith, within) in
    let us : Words = slice_set ws (first + 1) (Some w) in
    let one : word us first ≡ word ws first = word_beside ws (first + 1) w inside first (λ e. omega (arith, e)) in
    let two : word us (first + 1) ≡ w = word_here ws (first + 1) w inside in
    let count : count_in (word us (first + 1)) ≡ count_in (word ws (first + 1)) = ap count_in two ∙ ec in
    let highest : ceiling_in (word us (first + 1)) ≡ ceiling = ap ceiling_in two ∙ el in
    let slots : slots_at us (first + 2) (count_in (word us (first + 1)))
    ≡ slots_at ws (first + 2) (count_in (word ws (first + 1))) =
    ap (λ (n : ℕ). slots_at us (first + 2) n) count
    ∙ same_slots ws us (first + 2) (count_in (word ws (first + 1)))
    (λ j low high. word_beside ws (first + 1) w inside j (λ e. omega (arith, e, low))) in
    record {
      within = within_more ws ws first (first + 2 + count_in (word ws (first + 1))) (first + 1) w
          (within_none ws first (first + 2 + count_in (word ws (first + 1)))) inside (omega arith) (omega arith);
      object = rw (one, slots, highest) refl;
    }

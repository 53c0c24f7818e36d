-- The slots of an object, as its words tell them.
use Rattle.std.specs.Prelude.{Some, None, slice_get}
use Rattle.std.proofs.Common.{◌≡◌, ◌∙◌, ℕ, zero, suc, ◌+◌, ◌<◌, ◌≤◌, List, [], ◌∷◌, length, get_or, refl, ap, arith}
use Rattle.scj_base.specs.declared.values.Value.{Value}
use Rattle.region_heap.specs.Words.{Words, count_in, number_or_zero, object_in, slots_at, value_in, word}

pub count_slots : (ws : Words) (index count : ℕ) → length (slots_at ws index count) ≡ count
unfolding slots_at
count_slots ws index zero = refl
count_slots ws index (suc count) = ap suc (count_slots ws (index + 1) count)

pub slot_within : (ws : Words) (index count slot : ℕ) → slot < count →
    slice_get (slots_at ws index count) slot ≡ Some (value_in (word ws (index + slot)))
unfolding slots_at
slot_within ws index zero slot h = absurd (omega (arith, h))
slot_within ws index (suc count) zero h =
    let e : index ≡ index + 0 = omega arith in
    ap (λ (n : ℕ). Some (value_in (word ws n))) e
slot_within ws index (suc count) (suc slot) h =
    let e : index + 1 + slot ≡ index + suc slot = omega arith in
    slot_within ws (index + 1) count slot (omega (arith, h)) ∙ ap (λ (n : ℕ). Some (value_in (word ws n))) e

pub slot_behind : (ws : Words) (index count slot : ℕ) → count ≤ slot →
    slice_get (slots_at ws index count) slot ≡ None
unfolding slots_at
slot_behind ws index zero slot h = refl
slot_behind ws index (suc count) zero h = absurd (omega (arith, h))
slot_behind ws index (suc count) (suc slot) h = slot_behind ws (index + 1) count slot (omega (arith, h))

-- slots that are read one by one are the values
pub slots_are : (ws : Words) (index : ℕ) (values : List Value) →
    ((i : ℕ) → i < length values → slice_get values i ≡ Some (value_in (word ws (index + i)))) →
    slots_at ws index (length values) ≡ values
unfolding slots_at
slots_are ws index [] h = refl
slots_are ws index (v ∷ vs) h =
    let e : index + 0 ≡ index = omega arith in
    let first : Some v ≡ Some (value_in (word ws index)) =
    h 0 (omega arith) ∙ ap (λ (n : ℕ). Some (value_in (word ws n))) e in
    let v_is : value_in (word ws index) ≡ v = cc in
    let rest : slots_at ws (index + 1) (length vs) ≡ vs =
    slots_are ws (index + 1) vs (λ i lt.
    let s : index + suc i ≡ index + 1 + i = omega arith in
    h (suc i) (omega (arith, lt)) ∙ ap (λ (n : ℕ). Some (value_in (word ws n))) s) in
    ap (λ (x : Value). x ∷ slots_at ws (index + 1) (length vs)) v_is ∙ ap (λ (xs : List Value). v ∷ xs) rest

-- ---- a slot of the object at a word

pub object_slot : (ws : Words) (first slot : ℕ) → slot < count_in (word ws (first + 1)) →
    slice_get (object_in ws first).slots slot ≡ Some (value_in (word ws (first + 2 + slot)))
unfolding object_in
object_slot ws first slot h = slot_within ws (first + 2) (count_in (word ws (first + 1))) slot h

pub no_object_slot : (ws : Words) (first slot : ℕ) → count_in (word ws (first + 1)) ≤ slot →
    slice_get (object_in ws first).slots slot ≡ None
unfolding object_in
no_object_slot ws first slot h = slot_behind ws (first + 2) (count_in (word ws (first + 1))) slot h

pub object_count : (ws : Words) (first : ℕ) → length (object_in ws first).slots ≡ count_in (word ws (first + 1))
unfolding object_in
object_count ws first = count_slots ws (first + 2) (count_in (word ws (first + 1)))

-- ---- what was read of it

pub slot_read : (ws : Words) (first slot second w : ℕ) → get_or ws (first + 1) None ≡ Some second →
    slot < count_in second → get_or ws (first + 2 + slot) None ≡ Some w →
    slice_get (object_in ws first).slots slot ≡ Some (value_in w)
slot_read ws first slot second w e h r =
    let second_is : word ws (first + 1) ≡ second = ap number_or_zero e in
    let w_is : word ws (first + 2 + slot) ≡ w = ap number_or_zero r in
    let within : slot < count_in (word ws (first + 1)) = rw second_is h in
    object_slot ws first slot within ∙ ap (λ (n : ℕ). Some (value_in n)) w_is

pub no_slot_read : (ws : Words) (first slot second : ℕ) → get_or ws (first + 1) None ≡ Some second →
    count_in second ≤ slot → slice_get (object_in ws first).slots slot ≡ None
no_slot_read ws first slot second e h =
    let second_is : word ws (first + 1) ≡ second = ap number_or_zero e in
    let behind : count_in (word ws (first + 1)) ≤ slot = rw second_is h in
    no_object_slot ws first slot behind

-- Whether there is room: the code's sums are those of the definitions.
use Rattle.std.specs.Prelude.{Bool, true, false, Option, Some, None, filter, sum, cond, map, slice_get, if◌then◌else◌, not, nat_lt, ◌==◌}
use Rattle.std.specs.List.{sum_by}
use Rattle.std.proofs.Common.{◌≡◌, ◌∙◌, ℕ, ◌+◌, ◌-◌, ◌*◌, ◌^◌, ◌<◌, ◌≤◌, List, [], ◌∷◌, length, get_or, refl, ap, sym, arith}
use Rattle.std.proofs.lemmas.Bool.Decides.{nat_tests}
use Rattle.std.proofs.lemmas.List.Sums.{sum_by-cons}
use Rattle.scj_rules.specs.Layout.{size_with_slots}
use Rattle.scj_rules.specs.Words.{holds}
use Rattle.scj_model.specs.State.{MemoryArea, Object, State}
use Rattle.scj_model.specs.Memory.{has_room, has_store_for, reserved, rounded_up, used}
use Rattle.region_heap.specs.declared.rows.AreaRow.{AreaRow}
use Rattle.region_heap.specs.Contents.{Contents, with_memory}
use Rattle.region_heap.specs.Kept.{reserved_bytes, used_bytes}
use Rattle.region_heap.specs.Rows.{IsRowOf}
use Rattle.region_heap.specs.Spaces.{AreMarked, HasRoomAt, IsFull}
use Rattle.region_heap.proofs.Lists.{got_row}

-- a sum over what is kept
sum_kept : {A : Type 0} (f : A → ℕ) (p : A → Bool) (xs : List A) →
    sum (map f (filter p xs)) ≡ sum_by (λ x. if p x then f x else 0) xs
sum_kept f p [] = refl
sum_kept {A} f p (x ∷ xs) = go (p x) refl (sum_kept f p xs)
  where
    g : A → ℕ
    g y = if p y then f y else 0

    all : sum_by g (x ∷ xs) ≡ g x + sum_by g xs
    all = sum_by-cons g x xs

    go : (b : Bool) → p x ≡ b → sum (map f (filter p xs)) ≡ sum_by g xs →
        sum (map f (filter p (x ∷ xs))) ≡ sum_by g (x ∷ xs)
    go true e rest =
        let a : sum (map f (filter p (x ∷ xs))) ≡ f x + sum (map f (filter p xs)) =
        ap (λ b. sum (map f (cond b (x ∷ filter p xs) (filter p xs)))) e
        ∙ sum_by-cons (λ y. y) (f x) (map f (filter p xs)) in
        let d : g x ≡ f x = ap (λ b. if b then f x else 0) e in
        omega (arith, a, all, d, rest)
    go false e rest =
        let a : sum (map f (filter p (x ∷ xs))) ≡ sum (map f (filter p xs)) =
        ap (λ b. sum (map f (cond b (x ∷ filter p xs) (filter p xs)))) e in
        let d : g x ≡ 0 = ap (λ b. if b then f x else 0) e in
        omega (arith, a, all, d, rest)

pub used_is : (s : State) (m : Contents) (area : ℕ) → used (with_memory s m) area ≡ used_bytes m.objects area
unfolding used used_bytes
used_is s m area =
    sum_kept (λ (o : Object). size_with_slots (length o.slots)) (λ (o : Object). o.area == area) m.objects

pub reserved_is_bytes : (s : State) (m : Contents) → reserved (with_memory s m) ≡ reserved_bytes m.areas
unfolding reserved reserved_bytes
reserved_is_bytes s m = sum_kept (λ (x : MemoryArea). rounded_up x.bytes) (λ (x : MemoryArea). x.is_open) m.areas

-- ---- an object in an area, by what is found of the area

pub room_found : (s : State) (m : Contents) (area count taken bytes : ℕ) (x : MemoryArea) →
    Some x ≡ slice_get m.areas area → bytes ≡ x.bytes → taken ≡ used_bytes m.objects area →
    not (nat_lt bytes (taken + size_with_slots count)) ≡ has_room (with_memory s m) area count
unfolding has_room
room_found s m area count taken bytes x e b t =
    rw (b, t, ← used_is s m area)
    (ap
    (λ (o : Option MemoryArea). holds o
    (λ x. not (nat_lt x.bytes (used (with_memory s m) area + size_with_slots count)))) e)

pub room_nowhere : (s : State) (m : Contents) (area count : ℕ) → None ≡ slice_get m.areas area →
    false ≡ has_room (with_memory s m) area count
unfolding has_room
room_nowhere s m area count e =
    ap (λ (o : Option MemoryArea). holds o
    (λ x. not (nat_lt x.bytes (used (with_memory s m) area + size_with_slots count)))) e

-- ---- an area in the store

pub store_counted : (s : State) (m : Contents) (taken bytes : ℕ) → taken ≡ reserved_bytes m.areas →
    not (nat_lt m.store (taken + rounded_up bytes)) ≡ has_store_for (with_memory s m) bytes
unfolding has_store_for
store_counted s m taken bytes t = ap (λ n. not (nat_lt m.store (n + rounded_up bytes))) (t ∙ sym (reserved_is_bytes s
    m))

-- ---- the row of an area

pub fits_is : (a b : ℕ) → not (nat_lt a b) ≡ true → b ≤ a
fits_is a b e = go (nat_lt a b) refl
  where
    go : (t : Bool) → nat_lt a b ≡ t → b ≤ a
    go true s =
        let n : not (nat_lt a b) ≡ false = ap (λ (z : Bool). not z) s in
        absurd (cc)
    go false s = grind (arith, nat_tests)

pub lacks_is : (a b : ℕ) → not (nat_lt a b) ≡ false → a < b
lacks_is a b e = go (nat_lt a b) refl
  where
    go : (t : Bool) → nat_lt a b ≡ t → a < b
    go true s = grind (arith, nat_tests)
    go false s =
        let n : not (nat_lt a b) ≡ true = ap (λ (z : Bool). not z) s in
        absurd (cc)

module _ (areas : List AreaRow) (area k : ℕ) (row : AreaRow) (r : IsRowOf areas area k)
    (read : row ≡ get_or areas k row) (marks : AreMarked areas) where
  pub row_there : slice_get areas k ≡ Some row
  row_there = got_row areas k r.row row r.is read

  pub marks_there : (row.start ≤ row.mark) × (row.mark ≤ row.end) × (row.end ≤ 8388608)
  marks_there = marks k row row_there

module _ (areas : List AreaRow) (area count k : ℕ) (row : AreaRow) (taken : ℕ) (r : IsRowOf areas area k)
    (read : row ≡ get_or areas k row) (marks : AreMarked areas) (taken_is : taken ≡ 8 * (row.mark - row.start)) where
  is : slice_get areas k ≡ Some row
  is = row_there areas area k row r read marks

  of_area : row.area ≡ area
  of_area =
      let here : slice_get areas k ≡ Some r.row = r.is in
      let there : slice_get areas k ≡ Some row = is in
      let same : r.row ≡ row = cc in
      ap (λ (z : AreaRow). z.area) (sym same) ∙ r.of_area

  start : row.start ≤ row.mark
  start = (marks k row is).0

  pub room_there : not (nat_lt row.bytes (taken + size_with_slots count)) ≡ true → HasRoomAt areas area count k
  room_there e =
      let h : taken + size_with_slots count ≤ row.bytes = fits_is row.bytes (taken + size_with_slots count) e in
      record { row = row; is = is; of_area = of_area; fits = omega (arith, h, taken_is, start) }

  pub no_room_there : (asked : ℕ) → not (nat_lt row.bytes (taken + size_with_slots count)) ≡ false →
      (size_with_slots count < 2 ^ 64 → asked ≡ size_with_slots count) → IsFull areas area count taken asked
  no_room_there asked e a =
      let h : row.bytes < taken + size_with_slots count = lacks_is row.bytes (taken + size_with_slots count) e in
      record {
        k = k;
        row = row;
        is = is;
        of_area = of_area;
        taken_is = omega (arith, taken_is, start);
        full = omega (arith, h, taken_is, start);
        asked_is = a;
      }

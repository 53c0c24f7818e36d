-- Areas that are opened and closed, as the code does it.
use Rattle.std.specs.Prelude.{Option, Some, None, filter, nat_lt, not, slice_get}
use Rattle.std.proofs.Common.{◌≡◌, ◌∙◌, ◌⊎◌, inl, inr, Bool, true, false, ℕ, ◌+◌, ◌*◌, ◌<◌, ◌≤◌, List, [], ◌∷◌, ◌++◌, length, refl, ap, sym, subst, arith, length-append}
use Rattle.std.proofs.lemmas.Bool.Decides.{nat_tests}
use Rattle.scj_base.specs.declared.values.Value.{Value}
use Rattle.scj_rules.specs.Layout.{size_with_slots}
use Rattle.scj_model.specs.State.{State}
use Rattle.scj_model.specs.Memory.{has_room, has_store_for, reserved, rounded_up, used}
use Rattle.raw_words.specs.Places.{forgotten}
use Rattle.region_heap.specs.declared.changes.Change.TheVariants.{Closed, Opened}
use Rattle.region_heap.specs.declared.rows.AreaRow.{AreaRow}
use Rattle.region_heap.specs.declared.rows.ObjectRow.{ObjectRow}
use Rattle.region_heap.specs.Contents.{IsLastOpen, closing_area, opening_area, with_memory}
use Rattle.region_heap.specs.History.{Past, after}
use Rattle.region_heap.specs.Kept.{IsBased, IsCounted, IsKept, IsRow, reserved_bytes, used_bytes}
use Rattle.region_heap.specs.Rows.{HasRow, begins_below, end_after}
use Rattle.region_heap.specs.Spaces.{AreMarked, HasRoomAt, IsFull, IsPushed}
use Rattle.region_heap.specs.Words.{Words}
use Rattle.region_heap.proofs.ChangedKept.{row_open}
use Rattle.region_heap.proofs.Lists.{changed_long, get_behind, get_last, get_within, three}
use Rattle.region_heap.proofs.Closing.{closed_kept}
use Rattle.region_heap.proofs.Opening.{mark_within, opened_kept, start_within}
use Rattle.region_heap.proofs.Rooms.{reserved_is_bytes, room_found, store_counted, used_is}
use Rattle.region_heap.proofs.Stacks.{row_from}

module _ (bytes area_count object_count : ℕ) (values : List Value) (ws : Words) (areas : List AreaRow)
    (objects : List ObjectRow) (m : Past) (kept : IsKept ws areas objects m)
    (counted : IsCounted bytes area_count object_count values ws m.contents) where
  -- a new area has its words, if the store has room
  pub opened_all : (scope : ℕ) (parent : Option ℕ) (asked : ℕ) (new_areas : List AreaRow) →
      IsPushed areas area_count scope asked (length objects) new_areas → 8 * end_after 0 areas + rounded_up asked ≤ bytes →
      IsKept ws new_areas objects (record m { contents = opening_area m.contents scope parent asked })
  opened_all scope parent asked new_areas p fits =
      subst (λ (xs : List AreaRow). IsKept ws xs objects (record m {
        contents = opening_area m.contents scope parent asked;
      })) (sym p.is)
      (opened_kept ws areas objects m scope parent asked p.row kept (p.area_is ∙ counted.areas) p.scope_is p.bytes_is
      p.start_is p.mark_is p.end_is p.base_is (omega (arith, p.end_is, p.start_is, fits, counted.words)))

  pub counted_opened : (scope : ℕ) (parent : Option ℕ) (asked : ℕ) →
      IsCounted bytes (area_count + 1) object_count values ws (opening_area m.contents scope parent asked)
  counted_opened scope parent asked =
      record {
        store = counted.store;
        most = counted.most;
        words = counted.words;
        areas = omega (
          arith,
          counted.areas,
          length-append m.contents.areas
              (record { scope = scope; parent = parent; bytes = asked; is_open = true } ∷ []),
        );
        objects = counted.objects;
        statics = counted.statics;
      }

  pub counted_closed : (us : Words) (a : ℕ) → length us ≡ length ws →
      IsCounted bytes area_count object_count values us (closing_area m.contents a)
  counted_closed us a long =
      record {
        store = counted.store;
        most = counted.most;
        words = long ∙ counted.words;
        areas = counted.areas ∙ sym (changed_long (λ x. record x { is_open = false }) a m.contents.areas);
        objects = counted.objects;
        statics = counted.statics;
      }

  -- the areas end within the words
  pub end_few : end_after 0 areas ≤ 8388608
  end_few = omega (arith, kept.end, counted.words, counted.most)

  -- what is reserved
  pub reserved_is : (start : ℕ) → start ≡ end_after 0 areas → 8 * start ≡ reserved_bytes m.contents.areas
  reserved_is start e = ap (λ (n : ℕ). 8 * n) e ∙ sym kept.reserved

-- the last row is that of the area that was opened last
pub last_is : (ws : Words) (areas : List AreaRow) (row : AreaRow) (objects : List ObjectRow) (m : Past) →
    IsKept ws (areas ++ row ∷ []) objects m → (area : ℕ) → IsLastOpen m.contents area → row.area ≡ area
last_is ws areas row objects m kept area l = go (three r.k (length areas))
  where
    all : List AreaRow
    all = areas ++ row ∷ []

    r : HasRow (areas ++ row ∷ []) area
    r = kept.has_row area l.is_open

    is_row : IsRow m.contents row
    is_row = kept.rows (length areas) row (get_last areas row)

    go : (r.k < length areas) ⊎ ((r.k ≡ length areas) ⊎ (length areas < r.k)) → row.area ≡ area
    go (inl h) =
        let less : r.is_row.row.area < row.area =
        kept.in_order r.k (length areas) r.is_row.row row h r.is_row.is (get_last areas row) in
        absurd (l.last row.area (omega (arith, less, r.is_row.of_area)) (row_open m.contents row is_row))
    go (inr (inl e)) =
        let here : slice_get (areas ++ row ∷ []) r.k ≡ Some row =
        ap (λ (n : ℕ). slice_get (areas ++ row ∷ []) n) e ∙ get_last areas row in
        let there : slice_get (areas ++ row ∷ []) r.k ≡ Some r.is_row.row = r.is_row.is in
        let same : r.is_row.row ≡ row = cc in
        ap (λ (z : AreaRow). z.area) (sym same) ∙ r.is_row.of_area
    go (inr (inr h)) =
        let none : slice_get (areas ++ row ∷ []) r.k ≡ None = get_behind areas row r.k h in
        let there : slice_get (areas ++ row ∷ []) r.k ≡ Some r.is_row.row = r.is_row.is in
        absurd (cc)

-- an area is open, so there is a row
pub some_row : (ws : Words) (areas : List AreaRow) (objects : List ObjectRow) (m : Past) → IsKept ws areas objects m →
    (area : ℕ) → IsLastOpen m.contents area → 0 < length areas
some_row ws areas objects m kept area l =
    let r : HasRow areas area = kept.has_row area l.is_open in
    omega (arith, get_within areas r.k r.is_row.row r.is_row.is)

-- the last row is taken away
module _ (ws : Words) (all rest : List AreaRow) (row : AreaRow) (objects : List ObjectRow) (m : Past)
    (split : all ≡ rest ++ row ∷ []) (kept : IsKept ws all objects m) where
  kept_split : IsKept ws (rest ++ row ∷ []) objects m
  kept_split = subst (λ (xs : List AreaRow). IsKept ws xs objects m) split kept

  pub based_last : IsBased objects row
  based_last = kept_split.based (length rest) row (get_last rest row)

  pub closed_all : (area : ℕ) (new_objects : List ObjectRow) → IsLastOpen m.contents area →
      new_objects ≡ filter (begins_below row.start) objects →
      IsKept (forgotten row.start ws) rest new_objects (record m { contents = closing_area m.contents area })
  closed_all area new_objects l e =
      let is : row.area ≡ area = last_is ws rest row objects m kept_split area l in
      subst (λ (xs : List ObjectRow). IsKept (forgotten row.start ws) rest xs (record m {
        contents = closing_area m.contents area;
      })) (sym e)
      (subst (λ (a : ℕ). IsKept (forgotten row.start ws) rest (filter (begins_below row.start) objects) (record m {
        contents = closing_area m.contents a;
      })) is (closed_kept ws rest row objects m kept_split))

-- ---- what the changes make of the past

pub after_opened : (m : Past) (scope : ℕ) (parent : Option ℕ) (bytes : ℕ) →
    after m (Opened scope parent bytes) ≡ record m { contents = opening_area m.contents scope parent bytes }
unfolding after
after_opened m scope parent bytes = refl

pub after_closed : (m : Past) (area : ℕ) →
    after m (Closed area) ≡ record m { contents = closing_area m.contents area }
unfolding after
after_closed m area = refl

-- ---- whether there is room

module _ (bytes area_count object_count : ℕ) (values : List Value) (ws : Words) (areas : List AreaRow)
    (objects : List ObjectRow) (m : Past) (kept : IsKept ws areas objects m)
    (counted : IsCounted bytes area_count object_count values ws m.contents) (s : State) where
  pub store_is : (asked taken : ℕ) → taken ≡ 8 * end_after 0 areas →
      not (nat_lt bytes (taken + rounded_up asked)) ≡ has_store_for (with_memory s m.contents) asked
  store_is asked taken e =
      rw counted.store (store_counted s m.contents taken asked (e ∙ sym kept.reserved))

  room_of : (row : AreaRow) (area count : ℕ) → IsRow m.contents row → row.area ≡ area →
      not (nat_lt row.bytes (used_bytes m.contents.objects area + size_with_slots count))
      ≡ has_room (with_memory s m.contents) area count
  room_of row area count r e =
      room_found s m.contents area count (used_bytes m.contents.objects area) row.bytes r.area
      (sym r.is ∙ ap (λ (a : ℕ). slice_get m.contents.areas a) e) (sym r.bytes) refl

  pub room_is : (area count k : ℕ) → HasRoomAt areas area count k →
      true ≡ has_room (with_memory s m.contents) area count
  room_is area count k h =
      let r : IsRow m.contents h.row = kept.rows k h.row h.is in
      let used : used_bytes m.contents.objects h.row.area ≡ used_bytes m.contents.objects area =
      ap (λ (a : ℕ). used_bytes m.contents.objects a) h.of_area in
      let within : used_bytes m.contents.objects area + size_with_slots count ≤ h.row.bytes =
      omega (arith, used, r.used, h.fits) in
      let fits : nat_lt h.row.bytes (used_bytes m.contents.objects area + size_with_slots count) ≡ false =
      grind (arith, nat_tests) in
      ap (λ (b : Bool). not b) (sym fits) ∙ room_of h.row area count r h.of_area

  pub no_room_is : (area count taken asked : ℕ) → IsFull areas area count taken asked →
      false ≡ has_room (with_memory s m.contents) area count
  no_room_is area count taken asked h =
      let r : IsRow m.contents h.row = kept.rows h.k h.row h.is in
      let used : used_bytes m.contents.objects h.row.area ≡ used_bytes m.contents.objects area =
      ap (λ (a : ℕ). used_bytes m.contents.objects a) h.of_area in
      let beyond : h.row.bytes < used_bytes m.contents.objects area + size_with_slots count =
      omega (arith, used, r.used, h.full) in
      let full : nat_lt h.row.bytes (used_bytes m.contents.objects area + size_with_slots count) ≡ true =
      grind (arith, nat_tests) in
      ap (λ (b : Bool). not b) (sym full) ∙ room_of h.row area count r h.of_area

  -- what is used of a full area
  pub taken_used : (area count taken asked : ℕ) → IsFull areas area count taken asked →
      taken ≡ used (with_memory s m.contents) area
  taken_used area count taken asked h =
      let r : IsRow m.contents h.row = kept.rows h.k h.row h.is in
      let bytes_used : used_bytes m.contents.objects h.row.area ≡ used_bytes m.contents.objects area =
      ap (λ (a : ℕ). used_bytes m.contents.objects a) h.of_area in
      let same : taken ≡ used_bytes m.contents.objects area = omega (arith, bytes_used, r.used, h.taken_is) in
      same ∙ sym (used_is s m.contents area)

  pub reserved_all : (taken : ℕ) → taken ≡ 8 * end_after 0 areas → taken ≡ reserved (with_memory s m.contents)
  reserved_all taken e = (e ∙ sym kept.reserved) ∙ sym (reserved_is_bytes s m.contents)

-- the marks of all areas
pub are_marked : (ws : Words) (areas : List AreaRow) (objects : List ObjectRow) (m : Past) → IsKept ws areas objects m →
    length ws ≤ 8388608 → AreMarked areas
are_marked ws areas objects m kept most k row e =
    let r : IsRow m.contents row = kept.rows k row e in
    let f : (0 ≤ row.start) × (row.start ≤ row.end) × (row.end ≤ end_after 0 areas) =
    row_from 0 areas k row kept.stacked e in
    (start_within m.contents row r, mark_within m.contents row r, omega (arith, f.2, kept.end, most))

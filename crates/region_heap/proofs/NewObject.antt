-- An object is made: what the rows and the memory are then, and where what was live before lies.
use Rattle.std.specs.Prelude.{Some, None, slice_get, slice_set, slice_index}
use Rattle.std.proofs.Common.{◌≡◌, ◌∙◌, ◌⊎◌, inl, inr, Bool, true, ℕ, ◌+◌, ◌*◌, ◌<◌, ◌≤◌, List, [], ◌∷◌, ◌++◌, length, refl, ap, sym, arith}
use Rattle.scj_base.specs.declared.values.Value.{Value}
use Rattle.scj_rules.specs.Layout.{size_with_slots}
use Rattle.scj_model.specs.State.{Object}
use Rattle.scj_model.specs.Memory.{new_object, rounded_up}
use Rattle.region_heap.specs.declared.rows.AreaRow.{AreaRow}
use Rattle.region_heap.specs.declared.rows.ObjectRow.{ObjectRow}
use Rattle.region_heap.specs.Contents.{is_open_area, making_object}
use Rattle.region_heap.specs.History.{Past}
use Rattle.region_heap.specs.Kept.{IsKept, IsLive, IsRow, LiesIn, object_bytes, used_bytes}
use Rattle.region_heap.specs.Words.{Words}
use Rattle.region_heap.specs.Written.{IsLaid}
use Rattle.region_heap.proofs.ChangedKept.{row_open}
use Rattle.region_heap.proofs.Lists.{get_before, get_behind, get_last, index_before, index_last, same_or, set_get_other, set_get_same, three}
use Rattle.region_heap.proofs.Opening.{mark_within, start_within}
use Rattle.region_heap.proofs.Stacks.{rows_apart}
use Rattle.region_heap.proofs.Sums.{used_more}

-- an object is made in the area of the row at a place, from its mark on
pub record Making : Type 0 where
  pub past : Past
  pub class : ℕ
  pub area : ℕ
  pub slots : List Value
  pub row : AreaRow
  pub next : AreaRow
  pub ws : Words
  pub us : Words
  pub areas : List AreaRow
  pub objects : List ObjectRow
  pub k : ℕ
  pub kept : IsKept ws areas objects past
  pub is : slice_get areas k ≡ Some row
  pub of_area : row.area ≡ area
  pub laid_out : IsLaid ws row.mark class area slots us
  pub fits : 8 * row.mark + size_with_slots (length slots) ≤ 8 * row.start + row.bytes
  pub same_area : next.area ≡ row.area
  pub same_scope : next.scope ≡ row.scope
  pub same_bytes : next.bytes ≡ row.bytes
  pub same_start : next.start ≡ row.start
  pub same_end : next.end ≡ row.end
  pub same_base : next.base ≡ row.base
  pub mark : next.mark ≡ row.mark + 2 + length slots

module _ (making : Making) where
  abbrev pub after : Past
  after = record { contents = making_object making.past.contents making.class making.area making.slots; firsts = making.past.firsts ++ making.row.mark ∷ [] }

  abbrev pub made : Object
  made = new_object making.class making.area making.slots

  abbrev pub all : List Object
  all = making.past.contents.objects

  abbrev pub test : ℕ → Bool
  test = is_open_area making.past.contents

  abbrev pub n : ℕ
  n = length all

  abbrev pub rows : List AreaRow
  rows = slice_set making.areas making.k making.next

  abbrev pub listing : List ObjectRow
  listing = making.objects ++ record { number = n; first = making.row.mark } ∷ []

  pub first_before : (p : ℕ) → p < n → slice_index after.firsts p ≡ slice_index making.past.firsts p
  first_before p h = index_before making.past.firsts making.row.mark p (omega (arith, h, making.kept.firsts))

  pub first_new : slice_index after.firsts n ≡ making.row.mark
  first_new = ap (λ (x : ℕ). slice_index after.firsts x) (sym making.kept.firsts) ∙ index_last making.past.firsts making.row.mark

  pub is_row : IsRow making.past.contents making.row
  is_row = making.kept.rows making.k making.row making.is

  pub is_open : test making.area ≡ true
  is_open = ap test (sym making.of_area) ∙ row_open making.past.contents making.row is_row

  pub bytes : size_with_slots (length making.slots) ≡ 8 * (2 + length making.slots)
  unfolding size_with_slots
  bytes = refl

  next_room : 8 * making.next.mark ≤ 8 * making.next.start + making.next.bytes
  next_room = omega (arith, making.fits, bytes, making.mark, making.same_start, making.same_bytes)

  -- what is live is the new object, or was live
  pub data Was (p : ℕ) (o : Object) : Type 0 where
    old : p < n → IsLive making.past.contents p o → Was p o
    new : p ≡ n → o ≡ made → Was p o

  pub was : (p : ℕ) (o : Object) → IsLive after.contents p o → Was p o
  was p o l = go (three p n)
    where
      go : (p < n) ⊎ ((p ≡ n) ⊎ (n < p)) → Was p o
      go (inl h) = old h (record { found = sym (get_before all made p h) ∙ l.found; is_open = l.is_open })
      go (inr (inl s)) =
          let last : slice_get (all ++ made ∷ []) p ≡ Some made =
          ap (λ (x : ℕ). slice_get (all ++ made ∷ []) x) s ∙ get_last all made in
          let found : slice_get (all ++ made ∷ []) p ≡ Some o = l.found in
          new s (cc)
      go (inr (inr h)) =
          let none : slice_get (all ++ made ∷ []) p ≡ None = get_behind all made p h in
          let found : slice_get (all ++ made ∷ []) p ≡ Some o = l.found in
          absurd (cc)

  pub row_next : slice_get rows making.k ≡ Some making.next
  row_next = set_get_same making.areas making.k making.row making.next making.is

  -- a row is the one whose mark moved, or was there
  pub data RowWas (i : ℕ) (x : AreaRow) : Type 0 where
    here : i ≡ making.k → x ≡ making.next → RowWas i x
    there : (i ≡ making.k → ⊥) → slice_get making.areas i ≡ Some x → RowWas i x

  pub row_was : (i : ℕ) (x : AreaRow) → slice_get rows i ≡ Some x → RowWas i x
  row_was i x e = go (same_or i making.k)
    where
      go : (i ≡ making.k) ⊎ (i ≡ making.k → ⊥) → RowWas i x
      go (inl s) =
          let h : slice_get rows i ≡ Some making.next = ap (λ (z : ℕ). slice_get rows z) s ∙ row_next in
          here s (cc)
      go (inr d) = there d (sym (set_get_other making.areas making.k i making.next d) ∙ e)

  -- where the row of a row was
  pub was_row : (i : ℕ) (x : AreaRow) → RowWas i x → (y : AreaRow) × (slice_get making.areas i ≡ Some y) × (x.area ≡ y.area)
  was_row i x (here s e) = (
    making.row,
    ap (λ (z : ℕ). slice_get making.areas z) s ∙ making.is,
    ap (λ (z : AreaRow). z.area) e ∙ making.same_area,
  )
  was_row i x (there d e) = (x, e, refl)

  next_used : 8 * making.next.mark ≡ 8 * making.next.start + used_bytes (all ++ made ∷ []) making.next.area
  next_used =
      let more : used_bytes (all ++ made ∷ []) making.area ≡ used_bytes all making.area + object_bytes made =
      used_more all making.area made refl in
      let at : used_bytes (all ++ made ∷ []) making.next.area ≡ used_bytes (all ++ made ∷ []) making.area =
      ap (λ (a : ℕ). used_bytes (all ++ made ∷ []) a) (making.same_area ∙ making.of_area) in
      let before : used_bytes all making.row.area ≡ used_bytes all making.area = ap (λ (a : ℕ). used_bytes all a) making.of_area in
      omega (arith, more, at, before, is_row.used, making.mark, making.same_start, bytes)

  next_words : 8 * making.next.end ≡ 8 * making.next.start + rounded_up making.next.bytes
  next_words =
      let rounds : rounded_up making.next.bytes ≡ rounded_up making.row.bytes = ap (λ (b : ℕ). rounded_up b) making.same_bytes in
      omega (arith, rounds, is_row.words, making.same_start, making.same_end)

  pub next_is : IsRow after.contents making.next
  next_is =
      record {
        area = is_row.area;
        is = ap (λ (a : ℕ). slice_get making.past.contents.areas a) making.same_area ∙ is_row.is;
        is_open = is_row.is_open;
        scope = is_row.scope ∙ sym making.same_scope;
        bytes = is_row.bytes ∙ sym making.same_bytes;
        used = next_used;
        room = next_room;
        words = next_words;
      }

  pub apart_from_new : (p : ℕ) (o : Object) → IsLive making.past.contents p o →
      (slice_index making.past.firsts p + 2 + length o.slots ≤ making.row.mark)
      ⊎ (making.row.mark + 2 + length making.slots ≤ slice_index making.past.firsts p)
  apart_from_new p o l = go (three h.k making.k)
    where
      h : LiesIn making.areas (slice_index making.past.firsts p) o
      h = making.kept.placed p o l

      new_mark : making.row.mark + 2 + length making.slots ≤ making.row.end
      new_mark =
          let covers : making.next.mark ≤ making.next.end = mark_within after.contents making.next next_is in
          omega (arith, covers, making.mark, making.same_end)

      go : (h.k < making.k) ⊎ ((h.k ≡ making.k) ⊎ (making.k < h.k)) →
          (slice_index making.past.firsts p + 2 + length o.slots ≤ making.row.mark)
          ⊎ (making.row.mark + 2 + length making.slots ≤ slice_index making.past.firsts p)
      go (inl lt) =
          let ends : h.row.end ≤ making.row.start = rows_apart 0 making.areas h.k making.k h.row making.row making.kept.stacked lt h.is making.is in
          let within : h.row.mark ≤ h.row.end = mark_within making.past.contents h.row (making.kept.rows h.k h.row h.is) in
          let start : making.row.start ≤ making.row.mark = start_within making.past.contents making.row is_row in
          inl (omega (arith, h.mark, ends, within, start))
      go (inr (inl e)) =
          let here : slice_get making.areas h.k ≡ Some making.row = ap (λ (z : ℕ). slice_get making.areas z) e ∙ making.is in
          let there : slice_get making.areas h.k ≡ Some h.row = h.is in
          let same : h.row ≡ making.row = cc in
          inl (omega (arith, h.mark, ap (λ (z : AreaRow). z.mark) same))
      go (inr (inr lt)) =
          let ends : making.row.end ≤ h.row.start = rows_apart 0 making.areas making.k h.k making.row h.row making.kept.stacked lt making.is h.is in
          inr (omega (arith, new_mark, ends, h.start))

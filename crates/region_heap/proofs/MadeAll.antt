-- An object is made, as the code does it.
use Rattle.std.specs.Prelude.{Some, replicate, slice_get, slice_set}
use Rattle.std.proofs.Common.{◌≡◌, ◌∙◌, Bor, ℕ, ◌+◌, ◌*◌, ◌/◌, ◌<◌, ◌≤◌, List, [], ◌∷◌, ◌++◌, length, refl, ap, sym, subst, arith, length-append}
use Rattle.scj_base.specs.declared.values.Value.{Value}
use Rattle.scj_rules.specs.Layout.{size_with_slots}
use Rattle.scj_model.specs.Memory.{new_object}
use Rattle.region_heap.specs.declared.changes.Change.TheVariants.{Made, MadeArray}
use Rattle.region_heap.specs.declared.rows.AreaRow.{AreaRow}
use Rattle.region_heap.specs.declared.rows.ObjectRow.{ObjectRow}
use Rattle.region_heap.specs.Contents.{making_object}
use Rattle.region_heap.specs.History.{Past, after}
use Rattle.region_heap.specs.Kept.{IsCounted, IsKept, IsRow}
use Rattle.region_heap.specs.Rows.{end_after}
use Rattle.region_heap.specs.Spaces.{HasRoomAt, HasWordsAt, IsMarkAt, IsNoted, row_with}
use Rattle.region_heap.specs.Words.{Words}
use Rattle.region_heap.specs.Written.{IsLaid}
use Rattle.region_heap.proofs.Lists.{get_within}
use Rattle.region_heap.proofs.Making.{made_kept, room_for_row}
use Rattle.region_heap.proofs.NewObject.{Making}
use Rattle.region_heap.proofs.Rounding.{rounded_covers}
use Rattle.region_heap.proofs.Stacks.{row_from}

-- ---- the words in which an object is laid

module _ (ws : Words) (areas : List AreaRow) (objects : List ObjectRow) (m : Past) (kept : IsKept ws areas objects m)
    (area count k : ℕ) (room : HasRoomAt areas area count k) where
  size_is : size_with_slots count ≡ 8 * (2 + count)
  unfolding size_with_slots
  size_is = refl

  -- there are so many
  words_free : room.row.mark + 2 + count ≤ end_after 0 areas
  words_free =
      let r : IsRow m.contents room.row = kept.rows k room.row room.is in
      let f : (0 ≤ room.row.start) × (room.row.start ≤ room.row.end) × (room.row.end ≤ end_after 0 areas) =
      row_from 0 areas k room.row kept.stacked room.is in
      omega (arith, room.fits, size_is, r.words, rounded_covers room.row.bytes, f.2)

  pub place_within : k < length areas
  place_within = get_within areas k room.row room.is

  pub mark_is_of : (first : ℕ) → IsMarkAt areas k first → room.row.mark ≡ first
  mark_is_of first h =
      let here : slice_get areas k ≡ Some h.row = h.is in
      let there : slice_get areas k ≡ Some room.row = room.is in
      let same : room.row ≡ h.row = cc in
      ap (λ (z : AreaRow). z.mark) same ∙ h.mark_is

  pub words_from : (first : ℕ) → IsMarkAt areas k first → first + 2 + count ≤ length ws
  words_from first h = omega (arith, words_free, mark_is_of first h, kept.end)

  pub words_at : length ws ≤ 8388608 → HasWordsAt areas k count
  words_at most row e =
      let there : slice_get areas k ≡ Some room.row = room.is in
      let same : room.row ≡ row = cc in
      omega (arith, words_free, kept.end, most, ap (λ (z : AreaRow). z.mark) same)

-- ---- what is kept

module _ (bytes area_count object_count : ℕ) (values : List Value) (ws us : Words) (areas : List AreaRow)
    (objects : List ObjectRow) (m : Past) (kept : IsKept ws areas objects m)
    (counted : IsCounted bytes area_count object_count values ws m.contents) (class area count k first : ℕ)
    (slots : List Value) (long : length slots ≡ count) (room : HasRoomAt areas area count k)
    (mark : IsMarkAt areas k first) (laid : IsLaid ws first class area slots us) where
  fits : 8 * room.row.mark + size_with_slots (length slots) ≤ 8 * room.row.start + room.row.bytes
  fits = subst (λ (n : ℕ). 8 * room.row.mark + size_with_slots n ≤ 8 * room.row.start + room.row.bytes) (sym long)
      room.fits

  laid_out : IsLaid ws room.row.mark class area slots us
  laid_out =
      subst (λ (n : ℕ). IsLaid ws n class area slots us)
      (sym (mark_is_of ws areas objects m kept area count k room first mark)) laid

  next_mark : (row_with room.row count).mark ≡ room.row.mark + 2 + length slots
  next_mark = ap (λ (n : ℕ). room.row.mark + 2 + n) (sym long)

  abbrev making : Making
  making =
      record {
        past = m;
        class = class;
        area = area;
        slots = slots;
        row = room.row;
        next = row_with room.row count;
        ws = ws;
        us = us;
        areas = areas;
        objects = objects;
        k = k;
        kept = kept;
        is = room.is;
        of_area = room.of_area;
        laid_out = laid_out;
        fits = fits;
        same_area = refl;
        same_scope = refl;
        same_bytes = refl;
        same_start = refl;
        same_end = refl;
        same_base = refl;
        mark = next_mark;
      }

  -- the rows have room for one more
  pub row_room : (capacity : ℕ) → capacity ≡ bytes / 16 → length objects < capacity
  row_room capacity e =
      let few : 2 * length objects + 2 ≤ length ws = room_for_row making in
      omega (arith, few, e, counted.words)

  pub made_all : (new_areas : List AreaRow) (new_objects : List ObjectRow) →
      IsNoted areas objects k object_count count new_areas new_objects →
      IsKept us new_areas new_objects (record {
        contents = making_object m.contents class area slots;
        firsts = m.firsts ++ first ∷ [];
      })
  made_all new_areas new_objects noted =
      let here : slice_get areas k ≡ Some noted.row = noted.is in
      let there : slice_get areas k ≡ Some room.row = room.is in
      let same : noted.row ≡ room.row = cc in
      let areas_are : new_areas ≡ slice_set areas k (row_with room.row count) =
      noted.areas_are ∙ ap (λ (z : AreaRow). slice_set areas k (row_with z count)) same in
      let number : object_count ≡ length m.contents.objects = counted.objects in
      let objects_are : new_objects
      ≡ objects ++ record { number = length m.contents.objects; first = room.row.mark } ∷ [] =
      noted.objects_are
      ∙ (ap (λ (z : AreaRow). objects ++ record { number = object_count; first = z.mark } ∷ []) same
      ∙ ap (λ (n : ℕ). objects ++ record { number = n; first = room.row.mark } ∷ []) number) in
      let first_is : first ≡ room.row.mark =
      sym (mark_is_of ws areas objects m kept area count k room first mark) in
      rw (areas_are, objects_are, first_is) (made_kept making)

  pub counted_made : IsCounted bytes area_count (object_count + 1) values us (making_object m.contents class area slots)
  counted_made =
      record {
        store = counted.store;
        most = counted.most;
        words = laid.within.long ∙ counted.words;
        areas = counted.areas;
        objects = omega (
          arith,
          counted.objects,
          length-append m.contents.objects
              (new_object class area slots ∷ []),
        );
        statics = counted.statics;
      }

-- ---- what the change makes of the past

pub after_made : (m : Past) (class area : ℕ) (slots : Bor (List Value)) (first : ℕ) →
    after m (Made class area slots first)
    ≡ record { contents = making_object m.contents class area slots.now; firsts = m.firsts ++ first ∷ [] }
unfolding after
after_made m class area slots first = refl

pub after_array : (m : Past) (class area count : ℕ) (value : Bor Value) (first : ℕ) →
    after m (MadeArray class area count value first)
    ≡ record {
      contents = making_object m.contents class area (replicate count value.now);
      firsts = m.firsts ++ first ∷ [];
    }
unfolding after
after_array m class area count value first = refl

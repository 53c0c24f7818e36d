-- An area is opened: the words keep what the run's memory is then.
use Rattle.std.specs.Prelude.{Option, Some, None, slice_get, slice_index}
use Rattle.std.specs.List.{sum_by}
use Rattle.std.proofs.Common.{◌≡◌, ◌∙◌, ◌⊎◌, inl, inr, true, ℕ, ◌+◌, ◌*◌, ◌<◌, ◌≤◌, List, [], ◌∷◌, ◌++◌, length, refl, ap, sym, subst, arith, length-append}
use Rattle.scj_rules.specs.Words.{holds}
use Rattle.scj_model.specs.State.{MemoryArea, Object}
use Rattle.scj_model.specs.Memory.{rounded_up}
use Rattle.region_heap.specs.declared.rows.AreaRow.{AreaRow}
use Rattle.region_heap.specs.declared.rows.ObjectRow.{ObjectRow}
use Rattle.region_heap.specs.Contents.{Contents, is_open_area, new_area, opening_area}
use Rattle.region_heap.specs.History.{Past}
use Rattle.region_heap.specs.Kept.{IsBased, IsKept, IsLive, IsRow, LiesIn, row_bytes, used_bytes}
use Rattle.region_heap.specs.Rows.{HasRow, end_after}
use Rattle.region_heap.specs.Words.{Words}
use Rattle.region_heap.proofs.ChangedKept.{row_open}
use Rattle.region_heap.proofs.Lists.{get_before, get_behind, get_last, get_within, three}
use Rattle.region_heap.proofs.Live.{open_within, row_live}
use Rattle.region_heap.proofs.OpenCounts.{open_more}
use Rattle.region_heap.proofs.Rounding.{rounded_covers}
use Rattle.region_heap.proofs.RowChanges.{rows_same}
use Rattle.region_heap.proofs.Stacks.{end_more, row_from, stacked_more}
use Rattle.region_heap.proofs.Sums.{live_same, reserved_more, sum_more, used_none}

-- what a row has taken is within its words
pub mark_within : (m : Contents) (row : AreaRow) → IsRow m row → row.mark ≤ row.end
mark_within m row r = omega (arith, r.room, r.words, rounded_covers row.bytes)

pub start_within : (m : Contents) (row : AreaRow) → IsRow m row → row.start ≤ row.mark
start_within m row r = omega (arith, r.used)

-- an object begins below the end of all areas
pub first_within : (ws : Words) (areas : List AreaRow) (objects : List ObjectRow) (m : Past) →
    IsKept ws areas objects m →
    (i : ℕ) (x : ObjectRow) → slice_get objects i ≡ Some x → x.first < end_after 0 areas
first_within ws areas objects m kept i x e =
    let r : (o : Object) × IsLive m.contents x.number o × (slice_index m.firsts x.number ≡ x.first) =
    row_live ws areas objects m kept i x e in
    let l : LiesIn areas (slice_index m.firsts x.number) r.0 = kept.placed x.number r.0 r.1 in
    let mark : l.row.mark ≤ l.row.end = mark_within m.contents l.row (kept.rows l.k l.row l.is) in
    let f : (0 ≤ l.row.start) × (l.row.start ≤ l.row.end) × (l.row.end ≤ end_after 0 areas) =
    row_from 0 areas l.k l.row kept.stacked l.is in
    omega (arith, l.mark, mark, f.2, r.2)

module _ (ws : Words) (areas : List AreaRow) (objects : List ObjectRow) (m : Past) (scope : ℕ) (parent : Option ℕ)
    (bytes : ℕ) (row : AreaRow) (kept : IsKept ws areas objects m) (of_area : row.area ≡ length m.contents.areas)
    (scope_is : row.scope ≡ scope) (bytes_is : row.bytes ≡ bytes) (start : row.start ≡ end_after 0 areas)
    (mark : row.mark ≡ row.start) (words : 8 * row.end ≡ 8 * row.start + rounded_up bytes)
    (base : row.base ≡ length objects) (room : row.end ≤ length ws) where
  abbrev after : Past
  after = record m { contents = opening_area m.contents scope parent bytes }

  abbrev rows : List AreaRow
  rows = areas ++ row ∷ []

  abbrev opened : MemoryArea
  opened = new_area scope parent bytes

  test_before : (a : ℕ) → a < length m.contents.areas → is_open_area after.contents a ≡ is_open_area m.contents a
  test_before a h =
      ap (λ (z : Option MemoryArea). holds z (λ x. x.is_open)) (get_before m.contents.areas opened a h)

  test_object : (p : ℕ) (o : Object) → slice_get m.contents.objects p ≡ Some o →
      is_open_area after.contents o.area ≡ is_open_area m.contents o.area
  test_object p o e = test_before o.area (kept.inside p o e)

  live_before : (p : ℕ) (o : Object) → IsLive after.contents p o → IsLive m.contents p o
  live_before p o l = record { found = l.found; is_open = sym (test_object p o l.found) ∙ l.is_open }

  placed : (first : ℕ) (o : Object) → LiesIn areas first o → LiesIn rows first o
  placed first o l =
      record {
        k = l.k;
        row = l.row;
        is = get_before areas row l.k (get_within areas l.k l.row l.is) ∙ l.is;
        of_area = l.of_area;
        start = l.start;
        mark = l.mark;
      }

  -- a row is the new one, or was there
  data RowWas (k : ℕ) (x : AreaRow) : Type 0 where
    old : slice_get areas k ≡ Some x → RowWas k x
    new : k ≡ length areas → x ≡ row → RowWas k x

  row_was : (k : ℕ) (x : AreaRow) → slice_get rows k ≡ Some x → RowWas k x
  row_was k x e = go (three k (length areas))
    where
      go : (k < length areas) ⊎ ((k ≡ length areas) ⊎ (length areas < k)) → RowWas k x
      go (inl h) = old (sym (get_before areas row k h) ∙ e)
      go (inr (inl s)) =
          let last : slice_get rows k ≡ Some row = ap (λ (n : ℕ). slice_get rows n) s ∙ get_last areas row in
          new s (cc)
      go (inr (inr h)) =
          let none : slice_get rows k ≡ None = get_behind areas row k h in
          absurd (cc)

  row_still : (x : AreaRow) → IsRow m.contents x → IsRow after.contents x
  row_still x r =
      record {
        area = r.area;
        is = get_before m.contents.areas opened x.area (get_within m.contents.areas x.area r.area r.is) ∙ r.is;
        is_open = r.is_open;
        scope = r.scope;
        bytes = r.bytes;
        used = r.used;
        room = r.room;
        words = r.words;
      }

  empty : used_bytes m.contents.objects row.area ≡ 0
  empty =
      used_none m.contents.objects row.area (λ p o e same.
      let h : o.area < length m.contents.areas = kept.inside p o e in
      omega (arith, h, same, of_area))

  row_new : IsRow after.contents row
  row_new =
      record {
        area = opened;
        is = ap (λ (n : ℕ). slice_get (m.contents.areas ++ opened ∷ []) n) of_area ∙ get_last m.contents.areas opened;
        is_open = refl;
        scope = sym scope_is;
        bytes = sym bytes_is;
        used = omega (arith, empty, mark);
        room = omega (arith, mark);
        words = words ∙ ap (λ (n : ℕ). 8 * row.start + rounded_up n) (sym bytes_is);
      }

  is_row : (k : ℕ) (x : AreaRow) → RowWas k x → IsRow after.contents x
  is_row k x (old e) = row_still x (kept.rows k x e)
  is_row k x (new s e) = subst (λ (y : AreaRow). IsRow after.contents y) (sym e) row_new

  has_row : (a : ℕ) → is_open_area after.contents a ≡ true → HasRow rows a
  has_row a t = go (three a (length m.contents.areas))
    where
      go : (a < length m.contents.areas) ⊎ ((a ≡ length m.contents.areas) ⊎ (length m.contents.areas < a)) →
          HasRow rows a
      go (inl h) =
          let r : HasRow areas a = kept.has_row a (sym (test_before a h) ∙ t) in
          record {
            k = r.k;
            is_row = record {
              row = r.is_row.row;
              is = get_before areas row r.k (get_within areas r.k r.is_row.row r.is_row.is) ∙ r.is_row.is;
              of_area = r.is_row.of_area;
            };
          }
      go (inr (inl s)) =
          record {
            k = length areas;
            is_row = record { row = row; is = get_last areas row; of_area = of_area ∙ sym s };
          }
      go (inr (inr h)) =
          let within : a < length (m.contents.areas ++ opened ∷ []) = open_within after.contents a t in
          absurd (omega (arith, within, h, length-append m.contents.areas (opened ∷ [])))

  in_order : (i j : ℕ) (x y : AreaRow) → i < j → RowWas i x → RowWas j y → x.area < y.area
  in_order i j x y h (old ex) (old ey) = kept.in_order i j x y h ex ey
  in_order i j x y h (old ex) (new s e) =
      let within : x.area < length m.contents.areas =
      open_within m.contents x.area (row_open m.contents x (kept.rows i x ex)) in
      omega (arith, within, of_area, ap (λ (z : AreaRow). z.area) e)
  in_order i j x y h (new s e) (old ey) =
      let within : j < length areas = get_within areas j y ey in
      absurd (omega (arith, within, h, s))
  in_order i j x y h (new s e) (new t f) = absurd (omega (arith, h, s, t))

  based : (k : ℕ) (x : AreaRow) → RowWas k x → IsBased objects x
  based k x (old e) = kept.based k x e
  based k x (new s e) =
      subst (λ (y : AreaRow). IsBased objects y) (sym e)
      (record {
        within = omega (arith, base);
        below = λ i y h f.
            let first : y.first < end_after 0 areas = first_within ws areas objects m kept i y f in
            omega (arith, first, start);
      })

  pub opened_kept : IsKept ws rows objects after
  opened_kept =
      record {
        firsts = kept.firsts;
        laid = λ p o l. kept.laid p o (live_before p o l);
        placed = λ p o l. placed (slice_index m.firsts p) o (kept.placed p o (live_before p o l));
        apart = λ p q x y h lx ly. kept.apart p q x y h (live_before p x lx) (live_before q y ly);
        listed = kept.listed
            ∙ sym (rows_same (is_open_area m.contents) (is_open_area after.contents) 0 m.contents.objects m.firsts
            test_object);
        inside = λ p o e.
            let h : o.area < length m.contents.areas = kept.inside p o e in
            omega (arith, h, length-append m.contents.areas (opened ∷ []));
        rows = λ k x e. is_row k x (row_was k x e);
        has_row = has_row;
        in_order = λ i j x y h ex ey. in_order i j x y h (row_was i x ex) (row_was j y ey);
        stacked = stacked_more 0 areas row kept.stacked start (omega (arith, words));
        based = λ k x e. based k x (row_was k x e);
        end = omega (arith, end_more 0 areas row, room);
        reserved =
            let more : 8 * end_after 0 rows ≡ 8 * row.end = ap (λ (n : ℕ). 8 * n) (end_more 0 areas row) in
            omega (arith, reserved_more m.contents.areas scope parent bytes, kept.reserved, more, words, start);
        open_rows =
            let more = open_more m.contents.areas scope parent bytes in
            omega (arith, kept.open_rows, more, length-append areas (row ∷ []));
        live =
            let same = live_same m.contents.objects (is_open_area m.contents) (is_open_area after.contents)
            test_object in
            let sum : sum_by row_bytes rows ≡ sum_by row_bytes areas + row_bytes row = sum_more row_bytes areas row in
            let none : row_bytes row ≡ 0 = omega (arith, mark) in
            omega (arith, same, sum, none, kept.live);
      }

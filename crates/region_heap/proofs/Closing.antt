-- The area that was opened last is closed, and its words are forgotten: the words keep what the run's memory is then.
use Rattle.std.specs.Prelude.{Option, Some, None, cond, filter, nat_lt, slice_get, slice_index}
use Rattle.std.specs.List.{sum_by}
use Rattle.std.proofs.Common.{◌≡◌, ◌∙◌, ◌⊎◌, inl, inr, Bool, true, false, ℕ, zero, suc, ◌+◌, ◌<◌, ◌≤◌, List, [], ◌∷◌, ◌++◌, length, refl, ap, sym, arith, length-append}
use Rattle.std.proofs.lemmas.Bool.Decides.{nat_tests}
use Rattle.std.proofs.lemmas.Option.{get_or_from_slice_get}
use Rattle.raw_words.specs.Places.{forgotten}
use Rattle.raw_words.proofs.Forgotten.{get_or-forgotten, length_forgotten}
use Rattle.scj_rules.specs.Words.{holds}
use Rattle.scj_model.specs.State.{MemoryArea, Object, changed}
use Rattle.scj_model.specs.Memory.{rounded_up}
use Rattle.region_heap.specs.declared.rows.AreaRow.{AreaRow}
use Rattle.region_heap.specs.declared.rows.ObjectRow.{ObjectRow}
use Rattle.region_heap.specs.Contents.{closed_area, closing_area, is_open_area}
use Rattle.region_heap.specs.History.{Past}
use Rattle.region_heap.specs.Kept.{IsBased, IsKept, IsLive, IsRow, LiesAt, LiesIn, reserved_bytes, row_bytes, used_bytes}
use Rattle.region_heap.specs.Rows.{HasRow, begins_below, end_after}
use Rattle.region_heap.specs.Words.{Words}
use Rattle.region_heap.proofs.ChangedKept.{row_open}
use Rattle.region_heap.proofs.Changing.{lies_still}
use Rattle.region_heap.proofs.Lists.{changed_long, changed_other, changed_same, get_before, get_behind, get_last, get_within, same_or, three}
use Rattle.region_heap.proofs.OpenCounts.{open_less}
use Rattle.region_heap.proofs.Opening.{mark_within, start_within}
use Rattle.region_heap.proofs.RowChanges.{Splits, rows_below}
use Rattle.region_heap.proofs.Stacks.{end_more, rows_apart, stacked_less}
use Rattle.region_heap.proofs.Sums.{live_less, reserved_less, sum_more}

-- a filter keeps the first elements, where the test holds of each
module _ (start : ℕ) where
  pub record Prefix (n : ℕ) (xs : List ObjectRow) : Type 0 where
    pub within : n ≤ length (filter (begins_below start) xs)
    pub same : (i : ℕ) → i < n → slice_get (filter (begins_below start) xs) i ≡ slice_get xs i

  pub prefix_kept : (n : ℕ) (xs : List ObjectRow) → n ≤ length xs →
      ((i : ℕ) (x : ObjectRow) → i < n → slice_get xs i ≡ Some x → x.first < start) → Prefix n xs
  prefix_kept zero xs h below = record { within = omega arith; same = λ i lt. absurd (omega (arith, lt)) }
  prefix_kept (suc n) [] h below = absurd (omega (arith, h))
  prefix_kept (suc n) (x ∷ xs) h below = step (prefix_kept n xs (omega (arith, h)) (λ i y lt e. below (suc i) y
      (omega (arith, lt)) e))
    where
      here : x.first < start
      here = below 0 x (omega arith) refl

      t : nat_lt x.first start ≡ true
      t = let h : x.first < start = here in grind (arith, nat_tests)

      all : filter (begins_below start) (x ∷ xs) ≡ x ∷ filter (begins_below start) xs
      all = ap (λ (b : Bool). cond b (x ∷ filter (begins_below start) xs) (filter (begins_below start) xs)) t

      step : Prefix n xs → Prefix (suc n) (x ∷ xs)
      step p =
          let long : length (filter (begins_below start) (x ∷ xs)) ≡ suc (length (filter (begins_below start) xs)) =
          ap (λ (ys : List ObjectRow). length ys) all in
          record {
            within = omega (arith, long, p.within);
            same = λ i lt. ap (λ (ys : List ObjectRow). slice_get ys i) all ∙ at i lt;
          }
        where
          at : (i : ℕ) → i < suc n → slice_get (x ∷ filter (begins_below start) xs) i ≡ slice_get (x ∷ xs) i
          at zero lt = refl
          at (suc i) lt = p.same i (omega (arith, lt))

module _ (ws : Words) (areas : List AreaRow) (row : AreaRow) (objects : List ObjectRow) (m : Past)
    (kept : IsKept ws (areas ++ row ∷ []) objects m) where
  abbrev after : Past
  after = record m { contents = closing_area m.contents row.area }

  abbrev all : List AreaRow
  all = areas ++ row ∷ []

  abbrev test : ℕ → Bool
  test = is_open_area m.contents

  abbrev still : ℕ → Bool
  still = is_open_area after.contents

  last : slice_get all (length areas) ≡ Some row
  last = get_last areas row

  is_last : IsRow m.contents row
  is_last = kept.rows (length areas) row last

  before : (k : ℕ) (x : AreaRow) → slice_get areas k ≡ Some x → slice_get all k ≡ Some x
  before k x e = get_before areas row k (get_within areas k x e) ∙ e

  is_shut : still row.area ≡ false
  is_shut =
      ap (λ (z : Option MemoryArea). holds z (λ x. x.is_open))
      (changed_same closed_area row.area m.contents.areas is_last.area is_last.is)

  stays : (a : ℕ) → (a ≡ row.area → ⊥) → still a ≡ test a
  stays a d =
      ap (λ (z : Option MemoryArea). holds z (λ x. x.is_open)) (changed_other closed_area row.area a m.contents.areas d)

  other_area : (a : ℕ) → still a ≡ true → a ≡ row.area → ⊥
  other_area a t e =
      let shut : still a ≡ false = ap still e ∙ is_shut in
      absurd (cc)

  was_open : (a : ℕ) → still a ≡ true → test a ≡ true
  was_open a t = sym (stays a (other_area a t)) ∙ t

  live_before : (p : ℕ) (o : Object) → IsLive after.contents p o → IsLive m.contents p o
  live_before p o l = record { found = l.found; is_open = was_open o.area l.is_open }

  -- the row of another area stands before
  row_before : (k : ℕ) (x : AreaRow) → slice_get all k ≡ Some x → (x.area ≡ row.area → ⊥) → slice_get areas k ≡ Some x
  row_before k x e d = go (three k (length areas))
    where
      go : (k < length areas) ⊎ ((k ≡ length areas) ⊎ (length areas < k)) → slice_get areas k ≡ Some x
      go (inl h) = sym (get_before areas row k h) ∙ e
      go (inr (inl s)) =
          let here : slice_get all k ≡ Some row = ap (λ (n : ℕ). slice_get all n) s ∙ last in
          let same : x ≡ row = cc in
          absurd (d (ap (λ (z : AreaRow). z.area) same))
      go (inr (inr h)) =
          let none : slice_get all k ≡ None = get_behind areas row k h in
          absurd (cc)

  -- and the row of this one is the last
  row_last : (k : ℕ) (x : AreaRow) → slice_get all k ≡ Some x → x.area ≡ row.area → x ≡ row
  row_last k x e s = go (three k (length areas))
    where
      go : (k < length areas) ⊎ ((k ≡ length areas) ⊎ (length areas < k)) → x ≡ row
      go (inl h) =
          let less : x.area < row.area = kept.in_order k (length areas) x row h e last in
          absurd (omega (arith, less, s))
      go (inr (inl t)) =
          let here : slice_get all k ≡ Some row = ap (λ (n : ℕ). slice_get all n) t ∙ last in
          cc
      go (inr (inr h)) =
          let none : slice_get all k ≡ None = get_behind areas row k h in
          absurd (cc)

  other_row : (k : ℕ) (x : AreaRow) → slice_get areas k ≡ Some x → x.area ≡ row.area → ⊥
  other_row k x e s =
      let less : x.area < row.area = kept.in_order k (length areas) x row (get_within areas k x e)
      (before k x e) last in
      omega (arith, less, s)

  ends_below : (k : ℕ) (x : AreaRow) → slice_get areas k ≡ Some x → x.mark ≤ row.start
  ends_below k x e =
      let mark : x.mark ≤ x.end = mark_within m.contents x (kept.rows k x (before k x e)) in
      let end : x.end ≤ row.start =
      rows_apart 0 all k (length areas) x row kept.stacked (get_within areas k x e) (before k x e) last in
      omega (arith, mark, end)

  -- an object of another area lies below
  lies_below : (p : ℕ) (o : Object) → IsLive m.contents p o → (o.area ≡ row.area → ⊥) →
      LiesIn areas (slice_index m.firsts p) o × (slice_index m.firsts p + 2 + length o.slots ≤ row.start)
  lies_below p o l d =
      let h : LiesIn all (slice_index m.firsts p) o = kept.placed p o l in
      let e : slice_get areas h.k ≡ Some h.row = row_before h.k h.row h.is (λ s. d (sym h.of_area ∙ s)) in
      let below : h.row.mark ≤ row.start = ends_below h.k h.row e in (
        record { k = h.k; row = h.row; is = e; of_area = h.of_area; start = h.start; mark = h.mark },
        omega (arith, h.mark, below),
      )

  -- and one of this area doesn't
  lies_above : (p : ℕ) (o : Object) → IsLive m.contents p o → o.area ≡ row.area → row.start ≤ slice_index m.firsts p
  lies_above p o l s =
      let h : LiesIn all (slice_index m.firsts p) o = kept.placed p o l in
      let same : h.row ≡ row = row_last h.k h.row h.is (h.of_area ∙ s) in
      omega (arith, h.start, ap (λ (z : AreaRow). z.start) same)

  laid : (p : ℕ) (o : Object) → IsLive after.contents p o → LiesAt (forgotten row.start ws) (slice_index m.firsts p) o
  laid p o l =
      let b : LiesIn areas (slice_index m.firsts p) o × (slice_index m.firsts p + 2 + length o.slots ≤ row.start) =
      lies_below p o (live_before p o l) (other_area o.area l.is_open) in
      lies_still ws (forgotten row.start ws) (slice_index m.firsts p) o (kept.laid p o (live_before p o l))
      (length_forgotten row.start ws)
      (λ j low high. get_or-forgotten row.start ws j (omega (arith, high, b.1)))

  splits : Splits test still row.start m.contents.objects m.firsts
  splits = record { kept = keeps; closed = λ p o e t. shut o t (same_or o.area row.area) }
    where
      shut : (o : Object) → test o.area ≡ false → (o.area ≡ row.area) ⊎ (o.area ≡ row.area → ⊥) → still o.area ≡ false
      shut o t (inl s) = ap still s ∙ is_shut
      shut o t (inr d) = stays o.area d ∙ t

      decide : (p f : ℕ) (o : Object) → IsLive m.contents p o → slice_index m.firsts p ≡ f →
          (o.area ≡ row.area) ⊎ (o.area ≡ row.area → ⊥) → still o.area ≡ nat_lt f row.start
      decide p f o l at (inl s) =
          let above : row.start ≤ f = omega (arith, lies_above p o l s, at) in
          let not_below : nat_lt f row.start ≡ false = grind (arith, nat_tests) in
          (ap still s ∙ is_shut) ∙ sym not_below
      decide p f o l at (inr d) =
          let b : LiesIn areas (slice_index m.firsts p) o × (slice_index m.firsts p + 2 + length o.slots ≤ row.start) =
          lies_below p o l d in
          let less : f < row.start = omega (arith, b.1, at) in
          let below : nat_lt f row.start ≡ true = grind (arith, nat_tests) in
          (stays o.area d ∙ l.is_open) ∙ sym below

      keeps : (p f : ℕ) (o : Object) → slice_get m.contents.objects p ≡ Some o → slice_get m.firsts p ≡ Some f →
          test o.area ≡ true → still o.area ≡ nat_lt f row.start
      keeps p f o e g t =
          decide p f o (record { found = e; is_open = t }) (get_or_from_slice_get m.firsts p f 0 g)
          (same_or o.area row.area)

  is_row : (k : ℕ) (x : AreaRow) → slice_get areas k ≡ Some x → IsRow after.contents x
  is_row k x e =
      let r : IsRow m.contents x = kept.rows k x (before k x e) in
      record {
        area = r.area;
        is = changed_other closed_area row.area x.area m.contents.areas (other_row k x e) ∙ r.is;
        is_open = r.is_open;
        scope = r.scope;
        bytes = r.bytes;
        used = r.used;
        room = r.room;
        words = r.words;
      }

  has_row : (a : ℕ) → still a ≡ true → HasRow areas a
  has_row a t =
      let r : HasRow all a = kept.has_row a (was_open a t) in
      record {
        k = r.k;
        is_row = record {
          row = r.is_row.row;
          is = row_before r.k r.is_row.row r.is_row.is (λ s. other_area a t (sym r.is_row.of_area ∙ s));
          of_area = r.is_row.of_area;
        };
      }

  stack : (end_after 0 areas ≡ row.start) × (end_after 0 all ≡ row.end)
  stack = (sym (stacked_less 0 areas row kept.stacked).1, end_more 0 areas row)

  based : (k : ℕ) (x : AreaRow) → slice_get areas k ≡ Some x → IsBased (filter (begins_below row.start) objects) x
  based k x e =
      let b : IsBased objects x = kept.based k x (before k x e) in
      let start : x.start ≤ x.mark = start_within m.contents x (kept.rows k x (before k x e)) in
      let below : x.mark ≤ row.start = ends_below k x e in
      let p : Prefix row.start x.base objects =
      prefix_kept row.start x.base objects b.within
      (λ i y lt f. let h : y.first < x.start = b.below i y lt f in omega (arith, h, start, below)) in
      record { within = p.within; below = λ i y lt f. b.below i y lt (sym (p.same i lt) ∙ f) }

  pub closed_kept : IsKept (forgotten row.start ws) areas (filter (begins_below row.start) objects) after
  closed_kept =
      record {
        firsts = kept.firsts;
        laid = laid;
        placed = λ p o l. (lies_below p o (live_before p o l) (other_area o.area l.is_open)).0;
        apart = λ p q x y h lx ly. kept.apart p q x y h (live_before p x lx) (live_before q y ly);
        listed = ap (λ (xs : List ObjectRow). filter (begins_below row.start) xs) kept.listed
            ∙ sym (rows_below test still row.start 0 m.contents.objects m.firsts splits);
        inside = λ p o e.
            let h : o.area < length m.contents.areas = kept.inside p o e in
            omega (arith, h, changed_long closed_area row.area m.contents.areas);
        rows = is_row;
        has_row = has_row;
        in_order = λ i j x y h ex ey. kept.in_order i j x y h (before i x ex) (before j y ey);
        stacked = (stacked_less 0 areas row kept.stacked).0;
        based = based;
        end = omega (arith, stack.0, stack.1, kept.end, is_last.words, length_forgotten row.start ws);
        reserved =
            let less : reserved_bytes (changed closed_area row.area m.contents.areas) + rounded_up is_last.area.bytes
            ≡ reserved_bytes m.contents.areas =
            reserved_less m.contents.areas row.area is_last.area is_last.is is_last.is_open in
            let bytes : rounded_up is_last.area.bytes ≡ rounded_up row.bytes =
            ap (λ (n : ℕ). rounded_up n) is_last.bytes in
            omega (arith, less, bytes, kept.reserved, stack.0, stack.1, is_last.words);
        open_rows =
            let fewer = open_less m.contents.areas row.area is_last.area is_last.is is_last.is_open in
            let more : length all ≡ length areas + 1 = length-append areas (row ∷ []) in
            omega (arith, kept.open_rows, fewer, more);
        live =
            let opened : test row.area ≡ true = row_open m.contents row is_last in
            let less = live_less m.contents.objects test still row.area opened is_shut stays in
            let sum : sum_by row_bytes all ≡ sum_by row_bytes areas + row_bytes row = sum_more row_bytes areas row in
            let used : row_bytes row ≡ used_bytes m.contents.objects row.area = omega (arith, is_last.used) in
            omega (arith, less, sum, used, kept.live);
      }

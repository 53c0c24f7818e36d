-- An object is changed: the words keep what the run's memory is then.
use Rattle.std.specs.Prelude.{Option, Some, slice_get, slice_index}
use Rattle.std.proofs.Common.{◌≡◌, ◌∙◌, ◌⊎◌, inl, inr, Bool, true, ℕ, ◌+◌, ◌<◌, ◌≤◌, List, length, refl, ap, sym, subst, arith}
use Rattle.scj_rules.specs.Words.{holds}
use Rattle.scj_rules.specs.Layout.{size_with_slots}
use Rattle.scj_model.specs.State.{MemoryArea, Object, changed}
use Rattle.region_heap.specs.declared.rows.AreaRow.{AreaRow}
use Rattle.region_heap.specs.declared.rows.ObjectRow.{ObjectRow}
use Rattle.region_heap.specs.Contents.{Contents, changing_object, is_open_area}
use Rattle.region_heap.specs.History.{Past}
use Rattle.region_heap.specs.Kept.{IsKept, IsLive, IsRow, LiesAt, LiesIn, object_bytes, used_bytes}
use Rattle.region_heap.specs.Words.{Words, count_in, word}
use Rattle.region_heap.specs.Written.{IsChangedIn, nowhere, there}
use Rattle.region_heap.proofs.Changing.{lies_changed, lies_still}
use Rattle.region_heap.proofs.Lists.{changed_long, changed_other, changed_was, same_or, three}
use Rattle.region_heap.proofs.Live.{found_live, unfound}
use Rattle.region_heap.proofs.RowChanges.{rows_changed}
use Rattle.region_heap.proofs.Slots.{object_count}
use Rattle.region_heap.proofs.Sums.{live_changed, used_changed}

-- a row is that of an open area
pub row_open : (m : Contents) (row : AreaRow) → IsRow m row → is_open_area m row.area ≡ true
row_open m row r = ap (λ (z : Option MemoryArea). holds z (λ x. x.is_open)) r.is ∙ r.is_open

module _ (ws us : Words) (areas : List AreaRow) (objects : List ObjectRow) (m : Past) (r : ℕ) (change : Object → Object)
    (kept : IsKept ws areas objects m) (area : (o : Object) → (change o).area ≡ o.area)
    (count : (o : Object) → IsLive m.contents r o → length (change o).slots ≡ length o.slots)
    (done : IsChangedIn ws objects r change us) where
  abbrev after : Past
  after = record m { contents = changing_object m.contents r change }

  abbrev all : List Object
  all = m.contents.objects

  abbrev test : ℕ → Bool
  test = is_open_area m.contents

  -- what is live is the changed object, or was live
  data Was (p : ℕ) (o : Object) : Type 0 where
    beside : (p ≡ r → ⊥) → IsLive m.contents p o → Was p o
    itself : (x : Object) → p ≡ r → IsLive m.contents r x → o ≡ change x → Was p o

  was : (p : ℕ) (o : Object) → IsLive after.contents p o → Was p o
  was p o l = go (same_or p r)
    where
      go : (p ≡ r) ⊎ (p ≡ r → ⊥) → Was p o
      go (inl e) =
          let h : (x : Object) × (slice_get all r ≡ Some x) × (o ≡ change x) =
          changed_was change r all o (ap (λ (k : ℕ). slice_get (changed change r all) k) (sym e) ∙ l.found) in
          let same : o.area ≡ h.0.area = ap (λ (x : Object). x.area) h.2 ∙ area h.0 in
          itself h.0 e (record { found = h.1; is_open = ap test (sym same) ∙ l.is_open }) h.2
      go (inr d) =
          beside d (record { found = sym (changed_other change r p all d) ∙ l.found; is_open = l.is_open })

  record IsLike (p : ℕ) (o : Object) : Type 0 where
    before : Object
    live : IsLive m.contents p before
    slots : length o.slots ≡ length before.slots
    same_area : o.area ≡ before.area

  like : (p : ℕ) (o : Object) → Was p o → IsLike p o
  like p o (beside d l) = record { before = o; live = l; slots = refl; same_area = refl }
  like p o (itself x e l c) =
      record {
        before = x;
        live = subst (λ (k : ℕ). IsLive m.contents k x) (sym e) l;
        slots = ap (λ (y : Object). length y.slots) c ∙ count x l;
        same_area = ap (λ (y : Object). y.area) c ∙ area x;
      }

  long : IsChangedIn ws objects r change us → length us ≡ length ws
  long (there first h c) = c.within.long
  long (nowhere h e) = ap (λ (xs : Words). length xs) e

  -- the words of another object stay
  stay : (p : ℕ) (o : Object) → (p ≡ r → ⊥) → IsLive m.contents p o → IsChangedIn ws objects r change us →
      LiesAt us (slice_index m.firsts p) o
  stay p o d l (nowhere h e) =
      subst (λ (xs : Words). LiesAt xs (slice_index m.firsts p) o) (sym e) (kept.laid p o l)
  stay p o d l (there first h c) =
      lies_still ws us (slice_index m.firsts p) o (kept.laid p o l) c.within.long
      (λ j low high. c.within.same j (outside j low high (apart (three p r))))
    where
      f : (x : Object) × IsLive m.contents r x × (slice_index m.firsts r ≡ first)
      f = found_live ws areas objects m kept r first h

      there_is : LiesAt ws first f.0
      there_is = subst (λ (k : ℕ). LiesAt ws k f.0) f.2 (kept.laid r f.0 f.1)

      slots : length f.0.slots ≡ count_in (word ws (first + 1))
      slots = ap (λ (x : Object). length x.slots) (sym there_is.is) ∙ object_count ws first

      apart : (p < r) ⊎ ((p ≡ r) ⊎ (r < p)) →
          (slice_index m.firsts p + 2 + length o.slots ≤ first) ⊎ (first + 2 + length f.0.slots ≤ slice_index
          m.firsts p)
      apart (inl lt) = turn (kept.apart p r o f.0 lt l f.1)
        where
          turn : (slice_index m.firsts p + 2 + length o.slots ≤ slice_index m.firsts r)
              ⊎ (slice_index m.firsts r + 2 + length f.0.slots ≤ slice_index m.firsts p) →
              (slice_index m.firsts p + 2 + length o.slots ≤ first)
              ⊎ (first + 2 + length f.0.slots ≤ slice_index m.firsts p)
          turn (inl z) = inl (omega (arith, z, f.2))
          turn (inr z) = inr (omega (arith, z, f.2))
      apart (inr (inl e)) = absurd (d e)
      apart (inr (inr lt)) = turn (kept.apart r p f.0 o lt f.1 l)
        where
          turn : (slice_index m.firsts r + 2 + length f.0.slots ≤ slice_index m.firsts p)
              ⊎ (slice_index m.firsts p + 2 + length o.slots ≤ slice_index m.firsts r) →
              (slice_index m.firsts p + 2 + length o.slots ≤ first)
              ⊎ (first + 2 + length f.0.slots ≤ slice_index m.firsts p)
          turn (inl z) = inr (omega (arith, z, f.2))
          turn (inr z) = inl (omega (arith, z, f.2))

      outside : (j : ℕ) → slice_index m.firsts p ≤ j → j < slice_index m.firsts p + 2 + length o.slots →
          (slice_index m.firsts p + 2 + length o.slots ≤ first) ⊎ (first + 2 + length f.0.slots ≤ slice_index
          m.firsts p) →
          (j < first) ⊎ (first + 2 + count_in (word ws (first + 1)) ≤ j)
      outside j low high (inl z) = inl (omega (arith, high, z))
      outside j low high (inr z) = inr (omega (arith, low, z, slots))

  -- the changed object lies where it lay
  lies_there : (x : Object) → IsLive m.contents r x → IsChangedIn ws objects r change us →
      LiesAt us (slice_index m.firsts r) (change x)
  lies_there x l (nowhere h e) = absurd (unfound ws areas objects m kept r h x l)
  lies_there x l (there first h c) =
      let f : (y : Object) × IsLive m.contents r y × (slice_index m.firsts r ≡ first) =
      found_live ws areas objects m kept r first h in
      let at : LiesAt ws first x = subst (λ (k : ℕ). LiesAt ws k x) f.2 (kept.laid r x l) in
      subst (λ (k : ℕ). LiesAt us k (change x)) (sym f.2) (lies_changed ws us first x change at (count x l) c)

  laid : (p : ℕ) (o : Object) → Was p o → LiesAt us (slice_index m.firsts p) o
  laid p o (beside d l) = stay p o d l done
  laid p o (itself x e l c) =
      subst (λ (y : Object). LiesAt us (slice_index m.firsts p) y) (sym c)
      (subst (λ (k : ℕ). LiesAt us (slice_index m.firsts k) (change x)) (sym e) (lies_there x l done))

  placed : (p : ℕ) (o : Object) → IsLike p o → LiesIn areas (slice_index m.firsts p) o
  placed p o x =
      let h : LiesIn areas (slice_index m.firsts p) x.before = kept.placed p x.before x.live in
      record {
        k = h.k;
        row = h.row;
        is = h.is;
        of_area = h.of_area ∙ sym x.same_area;
        start = h.start;
        mark = omega (arith, h.mark, x.slots);
      }

  apart_still : (p q : ℕ) (x y : Object) → p < q → IsLike p x → IsLike q y →
      (slice_index m.firsts p + 2 + length x.slots ≤ slice_index m.firsts q)
      ⊎ (slice_index m.firsts q + 2 + length y.slots ≤ slice_index m.firsts p)
  apart_still p q x y lt a b = turn (kept.apart p q a.before b.before lt a.live b.live)
    where
      turn : (slice_index m.firsts p + 2 + length a.before.slots ≤ slice_index m.firsts q)
          ⊎ (slice_index m.firsts q + 2 + length b.before.slots ≤ slice_index m.firsts p) →
          (slice_index m.firsts p + 2 + length x.slots ≤ slice_index m.firsts q)
          ⊎ (slice_index m.firsts q + 2 + length y.slots ≤ slice_index m.firsts p)
      turn (inl z) = inl (omega (arith, z, a.slots))
      turn (inr z) = inr (omega (arith, z, b.slots))

  inside : (p : ℕ) (o : Object) → slice_get (changed change r all) p ≡ Some o → o.area < length m.contents.areas
  inside p o e = go (same_or p r)
    where
      go : (p ≡ r) ⊎ (p ≡ r → ⊥) → o.area < length m.contents.areas
      go (inl s) =
          let h : (x : Object) × (slice_get all r ≡ Some x) × (o ≡ change x) =
          changed_was change r all o (ap (λ (k : ℕ). slice_get (changed change r all) k) (sym s) ∙ e) in
          let same : o.area ≡ h.0.area = ap (λ (x : Object). x.area) h.2 ∙ area h.0 in
          let there : h.0.area < length m.contents.areas = kept.inside r h.0 h.1 in
          omega (arith, same, there)
      go (inr d) = kept.inside p o (sym (changed_other change r p all d) ∙ e)

  bytes : (o : Object) → slice_get all r ≡ Some o → test o.area ≡ true → object_bytes (change o) ≡ object_bytes o
  bytes o e t = ap (λ (n : ℕ). size_with_slots n) (count o (record { found = e; is_open = t }))

  row_still : (row : AreaRow) → IsRow m.contents row → IsRow after.contents row
  row_still row h =
      let used : used_bytes (changed change r all) row.area ≡ used_bytes all row.area =
      used_changed all test r change area bytes row.area (row_open m.contents row h) in
      record {
        area = h.area;
        is = h.is;
        is_open = h.is_open;
        scope = h.scope;
        bytes = h.bytes;
        used = omega (arith, h.used, used);
        room = h.room;
        words = h.words;
      }

  pub changed_kept : IsKept us areas objects after
  changed_kept =
      record {
        firsts = kept.firsts ∙ sym (changed_long change r all);
        laid = λ p o l. laid p o (was p o l);
        placed = λ p o l. placed p o (like p o (was p o l));
        apart = λ p q x y lt lx ly. apart_still p q x y lt (like p x (was p x lx)) (like q y (was q y ly));
        listed = kept.listed ∙ sym (rows_changed test all m.firsts r change area);
        inside = inside;
        rows = λ k row e. row_still row (kept.rows k row e);
        has_row = kept.has_row;
        in_order = kept.in_order;
        stacked = kept.stacked;
        based = kept.based;
        end = omega (arith, kept.end, long done);
        reserved = kept.reserved;
        open_rows = kept.open_rows;
        live = live_changed all test r change area bytes ∙ kept.live;
      }

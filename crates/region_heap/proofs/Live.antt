-- Live objects: where they lie, and how they are found.
use Rattle.std.specs.Prelude.{Option, Some, None, slice_get, slice_index, if◌then◌else◌}
use Rattle.std.proofs.Common.{◌≡◌, ◌∙◌, Bool, true, false, ℕ, ◌<◌, ◌≤◌, List, length, refl, ap, sym, subst, arith}
use Rattle.std.proofs.lemmas.Option.{get_or_from_slice_get}
use Rattle.scj_rules.specs.Words.{holds}
use Rattle.scj_model.specs.State.{MemoryArea, Object}
use Rattle.region_heap.specs.declared.rows.AreaRow.{AreaRow}
use Rattle.region_heap.specs.declared.rows.ObjectRow.{ObjectRow}
use Rattle.region_heap.specs.Contents.{Contents, is_open_area, live_in, live_object}
use Rattle.region_heap.specs.History.{Past}
use Rattle.region_heap.specs.Kept.{IsKept, IsLive, LiesAt}
use Rattle.region_heap.specs.Rows.{AreInOrder, IsListed, IsNotListed}
use Rattle.region_heap.specs.Words.{Words, object_in}
use Rattle.region_heap.specs.Written.{AreObjects, IsObject}
use Rattle.region_heap.proofs.Changing.{object_lies}
use Rattle.region_heap.proofs.Lists.{get_within}
use Rattle.region_heap.proofs.ObjectRows.{OfRow, RowOf, row_is, row_of_object, rows_in_order}

pub live_is : (m : Contents) (r : ℕ) (o : Object) → IsLive m r o → live_object m r ≡ Some o
live_is m r o l = ap (live_in m) l.found ∙ ap (λ (b : Bool). if b then Some o else None) l.is_open

pub not_live : (m : Contents) (r : ℕ) → ((o : Object) → IsLive m r o → ⊥) → live_object m r ≡ None
not_live m r none = go (slice_get m.objects r) refl
  where
    open_or : (o : Object) → slice_get m.objects r ≡ Some o → (b : Bool) → is_open_area m o.area ≡ b →
        (if b then Some o else None) ≡ None
    open_or o e true t = absurd (none o (record { found = e; is_open = t }))
    open_or o e false t = refl

    go : (x : Option Object) → slice_get m.objects r ≡ x → live_in m x ≡ None
    go None e = refl
    go (Some o) e = open_or o e (is_open_area m o.area) refl

-- what is open is there
pub open_within : (m : Contents) (a : ℕ) → is_open_area m a ≡ true → a < length m.areas
open_within m a t = go (slice_get m.areas a) refl
  where
    go : (x : Option MemoryArea) → slice_get m.areas a ≡ x → a < length m.areas
    go None e =
        let h : is_open_area m a ≡ false = ap (λ (z : Option MemoryArea). holds z (λ x. x.is_open)) e in
        absurd (cc)
    go (Some x) e = get_within m.areas a x e

module _ (ws : Words) (areas : List AreaRow) (objects : List ObjectRow) (m : Past) (kept : IsKept ws areas objects m)
  where
    abbrev test : ℕ → Bool
    test = is_open_area m.contents

    pub in_order : AreInOrder objects
    in_order =
        subst (λ (xs : List ObjectRow). AreInOrder xs) (sym kept.listed) (rows_in_order test 0 m.contents.objects
        m.firsts)

    -- a row is that of a live object
    pub row_live : (i : ℕ) (x : ObjectRow) → slice_get objects i ≡ Some x →
        (o : Object) × IsLive m.contents x.number o × (slice_index m.firsts x.number ≡ x.first)
    row_live i x e =
        let r : OfRow test 0 m.contents.objects m.firsts x =
        row_is test 0 m.contents.objects m.firsts i x (ap (λ (xs : List ObjectRow). slice_get xs i) (sym kept.listed) ∙
        e) in
        let at : r.index ≡ x.number = omega (arith, r.number) in (
          r.object,
          subst (λ (p : ℕ). IsLive m.contents p r.object) at (record { found = r.found; is_open = r.passes }),
          subst (λ (p : ℕ). slice_index m.firsts p ≡ x.first) at
              (get_or_from_slice_get m.firsts r.index x.first 0 r.first_is),
        )

    -- a live object has a row
    pub live_listed : (r : ℕ) (o : Object) → IsLive m.contents r o → IsListed objects r (slice_index m.firsts r)
    live_listed r o l =
        let row : RowOf test 0 m.contents.objects m.firsts r =
        row_of_object test 0 m.contents.objects m.firsts r o kept.firsts l.found l.is_open in
        record {
          index = row.i;
          row = row.row;
          is = ap (λ (xs : List ObjectRow). slice_get xs row.i) kept.listed ∙ row.is;
          number = omega (arith, row.number);
          first_is = row.first_is;
        }

    -- what is found is a live object, and what isn't found is none
    pub found_live : (r first : ℕ) → IsListed objects r first →
        (o : Object) × IsLive m.contents r o × (slice_index m.firsts r ≡ first)
    found_live r first h =
        let x : (o : Object) × IsLive m.contents h.row.number o × (slice_index m.firsts h.row.number ≡ h.row.first) =
        row_live h.index h.row h.is in (
          x.0,
          subst (λ (p : ℕ). IsLive m.contents p x.0) h.number x.1,
          subst (λ (p : ℕ). slice_index m.firsts p ≡ h.row.first) h.number x.2 ∙ h.first_is,
        )

    pub found_is : (r first : ℕ) → IsListed objects r first → Some (object_in ws first) ≡ live_object m.contents r
    found_is r first h =
        let f : (o : Object) × IsLive m.contents r o × (slice_index m.firsts r ≡ first) = found_live r first h in
        let lies : LiesAt ws first f.0 = subst (λ (p : ℕ). LiesAt ws p f.0) f.2 (kept.laid r f.0 f.1) in
        ap Some lies.is ∙ sym (live_is m.contents r f.0 f.1)

    pub unfound : (r : ℕ) → IsNotListed objects r → (o : Object) → IsLive m.contents r o → ⊥
    unfound r none o l =
        let h : IsListed objects r (slice_index m.firsts r) = live_listed r o l in
        none h.index h.row h.is h.number

    pub unfound_is : (r : ℕ) → IsNotListed objects r → None ≡ live_object m.contents r
    unfound_is r none = sym (not_live m.contents r (unfound r none))

    -- each row's object has its words
    pub are_objects : length ws ≤ 8388608 → AreObjects ws objects
    are_objects most i x e =
        let r : (o : Object) × IsLive m.contents x.number o × (slice_index m.firsts x.number ≡ x.first) =
        row_live i x e in
        object_lies ws x.first r.0 (subst (λ (p : ℕ). LiesAt ws p r.0) r.2 (kept.laid x.number r.0 r.1)) most

    pub object_at_first : (r first : ℕ) → IsListed objects r first → length ws ≤ 8388608 → IsObject ws first
    object_at_first r first h most = subst (λ (p : ℕ). IsObject ws p) h.first_is (are_objects most h.index h.row h.is)

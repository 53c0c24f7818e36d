-- The rows of areas are those of the open areas, in the order in which they were opened.
use Rattle.std.specs.Prelude.{Option, Some, None, map, slice_get, if◌then◌else◌}
use Rattle.std.proofs.Common.{◌≡◌, ◌∙◌, Bool, true, false, ℕ, zero, suc, ◌+◌, ◌<◌, List, [], ◌∷◌, refl, ap, sym, subst, arith}
use Rattle.scj_model.specs.State.{MemoryArea, Object}
use Rattle.region_heap.specs.declared.open_areas.Area.{Area}
use Rattle.region_heap.specs.declared.rows.AreaRow.{AreaRow}
use Rattle.region_heap.specs.History.{Past}
use Rattle.region_heap.specs.Kept.{IsKept, IsRow, row_bytes, used_bytes}
use Rattle.region_heap.specs.OpenAreas.{open_areas}
use Rattle.region_heap.specs.Rows.{AreInOpeningOrder, HasRow}
use Rattle.region_heap.specs.Words.{Words}
use Rattle.region_heap.specs.declared.rows.ObjectRow.{ObjectRow}
use Rattle.scj_rules.specs.Words.{holds}

module _ (objects : List Object) where
  abbrev pub shown : AreaRow → Area
  shown row = record { name = row.scope; bytes = row.bytes; used = row_bytes row }

  -- the row is that of an open area of the list
  record Shows (n : ℕ) (xs : List MemoryArea) (row : AreaRow) : Type 0 where
    i : ℕ
    number : row.area ≡ n + i
    found : MemoryArea
    is : slice_get xs i ≡ Some found
    is_open : found.is_open ≡ true
    scope : found.scope ≡ row.scope
    bytes : found.bytes ≡ row.bytes
    used : row_bytes row ≡ used_bytes objects row.area

  record AreRows (n : ℕ) (xs : List MemoryArea) (rows : List AreaRow) : Type 0 where
    each : (k : ℕ) (row : AreaRow) → slice_get rows k ≡ Some row → Shows n xs row
    all : (i : ℕ) (x : MemoryArea) → slice_get xs i ≡ Some x → x.is_open ≡ true → HasRow rows (n + i)
    order : AreInOpeningOrder rows

  -- a row behind the first area
  behind : (n : ℕ) (x : MemoryArea) (xs : List MemoryArea) (row : AreaRow) → (s : Shows n (x ∷ xs) row) →
      (s.i ≡ 0 → ⊥) → Shows (n + 1) xs row
  behind n x xs row s d = go s.i refl
    where
      go : (i : ℕ) → s.i ≡ i → Shows (n + 1) xs row
      go zero e = absurd (d e)
      go (suc i) e =
          record {
            i = i;
            number = omega (arith, s.number, e);
            found = s.found;
            is = ap (λ (k : ℕ). slice_get (x ∷ xs) k) (sym e) ∙ s.is;
            is_open = s.is_open;
            scope = s.scope;
            bytes = s.bytes;
            used = s.used;
          }

  -- the row of the first area
  at_first : (n : ℕ) (x : MemoryArea) (xs : List MemoryArea) (row : AreaRow) → (s : Shows n (x ∷ xs) row) →
      s.i ≡ 0 → s.found ≡ x
  at_first n x xs row s e =
      let here : slice_get (x ∷ xs) 0 ≡ Some s.found = ap (λ (k : ℕ). slice_get (x ∷ xs) k) (sym e) ∙ s.is in
      cc

  -- the first area isn't open
  past_closed : (n : ℕ) (x : MemoryArea) (xs : List MemoryArea) (rows : List AreaRow) → x.is_open ≡ false →
      AreRows n (x ∷ xs) rows → AreRows (n + 1) xs rows
  past_closed n x xs rows e a =
      record {
        each = λ k row r.
            let s : Shows n (x ∷ xs) row = a.each k row r in
            behind n x xs row s (λ z.
            let same : s.found ≡ x = at_first n x xs row s z in
            let opened : x.is_open ≡ true = ap (λ (y : MemoryArea). y.is_open) (sym same) ∙ s.is_open in
            absurd (cc));
        all = λ i y g t. subst (λ (k : ℕ). HasRow rows k) (next i) (a.all (suc i) y g t);
        order = a.order;
      }
    where
      next : (i : ℕ) → n + suc i ≡ n + 1 + i
      next i = omega arith

  -- the first area is open, so the first row is its own
  module _ (n : ℕ) (x : MemoryArea) (xs : List MemoryArea) (r : AreaRow) (rows : List AreaRow)
      (t : x.is_open ≡ true) (a : AreRows n (x ∷ xs) (r ∷ rows)) where
    s : Shows n (x ∷ xs) r
    s = a.each 0 r refl

    number : r.area ≡ n
    number = go h.k refl
      where
        h : HasRow (r ∷ rows) (n + 0)
        h = a.all 0 x refl t

        go : (k : ℕ) → h.k ≡ k → r.area ≡ n
        go zero e =
            let here : slice_get (r ∷ rows) 0 ≡ Some h.is_row.row =
            ap (λ (k : ℕ). slice_get (r ∷ rows) k) (sym e) ∙ h.is_row.is in
            let same : r ≡ h.is_row.row = cc in
            omega (arith, ap (λ (z : AreaRow). z.area) same, h.is_row.of_area)
        go (suc k) e =
            let less : r.area < h.is_row.row.area =
            a.order 0 h.k r h.is_row.row (omega (arith, e)) refl h.is_row.is in
            absurd (omega (arith, less, h.is_row.of_area, s.number))

    first : s.i ≡ 0
    first = omega (arith, number, s.number)

    first_is : shown r ≡ record { name = x.scope; bytes = x.bytes; used = used_bytes objects n }
    first_is =
        let same : s.found ≡ x = at_first n x xs r s first in
        let scope : r.scope ≡ x.scope = sym s.scope ∙ ap (λ (z : MemoryArea). z.scope) same in
        let bytes : r.bytes ≡ x.bytes = sym s.bytes ∙ ap (λ (z : MemoryArea). z.bytes) same in
        let used : row_bytes r ≡ used_bytes objects n = s.used ∙ ap (λ (z : ℕ). used_bytes objects z) number in
        rw (scope, bytes, used) refl

    later : AreRows (n + 1) xs rows
    later =
        record {
          each = λ k row g.
              let z : Shows n (x ∷ xs) row = a.each (suc k) row g in
              let less : r.area < row.area = a.order 0 (suc k) r row (omega arith) refl g in
              behind n x xs row z (λ e. omega (arith, e, z.number, number, less));
          all = λ i y g o. has_row i (a.all (suc i) y g o);
          order = λ i j y z h e f. a.order (suc i) (suc j) y z (omega (arith, h)) e f;
        }
      where
        has_row : (i : ℕ) → HasRow (r ∷ rows) (n + suc i) → HasRow rows (n + 1 + i)
        has_row i h = go h.k refl
          where
            go : (k : ℕ) → h.k ≡ k → HasRow rows (n + 1 + i)
            go zero e =
                let here : slice_get (r ∷ rows) 0 ≡ Some h.is_row.row =
                ap (λ (k : ℕ). slice_get (r ∷ rows) k) (sym e) ∙ h.is_row.is in
                let same : r ≡ h.is_row.row = cc in
                absurd (omega (arith, ap (λ (z : AreaRow). z.area) same, h.is_row.of_area, number))
            go (suc k) e =
                record {
                  k = k;
                  is_row = record {
                    row = h.is_row.row;
                    is = ap (λ (z : ℕ). slice_get (r ∷ rows) z) (sym e) ∙ h.is_row.is;
                    of_area = omega (arith, h.is_row.of_area);
                  };
                }

  -- the open areas from the first on, by whether it is open
  abbrev first_and : ℕ → MemoryArea → List MemoryArea → Bool → List Area
  first_and n x xs b =
      if b
      then record { name = x.scope; bytes = x.bytes; used = used_bytes objects n } ∷ open_areas objects (n + 1) xs
      else open_areas objects (n + 1) xs

  listed : (n : ℕ) (xs : List MemoryArea) (rows : List AreaRow) → AreRows n xs rows →
      map shown rows ≡ open_areas objects n xs
  unfolding open_areas
  listed n [] [] a = refl
  listed n [] (r ∷ rows) a =
      let s : Shows n [] r = a.each 0 r refl in
      let none : None ≡ Some s.found = s.is in
      absurd (cc)
  listed n (x ∷ xs) rows a = go x.is_open refl rows a (λ ys b. listed (n + 1) xs ys b)
    where
      go : (b : Bool) → x.is_open ≡ b → (rows : List AreaRow) → AreRows n (x ∷ xs) rows →
          ((ys : List AreaRow) → AreRows (n + 1) xs ys → map shown ys ≡ open_areas objects (n + 1) xs) →
          map shown rows ≡ first_and n x xs x.is_open
      go false e rows a more = more rows (past_closed n x xs rows e a) ∙ sym (ap (first_and n x xs) e)
      go true e [] a more =
          let h : HasRow [] (n + 0) = a.all 0 x refl e in
          let none : None ≡ Some h.is_row.row = h.is_row.is in
          absurd (cc)
      go true e (r ∷ rows) a more =
          ap (λ (ys : List Area). shown r ∷ ys) (more rows (later n x xs r rows e a))
          ∙ (ap (λ (y : Area). y ∷ open_areas objects (n + 1) xs) (first_is n x xs r rows e a) ∙ sym (ap (first_and n x xs) e))

module _ (ws : Words) (areas : List AreaRow) (objects : List ObjectRow) (m : Past) (kept : IsKept ws areas objects m)
  where
    pub areas_are : map (shown m.contents.objects) areas ≡ open_areas m.contents.objects 0 m.contents.areas
    areas_are =
        listed m.contents.objects 0 m.contents.areas areas
        (record {
          each = λ k row e.
              let r : IsRow m.contents row = kept.rows k row e in
              record {
                i = row.area;
                number = omega arith;
                found = r.area;
                is = r.is;
                is_open = r.is_open;
                scope = r.scope;
                bytes = r.bytes;
                used = omega (arith, r.used);
              };
          all = λ i x e t.
              let at : i ≡ 0 + i = omega arith in
              subst (λ (k : ℕ). HasRow areas k) at
              (kept.has_row i (ap (λ (o : Option MemoryArea). holds o (λ y. y.is_open)) e ∙ t));
          order = kept.in_order;
        })

    -- a place
    pub area_is : (i : ℕ) (row : AreaRow) → slice_get areas i ≡ Some row →
        slice_get (open_areas m.contents.objects 0 m.contents.areas) i ≡ Some (shown m.contents.objects row)
    area_is i row e =
        ap (λ (xs : List Area). slice_get xs i) (sym areas_are) ∙ get_map areas i e
      where
        get_map : (rows : List AreaRow) (k : ℕ) → slice_get rows k ≡ Some row →
            slice_get (map (shown m.contents.objects) rows) k ≡ Some (shown m.contents.objects row)
        get_map [] k e = absurd (cc)
        get_map (r ∷ rows) zero e =
            let same : r ≡ row = cc in
            ap (λ (z : AreaRow). Some (shown m.contents.objects z)) same
        get_map (r ∷ rows) (suc k) e = get_map rows k e

    pub no_area : (i : ℕ) → slice_get areas i ≡ None →
        slice_get (open_areas m.contents.objects 0 m.contents.areas) i ≡ None
    no_area i e = ap (λ (xs : List Area). slice_get xs i) (sym areas_are) ∙ get_none areas i e
      where
        get_none : (rows : List AreaRow) (k : ℕ) → slice_get rows k ≡ None →
            slice_get (map (shown m.contents.objects) rows) k ≡ None
        get_none [] k e = refl
        get_none (r ∷ rows) zero e = absurd (cc)
        get_none (r ∷ rows) (suc k) e = get_none rows k e

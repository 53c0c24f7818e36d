-- The rows of the objects of open areas, as the areas and objects of the run make them.
use Rattle.std.specs.Prelude.{Some, None, slice_get, slice_index, if◌then◌else◌}
use Rattle.std.proofs.Common.{◌≡◌, ◌∙◌, Bool, true, false, ℕ, zero, suc, ◌+◌, ◌<◌, List, [], ◌∷◌, ◌++◌, length, refl, ap, sym, arith}
use Rattle.scj_model.specs.State.{Object}
use Rattle.region_heap.specs.declared.rows.ObjectRow.{ObjectRow}
use Rattle.region_heap.specs.Rows.{AreInOrder, object_rows}

module _ (test : ℕ → Bool) where
  pub no_objects : (n : ℕ) (fs : List ℕ) → object_rows test n [] fs ≡ []
  unfolding object_rows
  no_objects n fs = refl

  pub no_firsts : (n : ℕ) (o : Object) (os : List Object) → object_rows test n (o ∷ os) [] ≡ []
  unfolding object_rows
  no_firsts n o os = refl

  pub one_row : (n : ℕ) (o : Object) (os : List Object) (f : ℕ) (fs : List ℕ) → test o.area ≡ true →
      object_rows test n (o ∷ os) (f ∷ fs) ≡ record { number = n; first = f } ∷ object_rows test (n + 1) os fs
  unfolding object_rows
  one_row n o os f fs t =
      ap (λ (b : Bool). if b then record { number = n; first = f } ∷ object_rows test (n + 1) os fs
      else object_rows test (n + 1) os fs) t

  pub no_row : (n : ℕ) (o : Object) (os : List Object) (f : ℕ) (fs : List ℕ) → test o.area ≡ false →
      object_rows test n (o ∷ os) (f ∷ fs) ≡ object_rows test (n + 1) os fs
  unfolding object_rows
  no_row n o os f fs t =
      ap (λ (b : Bool). if b then record { number = n; first = f } ∷ object_rows test (n + 1) os fs
      else object_rows test (n + 1) os fs) t

  -- ---- what a row is

  pub record OfRow (n : ℕ) (os : List Object) (fs : List ℕ) (x : ObjectRow) : Type 0 where
    pub index : ℕ
    pub object : Object
    pub number : x.number ≡ n + index
    pub found : slice_get os index ≡ Some object
    pub passes : test object.area ≡ true
    pub first_is : slice_get fs index ≡ Some x.first

  deeper : (n : ℕ) (o : Object) (os : List Object) (f : ℕ) (fs : List ℕ) (x : ObjectRow) → OfRow (n + 1) os fs x →
      OfRow n (o ∷ os) (f ∷ fs) x
  deeper n o os f fs x r =
      record {
        index = suc r.index;
        object = r.object;
        number = omega (arith, r.number);
        found = r.found;
        passes = r.passes;
        first_is = r.first_is;
      }

  row_step : (n : ℕ) (o : Object) (os : List Object) (f : ℕ) (fs : List ℕ) (x : ObjectRow) →
      ((i : ℕ) → slice_get (object_rows test (n + 1) os fs) i ≡ Some x → OfRow (n + 1) os fs x) →
      (i : ℕ) → slice_get (object_rows test n (o ∷ os) (f ∷ fs)) i ≡ Some x → OfRow n (o ∷ os) (f ∷ fs) x
  row_step n o os f fs x ih i e = go (test o.area) refl
    where
      here : test o.area ≡ true → (k : ℕ) →
          slice_get (record { number = n; first = f } ∷ object_rows test (n + 1) os fs) k ≡ Some x →
          OfRow n (o ∷ os) (f ∷ fs) x
      here t zero h =
          let row : ObjectRow = record { number = n; first = f } in
          let same : row ≡ x = cc in
          let number : n ≡ x.number = ap (λ (y : ObjectRow). y.number) same in
          record {
            index = 0;
            object = o;
            number = omega (arith, number);
            found = refl;
            passes = t;
            first_is = ap (λ (y : ObjectRow). Some y.first) same;
          }
      here t (suc k) h = deeper n o os f fs x (ih k h)

      go : (b : Bool) → test o.area ≡ b → OfRow n (o ∷ os) (f ∷ fs) x
      go true t = here t i (ap (λ (xs : List ObjectRow). slice_get xs i) (sym (one_row n o os f fs t)) ∙ e)
      go false t =
          deeper n o os f fs x (ih i (ap (λ (xs : List ObjectRow). slice_get xs i) (sym (no_row n o os f fs t)) ∙ e))

  pub row_is : (n : ℕ) (os : List Object) (fs : List ℕ) (i : ℕ) (x : ObjectRow) →
      slice_get (object_rows test n os fs) i ≡ Some x → OfRow n os fs x
  row_is n [] fs i x e =
      let none : slice_get (object_rows test n [] fs) i ≡ None =
      ap (λ (xs : List ObjectRow). slice_get xs i) (no_objects n fs) in
      absurd (cc)
  row_is n (o ∷ os) [] i x e =
      let none : slice_get (object_rows test n (o ∷ os) []) i ≡ None =
      ap (λ (xs : List ObjectRow). slice_get xs i) (no_firsts n o os) in
      absurd (cc)
  row_is n (o ∷ os) (f ∷ fs) i x e = row_step n o os f fs x (λ j h. row_is (n + 1) os fs j x h) i e

  -- ---- the row of an object

  pub record RowOf (n : ℕ) (os : List Object) (fs : List ℕ) (p : ℕ) : Type 0 where
    pub i : ℕ
    pub row : ObjectRow
    pub is : slice_get (object_rows test n os fs) i ≡ Some row
    pub number : row.number ≡ n + p
    pub first_is : row.first ≡ slice_index fs p

  later : (n : ℕ) (o : Object) (os : List Object) (f : ℕ) (fs : List ℕ) (p : ℕ) → RowOf (n + 1) os fs p →
      RowOf n (o ∷ os) (f ∷ fs) (suc p)
  later n o os f fs p r = go (test o.area) refl
    where
      go : (b : Bool) → test o.area ≡ b → RowOf n (o ∷ os) (f ∷ fs) (suc p)
      go true t =
          record {
            i = suc r.i;
            row = r.row;
            is = ap (λ (xs : List ObjectRow). slice_get xs (suc r.i)) (one_row n o os f fs t) ∙ r.is;
            number = omega (arith, r.number);
            first_is = r.first_is;
          }
      go false t =
          record {
            i = r.i;
            row = r.row;
            is = ap (λ (xs : List ObjectRow). slice_get xs r.i) (no_row n o os f fs t) ∙ r.is;
            number = omega (arith, r.number);
            first_is = r.first_is;
          }

  pub row_of_object : (n : ℕ) (os : List Object) (fs : List ℕ) (p : ℕ) (o : Object) → length fs ≡ length os →
      slice_get os p ≡ Some o → test o.area ≡ true → RowOf n os fs p
  row_of_object n [] fs p o l e t = absurd (cc)
  row_of_object n (y ∷ os) [] p o l e t = absurd (omega (arith, l))
  row_of_object n (y ∷ os) (f ∷ fs) zero o l e t =
      let same : y ≡ o = cc in
      let passes : test y.area ≡ true = ap (λ (x : Object). test x.area) same ∙ t in
      record {
        i = 0;
        row = record { number = n; first = f };
        is = ap (λ (xs : List ObjectRow). slice_get xs 0) (one_row n y os f fs passes);
        number = omega arith;
        first_is = refl;
      }
  row_of_object n (y ∷ os) (f ∷ fs) (suc p) o l e t =
      later n y os f fs p (row_of_object (n + 1) os fs p o (omega (arith, l)) e t)

  -- ---- the rows are in the order of the numbers

  order_step : (n : ℕ) (o : Object) (os : List Object) (f : ℕ) (fs : List ℕ) →
      AreInOrder (object_rows test (n + 1) os fs) → AreInOrder (object_rows test n (o ∷ os) (f ∷ fs))
  order_step n o os f fs ih i j x y h ex ey = go (test o.area) refl
    where
      here : (k l : ℕ) → k < l →
          slice_get (record { number = n; first = f } ∷ object_rows test (n + 1) os fs) k ≡ Some x →
          slice_get (record { number = n; first = f } ∷ object_rows test (n + 1) os fs) l ≡ Some y →
          x.number < y.number
      here k zero lt a b = absurd (omega (arith, lt))
      here zero (suc l) lt a b =
          let row : ObjectRow = record { number = n; first = f } in
          let same : row ≡ x = cc in
          let number : n ≡ x.number = ap (λ (z : ObjectRow). z.number) same in
          let r : OfRow (n + 1) os fs y = row_is (n + 1) os fs l y b in
          omega (arith, number, r.number)
      here (suc k) (suc l) lt a b = ih k l x y (omega (arith, lt)) a b

      go : (b : Bool) → test o.area ≡ b → x.number < y.number
      go true t =
          here i j h (ap (λ (xs : List ObjectRow). slice_get xs i) (sym (one_row n o os f fs t)) ∙ ex)
          (ap (λ (xs : List ObjectRow). slice_get xs j) (sym (one_row n o os f fs t)) ∙ ey)
      go false t =
          ih i j x y h (ap (λ (xs : List ObjectRow). slice_get xs i) (sym (no_row n o os f fs t)) ∙ ex)
          (ap (λ (xs : List ObjectRow). slice_get xs j) (sym (no_row n o os f fs t)) ∙ ey)

  pub rows_in_order : (n : ℕ) (os : List Object) (fs : List ℕ) → AreInOrder (object_rows test n os fs)
  rows_in_order n [] fs i j x y h ex ey =
      let none : slice_get (object_rows test n [] fs) i ≡ None =
      ap (λ (xs : List ObjectRow). slice_get xs i) (no_objects n fs) in
      absurd (cc)
  rows_in_order n (o ∷ os) [] i j x y h ex ey =
      let none : slice_get (object_rows test n (o ∷ os) []) i ≡ None =
      ap (λ (xs : List ObjectRow). slice_get xs i) (no_firsts n o os) in
      absurd (cc)
  rows_in_order n (o ∷ os) (f ∷ fs) i j x y h ex ey =
      order_step n o os f fs (rows_in_order (n + 1) os fs) i j x y h ex ey

  -- ---- one more object

  pub row_more : (n : ℕ) (os : List Object) (fs : List ℕ) (o : Object) (f : ℕ) → length fs ≡ length os →
      test o.area ≡ true →
      object_rows test n (os ++ o ∷ []) (fs ++ f ∷ [])
      ≡ object_rows test n os fs ++ record { number = n + length os; first = f } ∷ []
  row_more n [] [] o f l t =
      let at : n ≡ n + 0 = omega arith in
      one_row n o [] f [] t
      ∙ (ap (λ (xs : List ObjectRow). record { number = n; first = f } ∷ xs) (no_objects (n + 1) [])
      ∙ (ap (λ (k : ℕ). record { number = k; first = f } ∷ []) at
      ∙ ap (λ (xs : List ObjectRow). xs ++ record { number = n + 0; first = f } ∷ []) (sym (no_objects n []))))
  row_more n [] (g ∷ fs) o f l t = absurd (omega (arith, l))
  row_more n (y ∷ os) [] o f l t = absurd (omega (arith, l))
  row_more n (y ∷ os) (g ∷ fs) o f l t = more_step (test y.area) refl (row_more (n + 1) os fs o f (omega (arith, l)) t)
    where
      at : n + 1 + length os ≡ n + suc (length os)
      at = omega arith

      more_step : (b : Bool) → test y.area ≡ b →
          object_rows test (n + 1) (os ++ o ∷ []) (fs ++ f ∷ [])
          ≡ object_rows test (n + 1) os fs ++ record { number = n + 1 + length os; first = f } ∷ [] →
          object_rows test n (y ∷ (os ++ o ∷ [])) (g ∷ (fs ++ f ∷ []))
          ≡ object_rows test n (y ∷ os) (g ∷ fs) ++ record { number = n + suc (length os); first = f } ∷ []
      more_step true b ih =
          one_row n y (os ++ o ∷ []) g (fs ++ f ∷ []) b
          ∙ (ap (λ (xs : List ObjectRow). record { number = n; first = g } ∷ xs)
          (ih ∙ ap (λ (k : ℕ). object_rows test (n + 1) os fs ++ record { number = k; first = f } ∷ []) at)
          ∙ ap (λ (xs : List ObjectRow). xs ++ record { number = n + suc (length os); first = f } ∷ []) (sym
          (one_row n y os g fs b)))
      more_step false b ih =
          no_row n y (os ++ o ∷ []) g (fs ++ f ∷ []) b
          ∙ ((ih ∙ ap (λ (k : ℕ). object_rows test (n + 1) os fs ++ record { number = k; first = f } ∷ []) at)
          ∙ ap (λ (xs : List ObjectRow). xs ++ record { number = n + suc (length os); first = f } ∷ []) (sym
          (no_row n y os g fs b)))

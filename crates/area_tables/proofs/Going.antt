-- What the areas of a scope need, when a memory goes on.
use Rattle.std.specs.Prelude.{Some, slice_get, if◌then◌else◌, ◌==◌}
use Rattle.std.proofs.Common.{◌≡◌, ◌∙◌, Bool, true, false, ℕ, suc, ◌+◌, ◌≤◌, max, List, [], ◌∷◌, ◌++◌, refl, ap, sym, arith}
use Rattle.scj_model.specs.State.{MemoryArea, Object}
use Rattle.region_heap.specs.declared.open_areas.Area.{Area}
use Rattle.region_heap.specs.Kept.{used_bytes}
use Rattle.region_heap.specs.OpenAreas.{open_areas}
use Rattle.area_needs.specs.declared.refusals.Refusal.{Refusal}
use Rattle.area_needs.specs.ScopeRows.{declared_of, opened_of, refused_of, used_of}
use Rattle.area_growth.specs.Growth.{AreasStay, StaysOrCloses}
use Rattle.area_tables.proofs.Noting.{most_used}

-- ---- areas that stay or close

module _ (scope : ℕ) where
  pub opened_stays : (xs ys : List MemoryArea) → AreasStay xs ys → opened_of scope ys ≡ opened_of scope xs
  unfolding opened_of
  opened_stays [] [] g = refl
  opened_stays [] (y ∷ ys) g = absurd g
  opened_stays (x ∷ xs) [] g = absurd g
  opened_stays (x ∷ xs) (y ∷ ys) g =
      ap (λ (n : ℕ). if n == scope then opened_of scope ys + 1 else opened_of scope ys) g.0.scope
      ∙ ap (λ (n : ℕ). if x.scope == scope then n + 1 else n) (opened_stays xs ys g.1)

  pub declared_stays : (xs ys : List MemoryArea) → AreasStay xs ys → declared_of scope ys ≡ declared_of scope xs
  unfolding declared_of
  declared_stays [] [] g = refl
  declared_stays [] (y ∷ ys) g = absurd g
  declared_stays (x ∷ xs) [] g = absurd g
  declared_stays (x ∷ xs) (y ∷ ys) g =
      ap (λ (n : ℕ). if n == scope then max y.bytes (declared_of scope ys) else declared_of scope ys) g.0.scope
      ∙ (ap (λ (n : ℕ). if x.scope == scope then max n (declared_of scope ys) else declared_of scope ys) g.0.bytes
      ∙ ap (λ (n : ℕ). if x.scope == scope then max x.bytes n else n) (declared_stays xs ys g.1))

  -- ---- one area more

  pub opened_more : (xs : List MemoryArea) (area : MemoryArea) → opened_of scope (xs ++ area ∷ [])
      ≡ (if area.scope == scope then opened_of scope xs + 1 else opened_of scope xs)
  unfolding opened_of
  opened_more [] area = refl
  opened_more (x ∷ xs) area = go (x.scope == scope) (area.scope == scope) (opened_more xs area)
    where
      go : (b c : Bool) → opened_of scope (xs ++ area ∷ [])
          ≡ (if c then opened_of scope xs + 1 else opened_of scope xs) →
          (if b then opened_of scope (xs ++ area ∷ []) + 1 else opened_of scope (xs ++ area ∷ []))
          ≡ (if c then (if b then opened_of scope xs + 1 else opened_of scope xs) + 1
          else (if b then opened_of scope xs + 1 else opened_of scope xs))
      go true true e = ap (λ (n : ℕ). n + 1) e
      go true false e = ap (λ (n : ℕ). n + 1) e
      go false true e = e
      go false false e = e

  pub declared_more : (xs : List MemoryArea) (area : MemoryArea) → declared_of scope (xs ++ area ∷ [])
      ≡ (if area.scope == scope then max (declared_of scope xs) area.bytes else declared_of scope xs)
  unfolding declared_of
  declared_more [] area = go (area.scope == scope)
    where
      go : (c : Bool) → (if c then max area.bytes 0 else 0) ≡ (if c then max 0 area.bytes else 0)
      go true = omega arith
      go false = refl
  declared_more (x ∷ xs) area = go (x.scope == scope) (area.scope == scope) (declared_more xs area)
    where
      go : (b c : Bool) → declared_of scope (xs ++ area ∷ [])
          ≡ (if c then max (declared_of scope xs) area.bytes else declared_of scope xs) →
          (if b then max x.bytes (declared_of scope (xs ++ area ∷ [])) else declared_of scope (xs ++ area ∷ []))
          ≡ (if c then max (if b then max x.bytes (declared_of scope xs) else declared_of scope xs) area.bytes
          else (if b then max x.bytes (declared_of scope xs) else declared_of scope xs))
      go true true e = omega (arith, e)
      go true false e = ap (λ (n : ℕ). max x.bytes n) e
      go false true e = e
      go false false e = e

  pub refused_more : (rs : List Refusal) (r : Refusal) → refused_of scope (rs ++ r ∷ [])
      ≡ (if r.scope == scope then max (refused_of scope rs) r.bytes else refused_of scope rs)
  unfolding refused_of
  refused_more [] r = go (r.scope == scope)
    where
      go : (c : Bool) → (if c then max r.bytes 0 else 0) ≡ (if c then max 0 r.bytes else 0)
      go true = omega arith
      go false = refl
  refused_more (x ∷ rs) r = go (x.scope == scope) (r.scope == scope) (refused_more rs r)
    where
      go : (b c : Bool) → refused_of scope (rs ++ r ∷ [])
          ≡ (if c then max (refused_of scope rs) r.bytes else refused_of scope rs) →
          (if b then max x.bytes (refused_of scope (rs ++ r ∷ [])) else refused_of scope (rs ++ r ∷ []))
          ≡ (if c then max (if b then max x.bytes (refused_of scope rs) else refused_of scope rs) r.bytes
          else (if b then max x.bytes (refused_of scope rs) else refused_of scope rs))
      go true true e = omega (arith, e)
      go true false e = ap (λ (n : ℕ). max x.bytes n) e
      go false true e = e
      go false false e = e

  pub used_same : (u v : ℕ → ℕ) → ((a : ℕ) → u a ≡ v a) → (n : ℕ) (xs : List MemoryArea) →
      used_of u scope n xs ≡ used_of v scope n xs
  unfolding used_of
  used_same u v same n [] = refl
  used_same u v same n (x ∷ xs) =
      ap (λ (m : ℕ). if x.scope == scope then max m (used_of u scope (n + 1) xs) else used_of u scope (n + 1) xs)
      (same n)
      ∙ ap (λ (m : ℕ). if x.scope == scope then max (v n) m else m) (used_same u v same (n + 1) xs)

  -- ---- what is in use

  abbrev AllOpen : List MemoryArea → Type 0
  AllOpen [] = Unit {0}
  AllOpen (y ∷ ys) = (y.is_open ≡ true) × AllOpen ys

  -- areas that stay or close, and behind them areas that are opened
  abbrev pub GoTo : List MemoryArea → List MemoryArea → Type 0
  GoTo [] ys = AllOpen ys
  GoTo (x ∷ xs) [] = ⊥
  GoTo (x ∷ xs) (y ∷ ys) = StaysOrCloses x y × GoTo xs ys

  pub go_by_staying : (xs ys : List MemoryArea) → AreasStay xs ys → GoTo xs ys
  go_by_staying [] [] g = tt
  go_by_staying [] (y ∷ ys) g = absurd g
  go_by_staying (x ∷ xs) [] g = absurd g
  go_by_staying (x ∷ xs) (y ∷ ys) g = (g.0, go_by_staying xs ys g.1)

  pub go_by_opening : (xs : List MemoryArea) (area : MemoryArea) → area.is_open ≡ true → GoTo xs (xs ++ area ∷ [])
  go_by_opening [] area h = (h, tt)
  go_by_opening (x ∷ xs) area h =
      (record { scope = refl; bytes = refl; was_open = λ e. e }, go_by_opening xs area h)

  module _ (objects : List Object) (u : ℕ → ℕ) (grows : (a : ℕ) → u a ≤ used_bytes objects a) where
    abbrev v : ℕ → ℕ
    v a = used_bytes objects a

    abbrev row : ℕ → MemoryArea → Area
    row n y = record { name = y.scope; bytes = y.bytes; used = used_bytes objects n }

    abbrev rest : ℕ → List MemoryArea → List Area
    rest n ys = open_areas objects (n + 1) ys

    all_open : (n : ℕ) (ys : List MemoryArea) → AllOpen ys →
        used_of v scope n ys ≡ max 0 (most_used scope (open_areas objects n ys))
    unfolding used_of open_areas most_used
    all_open n [] h = refl
    all_open n (y ∷ ys) h =
        of_open (y.scope == scope) (all_open (n + 1) ys h.1)
        ∙ ap (λ (o : Bool). max 0 (most_used scope (if o then row n y ∷ rest n ys else rest n ys))) (sym h.0)
      where
        of_open : (b : Bool) → used_of v scope (n + 1) ys ≡ max 0 (most_used scope (rest n ys)) →
            (if b then max (v n) (used_of v scope (n + 1) ys) else used_of v scope (n + 1) ys)
            ≡ max 0 (if b then max (v n) (most_used scope (rest n ys)) else most_used scope (rest n ys))
        of_open true e = omega (arith, e)
        of_open false e = e

    pub used_goes : (n : ℕ) (xs ys : List MemoryArea) → GoTo xs ys →
        ((i m : ℕ) (y : MemoryArea) → m ≡ n + i → slice_get ys i ≡ Some y → y.is_open ≡ false → v m ≡ u m) →
        used_of v scope n ys ≡ max (used_of u scope n xs) (most_used scope (open_areas objects n ys))
    unfolding used_of open_areas most_used
    used_goes n [] ys g same = all_open n ys g
    used_goes n (x ∷ xs) [] g same = absurd g
    used_goes n (x ∷ xs) (y ∷ ys) g same =
        ap (λ (k : ℕ). if k == scope then max (v n) (used_of v scope (n + 1) ys) else used_of v scope (n + 1) ys)
        g.0.scope
        ∙ (go (used_goes (n + 1) xs ys g.1 (λ i m z e. same (suc i) m z (omega (arith, e)))) (x.scope == scope) y.is_open
        refl
        ∙ (ap (λ (k : ℕ). max (if x.scope == scope then max (u n) (used_of u scope (n + 1) xs) else used_of u scope (n + 1) xs)
        (most_of (k == scope) y.is_open)) (sym g.0.scope)
        ∙ ap (λ (m : ℕ). max (if x.scope == scope then max (u n) (used_of u scope (n + 1) xs) else used_of u scope (n + 1) xs)
        m) (commute y.is_open)))
      where
        most_of : Bool → Bool → ℕ
        most_of b true = if b then max (v n) (most_used scope (rest n ys)) else most_used scope (rest n ys)
        most_of b false = most_used scope (rest n ys)

        commute : (o : Bool) → most_of (y.scope == scope) o
            ≡ most_used scope (if o then row n y ∷ rest n ys else rest n ys)
        commute true = refl
        commute false = refl

        go : used_of v scope (n + 1) ys ≡ max (used_of u scope (n + 1) xs) (most_used scope (rest n ys)) →
            (b o : Bool) → y.is_open ≡ o →
            (if b then max (v n) (used_of v scope (n + 1) ys) else used_of v scope (n + 1) ys)
            ≡ max (if b then max (u n) (used_of u scope (n + 1) xs) else used_of u scope (n + 1) xs) (most_of b o)
        go more true true e = let h : u n ≤ v n = grows n in omega (arith, h, more)
        go more true false e =
            let h : v n ≡ u n = same 0 n y (omega arith) refl e in
            omega (arith, h, more)
        go more false true e = more
        go more false false e = more

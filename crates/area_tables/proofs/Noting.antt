-- The rows of a table, when what is in use in open areas is noted.
use Rattle.std.specs.Prelude.{Some, slice_get, if◌then◌else◌, ◌==◌}
use Rattle.std.proofs.Common.{◌≡◌, ◌∙◌, ◌⊎◌, inl, inr, Bool, true, false, ℕ, ◌<◌, max, List, [], ◌∷◌, refl, ap, sym, arith}
use Rattle.std.proofs.lemmas.Bool.Decides.{nat_tests}
use Rattle.scj_model.specs.State.{changed}
use Rattle.region_heap.specs.declared.open_areas.Area.{Area}
use Rattle.region_heap.proofs.Lists.{changed_long, changed_other, changed_same, same_or}
use Rattle.area_tables.specs.declared.rows.NeedRow.{NeedRow}
use Rattle.area_tables.specs.Rows.{all_used, using}
use Rattle.area_tables.specs.Standing.{AreRows}

-- the row of a scope, where the row at a place changes
abbrev pub row_changed : (NeedRow → NeedRow) → ℕ → (ℕ → NeedRow) → ℕ → NeedRow
row_changed f index need scope = if scope == index then f (need scope) else need scope

pub rows_changed : (count : ℕ) (need : ℕ → NeedRow) (rows : List NeedRow) (f : NeedRow → NeedRow) (index : ℕ) →
    AreRows count need rows → AreRows count (row_changed f index need) (changed f index rows)
rows_changed count need rows f index r = record {
  long = changed_long f index rows ∙ r.long;
  each = λ scope l. go scope l (same_or scope index);
}
  where
    go : (scope : ℕ) → scope < count → (scope ≡ index) ⊎ (scope ≡ index → ⊥) →
        slice_get (changed f index rows) scope ≡ Some (row_changed f index need scope)
    go scope l (inl e) =
        let t : (scope == index) ≡ true = grind (arith, nat_tests) in
        ap (λ (n : ℕ). slice_get (changed f index rows) n) e
        ∙ (changed_same f index rows (need scope) (ap (λ (n : ℕ). slice_get rows n) (sym e) ∙ r.each scope l)
        ∙ ap (λ (b : Bool). Some (if b then f (need scope) else need scope)) (sym t))
    go scope l (inr d) =
        let t : (scope == index) ≡ false = grind (arith, nat_tests) in
        changed_other f index scope rows d
        ∙ (r.each scope l ∙ ap (λ (b : Bool). Some (if b then f (need scope) else need scope)) (sym t))

-- rows that are these are also those that are the same
pub rows_as : (count : ℕ) (need other : ℕ → NeedRow) (rows : List NeedRow) → ((scope : ℕ) → need scope ≡ other scope) →
    AreRows count need rows → AreRows count other rows
rows_as count need other rows same r = record {
  long = r.long;
  each = λ scope l. r.each scope l ∙ ap (λ (row : NeedRow). Some row) (same scope);
}

-- ---- what is in use in open areas

-- the most that is in use in one of these areas that has the scope
unfoldable pub most_used : ℕ → List Area → ℕ
most_used scope [] = 0
most_used scope (a ∷ more) =
    if a.name == scope then max a.used (most_used scope more) else most_used scope more

abbrev pub with_used : List Area → (ℕ → NeedRow) → ℕ → NeedRow
with_used areas need scope = record (need scope) { used = max (need scope).used (most_used scope areas) }

pub all_noted : (areas : List Area) (count : ℕ) (need : ℕ → NeedRow) (rows : List NeedRow) →
    AreRows count need rows → AreRows count (with_used areas need) (all_used areas rows)
unfolding all_used most_used
all_noted [] count need rows r = rows_as count need _ rows same r
  where
    same : (scope : ℕ) → need scope ≡ record (need scope) { used = max (need scope).used 0 }
    same scope =
        let e : (need scope).used ≡ max (need scope).used 0 = omega arith in
        ap (λ (n : ℕ). record (need scope) { used = n }) e
all_noted (a ∷ more) count need rows r =
    rows_as count _ _ _ same
    (all_noted more count (row_changed (using a.used) a.name need) (changed (using a.used) a.name rows)
    (rows_changed count need rows (using a.used) a.name r))
  where
    go : (scope : ℕ) (b c : Bool) → (scope == a.name) ≡ b → (a.name == scope) ≡ c →
        (let row : NeedRow = if b then using a.used (need scope) else need scope in
        record row { used = max row.used (most_used scope more) })
        ≡ record (need scope) {
          used = max (need scope).used (if c then max a.used (most_used scope more) else most_used scope more);
        }
    go scope true true t u =
        let e : max (max (need scope).used a.used) (most_used scope more)
        ≡ max (need scope).used (max a.used (most_used scope more)) = omega arith in
        ap (λ (n : ℕ). record (need scope) { used = n }) e
    go scope false false t u = refl
    go scope true false t u = absurd (grind (arith, nat_tests))
    go scope false true t u = absurd (grind (arith, nat_tests))

    same : (scope : ℕ) →
        with_used more (row_changed (using a.used) a.name need) scope ≡ with_used (a ∷ more) need scope
    same scope = go scope (scope == a.name) (a.name == scope) refl refl

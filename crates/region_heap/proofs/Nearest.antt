-- The area of a scope that was opened last, found among areas in the order in which they were opened.
use Rattle.std.specs.Prelude.{Option, Some, reverse, slice_get, take, if◌then◌else◌, ◌==◌}
use Rattle.std.proofs.Common.{◌≡◌, ◌∙◌, ◌<◌, ◌+◌, ℕ, List, [], ◌∷◌, length, get_or, ap, sym, refl}
use Rattle.std.proofs.lemmas.List.{reverse-append, take_more}
use Rattle.scj_rules.specs.Words.{holds}
use Rattle.scj_model.specs.State.{MemoryArea, State, area_at}
use Rattle.scj_model.specs.Memory.{area_with_scope}
use Rattle.region_heap.specs.declared.rows.AreaRow.{AreaRow}
use Rattle.region_heap.specs.Contents.{Contents}
use Rattle.region_heap.specs.Kept.{IsRow}
use Rattle.region_heap.specs.Rows.{IsRowOf}
use Rattle.region_heap.proofs.Lists.{got_row}

-- the row of an area has its scope
pub scope_is : (m : Contents) (areas : List AreaRow) (area scope k : ℕ) (row : AreaRow) → IsRowOf areas area k →
    row ≡ get_or areas k row → ((i : ℕ) (x : AreaRow) → slice_get areas i ≡ Some x → IsRow m x) →
    holds (slice_get m.areas area) (λ x. x.scope == scope) ≡ (row.scope == scope)
scope_is m areas area scope k row r read each =
    let is : slice_get areas k ≡ Some row = got_row areas k r.row row r.is read in
    let there : slice_get areas k ≡ Some r.row = r.is in
    let same : r.row ≡ row = cc in
    let of_area : row.area ≡ area = ap (λ (z : AreaRow). z.area) (sym same) ∙ r.of_area in
    let s : IsRow m row = each k row is in
    let found : slice_get m.areas area ≡ Some s.area = ap (λ (a : ℕ). slice_get m.areas a) (sym of_area) ∙ s.is in
    ap (λ (o : Option MemoryArea). holds o (λ x. x.scope == scope)) found ∙ ap (λ (n : ℕ). n == scope) s.scope

pub nearest_more : (s : State) (scope : ℕ) (opened : List ℕ) (i area : ℕ) (found : Option ℕ) → i < length opened →
    area ≡ get_or opened i area →
    found ≡ area_with_scope s scope (reverse (take i opened)) →
    (if holds (area_at s area) (λ x. x.scope == scope) then Some area else found) ≡ area_with_scope s scope
    (reverse (take (i + 1) opened))
unfolding area_with_scope
nearest_more s scope opened i area found within is so_far =
    let more : reverse (take (i + 1) opened) ≡ area ∷ reverse (take i opened) =
    ap reverse (take_more opened i area within)
    ∙ (reverse-append (take i opened) (get_or opened i area ∷ [])
    ∙ ap (λ y. y ∷ reverse (take i opened)) (sym is)) in
    rw (more, so_far) refl

-- How many areas are open, when one is opened or closed.
use Rattle.std.specs.Prelude.{Option, Some, None, cond, filter, slice_get, slice_set}
use Rattle.std.proofs.Common.{◌≡◌, ◌∙◌, Bool, true, false, ℕ, zero, suc, ◌+◌, List, [], ◌∷◌, ◌++◌, length, refl, ap, arith, length-append}
use Rattle.std.proofs.lemmas.List.Elements.{filter-append}
use Rattle.scj_model.specs.State.{MemoryArea, changed}
use Rattle.region_heap.specs.Contents.{closed_area, new_area}

abbrev is_open : MemoryArea → Bool
is_open x = x.is_open

abbrev pub count : List MemoryArea → ℕ
count areas = length (filter (λ (x : MemoryArea). x.is_open) areas)

pub open_more : (areas : List MemoryArea) (scope : ℕ) (parent : Option ℕ) (bytes : ℕ) →
    count (areas ++ new_area scope parent bytes ∷ []) ≡ count areas + 1
open_more areas scope parent bytes =
    let e : filter (λ (x : MemoryArea). x.is_open) (areas ++ new_area scope parent bytes ∷ [])
    ≡ filter (λ (x : MemoryArea). x.is_open) areas ++ new_area scope parent bytes ∷ [] =
    filter-append (λ (x : MemoryArea). x.is_open) areas (new_area scope parent bytes ∷ []) in
    ap (λ (xs : List MemoryArea). length xs) e
    ∙ length-append (filter (λ (x : MemoryArea). x.is_open) areas) (new_area scope parent bytes ∷ [])

-- one element in front
front : (x : MemoryArea) (xs : List MemoryArea) (b : Bool) → x.is_open ≡ b →
    count (x ∷ xs) ≡ cond b (suc (count xs)) (count xs)
front x xs true e =
    ap (λ (z : Bool). length (cond z (x ∷ filter (λ (y : MemoryArea). y.is_open) xs) (filter (λ (y : MemoryArea).
    y.is_open) xs))) e
front x xs false e =
    ap (λ (z : Bool). length (cond z (x ∷ filter (λ (y : MemoryArea). y.is_open) xs) (filter (λ (y : MemoryArea).
    y.is_open) xs))) e

less_step : (y : MemoryArea) (xs us : List MemoryArea) → count us + 1 ≡ count xs → count (y ∷ us) + 1 ≡ count (y ∷ xs)
less_step y xs us ih = go y.is_open refl
  where
    go : (b : Bool) → y.is_open ≡ b → count (y ∷ us) + 1 ≡ count (y ∷ xs)
    go true e =
        let a : count (y ∷ us) ≡ suc (count us) = front y us true e in
        let b : count (y ∷ xs) ≡ suc (count xs) = front y xs true e in
        omega (arith, a, b, ih)
    go false e =
        let a : count (y ∷ us) ≡ count us = front y us false e in
        let b : count (y ∷ xs) ≡ count xs = front y xs false e in
        omega (arith, a, b, ih)

count_set : (areas : List MemoryArea) (a : ℕ) (x : MemoryArea) → slice_get areas a ≡ Some x → x.is_open ≡ true →
    count (slice_set areas a (closed_area x)) + 1 ≡ count areas
count_set [] a x e t = absurd (cc)
count_set (y ∷ areas) zero x e t =
    let same : y ≡ x = cc in
    let opened : y.is_open ≡ true = ap (λ (z : MemoryArea). z.is_open) same ∙ t in
    let b : count (y ∷ areas) ≡ suc (count areas) = front y areas true opened in
    let c : count (closed_area x ∷ areas) ≡ count areas = front (closed_area x) areas false refl in
    omega (arith, b, c)
count_set (y ∷ areas) (suc a) x e t =
    less_step y areas (slice_set areas a (closed_area x)) (count_set areas a x e t)

pub open_less : (areas : List MemoryArea) (a : ℕ) (x : MemoryArea) → slice_get areas a ≡ Some x → x.is_open ≡ true →
    count (changed closed_area a areas) + 1 ≡ count areas
open_less areas a x e t =
    let s : count (changed closed_area a areas) ≡ count (slice_set areas a (closed_area x)) =
    ap (λ (o : Option MemoryArea). count
    (elim o as (λ z. List MemoryArea) [ None ↦ areas | Some y ↦ slice_set areas a (closed_area y) ])) e in
    let h : count (slice_set areas a (closed_area x)) + 1 ≡ count areas = count_set areas a x e t in
    omega (arith, s, h)

-- The open areas of a state, with what is in use in them.
use Rattle.std.specs.Prelude.{Some, None, drop, slice_get, if◌then◌else◌}
use Rattle.std.proofs.Common.{◌≡◌, ◌∙◌, Bool, true, false, ℕ, zero, suc, ◌+◌, ◌<◌, ◌≤◌, List, [], ◌∷◌, ◌++◌, length, refl, ap, sym, arith}
use Rattle.std.proofs.lemmas.List.Sums.{sum_by-cons}
use Rattle.std.specs.List.{sum_by}
use Rattle.scj_model.specs.State.{MemoryArea, Object, State}
use Rattle.scj_model.specs.Memory.{reserved, rounded_up, used}
use Rattle.region_heap.specs.declared.open_areas.Area.{Area}
use Rattle.region_heap.specs.Kept.{area_words, reserved_bytes, used_bytes}
use Rattle.region_heap.specs.OpenAreas.{open_areas}
use Rattle.region_heap.proofs.Lists.{get_within}
use Rattle.region_heap.proofs.Rooms.{reserved_is_bytes, used_is}
use Rattle.area_growth.specs.Growth.{AreasStay}
use Rattle.area_tables.specs.Rows.{reserved_by}

-- ---- how many they are

unfoldable pub count : List MemoryArea → ℕ
count [] = 0
count (x ∷ xs) = if x.is_open then suc (count xs) else count xs

pub open_length : (objects : List Object) (n : ℕ) (xs : List MemoryArea) →
    length (open_areas objects n xs) ≡ count xs
unfolding open_areas count
open_length objects n [] = refl
open_length objects n (x ∷ xs) = go x.is_open (open_length objects (n + 1) xs)
  where
    go : (b : Bool) → length (open_areas objects (n + 1) xs) ≡ count xs →
        length (if b then record { name = x.scope; bytes = x.bytes; used = used_bytes objects n } ∷ open_areas objects (n + 1) xs else open_areas objects (n + 1) xs)
        ≡ (if b then suc (count xs) else count xs)
    go true e = ap suc e
    go false e = e

pub count_stays : (xs ys : List MemoryArea) → AreasStay xs ys → count ys ≤ count xs
unfolding count
count_stays [] [] g = omega arith
count_stays [] (y ∷ ys) g = absurd g
count_stays (x ∷ xs) [] g = absurd g
count_stays (x ∷ xs) (y ∷ ys) g = go (count_stays xs ys g.1) y.is_open x.is_open refl refl
  where
    go : count ys ≤ count xs → (b c : Bool) → y.is_open ≡ b → x.is_open ≡ c →
        (if b then suc (count ys) else count ys) ≤ (if c then suc (count xs) else count xs)
    go h true true e f = omega (arith, h)
    go h false true e f = omega (arith, h)
    go h false false e f = h
    go h true false e f = absurd (let h : x.is_open ≡ true = g.0.was_open e in cc (h, f))

-- ---- one more

abbrev pub abbrev_area : List Object → ℕ → MemoryArea → Area
abbrev_area objects n x = record { name = x.scope; bytes = x.bytes; used = used_bytes objects n }

pub open_more : (objects : List Object) (n : ℕ) (xs : List MemoryArea) (area : MemoryArea) → area.is_open ≡ true →
    open_areas objects n (xs ++ area ∷ []) ≡ open_areas objects n xs ++ abbrev_area objects (n + length xs) area ∷ []
unfolding open_areas
open_more objects n [] area h =
    let e : n ≡ n + 0 = omega arith in
    ap (λ (b : Bool). if b then record { name = area.scope; bytes = area.bytes; used = used_bytes objects n } ∷ [] else []) h
    ∙ ap (λ (m : ℕ). record { name = area.scope; bytes = area.bytes; used = used_bytes objects m } ∷ []) e
open_more objects n (x ∷ xs) area h =
    let e : n + 1 + length xs ≡ n + suc (length xs) = omega arith in
    go (open_more objects (n + 1) xs area h
    ∙ ap (λ (m : ℕ). open_areas objects (n + 1) xs ++ abbrev_area objects m area ∷ []) e) x.is_open
  where
    go : open_areas objects (n + 1) (xs ++ area ∷ [])
        ≡ open_areas objects (n + 1) xs ++ abbrev_area objects (n + suc (length xs)) area ∷ [] → (b : Bool) →
        (if b then record { name = x.scope; bytes = x.bytes; used = used_bytes objects n } ∷ open_areas objects (n + 1) (xs ++ area ∷ []) else open_areas objects (n + 1) (xs ++ area ∷ []))
        ≡ (if b then record { name = x.scope; bytes = x.bytes; used = used_bytes objects n } ∷ open_areas objects (n + 1) xs else open_areas objects (n + 1) xs)
        ++ abbrev_area objects (n + suc (length xs)) area ∷ []
    go more true = ap (λ (others : List Area). record { name = x.scope; bytes = x.bytes; used = used_bytes objects n } ∷ others) more
    go more false = more

-- ---- what they reserve

reserved_open : (objects : List Object) (n : ℕ) (xs : List MemoryArea) →
    reserved_by (open_areas objects n xs) ≡ reserved_bytes xs
unfolding open_areas reserved_by reserved_bytes
reserved_open objects n [] = refl
reserved_open objects n (x ∷ xs) =
    go x.is_open (reserved_open objects (n + 1) xs) ∙ sym (sum_by-cons area_words x xs)
  where
    go : (b : Bool) → reserved_by (open_areas objects (n + 1) xs) ≡ sum_by area_words xs →
        reserved_by (if b then record { name = x.scope; bytes = x.bytes; used = used_bytes objects n } ∷ open_areas objects (n + 1) xs else open_areas objects (n + 1) xs)
        ≡ (if b then rounded_up x.bytes else 0) + sum_by area_words xs
    go true e = ap (λ (k : ℕ). rounded_up x.bytes + k) e
    go false e = omega (arith, e)

pub reserved_is : (s : State) → reserved s ≡ reserved_by (open_areas s.objects 0 s.areas)
reserved_is s =
    reserved_is_bytes s (record { store = s.store; areas = s.areas; objects = s.objects; statics = s.statics })
    ∙ sym (reserved_open s.objects 0 s.areas)

-- ---- what is in use in an area

pub used_there : (s : State) (a : ℕ) → used s a ≡ used_bytes s.objects a
used_there s a =
    used_is s (record { store = s.store; areas = s.areas; objects = s.objects; statics = s.statics }) a

-- ---- one after the other

pub drop_at : (xs : List Area) (i : ℕ) (x : Area) → Some x ≡ slice_get xs i → drop i xs ≡ x ∷ drop (i + 1) xs
drop_at [] i x e = absurd (cc (e))
drop_at (y ∷ ys) zero x e = let same : y ≡ x = cc in ap (λ (z : Area). z ∷ ys) same
drop_at (y ∷ ys) (suc i) x e =
    let more : suc (i + 1) ≡ suc i + 1 = omega arith in
    drop_at ys i x e ∙ ap (λ (n : ℕ). x ∷ drop n (y ∷ ys)) more

pub drop_past : (xs : List Area) (i : ℕ) → None ≡ slice_get xs i → drop i xs ≡ []
drop_past [] zero e = refl
drop_past [] (suc i) e = refl
drop_past (y ∷ ys) zero e = absurd (cc (e))
drop_past (y ∷ ys) (suc i) e = drop_past ys i e

pub is_past : (xs : List Area) (i : ℕ) → None ≡ slice_get xs i → length xs ≤ i
is_past [] i e = omega arith
is_past (y ∷ ys) zero e = absurd (cc (e))
is_past (y ∷ ys) (suc i) e = let h : length ys ≤ i = is_past ys i e in omega (arith, h)

pub is_within : (xs : List Area) (i : ℕ) (x : Area) → Some x ≡ slice_get xs i → i < length xs
is_within xs i x e = get_within xs i x (sym e)

-- How many groups begin at a place or before it; and elements of lists that grow at their end.
use Rattle.std.specs.Prelude.{◌⊎◌, slice_get, nat_lt, min, Some, if◌then◌else◌}
use Rattle.std.proofs.Common.{◌≡◌, ℕ, zero, suc, ◌+◌, ◌<◌, ◌≤◌, List, [], ◌∷◌, ◌++◌, length, Bool, true, false, refl, ◌∙◌, ap, arith, inl, inr}
use Rattle.std.proofs.lemmas.Bool.Decides.{nat_tests}
use Rattle.directed_graphs.specs.declared.order.Group.{Group}
use Rattle.directed_graphs.specs.Walks.{level}

-- ---- elements

some_same : {A : Type 0} (x y : A) → Some x ≡ Some y → x ≡ y
some_same x y e = cc (e)

pub get_pushed : {A : Type 0} (xs : List A) (y z : A) (k : ℕ) → slice_get (xs ++ y ∷ []) k ≡ Some z →
    ((slice_get xs k ≡ Some z) × (k < length xs)) ⊎ ((k ≡ length xs) × (y ≡ z))
get_pushed [] y z zero e = inr (refl, some_same y z e)
get_pushed [] y z (suc k) e = absurd (cc (e))
get_pushed (x ∷ xs) y z zero e = inl (e, omega arith)
get_pushed (x ∷ xs) y z (suc k) e = of (get_pushed xs y z k e)
  where
    of : ((slice_get xs k ≡ Some z) × (k < length xs)) ⊎ ((k ≡ length xs) × (y ≡ z)) →
        ((slice_get (x ∷ xs) (suc k) ≡ Some z) × (suc k < suc (length xs))) ⊎ ((suc k ≡ suc (length xs)) × (y ≡ z))
    of (inl h) = let l = h.1 in inl (h.0, omega (arith, l))
    of (inr h) = inr (ap suc h.0, h.1)

pub get_left_of : {A : Type 0} (xs ys : List A) (k : ℕ) (z : A) → slice_get xs k ≡ Some z → slice_get (xs ++ ys) k ≡ Some z
get_left_of [] ys k z e = absurd (cc (e))
get_left_of (x ∷ xs) ys zero z e = e
get_left_of (x ∷ xs) ys (suc k) z e = get_left_of xs ys k z e

pub get_right_of : {A : Type 0} (xs ys : List A) (k : ℕ) (z : A) → slice_get ys k ≡ Some z →
    slice_get (xs ++ ys) (length xs + k) ≡ Some z
get_right_of [] ys k z e = let same : 0 + k ≡ k = omega arith in ap (slice_get ys) same ∙ e
get_right_of (x ∷ xs) ys k z e =
    let same : suc (length xs) + k ≡ suc (length xs + k) = omega arith in
    ap (slice_get (x ∷ (xs ++ ys))) same ∙ get_right_of xs ys k z e

pub get_last_of : {A : Type 0} (xs : List A) (y : A) → slice_get (xs ++ y ∷ []) (length xs) ≡ Some y
get_last_of [] y = refl
get_last_of (x ∷ xs) y = get_last_of xs y

pub get_is_within : {A : Type 0} (xs : List A) (k : ℕ) (z : A) → slice_get xs k ≡ Some z → k < length xs
get_is_within [] k z e = absurd (cc (e))
get_is_within (x ∷ xs) zero z e = omega arith
get_is_within (x ∷ xs) (suc k) z e = let l = get_is_within xs k z e in omega (arith, l)

-- ---- levels

pub level_both : (begin : Group → ℕ) (gs hs : List Group) (n : ℕ) →
    level begin (gs ++ hs) n ≡ level begin gs n + level begin hs n
unfolding level
level_both begin [] hs n = omega arith
level_both begin (g ∷ gs) hs n = let a = level_both begin gs hs n in omega (arith, a)

pub level_few : (begin : Group → ℕ) (gs : List Group) (n : ℕ) → level begin gs n ≤ length gs
unfolding level
level_few begin [] n = omega arith
level_few begin (g ∷ gs) n = of (nat_lt n (begin g)) (level_few begin gs n)
  where
    of : (b : Bool) → level begin gs n ≤ length gs → (if b then 0 else 1) + level begin gs n ≤ suc (length gs)
    of true h = omega (arith, h)
    of false h = omega (arith, h)

one_level : (begin : Group → ℕ) (g : Group) (n : ℕ) → begin g ≤ n → nat_lt n (begin g) ≡ false
one_level begin g n l = grind (arith, nat_tests)

no_level : (begin : Group → ℕ) (g : Group) (n : ℕ) → n < begin g → nat_lt n (begin g) ≡ true
no_level begin g n l = grind (arith, nat_tests)

pub level_one : (begin : Group → ℕ) (g : Group) (n : ℕ) → begin g ≤ n → level begin (g ∷ []) n ≡ 1
unfolding level
level_one begin g n l = ap (λ (t : Bool). (if t then 0 else 1) + 0) (one_level begin g n l)

pub level_none : (begin : Group → ℕ) (g : Group) (n : ℕ) → n < begin g → level begin (g ∷ []) n ≡ 0
unfolding level
level_none begin g n l = ap (λ (t : Bool). (if t then 0 else 1) + 0) (no_level begin g n l)

pub level_all : (begin : Group → ℕ) (gs : List Group) (n : ℕ) →
    ((k : ℕ) (g : Group) → slice_get gs k ≡ Some g → begin g ≤ n) → level begin gs n ≡ length gs
unfolding level
level_all begin [] n h = refl
level_all begin (g ∷ gs) n h =
    let a = level_all begin gs n (λ k x e. h (suc k) x e) in
    let b = level_one begin g n (h 0 g refl) in
    let c = level_both begin (g ∷ []) gs n in
    omega (arith, a, b, c)

pub level_last : (begin : Group → ℕ) (gs : List Group) (t : Group) (n : ℕ) →
    ((k : ℕ) (g : Group) → slice_get gs k ≡ Some g → begin g ≤ n) → begin t ≤ n →
    level begin (gs ++ t ∷ []) n ≡ length gs + 1
level_last begin gs t n h l =
    let a = level_both begin gs (t ∷ []) n in
    let b = level_all begin gs n h in
    let c = level_one begin t n l in
    omega (arith, a, b, c)

pub level_under : (begin : Group → ℕ) (gs : List Group) (t : Group) (n : ℕ) → n < begin t →
    level begin (gs ++ t ∷ []) n ≡ level begin gs n
level_under begin gs t n l =
    let a = level_both begin gs (t ∷ []) n in
    let c = level_none begin t n l in
    omega (arith, a, c)

-- one of the groups begins there or before
some_begins : (begin : Group → ℕ) (gs : List Group) (n : ℕ) → 0 < level begin gs n →
    (k : ℕ) × (g : Group) × (slice_get gs k ≡ Some g) × (begin g ≤ n)
unfolding level
some_begins begin [] n l = absurd (omega (arith, l))
some_begins begin (g ∷ gs) n l = of (nat_lt n (begin g)) refl l (λ m. some_begins begin gs n m)
  where
    of : (b : Bool) → nat_lt n (begin g) ≡ b → 0 < (if b then 0 else 1) + level begin gs n →
        (0 < level begin gs n → (k : ℕ) × (h : Group) × (slice_get gs k ≡ Some h) × (begin h ≤ n)) →
        (k : ℕ) × (h : Group) × (slice_get (g ∷ gs) k ≡ Some h) × (begin h ≤ n)
    of false e m more = (0, g, refl, grind (arith, nat_tests))
    of true e m more = (let x = more (omega (arith, m)) in (suc x.0, x.1, x.2, x.3))

-- of the first groups alone
pub level_first : (begin : Group → ℕ) (gs more : List Group) (n : ℕ) →
    ((k j : ℕ) (g h : Group) → slice_get gs k ≡ Some g → slice_get more j ≡ Some h → begin g ≤ begin h) →
    level begin gs n ≡ min (length gs) (level begin (gs ++ more) n)
level_first begin gs more n cross = of (level begin more n) refl
  where
    of : (b : ℕ) → level begin more n ≡ b → level begin gs n ≡ min (length gs) (level begin (gs ++ more) n)
    of zero e =
        let a = level_both begin gs more n in
        let few = level_few begin gs n in omega (arith, a, e, few)
    of (suc b) e =
        let a = level_both begin gs more n in
        let x = some_begins begin more n (omega (arith, e)) in
        let all = level_all begin gs n
        (λ k g there. let l = cross k x.0 g x.1 there x.2 in let m = x.3 in omega (arith, l, m)) in
        omega (arith, a, e, all)

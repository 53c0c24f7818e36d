-- The rest of a place stays the same when rows are put behind it, and when a row gets other targets.
use Rattle.std.proofs.Common.{◌≡◌, ℕ, zero, suc, ◌<◌, ◌≤◌, true, List, [], ◌∷◌, ◌++◌, length, Option, Some, None, slice_get, refl, sym, ap, ◌∙◌, arith, option_map, nat_lt}
use Rattle.std.proofs.lemmas.Bool.Decides.{nat_tests}
use Rattle.scj_tree.specs.Recursion.{below, lookup, bottom_up}
use Rattle.scj_tree.proofs.RecursionLemmas.{by_smaller-is}
use Rattle.scj_model.specs.declared.operations.Op.{Op}
use Rattle.op_list.specs.declared.rows.Row.{Row}
use Rattle.op_list.specs.Rows.{row_rest, rest_at}

-- what of a row tells its rest
abbrev pub Head : Type 0
Head = Op × ℕ

abbrev pub head_of : Row → Head
head_of row = (row.op, row.next)

abbrev pub head_at : List Row → ℕ → Option Head
head_at rows p = option_map head_of (slice_get rows p)

step_is : (xs ys : List Row) (p : ℕ) (sub : ℕ → List Op) → head_at xs p ≡ head_at ys p →
    row_rest xs p sub ≡ row_rest ys p sub
unfolding row_rest
step_is xs ys zero sub e = refl
step_is xs ys (suc p) sub e =
    let by : Option Head → List Op = λ o. elim o [ None ↦ [] | Some head ↦ head.0 ∷ sub head.1 ] in
    let as_head : (o : Option Row) → elim o [ None ↦ [] | Some row ↦ row.op ∷ sub row.next ] ≡ by (option_map head_of o)
    = λ o. elim o as (λ o. elim o [ None ↦ [] | Some row ↦ row.op ∷ sub row.next ] ≡ by (option_map head_of o)) [ None ↦ refl | Some row ↦ refl ] in
    as_head (slice_get xs (suc p)) ∙ ap by e ∙ sym (as_head (slice_get ys (suc p)))

lists_same : (xs ys : List Row) (n : ℕ) → ((p : ℕ) → p < n → head_at xs p ≡ head_at ys p) →
    bottom_up [] (row_rest xs) n ≡ bottom_up [] (row_rest ys) n
unfolding bottom_up
lists_same xs ys zero same = refl
lists_same xs ys (suc n) same =
    let said = lists_same xs ys n (λ p l. same p (omega (arith, l))) in
    ap (λ (s : List (List Op)). s ++ row_rest xs n (lookup [] s) ∷ []) said
    ∙ ap (λ (v : List Op). bottom_up [] (row_rest ys) n ++ v ∷ [])
    (step_is xs ys n (lookup [] (bottom_up [] (row_rest ys) n)) (same n (omega arith)))

-- the rest is told by the heads up to its place
pub rest_same : (xs ys : List Row) (p : ℕ) → ((q : ℕ) → q ≤ p → head_at xs q ≡ head_at ys q) →
    rest_at xs p ≡ rest_at ys p
unfolding rest_at
rest_same xs ys p same =
    ap (λ (s : List (List Op)). lookup [] s p) (lists_same xs ys (suc p) (λ q l. same q (omega (arith, l))))

pub get_front : (xs ys : List Row) (p : ℕ) → p < length xs → slice_get (xs ++ ys) p ≡ slice_get xs p
get_front [] ys p h = absurd (omega (arith, h))
get_front (x ∷ xs) ys zero h = refl
get_front (x ∷ xs) ys (suc p) h = get_front xs ys p (omega (arith, h))

pub get_here : (xs ys : List Row) (y : Row) → slice_get (xs ++ y ∷ ys) (length xs) ≡ Some y
get_here [] ys y = refl
get_here (x ∷ xs) ys y = get_here xs ys y

pub rest_front : (xs ys : List Row) (p : ℕ) → p < length xs → rest_at (xs ++ ys) p ≡ rest_at xs p
rest_front xs ys p h =
    rest_same (xs ++ ys) xs p (λ q l. ap (option_map head_of) (get_front xs ys q (omega (arith, h, l))))

-- a row with other targets
pub heads_patched : (xs ys : List Row) (x y : Row) → head_of x ≡ head_of y → (p : ℕ) →
    head_at (xs ++ x ∷ ys) p ≡ head_at (xs ++ y ∷ ys) p
heads_patched [] ys x y e zero = ap Some e
heads_patched [] ys x y e (suc p) = refl
heads_patched (z ∷ xs) ys x y e zero = refl
heads_patched (z ∷ xs) ys x y e (suc p) = heads_patched xs ys x y e p

pub rest_patched : (xs ys : List Row) (x y : Row) → head_of x ≡ head_of y → (p : ℕ) →
    rest_at (xs ++ x ∷ ys) p ≡ rest_at (xs ++ y ∷ ys) p
rest_patched xs ys x y e p =
    rest_same (xs ++ x ∷ ys) (xs ++ y ∷ ys) p (λ q l. heads_patched xs ys x y e q)

pub below_it : (f : ℕ → List Op) (n k : ℕ) → k < n → below [] n f k ≡ f k
below_it f n k h = let t : nat_lt k n ≡ true = grind (arith, nat_tests) in rw t refl

pub rest_zero : (rows : List Row) → rest_at rows 0 ≡ []
unfolding rest_at row_rest
rest_zero rows = by_smaller-is [] (row_rest rows) 0

-- the rest of a place is its operation and the rest of the next place
pub rest_is : (rows : List Row) (p : ℕ) (row : Row) → slice_get rows p ≡ Some row → row.next < p →
    rest_at rows p ≡ row.op ∷ rest_at rows row.next
unfolding rest_at row_rest
rest_is rows zero row e h = absurd (omega (arith, h))
rest_is rows (suc p) row e h =
    by_smaller-is [] (row_rest rows) (suc p)
    ∙ ap (λ (o : Option Row). elim o [ None ↦ [] | Some row ↦ row.op ∷ below [] (suc p) (rest_at rows) row.next ]) e
    ∙ ap (λ (os : List Op). row.op ∷ os) (below_it (rest_at rows) (suc p) row.next h)

pub rest_none : (rows : List Row) (p : ℕ) → slice_get rows p ≡ None → rest_at rows p ≡ []
unfolding rest_at row_rest
rest_none rows zero e = by_smaller-is [] (row_rest rows) 0
rest_none rows (suc p) e =
    by_smaller-is [] (row_rest rows) (suc p)
    ∙ ap (λ (o : Option Row). elim o [ None ↦ [] | Some row ↦ row.op ∷ below [] (suc p) (rest_at rows) row.next ]) e

-- Lists that are seen with the last element first.
use Rattle.std.proofs.Common.{◌≡◌, ℕ, suc, ◌+◌, ◌-◌, ◌<◌, Bool, true, false, cond, List, [], ◌∷◌, ◌++◌, length, reverse, filter, take, drop, set, get_or, refl, ap, sym, ◌∙◌, append-nil, arith}
use Rattle.std.proofs.lemmas.List.{reverse-append, set_split, take_more, take_all, take-append-drop, drop_all}
use Rattle.std.proofs.lemmas.List.Elements.{filter-append}

pub last_first : {A : Type 0} (xs : List A) (x : A) → reverse (xs ++ x ∷ []) ≡ x ∷ reverse xs
last_first xs x = reverse-append xs (x ∷ [])

-- ---- the last element

pub last_apart : {A : Type 0} (xs : List A) (d : A) → 0 < length xs →
    reverse xs ≡ get_or xs (length xs - 1) d ∷ reverse (take (length xs - 1) xs)
last_apart xs d h =
    let all : take (length xs - 1 + 1) xs ≡ xs = take_all (length xs - 1 + 1) xs (omega (arith, h)) in
    ap reverse (sym all ∙ take_more xs (length xs - 1) d (omega (arith, h)))
    ∙ last_first (take (length xs - 1) xs) (get_or xs (length xs - 1) d)

pub others_below : {A : Type 0} (xs : List A) → reverse (take (length xs - 1) xs) ≡ drop 1 (reverse xs)
others_below [] = refl
others_below (x ∷ xs) = ap (drop 1) (sym (last_apart (x ∷ xs) x (omega arith)))

pub last_written : {A : Type 0} (xs : List A) (w : A) → 0 < length xs →
    reverse (set xs (length xs - 1) w) ≡ w ∷ drop 1 (reverse xs)
last_written xs w h =
    let none : drop (suc (length xs - 1)) xs ≡ [] = drop_all (suc (length xs - 1)) xs (omega (arith, h)) in
    ap reverse (set_split xs (length xs - 1) w (omega (arith, h)))
    ∙ ap (λ behind. reverse (take (length xs - 1) xs ++ w ∷ behind)) none
    ∙ last_first (take (length xs - 1) xs) w
    ∙ ap (λ below. w ∷ below) (others_below xs)

pub front_apart : {A : Type 0} (xs : List A) (left : ℕ) →
    reverse xs ≡ reverse (drop left xs) ++ reverse (take left xs)
front_apart xs left = ap reverse (sym (take-append-drop left xs)) ∙ reverse-append (take left xs) (drop left xs)

-- ---- elements that a test keeps

kept_last : {A : Type 0} (kept : Bool) (x : A) (xs : List A) →
    reverse xs ++ cond kept (x ∷ []) [] ≡ reverse (cond kept (x ∷ xs) xs)
kept_last true x xs = sym (reverse-append (x ∷ []) xs)
kept_last false x xs = append-nil (reverse xs)

pub filter_reversed : {A : Type 0} (test : A → Bool) (xs : List A) → filter test (reverse xs) ≡ reverse (filter test xs)
filter_reversed test [] = refl
filter_reversed test (x ∷ xs) =
    ap (filter test) (reverse-append (x ∷ []) xs) ∙ filter-append test (reverse xs) (x ∷ [])
    ∙ ap (λ ys. ys ++ filter test (x ∷ [])) (filter_reversed test xs)
    ∙ kept_last (test x) x (filter test xs)

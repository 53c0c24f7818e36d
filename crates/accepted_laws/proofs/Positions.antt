-- Positions and elements of lists.
use Rattle.std.proofs.Common.{◌≡◌, ℕ, ◌+◌, ◌≤◌, zero, suc, List, [], ◌∷◌, ◌++◌, length, map, position, refl, sym, ap, ◌∙◌, subst, arith, Some, None, Bool, true, false, ◌||◌, true≢false, slice_get, ◌==◌, if◌then◌else◌, option_map}
use Rattle.std.proofs.lemmas.Bool.Decides.{nat_tests}
use Rattle.scj_base.specs.Bytes.{is_same}
use Rattle.scj_tree.specs.Counts.{times}
use Rattle.scj_rules.specs.Words.{is_among}
use Rattle.scj_rules.proofs.ChainLemmas.{or_left, or_right, is_same_number}
use Rattle.scj_rules.proofs.ParentLemmas.{times-among}
use Rattle.accepted_laws.proofs.Fields.{position-cons}
use Rattle.accepted_laws.proofs.Tools.{some_inj}

pub get_among : (x : ℕ) (ids : List ℕ) (j : ℕ) → slice_get ids j ≡ Some x → is_among x ids ≡ true
get_among x [] j e = absurd (cc (e))
get_among x (y ∷ ids) zero e = or_left (x == y) (is_among x ids) (is_same_number x y (sym (some_inj y x e)))
get_among x (y ∷ ids) (suc j) e = or_right (x == y) (is_among x ids) (get_among x ids j e)

-- the position of a number that stands once
pub position_once : (x : ℕ) (ids : List ℕ) (j : ℕ) → slice_get ids j ≡ Some x → times x ids ≤ 1 → position (λ other. x == other) ids ≡ Some j
unfolding times
position_once x [] j e h = absurd (cc (e))
position_once x (y ∷ ids) zero e h =
    position-cons (λ other. x == other) y ids ∙ ap (λ t. if t then Some 0 else option_map (λ k. 1 + k) (position (λ other. x == other) ids)) (is_same_number x y (sym (some_inj y x e)))
position_once x (y ∷ ids) (suc j) e h = go (x == y) refl h (position_once x ids j e)
  where
    later : 1 ≤ times x ids
    later = times-among x ids (get_among x ids j e)

    go : (t : Bool) → (x == y) ≡ t → (if x == y then 1 else 0) + times x ids ≤ 1 → (times x ids ≤ 1 → position (λ other. x == other) ids ≡ Some j) → position (λ other. x == other) (y ∷ ids) ≡ Some (suc j)
    go true s h ih = absurd (let k : (if true then 1 else 0) + times x ids ≤ 1 = subst (λ t. (if t then 1 else 0) + times x ids ≤ 1) s h in omega (arith, k, later))
    go false s h ih =
        let k : (if false then 1 else 0) + times x ids ≤ 1 = subst (λ t. (if t then 1 else 0) + times x ids ≤ 1) s h in
        let n : 1 + j ≡ suc j = omega arith in
        position-cons (λ other. x == other) y ids ∙ ap (λ t. if t then Some 0 else option_map (λ k. 1 + k) (position (λ other. x == other) ids)) s
        ∙ ap (option_map (λ k. 1 + k)) (ih (omega (arith, k))) ∙ ap (λ m. Some m) n

-- no position of what doesn't stand there
pub position_none : (x : ℕ) (ids : List ℕ) → is_among x ids ≡ false → position (λ other. x == other) ids ≡ None
position_none x [] h = refl
position_none x (y ∷ ids) h = go (x == y) refl (position_none x ids)
  where
    go : (t : Bool) → (x == y) ≡ t → (is_among x ids ≡ false → position (λ other. x == other) ids ≡ None) → position (λ other. x == other) (y ∷ ids) ≡ None
    go true s ih = absurd (true≢false (sym (ap (λ t. t || is_among x ids) s) ∙ h))
    go false s ih =
        position-cons (λ other. x == other) y ids ∙ ap (λ t. if t then Some 0 else option_map (λ k. 1 + k) (position (λ other. x == other) ids)) s
        ∙ ap (option_map (λ k. 1 + k)) (ih (sym (ap (λ t. t || is_among x ids) s) ∙ h))

-- a position is at most that of any element that passes
pub position_least : {A : Type 0} (test : A → Bool) (xs : List A) (k : ℕ) (x : A) → slice_get xs k ≡ Some x → test x ≡ true → (j : ℕ) × (position test xs ≡ Some j) × (j ≤ k)
position_least test [] k x e h = absurd (cc (e))
position_least {A} test (y ∷ xs) k x e h = go (test y) refl k e (λ k e. position_least test xs k x e h)
  where
    first : (t : Bool) → test y ≡ t → position test (y ∷ xs) ≡ (if t then Some 0 else option_map (λ k. 1 + k) (position test xs))
    first t s = position-cons test y xs ∙ ap (λ t. if t then Some 0 else option_map (λ k. 1 + k) (position test xs)) s

    go : (t : Bool) → test y ≡ t → (k : ℕ) → slice_get (y ∷ xs) k ≡ Some x → ((k : ℕ) → slice_get xs k ≡ Some x → (j : ℕ) × (position test xs ≡ Some j) × (j ≤ k)) → (j : ℕ) × (position test (y ∷ xs) ≡ Some j) × (j ≤ k)
    go true s k e ih = (0, first true s, omega arith)
    go false s zero e ih = absurd (true≢false (sym h ∙ ap test (sym (some_inj y x e)) ∙ s))
    go false s (suc k) e ih =
        let q = ih k e in
        (1 + q.0, first false s ∙ ap (option_map (λ k. 1 + k)) q.1, (let l = q.2 in omega (arith, l)))

pub same_name : (w : List ℕ) → is_same w w ≡ true
same_name [] = refl
same_name (x ∷ w) = (let t : (x == x) ≡ true = grind (arith, nat_tests) in rw t (same_name w))

pub get_right : {A : Type 0} (xs ys : List A) (j : ℕ) (y : A) → slice_get ys j ≡ Some y → slice_get (xs ++ ys) (length xs + j) ≡ Some y
get_right [] ys j y e = (let a : j ≡ 0 + j = omega arith in subst (λ m. slice_get ys m ≡ Some y) a e)
get_right (x ∷ xs) ys j y e = (let a : suc (length xs + j) ≡ suc (length xs) + j = omega arith in subst (λ m. slice_get (x ∷ (xs ++ ys)) m ≡ Some y) a (get_right xs ys j y e))

pub get_map : {A B : Type 0} (f : A → B) (xs : List A) (j : ℕ) (x : A) → slice_get xs j ≡ Some x → slice_get (map f xs) j ≡ Some (f x)
get_map f [] j x e = absurd (cc (e))
get_map f (y ∷ xs) zero x e = ap (λ z. Some (f z)) (some_inj y x e)
get_map f (y ∷ xs) (suc j) x e = get_map f xs j x e

pub length_map : {A B : Type 0} (f : A → B) (xs : List A) → length (map f xs) ≡ length xs
length_map f [] = refl
length_map f (x ∷ xs) = ap suc (length_map f xs)

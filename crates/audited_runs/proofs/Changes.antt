-- Lists of which one element changes, from which the first ones are left out, and of which some elements are counted.
use Rattle.std.proofs.Common.{◌≡◌, ℕ, zero, suc, ◌+◌, ◌≤◌, Bool, true, false, List, [], ◌∷◌, ◌++◌, length, map, drop, ◌⊎◌, inl, inr, Option, Some, None, if◌then◌else◌, refl, sym, ap, ◌∙◌, subst, arith}
use Rattle.std.specs.Prelude.{filter, slice_get, slice_set}
use Rattle.accepted_laws.proofs.Lists.{length_set}
use Rattle.scj_model.specs.State.{changed}
use Rattle.accepted_laws.proofs.Tools.{some_inj}
use Rattle.priority_laws.proofs.AreaLists.{get_changed, get_changed_other, number_cases}

-- ---- one element changes

pub changed_first : {A : Type 0} (f : A → A) (x : A) (xs : List A) → changed f 0 (x ∷ xs) ≡ f x ∷ xs
changed_first f x xs = refl

pub changed_later : {A : Type 0} (f : A → A) (p : ℕ) (x : A) (xs : List A) →
    changed f (suc p) (x ∷ xs) ≡ x ∷ changed f p xs
changed_later {A} f p x xs = go (slice_get xs p)
  where
    go : (o : Option A) → elim o as (λ _. List A) [ None ↦ x ∷ xs | Some y ↦ x ∷ slice_set xs p (f y) ]
        ≡ x ∷ elim o as (λ _. List A) [ None ↦ xs | Some y ↦ slice_set xs p (f y) ]
    go None = refl
    go (Some y) = refl

pub changed_twice : {A : Type 0} (f g h : A → A) → ((x : A) → f (g x) ≡ h x) → (p : ℕ) (xs : List A) →
    changed f p (changed g p xs) ≡ changed h p xs
changed_twice f g h same p [] = refl
changed_twice f g h same zero (x ∷ xs) = ap (λ y. y ∷ xs) (same x)
changed_twice f g h same (suc p) (x ∷ xs) =
    ap (changed f (suc p)) (changed_later g p x xs)
    ∙ (changed_later f p x (changed g p xs)
    ∙ (ap (λ ys. x ∷ ys) (changed_twice f g h same p xs) ∙ sym (changed_later h p x xs)))

pub map_changed : {A B : Type 0} (k : A → B) (f : A → A) (g : B → B) → ((x : A) → k (f x) ≡ g (k x)) → (p : ℕ)
    (xs : List A) → map k (changed f p xs) ≡ changed g p (map k xs)
map_changed k f g same p [] = refl
map_changed k f g same zero (x ∷ xs) = ap (λ y. y ∷ map k xs) (same x)
map_changed k f g same (suc p) (x ∷ xs) =
    ap (map k) (changed_later f p x xs)
    ∙ (ap (λ ys. k x ∷ ys) (map_changed k f g same p xs) ∙ sym (changed_later g p (k x) (map k xs)))

pub drop_changed : {A : Type 0} (f : A → A) (e p q : ℕ) (xs : List A) → p ≡ e + q →
    drop e (changed f p xs) ≡ changed f q (drop e xs)
drop_changed f zero p q xs at =
    let same : p ≡ q = omega (arith, at) in
    ap (λ n. changed f n xs) same
drop_changed f (suc e) p q [] at = refl
drop_changed f (suc e) zero q (x ∷ xs) at = absurd (omega (arith, at))
drop_changed f (suc e) (suc p) q (x ∷ xs) at =
    ap (drop (suc e)) (changed_later f p x xs) ∙ drop_changed f e p q xs (omega (arith, at))

pub length_changed : {A : Type 0} (f : A → A) (p : ℕ) (xs : List A) → length (changed f p xs) ≡ length xs
length_changed {A} f p xs = go (slice_get xs p)
  where
    go : (o : Option A) → length (elim o as (λ _. List A) [ None ↦ xs | Some y ↦ slice_set xs p (f y) ]) ≡ length xs
    go None = refl
    go (Some y) = length_set xs p (f y)

-- changes that do the same to what stands at the place
pub changed_as : {A : Type 0} (f g : A → A) (p : ℕ) (xs : List A) (x : A) → slice_get xs p ≡ Some x → f x ≡ g x →
    changed f p xs ≡ changed g p xs
changed_as f g p xs x e same =
    ap (λ o. elim o as (λ _. List _) [ None ↦ xs | Some y ↦ slice_set xs p (f y) ]) e
    ∙ (ap (slice_set xs p) same
    ∙ sym (ap (λ o. elim o as (λ _. List _) [ None ↦ xs | Some y ↦ slice_set xs p (g y) ]) e))

set_same : {A : Type 0} (xs : List A) (p : ℕ) (x : A) → slice_get xs p ≡ Some x → slice_set xs p x ≡ xs
set_same [] p x e = refl
set_same (y ∷ xs) zero x e = ap (λ z. z ∷ xs) (sym (some_inj y x e))
set_same (y ∷ xs) (suc p) x e = ap (λ ys. y ∷ ys) (set_same xs p x e)

pub changed_none : {A : Type 0} (f : A → A) (p : ℕ) (xs : List A) (x : A) → slice_get xs p ≡ Some x → f x ≡ x →
    changed f p xs ≡ xs
changed_none f p xs x e same =
    ap (λ o. elim o as (λ _. List _) [ None ↦ xs | Some y ↦ slice_set xs p (f y) ]) e
    ∙ (ap (slice_set xs p) same ∙ set_same xs p x e)

-- what a changed list has at a place
pub data AtChanged {A : Type 0} (f : A → A) (p : ℕ) (xs : List A) (q : ℕ) (y : A) : Type 0 where
  is_changed : (x : A) (there : slice_get xs q ≡ Some x) (same : p ≡ q) (is : y ≡ f x) → AtChanged f p xs q y
  is_kept : (there : slice_get xs q ≡ Some y) (apart : p ≡ q → ⊥) → AtChanged f p xs q y

pub at_changed : {A : Type 0} (f : A → A) (p : ℕ) (xs : List A) (q : ℕ) (y : A) →
    slice_get (changed f p xs) q ≡ Some y → AtChanged f p xs q y
at_changed {A} f p xs q y e = go (number_cases p q)
  where
    found : p ≡ q → (o : Option A) → slice_get xs q ≡ o → AtChanged f p xs q y
    found same None g =
        let h : slice_get (changed f p xs) q ≡ None =
        ap (λ o. slice_get (elim o as (λ _. List A) [ None ↦ xs | Some x ↦ slice_set xs p (f x) ]) q)
        (ap (slice_get xs) same ∙ g) ∙ g in
        absurd (cc (h, e))
    found same (Some x) g =
        let h : slice_get (changed f p xs) q ≡ Some (f x) =
        subst (λ n. slice_get (changed f p xs) n ≡ Some (f x)) same
        (get_changed f p xs x (ap (slice_get xs) same ∙ g)) in
        is_changed x g same (some_inj y (f x) (sym e ∙ h))

    go : (p ≡ q) ⊎ (p ≡ q → ⊥) → AtChanged f p xs q y
    go (inl same) = found same (slice_get xs q) refl
    go (inr apart) = is_kept (sym (get_changed_other f p q xs apart) ∙ e) apart

-- ---- the first ones are left out

pub get_drop : {A : Type 0} (e p q : ℕ) (xs : List A) → p ≡ e + q → slice_get (drop e xs) q ≡ slice_get xs p
get_drop zero p q xs at = let same : q ≡ p = omega (arith, at) in ap (slice_get xs) same
get_drop (suc e) p q [] at = refl
get_drop (suc e) zero q (x ∷ xs) at = absurd (omega (arith, at))
get_drop (suc e) (suc p) q (x ∷ xs) at = get_drop e p q xs (omega (arith, at))

pub drop_left : {A : Type 0} (e : ℕ) (xs ys : List A) → e ≤ length xs → drop e (xs ++ ys) ≡ drop e xs ++ ys
drop_left zero xs ys l = refl
drop_left (suc e) [] ys l = absurd (omega (arith, l))
drop_left (suc e) (x ∷ xs) ys l = drop_left e xs ys (omega (arith, l))

pub drop_all_of : {A : Type 0} (xs : List A) → drop (length xs) xs ≡ []
drop_all_of [] = refl
drop_all_of (x ∷ xs) = drop_all_of xs

-- ---- how many are of a kind

pub count_map : {A B : Type 0} (k : A → B) (f : A → Bool) (g : B → Bool) → ((x : A) → g (k x) ≡ f x) →
    (xs : List A) → length (filter g (map k xs)) ≡ length (filter f xs)
count_map k f g same [] = refl
count_map {A} k f g same (x ∷ xs) = go (f x) (g (k x)) (same x) (count_map k f g same xs)
  where
    go : (a b : Bool) → b ≡ a → length (filter g (map k xs)) ≡ length (filter f xs) →
        length (if b then k x ∷ filter g (map k xs) else filter g (map k xs))
        ≡ length (if a then x ∷ filter f xs else filter f xs)
    go true true e more = ap suc more
    go false false e more = more
    go true false e more = absurd (cc (e))
    go false true e more = absurd (cc (e))

pub count_changed : {A : Type 0} (test : A → Bool) (f : A → A) → ((x : A) → test (f x) ≡ test x) → (p : ℕ)
    (xs : List A) → length (filter test (changed f p xs)) ≡ length (filter test xs)
count_changed test f same p [] = refl
count_changed {A} test f same zero (x ∷ xs) = go (test x) (test (f x)) (same x)
  where
    go : (a b : Bool) → b ≡ a →
        length (if b then f x ∷ filter test xs else filter test xs)
        ≡ length (if a then x ∷ filter test xs else filter test xs)
    go true true e = refl
    go false false e = refl
    go true false e = absurd (cc (e))
    go false true e = absurd (cc (e))
count_changed {A} test f same (suc p) (x ∷ xs) =
    ap (λ ys. length (filter test ys)) (changed_later f p x xs) ∙ go (test x) (count_changed test f same p xs)
  where
    go : (a : Bool) → length (filter test (changed f p xs)) ≡ length (filter test xs) →
        length (if a then x ∷ filter test (changed f p xs) else filter test (changed f p xs))
        ≡ length (if a then x ∷ filter test xs else filter test xs)
    go true more = ap suc more
    go false more = more

pub count_more : {A : Type 0} (test : A → Bool) (xs : List A) (x : A) → test x ≡ true →
    length (filter test (xs ++ x ∷ [])) ≡ length (filter test xs) + 1
count_more test [] x e = ap (λ b. length (if b then x ∷ [] else [])) e
count_more {A} test (y ∷ xs) x e = go (test y) (count_more test xs x e)
  where
    go : (b : Bool) → length (filter test (xs ++ x ∷ [])) ≡ length (filter test xs) + 1 →
        length (if b then y ∷ filter test (xs ++ x ∷ []) else filter test (xs ++ x ∷ []))
        ≡ length (if b then y ∷ filter test xs else filter test xs) + 1
    go true more = omega (arith, more)
    go false more = more

pub count_else : {A : Type 0} (test : A → Bool) (xs : List A) (x : A) → test x ≡ false →
    length (filter test (xs ++ x ∷ [])) ≡ length (filter test xs)
count_else test [] x e = ap (λ b. length (if b then x ∷ [] else [])) e
count_else {A} test (y ∷ xs) x e = go (test y) (count_else test xs x e)
  where
    go : (b : Bool) → length (filter test (xs ++ x ∷ [])) ≡ length (filter test xs) →
        length (if b then y ∷ filter test (xs ++ x ∷ []) else filter test (xs ++ x ∷ []))
        ≡ length (if b then y ∷ filter test xs else filter test xs)
    go true more = ap suc more
    go false more = more

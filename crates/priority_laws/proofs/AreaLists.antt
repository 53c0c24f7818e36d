-- Lists of areas by their numbers, and which areas of a list are open.
use Rattle.std.proofs.Common.{◌≡◌, ℕ, zero, suc, ◌==◌, ◌<◌, Bool, true, false, ◌||◌, ◌⊎◌, inl, inr, List, [], ◌∷◌, ◌++◌, length, Option, Some, None, refl, sym, ap, ◌∙◌, subst, arith}
use Rattle.std.specs.Prelude.{slice_get, slice_set, not, filter, if◌then◌else◌}
use Rattle.std.proofs.lemmas.Bool.Decides.{nat_tests}
use Rattle.scj_rules.specs.Words.{is_among, holds}
use Rattle.accepted_laws.proofs.Lists.{get_set_same, get_set_other, length_set}
use Rattle.scj_model.specs.State.{MemoryArea, changed}
use Rattle.priority_laws.specs.Nesting.{AreBelow}

-- ---- numbers

pub bool_cases : (b : Bool) → (b ≡ true) ⊎ (b ≡ false)
bool_cases true = inl refl
bool_cases false = inr refl

pub not_both : {A : Type 0} (b : Bool) → b ≡ true → b ≡ false → A
not_both b t f = absurd (cc (t, f))

pub same_number : (a b : ℕ) → (a == b) ≡ true → a ≡ b
same_number a b h = grind (arith, nat_tests)

pub other_number : (a b : ℕ) → (a == b) ≡ false → a ≡ b → ⊥
other_number a b h e = grind (arith, nat_tests)

pub same_test : (a : ℕ) → (a == a) ≡ true
same_test a = grind (arith, nat_tests)

pub number_cases : (a b : ℕ) → (a ≡ b) ⊎ (a ≡ b → ⊥)
number_cases a b = go (bool_cases (a == b))
  where
    go : ((a == b) ≡ true) ⊎ ((a == b) ≡ false) → (a ≡ b) ⊎ (a ≡ b → ⊥)
    go (inl t) = inl (same_number a b t)
    go (inr f) = inr (other_number a b f)

-- ---- what is among some numbers

pub among_cases : (b x : ℕ) (xs : List ℕ) → is_among b (x ∷ xs) ≡ true → (b ≡ x) ⊎ (is_among b xs ≡ true)
among_cases b x xs h = go (bool_cases (b == x))
  where
    go : ((b == x) ≡ true) ⊎ ((b == x) ≡ false) → (b ≡ x) ⊎ (is_among b xs ≡ true)
    go (inl t) = inl (same_number b x t)
    go (inr f) = inr (sym (ap (λ c. c || is_among b xs) f) ∙ h)

pub among_here : (x : ℕ) (xs : List ℕ) → is_among x (x ∷ xs) ≡ true
among_here x xs = ap (λ c. c || is_among x xs) (same_test x)

or_true : (c : Bool) → (c || true) ≡ true
or_true true = refl
or_true false = refl

pub among_later : (b x : ℕ) (xs : List ℕ) → is_among b xs ≡ true → is_among b (x ∷ xs) ≡ true
among_later b x xs h = ap (λ c. (b == x) || c) h ∙ or_true (b == x)

pub among_left : (b : ℕ) (xs ys : List ℕ) → is_among b xs ≡ true → is_among b (xs ++ ys) ≡ true
among_left b [] ys h = absurd (cc (h))
among_left b (x ∷ xs) ys h = go (among_cases b x xs h) (among_left b xs ys)
  where
    go : (b ≡ x) ⊎ (is_among b xs ≡ true) → (is_among b xs ≡ true → is_among b (xs ++ ys) ≡ true) →
        is_among b (x ∷ xs ++ ys) ≡ true
    go (inl e) more = subst (λ c. is_among c (x ∷ xs ++ ys) ≡ true) (sym e) (among_here x (xs ++ ys))
    go (inr m) more = among_later b x (xs ++ ys) (more m)

pub among_right : (b : ℕ) (xs ys : List ℕ) → is_among b ys ≡ true → is_among b (xs ++ ys) ≡ true
among_right b [] ys h = h
among_right b (x ∷ xs) ys h = among_later b x (xs ++ ys) (among_right b xs ys h)

-- the first of a falling list stands on it once
pub without_first : (a : ℕ) (areas : List ℕ) → AreBelow a areas → filter (λ b. not (b == a)) (a ∷ areas) ≡ areas
without_first a areas h =
    ap (λ c. if not c then a ∷ filter (λ b. not (b == a)) areas else filter (λ b. not (b == a)) areas) (same_test a)
    ∙ rest areas h
  where
    other : (b : ℕ) → b < a → (b == a) ≡ false
    other b l = grind (arith, nat_tests)

    rest : (bs : List ℕ) → AreBelow a bs → filter (λ b. not (b == a)) bs ≡ bs
    rest [] k = refl
    rest (b ∷ bs) k =
        ap (λ c. if not c then b ∷ filter (λ b. not (b == a)) bs else filter (λ b. not (b == a)) bs)
        (other b (k b (among_here b bs)))
        ∙ ap (λ cs. b ∷ cs) (rest bs (λ c m. k c (among_later c b bs m)))

-- ---- open areas

abbrev pub open_in : List MemoryArea → ℕ → Bool
open_in areas a = holds (slice_get areas a) (λ x. x.is_open)

abbrev pub as_closed : MemoryArea → MemoryArea
as_closed x = record x { is_open = false }

-- the areas after this one is closed
abbrev pub shut : ℕ → List MemoryArea → List MemoryArea
shut a areas = changed as_closed a areas

pub length_changed : {A : Type 0} (f : A → A) (index : ℕ) (xs : List A) → length (changed f index xs) ≡ length xs
length_changed {A} f index xs = go (slice_get xs index)
  where
    go : (o : Option A) → length (elim o as (λ z. List A) [ None ↦ xs | Some x ↦ slice_set xs index (f x) ]) ≡ length xs
    go None = refl
    go (Some x) = length_set xs index (f x)

pub get_within : {A : Type 0} (xs : List A) (i : ℕ) (x : A) → slice_get xs i ≡ Some x → i < length xs
get_within [] i x e = absurd (cc (e))
get_within (y ∷ xs) zero x e = omega arith
get_within (y ∷ xs) (suc i) x e = let h : i < length xs = get_within xs i x e in omega (arith, h)

pub get_changed : {A : Type 0} (f : A → A) (index : ℕ) (xs : List A) (x : A) → slice_get xs index ≡ Some x →
    slice_get (changed f index xs) index ≡ Some (f x)
get_changed {A} f index xs x e =
    subst (λ (o : Option A). slice_get (elim o as (λ z. List A) [ None ↦ xs | Some y ↦ slice_set xs index (f y) ]) index
    ≡ Some (f x)) (sym e)
    (get_set_same xs index (f x) (get_within xs index x e))

pub get_changed_other : {A : Type 0} (f : A → A) (index other : ℕ) (xs : List A) → (index ≡ other → ⊥) →
    slice_get (changed f index xs) other ≡ slice_get xs other
get_changed_other {A} f index other xs h = go (slice_get xs index)
  where
    go : (o : Option A) → slice_get (elim o as (λ z. List A) [ None ↦ xs | Some x ↦ slice_set xs index (f x) ]) other
        ≡ slice_get xs other
    go None = refl
    go (Some x) = get_set_other xs index other (f x) h

pub shut_closes : (a : ℕ) (areas : List MemoryArea) → open_in (shut a areas) a ≡ false
shut_closes a areas = go (slice_get areas a) refl
  where
    go : (o : Option MemoryArea) → slice_get areas a ≡ o → open_in (shut a areas) a ≡ false
    go None e =
        ap (λ (o : Option MemoryArea). holds
        (slice_get (elim o as (λ z. List MemoryArea) [ None ↦ areas | Some y ↦ slice_set areas a (as_closed y) ]) a)
        (λ x. x.is_open)) e
        ∙ ap (λ (o : Option MemoryArea). holds o (λ x. x.is_open)) e
    go (Some x) e = ap (λ (o : Option MemoryArea). holds o (λ x. x.is_open)) (get_changed as_closed a areas x e)

pub shut_keeps : (a b : ℕ) (areas : List MemoryArea) → (a ≡ b → ⊥) → open_in (shut a areas) b ≡ open_in areas b
shut_keeps a b areas h =
    ap (λ (o : Option MemoryArea). holds o (λ x. x.is_open)) (get_changed_other as_closed a b areas h)

-- what is open afterwards is another area, and was open before
pub shut_open : (a b : ℕ) (areas : List MemoryArea) → open_in (shut a areas) b ≡ true → (open_in areas b ≡ true) ×
    (b ≡ a → ⊥)
shut_open a b areas h = go (number_cases a b)
  where
    go : (a ≡ b) ⊎ (a ≡ b → ⊥) → (open_in areas b ≡ true) × (b ≡ a → ⊥)
    go (inl e) =
        not_both (open_in (shut a areas) b) h (subst (λ c. open_in (shut a areas) c ≡ false) e (shut_closes a areas))
    go (inr n) = (sym (shut_keeps a b areas n) ∙ h, λ e. n (sym e))

-- only the area itself is closed
pub shut_only : (a b : ℕ) (areas : List MemoryArea) → open_in areas b ≡ true → open_in (shut a areas) b ≡ false → b ≡ a
shut_only a b areas o c = go (number_cases a b)
  where
    go : (a ≡ b) ⊎ (a ≡ b → ⊥) → b ≡ a
    go (inl e) = sym e
    go (inr n) = not_both (open_in areas b) o (sym (shut_keeps a b areas n) ∙ c)

-- ---- an area more

pub snoc_open : (areas : List MemoryArea) (x : MemoryArea) (b : ℕ) → open_in (areas ++ x ∷ []) b ≡ true →
    (open_in areas b ≡ true) ⊎ (b ≡ length areas)
snoc_open [] x zero h = inr refl
snoc_open [] x (suc b) h = absurd (cc (h))
snoc_open (y ∷ areas) x zero h = inl h
snoc_open (y ∷ areas) x (suc b) h = go (snoc_open areas x b h)
  where
    go : (open_in areas b ≡ true) ⊎ (b ≡ length areas) → (open_in areas b ≡ true) ⊎ (suc b ≡ suc (length areas))
    go (inl o) = inl o
    go (inr e) = inr (ap suc e)

pub snoc_stays : (areas : List MemoryArea) (x : MemoryArea) (b : ℕ) → open_in areas b ≡ true →
    open_in (areas ++ x ∷ []) b ≡ true
snoc_stays [] x b h = absurd (cc (h))
snoc_stays (y ∷ areas) x zero h = h
snoc_stays (y ∷ areas) x (suc b) h = snoc_stays areas x b h

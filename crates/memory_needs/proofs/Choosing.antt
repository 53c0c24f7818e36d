-- The first of what is shown, found one after the other.
use Rattle.std.specs.Prelude.{◌⊎◌, Option, Some, None, nat_lt, if◌then◌else◌}
use Rattle.std.specs.Ordering.{nat_cmp, ordering_then}
use Rattle.std.specs.declared.cmp.Ordering.{Ordering}
use Rattle.std.specs.declared.cmp.Ordering.TheVariants.{Less, Equal, Greater}
use Rattle.std.proofs.Common.{◌≡◌, inl, inr, ℕ, ◌<◌, ◌==◌, ◌&&◌, ◌||◌, List, [], ◌∷◌, Bool, true, false, true≢false, refl, sym, ◌∙◌, ap, subst, arith}
use Rattle.std.proofs.lemmas.Bool.Decides.{nat_tests}
use Rattle.scj_rules.specs.Report.{position_order}
use Rattle.memory_needs.specs.declared.shown.Shown.{Shown}
use Rattle.memory_needs.specs.Causes.{order_of}
use Rattle.memory_needs.specs.Chosen.{lexical, key_of, is_before, first_of, IsChosen, IsAll}

-- ---- the lexical order

data Step (m n : ℕ) (rest : Bool) : Type 0 where
  less : m < n → Step m n rest
  same : m ≡ n → rest ≡ true → Step m n rest

step_of : (m n : ℕ) (rest : Bool) → (nat_lt m n || ((m == n) && rest)) ≡ true → Step m n rest
step_of m n rest e = of (nat_lt m n) (m == n) rest refl refl refl e
  where
    of : (a b c : Bool) → nat_lt m n ≡ a → (m == n) ≡ b → rest ≡ c → (a || (b && c)) ≡ true → Step m n rest
    of true b c p q r h = less (grind (arith, nat_tests))
    of false true true p q r h = same (grind (arith, nat_tests)) r
    of false true false p q r h = absurd (true≢false (sym h))
    of false false c p q r h = absurd (true≢false (sym h))

of_less : (m n : ℕ) (rest : Bool) → m < n → (nat_lt m n || ((m == n) && rest)) ≡ true
of_less m n rest l = let t : nat_lt m n ≡ true = grind (arith, nat_tests) in ap (λ a. a || ((m == n) && rest)) t

of_same : (m n : ℕ) (rest : Bool) → m ≡ n → rest ≡ true → (nat_lt m n || ((m == n) && rest)) ≡ true
of_same m n rest e r = of (nat_lt m n) refl
  where
    t : (m == n) ≡ true
    t = grind (arith, nat_tests)

    of : (a : Bool) → nat_lt m n ≡ a → (a || ((m == n) && rest)) ≡ true
    of true p = refl
    of false p = ap (λ b. b && rest) t ∙ r

pub lexical_then : (ms ns os : List ℕ) → lexical ms ns ≡ true → lexical ns os ≡ true → lexical ms os ≡ true
unfolding lexical
lexical_then [] ns os a b = absurd (true≢false (sym a))
lexical_then (m ∷ ms) [] os a b = absurd (true≢false (sym a))
lexical_then (m ∷ ms) (n ∷ ns) [] a b = absurd (true≢false (sym b))
lexical_then (m ∷ ms) (n ∷ ns) (o ∷ os) a b =
    of (step_of m n (lexical ms ns) a) (step_of n o (lexical ns os) b) (λ r s. lexical_then ms ns os r s)
  where
    of : Step m n (lexical ms ns) → Step n o (lexical ns os) →
        (lexical ms ns ≡ true → lexical ns os ≡ true → lexical ms os ≡ true) → (nat_lt m o || ((m == o) && lexical ms os)) ≡ true
    of (less l) (less k) t = of_less m o (lexical ms os) (omega (arith, l, k))
    of (less l) (same e r) t = of_less m o (lexical ms os) (omega (arith, l, e))
    of (same e r) (less k) t = of_less m o (lexical ms os) (omega (arith, e, k))
    of (same e r) (same f s) t = of_same m o (lexical ms os) (e ∙ f) (t r s)

pub lexical_self : (ms : List ℕ) → lexical ms ms ≡ true → ⊥
unfolding lexical
lexical_self [] a = true≢false (sym a)
lexical_self (m ∷ ms) a = of (step_of m m (lexical ms ms) a) (λ r. lexical_self ms r)
  where
    of : Step m m (lexical ms ms) → (lexical ms ms ≡ true → ⊥) → ⊥
    of (less l) t = omega (arith, l)
    of (same e r) t = t r

-- ---- places

cmp_then : (m n : ℕ) (rest : Ordering) (after : Bool) → (rest ≡ Less → after ≡ true) →
    ordering_then (nat_cmp m n) rest ≡ Less → (nat_lt m n || ((m == n) && after)) ≡ true
cmp_then m n rest after h e = of (nat_lt m n) (nat_lt n m) refl refl
  where
    of : (a b : Bool) → nat_lt m n ≡ a → nat_lt n m ≡ b → (nat_lt m n || ((m == n) && after)) ≡ true
    of true b p q = of_less m n after (grind (arith, nat_tests))
    of false false p q =
        let s : m ≡ n = grind (arith, nat_tests) in
        let t : (m == n) ≡ true = grind (arith, nat_tests) in
        let c : nat_cmp m n ≡ Equal = rw (p, t) refl in
        of_same m n after s (h (sym (ap (λ o. ordering_then o rest) c) ∙ e))
    of false true p q =
        let t : (m == n) ≡ false = grind (arith, nat_tests) in
        absurd (let c : ordering_then (nat_cmp m n) rest ≡ nat_cmp m n = rw (p, t) refl in
        let d : nat_cmp m n ≡ Less = sym c ∙ e in
        not_less p t d)
      where
        not_less : nat_lt m n ≡ false → (m == n) ≡ false → nat_cmp m n ≡ Less → ⊥
        not_less a b k = (let g : nat_cmp m n ≡ Greater = rw (a, b) refl in cc (g, k))

-- of one cause, what stands before in order of place stands before
pub earlier_position : (a b : Shown) → order_of a.cause ≡ order_of b.cause → position_order a.at b.at ≡ Less →
    is_before a b ≡ true
unfolding key_of lexical
earlier_position a b e p =
    of_same (order_of a.cause) (order_of b.cause) (lexical (a.at.file ∷ a.at.line ∷ a.at.col ∷ []) (b.at.file ∷ b.at.line ∷ b.at.col ∷ [])) e
    (cmp_then a.at.file b.at.file (ordering_then (nat_cmp a.at.line b.at.line) (nat_cmp a.at.col b.at.col))
    (lexical (a.at.line ∷ a.at.col ∷ []) (b.at.line ∷ b.at.col ∷ []))
    (λ q. cmp_then a.at.line b.at.line (nat_cmp a.at.col b.at.col) (lexical (a.at.col ∷ []) (b.at.col ∷ []))
    (λ r. cmp_last a.at.col b.at.col r) q) p)
  where
    cmp_last : (m n : ℕ) → nat_cmp m n ≡ Less → (nat_lt m n || ((m == n) && false)) ≡ true
    cmp_last m n r = cmp_then m n Equal false (λ q. absurd (cc (q))) (ap (λ o. ordering_then o Equal) r)

pub earlier_cause : (a b : Shown) → order_of a.cause < order_of b.cause → is_before a b ≡ true
unfolding key_of lexical
earlier_cause a b l =
    of_less (order_of a.cause) (order_of b.cause)
    (lexical (a.at.file ∷ a.at.line ∷ a.at.col ∷ []) (b.at.file ∷ b.at.line ∷ b.at.col ∷ [])) l

-- ---- one more

pub chosen_none : IsChosen (λ s. ⊥) None
chosen_none = record { nothing = λ s h. h; that = tt; first = tt }

pub chosen_more : (Is Next : Shown → Type 0) (o d : Option Shown) → IsChosen Is o → IsAll Next d →
    IsChosen (λ s. Is s ⊎ Next s) (first_of o d)
unfolding first_of
chosen_more Is Next None None c a = record {
  nothing = λ s h. of s h;
  that = tt;
  first = tt;
}
  where
    of : (s : Shown) → Is s ⊎ Next s → ⊥
    of s (inl h) = c.nothing s h
    of s (inr h) = cc (a.all s h)
chosen_more Is Next (Some b) None c a = record {
  nothing = tt;
  that = inl c.that;
  first = λ s h. of s h;
}
  where
    of : (s : Shown) → Is s ⊎ Next s → is_before s b ≡ true → ⊥
    of s (inl h) e = c.first s h e
    of s (inr h) e = cc (a.all s h)
chosen_more Is Next None (Some d) c a = record {
  nothing = tt;
  that = inr a.that;
  first = λ s h. of s h;
}
  where
    of : (s : Shown) → Is s ⊎ Next s → is_before s d ≡ true → ⊥
    of s (inl h) e = c.nothing s h
    of s (inr h) e =
        let same : d ≡ s = cc (a.all s h) in
        lexical_self (key_of d) (subst (λ z. is_before z d ≡ true) (sym same) e)
chosen_more Is Next (Some b) (Some d) c a = go (is_before d b) refl
  where
    go : (t : Bool) → is_before d b ≡ t → IsChosen (λ s. Is s ⊎ Next s) (if t then Some d else Some b)
    go true q = record { nothing = tt; that = inr a.that; first = λ s h. of s h }
      where
        of : (s : Shown) → Is s ⊎ Next s → is_before s d ≡ true → ⊥
        of s (inl h) e = c.first s h (lexical_then (key_of s) (key_of d) (key_of b) e q)
        of s (inr h) e =
            let same : d ≡ s = cc (a.all s h) in
            lexical_self (key_of d) (subst (λ z. is_before z d ≡ true) (sym same) e)
    go false q = record { nothing = tt; that = inl c.that; first = λ s h. of s h }
      where
        of : (s : Shown) → Is s ⊎ Next s → is_before s b ≡ true → ⊥
        of s (inl h) e = c.first s h e
        of s (inr h) e =
            let same : d ≡ s = cc (a.all s h) in
            true≢false (sym (subst (λ z. is_before z b ≡ true) (sym same) e) ∙ q)

pub chosen_same : (Is Other : Shown → Type 0) (o : Option Shown) → ((s : Shown) → Is s → Other s) →
    ((s : Shown) → Other s → Is s) → IsChosen Is o → IsChosen Other o
chosen_same Is Other None to from c = record { nothing = λ s h. c.nothing s (from s h); that = tt; first = tt }
chosen_same Is Other (Some b) to from c = record {
  nothing = tt;
  that = to b c.that;
  first = λ s h e. c.first s (from s h) e;
}

pub all_none : (Is : Shown → Type 0) → ((s : Shown) → Is s → ⊥) → IsAll Is None
all_none Is h = record { that = tt; all = λ s k. absurd (h s k) }

pub all_one : (Is : Shown → Type 0) (b : Shown) → Is b → ((s : Shown) → Is s → b ≡ s) → IsAll Is (Some b)
all_one Is b h u = record { that = h; all = λ s k. ap (λ (z : Shown). Some z) (u s k) }

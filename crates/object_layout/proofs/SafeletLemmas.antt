-- The first of the classes that passes a test.
use Rattle.std.proofs.Common.{◌≡◌, ℕ, zero, suc, ◌+◌, ◌<◌, List, [], ◌∷◌, length, find, refl, sym, ap, ◌∙◌, subst, arith, Some, None, Bool, true, false, add-zero, zero-add, ⊎_elim, ◌≤◌}
use Rattle.std.proofs.lemmas.Bool.{cases_lt}
use Rattle.scj_rules.specs.ClassRules.{numbers_from}
use Rattle.scj_rules.specs.Contexts.{Declarations}
use Rattle.scj_rules.specs.TypeRules.{is_concrete_safelet}
use Rattle.scj_rules.specs.Bodies.{safelet_class}

found_at : {A : Type 0} (test : ℕ → Bool) (n k : ℕ) (xs : List A) → k < length xs
    → ((j : ℕ) → j < k → test (n + j) ≡ false) → test (n + k) ≡ true → find test (numbers_from n xs) ≡ Some (n + k)
unfolding numbers_from
found_at test n k [] l before here = absurd (omega (arith, l))
found_at test n zero (x ∷ xs) l before here =
    let t : test n ≡ true = subst (λ m. test m ≡ true) (add-zero n) here in
    rw t (ap (λ m. Some m) (sym (add-zero n)))
found_at test n (suc k) (x ∷ xs) l before here =
    let t : test n ≡ false = subst (λ m. test m ≡ false) (add-zero n) (before 0 (omega arith)) in
    let e : n + suc k ≡ (n + 1) + k = omega arith in
    rw (t, e)
    (found_at test (n + 1) k xs (omega (arith, l))
    (λ j less. let f : n + suc j ≡ (n + 1) + j = omega arith in
    subst (λ m. test m ≡ false) f (before (suc j) (omega (arith, less))))
    (subst (λ m. test m ≡ true) e here))

found_none : {A : Type 0} (test : ℕ → Bool) (n : ℕ) (xs : List A) → ((j : ℕ) → j < length xs → test (n + j) ≡ false)
    → find test (numbers_from n xs) ≡ None
unfolding numbers_from
found_none test n [] before = refl
found_none test n (x ∷ xs) before =
    let t : test n ≡ false = subst (λ m. test m ≡ false) (add-zero n) (before 0 (omega arith)) in
    rw t
    (found_none test (n + 1) xs
    (λ j less. let f : n + suc j ≡ (n + 1) + j = omega arith in
    subst (λ m. test m ≡ false) f (before (suc j) (omega (arith, less)))))

pub NoneBelow : Declarations → ℕ → Type 0
NoneBelow p n = (class : ℕ) → class < n → is_concrete_safelet p class ≡ false

pub none_first : (p : Declarations) → NoneBelow p 0
unfolding NoneBelow
none_first p = λ class l. absurd (omega (arith, l))

pub none_more : (p : Declarations) (n : ℕ) → NoneBelow p n → is_concrete_safelet p n ≡ false → NoneBelow p (n + 1)
unfolding NoneBelow
none_more p n before here = λ class l.
    ⊎_elim (λ (m : class < n). before class m)
    (λ (m : n ≤ class). let e : n ≡ class = omega (arith, l, m) in subst (λ k. is_concrete_safelet p k ≡ false) e here)
    (cases_lt class n)

pub safelet_found : (p : Declarations) (n : ℕ) → n < length p.classes → NoneBelow p n → is_concrete_safelet p n ≡ true →
    Some n ≡ safelet_class p
unfolding NoneBelow safelet_class
safelet_found p n l before here =
    let z : 0 + n ≡ n = zero-add n in
    sym
    (found_at (is_concrete_safelet p) 0 n p.classes l
    (λ j less. subst (λ k. is_concrete_safelet p k ≡ false) (sym (zero-add j)) (before j less))
    (subst (λ k. is_concrete_safelet p k ≡ true) (sym z) here) ∙ ap (λ k. Some k) z)

pub safelet_missing : (p : Declarations) (n : ℕ) → n ≡ length p.classes → NoneBelow p n → None ≡ safelet_class p
unfolding NoneBelow safelet_class
safelet_missing p n e before =
    sym
    (found_none (is_concrete_safelet p) 0 p.classes
    (λ j less. subst (λ k. is_concrete_safelet p k ≡ false) (sym (zero-add j)) (before j (omega (arith, less, e)))))

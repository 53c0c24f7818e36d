-- The signs of binary operators, and what each gives of two kinds.
use Rattle.std.proofs.Common.{◌≡◌, ℕ, List, refl, sym, ap, ◌∙◌, subst, Some, Bool, true, false, ◌||◌, ◌==◌, true≢false, ◌⊎◌, inl, inr, nat_le, if◌then◌else◌}
use Rattle.scj_base.specs.Vocabulary.{sign_equal, sign_not_equal, sign_less, sign_greater, sign_less_equal, sign_greater_equal, sign_plus, sign_minus, sign_star, sign_slash, sign_percent, sign_and_and, sign_or_or, sign_and, sign_or, sign_xor, sign_shift_left, sign_shift_right, sign_shift_right_unsigned}
use Rattle.scj_tree.specs.Terminals.{loosest, is_binary, level, is_equality as is_equality_sign, is_relational, is_shift, is_additive, is_multiplicative}
use Rattle.scj_rules.specs.declared.typing.Scope.{Scope}
use Rattle.scj_rules.specs.declared.typing.Ty.{Ty}
use Rattle.scj_rules.specs.Words.{is_among, along}
use Rattle.scj_rules.specs.Types.{conditional_operators, relational_operators, equality_operators}
use Rattle.scj_rules.proofs.ChainLemmas.{or_cases, same_number}
use Rattle.scj_model.specs.Arithmetic.{entry, int_operators, comparisons}
use Rattle.accepted_laws.specs.Kinds.{Kind, number, truth, reference}
use Rattle.scope_flow.specs.Needs.{kind_of_ints, kind_of_binary}

pick : (t : Bool) (x rest : ℕ) (others : Bool) → (nat_le loosest rest ≡ true → others ≡ true) →
    nat_le loosest (if t then x else rest) ≡ true → (t || others) ≡ true
pick true x rest others h e = refl
pick false x rest others h e = h e

signs_are : (n : ℕ) → is_binary n ≡ true →
    (n == sign_or_or
    || (n == sign_and_and
    || (n == sign_or
    || (n == sign_xor
    || (n == sign_and
    || (is_equality_sign n
    || (is_relational n || (is_shift n || (is_additive n || (is_multiplicative n || false)))))))))) ≡ true
unfolding level
signs_are n e =
    pick (n == sign_or_or) _ _ _ (
    pick (n == sign_and_and) _ _ _ (
    pick (n == sign_or) _ _ _ (
    pick (n == sign_xor) _ _ _ (
    pick (n == sign_and) _ _ _ (
    pick (is_equality_sign n) _ _ _ (
    pick (is_relational n) _ _ _ (
    pick (is_shift n) _ _ _ (
    pick (is_additive n) _ _ _ (
    pick (is_multiplicative n) _ 0 false (λ e. absurd (true≢false (sym e)))))))))))) e

-- an operator that gives a number of two numbers
pub record IsArithmetic (n : ℕ) : Type 0 where
  pub no_and : (n == sign_and_and) ≡ false
  pub no_or : (n == sign_or_or) ≡ false
  pub gives : kind_of_binary n number number ≡ Some number

arithmetic_at : (n m : ℕ) → (n == m) ≡ true → IsArithmetic m → IsArithmetic n
arithmetic_at n m e h = subst IsArithmetic (sym (same_number n m e)) h

among_at : (n m : ℕ) (ns : List ℕ) → is_among n ns ≡ false → is_among m ns ≡ true → (n == m) ≡ true → ⊥
among_at n m ns f t e = true≢false (sym t ∙ ap (λ k. is_among k ns) (sym (same_number n m e)) ∙ f)

pub arithmetic_sign : (n : ℕ) → is_binary n ≡ true → is_among n conditional_operators ≡ false →
    is_among n relational_operators ≡ false → is_among n equality_operators ≡ false → IsArithmetic n
unfolding kind_of_binary kind_of_ints entry int_operators comparisons along
arithmetic_sign n b c r q = at_or_or (or_cases (n == sign_or_or) _ (signs_are n b))
  where
    at_star : ((n == sign_star) ≡ true) ⊎ ((n == sign_slash || n == sign_percent) ≡ true) → IsArithmetic n
    at_star (inl e) = arithmetic_at n sign_star e (record { no_and = refl; no_or = refl; gives = refl })
    at_star (inr e) = elim (or_cases (n == sign_slash) (n == sign_percent) e) as (λ z. IsArithmetic n) [
      | inl e ↦ arithmetic_at n sign_slash e (record { no_and = refl; no_or = refl; gives = refl })
      | inr e ↦ arithmetic_at n sign_percent e (record { no_and = refl; no_or = refl; gives = refl })
    ]

    at_multiplicative : (is_multiplicative n || false) ≡ true → IsArithmetic n
    at_multiplicative h = elim (or_cases (is_multiplicative n) false h) as (λ z. IsArithmetic n)
        [ inl e ↦ at_star (or_cases (n == sign_star) _ e) | inr e ↦ absurd (true≢false (sym e)) ]

    at_additive : (is_additive n ≡ true) ⊎ ((is_multiplicative n || false) ≡ true) → IsArithmetic n
    at_additive (inr h) = at_multiplicative h
    at_additive (inl h) = elim (or_cases (n == sign_plus) (n == sign_minus) h) as (λ z. IsArithmetic n) [
      | inl e ↦ arithmetic_at n sign_plus e (record { no_and = refl; no_or = refl; gives = refl })
      | inr e ↦ arithmetic_at n sign_minus e (record { no_and = refl; no_or = refl; gives = refl })
    ]

    at_left : ((n == sign_shift_left) ≡ true) ⊎ ((n == sign_shift_right || n == sign_shift_right_unsigned) ≡ true) →
        IsArithmetic n
    at_left (inl e) = arithmetic_at n sign_shift_left e (record { no_and = refl; no_or = refl; gives = refl })
    at_left (inr e) = elim (or_cases (n == sign_shift_right) (n == sign_shift_right_unsigned) e) as
        (λ z. IsArithmetic n) [
          | inl e ↦ arithmetic_at n sign_shift_right e (record { no_and = refl; no_or = refl; gives = refl })
          | inr e ↦ arithmetic_at n sign_shift_right_unsigned e (record { no_and = refl; no_or = refl; gives = refl })
        ]

    at_shift : (is_shift n ≡ true) ⊎ ((is_additive n || (is_multiplicative n || false)) ≡ true) → IsArithmetic n
    at_shift (inl h) = at_left (or_cases (n == sign_shift_left) _ h)
    at_shift (inr h) = at_additive (or_cases (is_additive n) _ h)

    no_relation : is_relational n ≡ true → ⊥
    no_relation h = elim (or_cases (n == sign_less) _ h) as (λ z. ⊥) [
      | inl e ↦ among_at n sign_less relational_operators r refl e
      | inr h ↦ elim (or_cases (n == sign_greater) _ h) as (λ z. ⊥) [
        | inl e ↦ among_at n sign_greater relational_operators r refl e
        | inr h ↦ elim (or_cases (n == sign_less_equal) (n == sign_greater_equal) h) as (λ z. ⊥) [
          | inl e ↦ among_at n sign_less_equal relational_operators r refl e
          | inr e ↦ among_at n sign_greater_equal relational_operators r refl e
        ]
      ]
    ]

    at_relational : (is_relational n ≡ true) ⊎
        ((is_shift n || (is_additive n || (is_multiplicative n || false))) ≡ true) → IsArithmetic n
    at_relational (inl h) = absurd (no_relation h)
    at_relational (inr h) = at_shift (or_cases (is_shift n) _ h)

    no_equality : is_equality_sign n ≡ true → ⊥
    no_equality h = elim (or_cases (n == sign_equal) (n == sign_not_equal) h) as (λ z. ⊥) [
      | inl e ↦ among_at n sign_equal equality_operators q refl e
      | inr e ↦ among_at n sign_not_equal equality_operators q refl e
    ]

    at_equality : (is_equality_sign n ≡ true) ⊎
        ((is_relational n || (is_shift n || (is_additive n || (is_multiplicative n || false)))) ≡ true) → IsArithmetic n
    at_equality (inl h) = absurd (no_equality h)
    at_equality (inr h) = at_relational (or_cases (is_relational n) _ h)

    at_and : ((n == sign_and) ≡ true) ⊎
        ((is_equality_sign n || (is_relational n || (is_shift n || (is_additive n || (is_multiplicative n || false)))))
        ≡ true) → IsArithmetic n
    at_and (inl e) = arithmetic_at n sign_and e (record { no_and = refl; no_or = refl; gives = refl })
    at_and (inr h) = at_equality (or_cases (is_equality_sign n) _ h)

    at_xor : ((n == sign_xor) ≡ true) ⊎
        ((n == sign_and
        || (is_equality_sign n
        || (is_relational n || (is_shift n || (is_additive n || (is_multiplicative n || false)))))) ≡ true) →
        IsArithmetic n
    at_xor (inl e) = arithmetic_at n sign_xor e (record { no_and = refl; no_or = refl; gives = refl })
    at_xor (inr h) = at_and (or_cases (n == sign_and) _ h)

    at_or : ((n == sign_or) ≡ true) ⊎
        ((n == sign_xor
        || (n == sign_and
        || (is_equality_sign n
        || (is_relational n || (is_shift n || (is_additive n || (is_multiplicative n || false))))))) ≡ true) →
        IsArithmetic n
    at_or (inl e) = arithmetic_at n sign_or e (record { no_and = refl; no_or = refl; gives = refl })
    at_or (inr h) = at_xor (or_cases (n == sign_xor) _ h)

    at_and_and : ((n == sign_and_and) ≡ true) ⊎
        ((n == sign_or
        || (n == sign_xor
        || (n == sign_and
        || (is_equality_sign n
        || (is_relational n || (is_shift n || (is_additive n || (is_multiplicative n || false)))))))) ≡ true) →
        IsArithmetic n
    at_and_and (inl e) = absurd (among_at n sign_and_and conditional_operators c refl e)
    at_and_and (inr h) = at_or (or_cases (n == sign_or) _ h)

    at_or_or : ((n == sign_or_or) ≡ true) ⊎
        ((n == sign_and_and
        || (n == sign_or
        || (n == sign_xor
        || (n == sign_and
        || (is_equality_sign n
        || (is_relational n || (is_shift n || (is_additive n || (is_multiplicative n || false))))))))) ≡ true) →
        IsArithmetic n
    at_or_or (inl e) = absurd (among_at n sign_or_or conditional_operators c refl e)
    at_or_or (inr h) = at_and_and (or_cases (n == sign_and_and) _ h)

-- a comparison, of numbers; an equality, of numbers, truth values or references
pub record Compares (n : ℕ) (first second : Kind) : Type 0 where
  pub no_and : (n == sign_and_and) ≡ false
  pub no_or : (n == sign_or_or) ≡ false
  pub gives : kind_of_binary n first second ≡ Some truth

compares_at : (n m : ℕ) (j k : Kind) → (n == m) ≡ true → Compares m j k → Compares n j k
compares_at n m j k e h = subst (λ n. Compares n j k) (sym (same_number n m e)) h

pub relational_sign : (n : ℕ) → is_among n relational_operators ≡ true → Compares n number number
unfolding kind_of_binary kind_of_ints entry int_operators comparisons along
relational_sign n h = elim (or_cases (n == sign_less) _ h) as (λ z. Compares n number number) [
  | inl e ↦ compares_at n sign_less number number e (record { no_and = refl; no_or = refl; gives = refl })
  | inr h ↦ elim (or_cases (n == sign_greater) _ h) as (λ z. Compares n number number) [
    | inl e ↦ compares_at n sign_greater number number e (record { no_and = refl; no_or = refl; gives = refl })
    | inr h ↦ elim (or_cases (n == sign_less_equal) _ h) as (λ z. Compares n number number) [
      | inl e ↦ compares_at n sign_less_equal number number e (record { no_and = refl; no_or = refl; gives = refl })
      | inr h ↦ elim (or_cases (n == sign_greater_equal) false h) as (λ z. Compares n number number) [
        | inl e ↦ compares_at n sign_greater_equal number number e
            (record { no_and = refl; no_or = refl; gives = refl })
        | inr e ↦ absurd (true≢false (sym e))
      ]
    ]
  ]
]

equality_sign : (n : ℕ) (j k : Kind) → is_among n equality_operators ≡ true → Compares sign_equal j k →
    Compares sign_not_equal j k → Compares n j k
equality_sign n j k h a b = elim (or_cases (n == sign_equal) _ h) as (λ z. Compares n j k) [
  | inl e ↦ compares_at n sign_equal j k e a
  | inr h ↦ elim (or_cases (n == sign_not_equal) false h) as (λ z. Compares n j k)
      [ inl e ↦ compares_at n sign_not_equal j k e b | inr e ↦ absurd (true≢false (sym e)) ]
]

pub equal_numbers : (n : ℕ) → is_among n equality_operators ≡ true → Compares n number number
unfolding kind_of_binary
equal_numbers n h = equality_sign n number number h (record { no_and = refl; no_or = refl; gives = refl })
    (record { no_and = refl; no_or = refl; gives = refl })

pub equal_truths : (n : ℕ) → is_among n equality_operators ≡ true → Compares n truth truth
unfolding kind_of_binary
equal_truths n h = equality_sign n truth truth h (record { no_and = refl; no_or = refl; gives = refl })
    (record { no_and = refl; no_or = refl; gives = refl })

pub equal_references : (n : ℕ) (t u : Ty) (s r : Scope) → is_among n equality_operators ≡ true →
    Compares n (reference t s) (reference u r)
unfolding kind_of_binary
equal_references n t u s r h =
    equality_sign n (reference t s) (reference u r) h (record { no_and = refl; no_or = refl; gives = refl })
    (record { no_and = refl; no_or = refl; gives = refl })

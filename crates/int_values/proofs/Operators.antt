-- The operators give numbers of 32 bits.
use Rattle.std.proofs.Common.{◌≡◌, ℕ, ◌^◌, ◌==◌, Bool, true, false, not, List, [], ◌∷◌, ℤ, Option, Some, None, if◌then◌else◌, FitsSigned, refl, subst, arith}
use Rattle.std.specs.Prelude.{int_rem, option_map}
use Rattle.std.specs.Int.{w32, cast_signed, int_shr, int_wrapping_neg, int_bit_not}
use Rattle.std.specs.Int.Signed.{mag_rem, mag_shr}
use Rattle.std.proofs.lemmas.Int.{ints}
use Rattle.scj_base.specs.declared.values.Value.{Value}
use Rattle.scj_base.specs.declared.values.Value.TheVariants.{Int, Bool as Truth, Null, At}
use Rattle.scj_base.specs.Vocabulary.{sign_equal, sign_not_equal, sign_minus, sign_not, sign_tilde}
use Rattle.scj_rules.specs.Words.{along}
use Rattle.accepted_laws.proofs.Tools.{some_inj}
use Rattle.scj_model.specs.Arithmetic.{entry, int_operators, comparisons, shift_count, are_equal, of_ints, on_ints, binary_value, unary_value}
use Rattle.int_values.specs.Ints.{FitsInt}

-- ---- numbers

-- what is read from bits has as many
cast_fits : (n : ℕ) → FitsSigned w32 (cast_signed w32 n)
cast_fits n = omega (arith, ints)

rem_fits : (x y : ℤ) → FitsSigned w32 x → FitsSigned w32 (int_rem x y)
rem_fits x y h = let m = mag_rem x y in let l = h.sfits in record { sfits = omega (arith, m, l) }

shr_fits : (x : ℤ) (k : ℕ) → FitsSigned w32 x → FitsSigned w32 (int_shr x k)
shr_fits x k h = let m = mag_shr x (2 ^ k) in let l = h.sfits in record { sfits = omega (arith, m, l) }

-- ---- the operators of two ints

abbrev GivesInts : (ℤ → ℤ → ℤ) → Type 0
GivesInts f = (x y : ℤ) → FitsSigned w32 x → FitsSigned w32 (f x y)

abbrev AllGiveInts : List (ℕ × (ℤ → ℤ → ℤ)) → Type 0
AllGiveInts [] = Unit {0}
AllGiveInts (row ∷ rows) = GivesInts row.1 × AllGiveInts rows

entry_gives : (rows : List (ℕ × (ℤ → ℤ → ℤ))) (operator : ℕ) (f : ℤ → ℤ → ℤ) → AllGiveInts rows →
    entry rows operator ≡ Some f → GivesInts f
unfolding entry along
entry_gives [] operator f h e = absurd (cc (e))
entry_gives (row ∷ rows) operator f h e = go (row.0 == operator) (λ k. entry_gives rows operator f h.1 k) e
  where
    go : (b : Bool) → (entry rows operator ≡ Some f → GivesInts f) →
        elim (if b then Some row.1 else None) as (λ _. Option (ℤ → ℤ → ℤ)) [
          | None ↦ along (λ (row : ℕ × (ℤ → ℤ → ℤ)). if row.0 == operator then Some row.1 else None) rows
          | Some g ↦ Some g
        ] ≡ Some f →
        GivesInts f
    go true more k = subst GivesInts (some_inj row.1 f k) h.0
    go false more k = more k

operators_fit : AllGiveInts int_operators
unfolding int_operators
operators_fit =
    (λ x y h. cast_fits _, (λ x y h. cast_fits _, (λ x y h. cast_fits _, (λ x y h. cast_fits _, (λ x y h. rem_fits x y h, (λ x y h. cast_fits _, (λ x y h. cast_fits _, (λ x y h. cast_fits _, (λ x y h. cast_fits _, (λ x y h. shr_fits x (shift_count y) h, (λ x y h. cast_fits _, tt)))))))))))

-- ---- values

truth_fits : {A : Type 0} (o : Option A) (f : A → Bool) (value : Value) →
    option_map (λ (a : A). Truth (f a)) o ≡ Some value → FitsInt value
truth_fits None f value e = absurd (cc (e))
truth_fits (Some a) f value e = subst FitsInt (some_inj (Truth (f a)) value e) tt

ints_fit : (operator : ℕ) (x y : ℤ) (value : Value) → FitsSigned w32 x →
    of_ints operator x y ≡ Some value → FitsInt value
unfolding of_ints
ints_fit operator x y value h e = go (entry int_operators operator) refl e
  where
    go : (o : Option (ℤ → ℤ → ℤ)) → entry int_operators operator ≡ o →
        elim o as (λ _. Option Value) [
          | Some f ↦ Some (Int (f x y))
          | None ↦ option_map (λ (f : ℤ → ℤ → Bool). Truth (f x y)) (entry comparisons operator)
        ] ≡ Some value →
        FitsInt value
    go None is g = truth_fits (entry comparisons operator) (λ (f : ℤ → ℤ → Bool). f x y) value g
    go (Some f) is g =
        subst FitsInt (some_inj (Int (f x y)) value g) (entry_gives int_operators operator f operators_fit is x y h)

two_fit : (operator : ℕ) (left right value : Value) → FitsInt left →
    on_ints operator left right ≡ Some value → FitsInt value
unfolding on_ints
two_fit operator (Int x) (Int y) value h e = ints_fit operator x y value h e
two_fit operator (Int x) (Truth b) value h e = absurd (cc (e))
two_fit operator (Int x) Null value h e = absurd (cc (e))
two_fit operator (Int x) (At r) value h e = absurd (cc (e))
two_fit operator (Truth b) right value h e = absurd (cc (e))
two_fit operator Null right value h e = absurd (cc (e))
two_fit operator (At r) right value h e = absurd (cc (e))

pub binary_fits : (operator : ℕ) (left right value : Value) → FitsInt left →
    binary_value operator left right ≡ Some value → FitsInt value
unfolding binary_value
binary_fits operator left right value h e = go (operator == sign_equal) (operator == sign_not_equal) e
  where
    go : (s t : Bool) →
        (if s then option_map (λ b. Truth b) (are_equal left right)
        else (if t then option_map (λ b. Truth (not b)) (are_equal left right)
        else on_ints operator left right)) ≡ Some value →
        FitsInt value
    go true t g = truth_fits (are_equal left right) (λ b. b) value g
    go false true g = truth_fits (are_equal left right) (λ b. not b) value g
    go false false g = two_fit operator left right value h g

pub unary_fits : (operator : ℕ) (operand value : Value) → unary_value operator operand ≡ Some value → FitsInt value
unfolding unary_value
unary_fits operator (Int x) value e = go (operator == sign_minus) (operator == sign_tilde) e
  where
    go : (s t : Bool) →
        (if s then Some (Int (int_wrapping_neg w32 x)) else (if t then Some (Int (int_bit_not w32 x)) else None))
        ≡ Some value →
        FitsInt value
    go true t g = subst FitsInt (some_inj _ value g) (cast_fits _)
    go false true g = subst FitsInt (some_inj _ value g) (cast_fits _)
    go false false g = absurd (cc (g))
unary_fits operator (Truth b) value e = go (operator == sign_not) e
  where
    go : (s : Bool) → (if s then Some (Truth (not b)) else None) ≡ Some value → FitsInt value
    go true g = subst FitsInt (some_inj (Truth (not b)) value g) tt
    go false g = absurd (cc (g))
unary_fits operator Null value e = absurd (cc (e))
unary_fits operator (At r) value e = absurd (cc (e))

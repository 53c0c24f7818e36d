-- The operators on values (JLS 4.2.2, 15.15, 15.17 to 15.22). What doesn't fit into 32 bits loses its upper ones, a
-- quotient loses its fraction, and of a shift's count the five lowest bits count.
use Rattle.std.specs.Prelude.{ℕ, ◌/◌, ◌%◌, ◌^◌, ◌==◌, Bool, true, false, not, ◌&&◌, List, [], ◌∷◌, ℤ, pos, int_lt, int_rem, Option, Some, None, if◌then◌else◌, option_map}
use Rattle.std.specs.Ordering.{int_eq}
use Rattle.std.specs.Int.{w32, cast_signed, cast_unsigned, int_wrapping_add, int_wrapping_sub, int_wrapping_mul, int_wrapping_div, int_wrapping_neg, int_bit_and, int_bit_or, int_bit_xor, int_bit_not, int_shl, int_shr}
use Rattle.scj_base.specs.declared.values.Value.{Value}
use Rattle.scj_base.specs.declared.values.Value.TheVariants.{Int, Bool as Truth, Null, At}
use Rattle.scj_base.specs.Vocabulary.{sign_equal, sign_not_equal, sign_less, sign_greater, sign_less_equal, sign_greater_equal, sign_plus, sign_minus, sign_star, sign_slash, sign_percent, sign_not, sign_and, sign_or, sign_xor, sign_tilde, sign_shift_left, sign_shift_right, sign_shift_right_unsigned}
use Rattle.scj_rules.specs.Words.{along, is_among}

-- the entry of an operator in a table
unfoldable pub entry : {A : Type 0} → List (ℕ × A) → ℕ → Option A
entry rows operator = along (λ row. if row.0 == operator then Some row.1 else None) rows

-- the count of a shift (JLS 15.19)
abbrev pub shift_count : ℤ → ℕ
shift_count y = cast_unsigned w32 y % 32

-- `>>>` fills with zeros
abbrev pub shift_right_unsigned : ℤ → ℕ → ℤ
shift_right_unsigned x count = cast_signed w32 (cast_unsigned w32 x / 2 ^ count)

-- two ints give an int
unfoldable pub int_operators : List (ℕ × (ℤ → ℤ → ℤ))
int_operators =
    (sign_plus, (λ x y. int_wrapping_add w32 x y))
    ∷ (sign_minus, (λ x y. int_wrapping_sub w32 x y))
    ∷ (sign_star, (λ x y. int_wrapping_mul w32 x y))
    ∷ (sign_slash, (λ x y. int_wrapping_div w32 x y))
    ∷ (sign_percent, (λ x y. int_rem x y))
    ∷ (sign_and, (λ x y. int_bit_and w32 x y))
    ∷ (sign_or, (λ x y. int_bit_or w32 x y))
    ∷ (sign_xor, (λ x y. int_bit_xor w32 x y))
    ∷ (sign_shift_left, (λ x y. int_shl w32 x (shift_count y)))
    ∷ (sign_shift_right, (λ x y. int_shr x (shift_count y)))
    ∷ (sign_shift_right_unsigned, (λ x y. shift_right_unsigned x (shift_count y)))
    ∷ []

-- two ints give a boolean
unfoldable pub comparisons : List (ℕ × (ℤ → ℤ → Bool))
comparisons =
    (sign_less, (λ x y. int_lt x y))
    ∷ (sign_greater, (λ x y. int_lt y x))
    ∷ (sign_less_equal, (λ x y. not (int_lt y x)))
    ∷ (sign_greater_equal, (λ x y. not (int_lt x y)))
    ∷ []

-- two values of one kind are the same, references where they name one object (JLS 15.21)
unfoldable pub are_equal : Value → Value → Option Bool
are_equal (Int x) (Int y) = Some (int_eq x y)
are_equal (Truth a) (Truth b) = Some (if a then b else not b)
are_equal Null Null = Some true
are_equal Null (At r) = Some false
are_equal (At r) Null = Some false
are_equal (At r) (At q) = Some (r == q)
are_equal _ _ = None

-- what an operator gives of two ints
unfoldable pub of_ints : ℕ → ℤ → ℤ → Option Value
of_ints operator x y =
    elim (entry int_operators operator) [
      | Some f ↦ Some (Int (f x y))
      | None ↦ option_map (λ (f : ℤ → ℤ → Bool). Truth (f x y)) (entry comparisons operator)
    ]

unfoldable pub on_ints : ℕ → Value → Value → Option Value
on_ints operator (Int x) (Int y) = of_ints operator x y
on_ints operator _ _ = None

-- what an operator gives of two values
unfoldable pub binary_value : ℕ → Value → Value → Option Value
binary_value operator left right =
    if operator == sign_equal then option_map (λ b. Truth b) (are_equal left right)
    else (if operator == sign_not_equal then option_map (λ b. Truth (not b)) (are_equal left right)
    else on_ints operator left right)

-- a division or a remainder by this value is a fault (JLS 15.17.2, 15.17.3)
unfoldable pub is_zero : Value → Bool
is_zero (Int y) = int_eq y (pos 0)
is_zero _ = false

abbrev pub divides_by_zero : ℕ → Value → Bool
divides_by_zero operator right = is_among operator (sign_slash ∷ sign_percent ∷ []) && is_zero right

-- what an operator gives of one value
unfoldable pub unary_value : ℕ → Value → Option Value
unary_value operator (Int x) =
    if operator == sign_minus then Some (Int (int_wrapping_neg w32 x))
    else (if operator == sign_tilde then Some (Int (int_bit_not w32 x)) else None)
unary_value operator (Truth b) = if operator == sign_not then Some (Truth (not b)) else None
unary_value operator _ = None

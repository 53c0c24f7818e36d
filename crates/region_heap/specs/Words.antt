-- What a word of the store tells. An object is two header words, of which the first tells its class and the area in
-- which it lies and the second how many slots it has and its ceiling, and a word for each slot, which tells a whole
-- value.
use Rattle.std.specs.Prelude.{ℕ, zero, suc, ◌==◌, ◌+◌, ◌/◌, ◌%◌, ◌^◌, nat_lt, not, ◌||◌, Bool, false, List, [], ◌∷◌, length, Option, Some, None, get_or, pos, negsuc, ◌-ℤ◌, if◌then◌else◌}
use Rattle.std.specs.List.{list_any}
use Rattle.scj_base.specs.declared.values.Value.{Value}
use Rattle.scj_base.specs.declared.values.Value.TheVariants.{Int, Bool as Truth, Null, At}
use Rattle.scj_model.specs.State.{Object}

-- words, of which some aren't written
abbrev pub Words : Type 0
Words = List (Option ℕ)

abbrev pub number_or_zero : Option ℕ → ℕ
number_or_zero None = 0
number_or_zero (Some n) = n

-- the word at a place, if it is written
abbrev pub word : Words → ℕ → ℕ
word ws index = number_or_zero (get_or ws index None)

-- ---- a slot

-- the three lowest bits tell which value it is: an int, a reference, a truth value, a number that may be larger than an
-- int, or else null
unfoldable pub value_in : ℕ → Value
value_in w =
    if w % 8 == 1 then Int (pos (w / 8 % 2 ^ 32) -ℤ pos 2147483648)
    else (if w % 8 == 2 then At (w / 8 % 2 ^ 32)
    else (if w % 8 == 3 then Truth (w / 8 % 2 == 1) else (if w % 8 == 4 then Int (pos (w / 8)) else Null)))

-- the numbers that a slot can hold besides ints are smaller than this
abbrev pub wide_limit : ℕ
wide_limit = 2305843009213693952

-- a number that is no int
unfoldable pub is_wide : Value → Bool
is_wide (Int (pos n)) = not (nat_lt n 2147483648)
is_wide (Int (negsuc n)) = not (nat_lt n 2147483648)
is_wide _ = false

-- ---- the header

unfoldable pub class_in : ℕ → ℕ
class_in w = w % 2 ^ 32

unfoldable pub area_in : ℕ → ℕ
area_in w = w / 2 ^ 32

unfoldable pub count_in : ℕ → ℕ
count_in w = w % 2 ^ 32

unfoldable pub ceiling_in : ℕ → ℕ
ceiling_in w = w / 2 ^ 32 % 256

-- ---- an object

-- the values of so many slots from a word on
unfoldable pub slots_at : Words → ℕ → ℕ → List Value
slots_at ws index zero = []
slots_at ws index (suc count) = value_in (word ws index) ∷ slots_at ws (index + 1) count

-- the object whose first word it is
unfoldable pub object_in : Words → ℕ → Object
object_in ws first =
    record {
      class = class_in (word ws first);
      area = area_in (word ws first);
      slots = slots_at ws (first + 2) (count_in (word ws (first + 1)));
      ceiling = ceiling_in (word ws (first + 1));
    }

-- ---- hidden fields

-- whether hidden fields aren't set: the object has fewer slots, or a number is too large for one
unfoldable pub refuses_hidden : Option Object → List ℕ → Bool
refuses_hidden None hidden = false
refuses_hidden (Some o) hidden =
    nat_lt (length o.slots) (length hidden) || list_any (λ n. not (nat_lt n wide_limit)) hidden

-- The parts of a line of a trace: what stands before a byte and behind it, numbers, names and texts.
use Rattle.std.specs.Prelude.{ℕ, ◌+◌, ◌-◌, ◌*◌, ◌==◌, nat_le, Bool, false, not, ◌&&◌, List, [], ◌∷◌, length, take, drop, Option, Some, None, if◌then◌else◌}
use Rattle.std.specs.List.{list_all, list_any, prefix_len, suffix_len}
use Rattle.scj_rules.specs.Words.{◌>>=◌, holds}
use Rattle.scj_base.specs.Bytes.{is_same}
use Rattle.scj_base.specs.Lexeme.{is_digit}
use Rattle.scj_base.specs.RunFault.{text_of}
use Rattle.scj_base.specs.declared.faults.RunFault.{RunFault}
use Rattle.scj_base.specs.declared.faults.RunFault.TheVariants.{NullPointer, ArrayIndex, NegativeSize, DivideByZero, ClassCast, MemoryFull, StoreFull, ScopedCycle, CeilingViolation, BadPriority, BadPeriod, BadPort, NotInitializing, TooManyHandlers, DepthFull}

-- ---- what stands before a byte and behind it

abbrev pub blank : ℕ
blank = 32

abbrev pub colon : ℕ
colon = 58

abbrev pub line_feed : ℕ
line_feed = 10

abbrev pub is_other : ℕ → ℕ → Bool
is_other byte b = not (b == byte)

-- two parts of bytes
pub record Parts : Type 0 where
  pub front : List ℕ
  pub back : List ℕ

-- what stands before the first of this byte, and what begins with it; that is nothing where the byte isn't there
abbrev pub before : ℕ → List ℕ → List ℕ
before byte bytes = take (prefix_len (is_other byte) bytes) bytes

abbrev pub from : ℕ → List ℕ → List ℕ
from byte bytes = drop (prefix_len (is_other byte) bytes) bytes

abbrev pub with_front : List ℕ → List ℕ → Option Parts
with_front front [] = None
with_front front (b ∷ back) = Some (record { front = front; back = back })

-- what stands before the first of this byte and behind it, where it is there
unfoldable pub parted : ℕ → List ℕ → Option Parts
parted byte bytes = with_front (before byte bytes) (from byte bytes)

-- how many bytes stand behind the last of this byte; all of them where it isn't there
abbrev pub behind_last : ℕ → List ℕ → ℕ
behind_last byte bytes = suffix_len (is_other byte) bytes

-- what stands before the last of this byte and behind it, where it is there
unfoldable pub parted_at_last : ℕ → List ℕ → Option Parts
parted_at_last byte bytes =
    let at = length bytes - (behind_last byte bytes + 1) in
    if behind_last byte bytes == length bytes then None else with_front (take at bytes) (drop at bytes)

-- ---- numbers, in decimal and without a leading zero

-- the greatest number of 64 bits
abbrev pub greatest : ℕ
greatest = 18446744073709551615

-- the number with one more digit behind it, where it has 64 bits
abbrev pub with_digit : ℕ → ℕ → Option ℕ
with_digit n b =
    if is_digit b && nat_le (10 * n + (b - 48)) greatest then Some (10 * n + (b - 48)) else None

unfoldable pub with_digits : ℕ → List ℕ → Option ℕ
with_digits n [] = Some n
with_digits n (b ∷ bytes) = with_digit n b >>= (λ m. with_digits m bytes)

-- the number that the bytes write
unfoldable pub number_of : List ℕ → Option ℕ
number_of [] = None
number_of (b ∷ []) = with_digit 0 b
number_of (b ∷ c ∷ bytes) = if b == 48 then None else with_digits 0 (b ∷ c ∷ bytes)

-- the same, where it lies between two others
abbrev pub number_within : ℕ → ℕ → List ℕ → Option ℕ
number_within least most bytes =
    number_of bytes >>= (λ n. if nat_le least n && nat_le n most then Some n else None)

-- the number of a handler, and a priority
abbrev pub handler_of : List ℕ → Option ℕ
handler_of bytes = number_within 1 64 bytes

abbrev pub priority_of : List ℕ → Option ℕ
priority_of bytes = number_within 1 28 bytes

-- a value of 32 bits
abbrev pub is_value : List ℕ → Bool
is_value [] = false
is_value (b ∷ bytes) =
    if b == 45 then holds (number_of bytes) (λ n. nat_le 1 n && nat_le n 2147483648)
    else holds (number_of (b ∷ bytes)) (λ n. nat_le n 2147483647)

-- ---- names

-- a byte that may stand in the name of a file
abbrev pub is_file_byte : ℕ → Bool
is_file_byte b = nat_le 32 b && not (b == 127)

-- the name of a file
abbrev pub is_file_name : List ℕ → Bool
is_file_name [] = false
is_file_name (b ∷ bytes) = is_file_byte b && list_all is_file_byte bytes

-- the faults of a run
abbrev pub all_faults : List RunFault
all_faults =
    NullPointer ∷ ArrayIndex ∷ NegativeSize ∷ DivideByZero ∷ ClassCast ∷ MemoryFull ∷ StoreFull ∷ ScopedCycle
    ∷ CeilingViolation ∷ BadPriority ∷ BadPeriod ∷ BadPort ∷ NotInitializing ∷ TooManyHandlers ∷ DepthFull ∷ []

-- the name of a fault
abbrev pub is_fault_name : List ℕ → Bool
is_fault_name bytes = list_any (λ fault. is_same bytes (text_of fault)) all_faults

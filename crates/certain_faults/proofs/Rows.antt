-- The definition computed on numbers at its edges: 28 is a priority and 29 none, 255 is a port and 256 none, and so on;
-- and that a variable is no constant, whatever it holds.
use Rattle.std.proofs.Common.{◌≡◌, ℕ, pos, negsuc, Some, None, refl}
use Rattle.scj_base.specs.Vocabulary.{sign_minus, sign_slash, sign_percent}
use Rattle.scj_base.specs.declared.faults.RunFault.TheVariants.{NullPointer, NegativeSize, DivideByZero, BadPriority, BadPeriod, BadPort}
use Rattle.scj_base.specs.declared.values.Value.TheVariants.{Int, Null}
use Rattle.scj_rules.specs.declared.typing.Binding.TheVariants.{Local}
use Rattle.scj_rules.specs.Words.{along}
use Rattle.scj_model.specs.Arithmetic.{entry, int_operators, comparisons, binary_value, on_ints, of_ints, is_zero}
use Rattle.certain_faults.specs.declared.known.Known.{Known}
use Rattle.certain_faults.specs.declared.known.Known.TheVariants.{Unknown, Exactly, Object}
use Rattle.certain_faults.specs.declared.known.Left.TheVariants.{Zero, One, Four}
use Rattle.certain_faults.specs.Known.{known, binary_known, operator_known, in_place_of_two, left_by_name}
use Rattle.certain_faults.specs.Faults.{is_known, known_number, division_fault, length_fault, port_fault, size_fault, ceiling_fault, is_wrong_time, is_known_time, times_fault, storage_fault, priority_fault, periodic_fault, parameters_fault, aperiodic_fault}

abbrev number : ℕ → Known
number n = Exactly (Int (pos n))

abbrev minus_one : Known
minus_one = Exactly (Int (negsuc 0))

-- ---- ports, sizes and divisors

port_255 : port_fault (One (number 255)) ≡ None
unfolding port_fault is_known
port_255 = refl

port_256 : port_fault (One (number 256)) ≡ Some BadPort
unfolding port_fault is_known
port_256 = refl

port_negative : port_fault (One minus_one) ≡ Some BadPort
unfolding port_fault is_known
port_negative = refl

length_0 : length_fault (One (number 0)) ≡ None
unfolding length_fault is_known
length_0 = refl

length_negative : length_fault (One minus_one) ≡ Some NegativeSize
unfolding length_fault is_known
length_negative = refl

by_0 : division_fault sign_slash (One (number 0)) ≡ Some DivideByZero
unfolding division_fault is_zero
by_0 = refl

by_1 : division_fault sign_percent (One (number 1)) ≡ None
unfolding division_fault is_zero
by_1 = refl

-- `1 / (2 - 2)`
difference : division_fault sign_slash (in_place_of_two (One (number 2)) (One (number 2)) (operator_known sign_minus))
    ≡ Some DivideByZero
unfolding division_fault is_zero in_place_of_two operator_known binary_known known entry along int_operators comparisons binary_value on_ints of_ints
difference = refl

-- a local is no constant
local_0 : division_fault sign_slash (left_by_name (Local 0)) ≡ None
unfolding division_fault left_by_name
local_0 = refl

-- ---- areas and ceilings: what is tested first

size_negative : size_fault (One minus_one) (One Object) ≡ Some NegativeSize
unfolding size_fault is_known
size_negative = refl

size_perhaps_null : size_fault (One minus_one) (One Unknown) ≡ None
unfolding size_fault
size_perhaps_null = refl

ceiling_28 : ceiling_fault (One Object) (One (number 28)) ≡ None
unfolding ceiling_fault is_known
ceiling_28 = refl

ceiling_29 : ceiling_fault (One Object) (One (number 29)) ≡ Some BadPriority
unfolding ceiling_fault is_known
ceiling_29 = refl

ceiling_0 : ceiling_fault (One Object) (One (number 0)) ≡ Some BadPriority
unfolding ceiling_fault is_known
ceiling_0 = refl

ceiling_of_null : ceiling_fault (One (Exactly Null)) (One (number 30)) ≡ Some NullPointer
unfolding ceiling_fault
ceiling_of_null = refl

ceiling_perhaps_of_null : ceiling_fault (One Unknown) (One (number 30)) ≡ None
unfolding ceiling_fault
ceiling_perhaps_of_null = refl

-- ---- forms

right : parameters_fault (One (number 28)) (One (number 0)) ≡ None
unfolding parameters_fault priority_fault storage_fault is_known
right = refl

priority_29 : parameters_fault (One (number 29)) (One minus_one) ≡ Some BadPriority
unfolding parameters_fault priority_fault is_known
priority_29 = refl

storage_negative : parameters_fault (One (number 1)) (One minus_one) ≡ Some NegativeSize
unfolding parameters_fault priority_fault storage_fault is_known
storage_negative = refl

priority_unknown : parameters_fault (One Unknown) (One minus_one) ≡ None
unfolding parameters_fault priority_fault is_known
priority_unknown = refl

aperiodic_28 : aperiodic_fault (One (number 28)) Zero (One (number 8)) ≡ None
unfolding aperiodic_fault parameters_fault priority_fault storage_fault is_known
aperiodic_28 = refl

aperiodic_29 : aperiodic_fault (One (number 29)) Zero (One (number 8)) ≡ Some BadPriority
unfolding aperiodic_fault parameters_fault priority_fault is_known
aperiodic_29 = refl

period_999000 : periodic_fault (One (number 5)) (Four (number 0) (number 0) (number 1) (number 999000)) (One (number 8))
    ≡ None
unfolding periodic_fault priority_fault times_fault is_wrong_time is_known_time known_number storage_fault is_known
period_999000 = refl

period_999001 : periodic_fault (One (number 5)) (Four (number 0) (number 0) (number 1) (number 999001)) (One minus_one)
    ≡ Some BadPeriod
unfolding periodic_fault priority_fault times_fault is_wrong_time is_known_time known_number storage_fault is_known
period_999001 = refl

period_0 : periodic_fault (One (number 5)) (Four (number 0) (number 0) (number 0) (number 0)) (One (number 8)) ≡ None
unfolding periodic_fault priority_fault times_fault is_wrong_time is_known_time known_number storage_fault is_known
period_0 = refl

behind_period_0 : periodic_fault (One (number 5)) (Four (number 0) (number 0) (number 0) (number 0)) (One minus_one)
    ≡ Some NegativeSize
unfolding periodic_fault priority_fault times_fault is_wrong_time is_known_time known_number storage_fault is_known
behind_period_0 = refl

start_unknown : periodic_fault (One (number 5)) (Four Unknown (number 0) (number 1) (number 0)) (One minus_one) ≡ None
unfolding periodic_fault priority_fault times_fault is_wrong_time is_known_time known_number storage_fault is_known
start_unknown = refl

-- The numbers that the framework's calls take, as comparisons of ints tell them.
use Rattle.std.proofs.Common.{◌≡◌, ℕ, ◌+◌, ◌*◌, ◌%◌, ◌/◌, ◌==◌, Bool, true, false, ◌&&◌, Some, None, if◌then◌else◌, ℤ, pos, negsuc, refl, arith, nat_lt}
use Rattle.std.specs.Prelude.{int_lt, unsigned_abs, is_some}
use Rattle.std.proofs.lemmas.Bool.Decides.{nat_tests}
use Rattle.scj_model.specs.Operations.{units_of}

not_under : (n : ℕ) → int_lt (pos n) (pos 0) ≡ false
not_under n = grind (arith, nat_tests)

pub nanoseconds_negative : (z : ℤ) → int_lt z (pos 0) ≡ true → is_some (units_of (pos 0) z) ≡ false
nanoseconds_negative (pos n) e = absurd (cc (e, not_under n))
nanoseconds_negative (negsuc n) e = refl

is_there : (b : Bool) (n : ℕ) → is_some (if b then Some n else None) ≡ b
is_there true n = refl
is_there false n = refl

pub nanoseconds_are : (z : ℤ) → int_lt z (pos 0) ≡ false →
    is_some (units_of (pos 0) z) ≡ ((unsigned_abs z % 1000 == 0) && nat_lt (unsigned_abs z) 1000000)
nanoseconds_are (pos n) e = is_there ((n % 1000 == 0) && nat_lt n 1000000) (1000 * 0 + n / 1000)
nanoseconds_are (negsuc n) e = absurd (cc (e))

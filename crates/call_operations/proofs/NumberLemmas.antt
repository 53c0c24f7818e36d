-- The numbers that the framework's calls take, as comparisons of ints tell them.
use Rattle.std.proofs.Common.{◌≡◌, ℕ, true, false, None, ℤ, pos, negsuc, refl, arith}
use Rattle.std.specs.Prelude.{int_lt, unsigned_abs}
use Rattle.std.proofs.lemmas.Bool.Decides.{nat_tests}
use Rattle.scj_model.specs.Operations.{is_priority, units_of}

not_under : (n : ℕ) → int_lt (pos n) (pos 0) ≡ false
not_under n = grind (arith, nat_tests)

pub units_negative : (ms ns : ℤ) → int_lt ns (pos 0) ≡ true → units_of ms ns ≡ None
units_negative (pos m) (pos n) e = absurd (cc (e, not_under n))
units_negative (pos m) (negsuc n) e = refl
units_negative (negsuc m) ns e = refl

pub units_whole : (ms ns : ℤ) → int_lt ms (pos 0) ≡ false → int_lt ns (pos 0) ≡ false →
    units_of (pos (unsigned_abs ms)) (pos (unsigned_abs ns)) ≡ units_of ms ns
units_whole (pos m) (pos n) e f = refl
units_whole (pos m) (negsuc n) e f = absurd (cc (f))
units_whole (negsuc m) ns e f = absurd (cc (e))

-- a number that isn't negative is its absolute value
pub whole_is : (z : ℤ) → int_lt z (pos 0) ≡ false → pos (unsigned_abs z) ≡ z
whole_is (pos n) e = refl
whole_is (negsuc n) e = absurd (cc (e))

pub priority_whole : (z : ℤ) → is_priority z ≡ true → pos (unsigned_abs z) ≡ z
priority_whole (pos n) e = refl
priority_whole (negsuc n) e = absurd (cc (e))

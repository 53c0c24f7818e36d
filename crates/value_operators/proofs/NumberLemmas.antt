-- The numbers that the framework's calls take, as comparisons of ints say.
use Rattle.std.proofs.Common.{◌≡◌, true, ◌&&◌, ℤ, pos, negsuc, refl, arith}
use Rattle.std.specs.Prelude.{int_le, int_lt}
use Rattle.std.proofs.lemmas.Bool.Decides.{nat_tests}
use Rattle.scj_model.specs.Operations.{is_port, is_priority}

pub priority_is : (z : ℤ) → (int_le (pos 1) z && int_le z (pos 28)) ≡ is_priority z
priority_is (pos n) = refl
priority_is (negsuc n) = refl

pub port_is : (z : ℤ) → (int_le (pos 0) z && int_lt z (pos 256)) ≡ is_port z
port_is (pos n) = grind (arith, nat_tests)
port_is (negsuc n) = refl

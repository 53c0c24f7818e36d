use Rattle.int_values.proofs.Operators.{binary_fits, unary_fits}
use Rattle.int_values.proofs.laws.operators_give_ints.Goals as goal

pub returns-clause-binary : goal.returns-clause-binary
returns-clause-binary c = binary_fits

pub returns-clause-unary : goal.returns-clause-unary
returns-clause-unary c = unary_fits

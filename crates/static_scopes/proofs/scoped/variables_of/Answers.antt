use Rattle.std.proofs.Common.{arith}
use Rattle.std.proofs.lemmas.Grind.{common_steps}
use Rattle.static_scopes.proofs.scoped.variables_of.Goals as goal
use Rattle.static_scopes.proofs.scoped.variables_of.Goals.{then-is_variable+in-Some+in_ok-insert, then-is_variable+in_default, else-is_variable}

pub loop-number-preserved : goal.loop-number-preserved
loop-number-preserved c = λ id scope. elim c.if-is_variable.branch [
  | then-is_variable+in-Some+in_ok-insert w ↦ grind (arith, common_steps, c.loop-number.invariant id scope)
  | then-is_variable+in_default w ↦ grind (arith, common_steps, c.loop-number.invariant id scope)
  | else-is_variable w ↦ grind (arith, common_steps, c.loop-number.invariant id scope)
]

use Rattle.area_laws.proofs.Operands.{reached_operand}
use Rattle.area_laws.proofs.operations_are_on_live_objects.Goals as goal

pub returns : goal.returns
returns c =
    λ plan moment s reached r e. reached_operand c.args.checked.now.program c.checked_is_accepted.ensures plan moment s
    reached r e

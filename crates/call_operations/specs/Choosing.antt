-- The rows of AND, OR, IF and LOOP, by their instructions.
use Rattle.std.specs.Prelude.{ℕ, Option, Some, None}
use Rattle.scj_model.specs.declared.operations.Op.{Op}
use Rattle.scj_model.specs.declared.operations.Op.TheVariants.{And as AND, Or as OR, If as IF, Loop as LOOP}
use Rattle.op_list.specs.declared.instructions.Instruction.{Instruction}
use Rattle.op_list.specs.declared.instructions.Instruction.TheVariants as instruction
use Rattle.op_list.specs.declared.rows.Row.{Row}
use Rattle.op_list.specs.Listed.{Listing}
use Rattle.value_operations.specs.Choosing.{Chooses}

-- the operation of an instruction that chooses, at this node
unfoldable pub choosing : ℕ → Instruction → Option Op
choosing id instruction.And = Some (AND id)
choosing id instruction.Or = Some (OR id)
choosing id instruction.If = Some (IF id)
choosing id instruction.Loop = Some (LOOP id)
choosing id _ = None

-- a row whose instruction chooses goes on as the operation decides
unfoldable pub ChoosesIfAny : Listing → Row → ℕ → ℕ → Type 0
ChoosesIfAny code row id index =
    elim (choosing id row.instruction) [ None ↦ Unit {0} | Some op ↦ Chooses code row op index ]

use Rattle.scj_model.specs.Code.{code_of}
use Rattle.memory_needs.proofs.Capped.{IsSolving}
use Rattle.memory_needs.proofs.needs.needs.Given as goal

abbrev pub invariant-loop-index : goal.invariant-loop-index
invariant-loop-index l = IsSolving (code_of l.code) l.order l.index l.rows.items

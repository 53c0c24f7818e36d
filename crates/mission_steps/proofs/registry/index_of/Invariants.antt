use Rattle.std.proofs.Common.{length, ◌==◌}
use Rattle.scj_model.specs.declared.handlers.HandlerRow.{HandlerRow}
use Rattle.mission_steps.proofs.Places.{Passed}
use Rattle.mission_steps.proofs.registry.index_of.Given as goal

-- the object isn't that of a row before
abbrev pub invariant-loop-rest : goal.invariant-loop-rest
invariant-loop-rest l = Passed (λ (row : HandlerRow). row.at == l.at) l.registry l.rest l.index

abbrev pub decreases-loop-rest : goal.decreases-loop-rest
decreases-loop-rest l = length l.rest

use Rattle.std.specs.Prelude.{◌&&◌}
use Rattle.std.proofs.Common.{length, ◌==◌}
use Rattle.scj_model.specs.declared.handlers.HandlerRow.{HandlerRow}
use Rattle.scj_model.specs.Registry.{is_aperiodic}
use Rattle.mission_steps.proofs.Places.{Passed}
use Rattle.mission_steps.proofs.registry.index_of_aperiodic.Given as goal

-- no row before is an aperiodic one of the class
abbrev pub invariant-loop-rest : goal.invariant-loop-rest
invariant-loop-rest l =
    Passed (λ (row : HandlerRow). is_aperiodic row.kind && (row.class == l.class)) l.registry l.rest l.index

abbrev pub decreases-loop-rest : goal.decreases-loop-rest
decreases-loop-rest l = length l.rest

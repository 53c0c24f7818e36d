use Rattle.std.specs.Prelude.{◌&&◌}
use Rattle.std.proofs.Common.{◌==◌, ◌∙◌, sym}
use Rattle.scj_model.specs.declared.handlers.HandlerRow.{HandlerRow}
use Rattle.scj_model.specs.Registry.{is_aperiodic}
use Rattle.mission_steps.proofs.Places.{passed_on}
use Rattle.mission_steps.proofs.registry.index_of_aperiodic.Goals as goal

pub loop-rest-preserved : goal.loop-rest-preserved
loop-rest-preserved c =
    passed_on (λ (row : HandlerRow). is_aperiodic row.kind && (row.class == c.args.class)) c.args.registry.now
    c.row-item.result c.loop-rest.rest.now c.loop-rest.index c.in-len1-up.len_at_least c.row-item.is
    (sym c.is_aperiodic_of.ensures ∙ c.if-is_aperiodic_of.false) c.loop-rest.invariant

use Rattle.std.proofs.Common.{◌==◌, ◌∙◌, sym}
use Rattle.scj_model.specs.declared.handlers.HandlerRow.{HandlerRow}
use Rattle.mission_steps.proofs.Places.{passed_on}
use Rattle.mission_steps.proofs.registry.index_of.Goals as goal

pub loop-rest-preserved : goal.loop-rest-preserved
loop-rest-preserved c =
    passed_on (λ (row : HandlerRow). row.at == c.args.at) c.args.registry.now c.row-item.result c.loop-rest.rest.now
    c.loop-rest.index c.in-len1-up.len_at_least c.row-item.is (sym c.is_at.ensures ∙ c.if-is_at.false)
    c.loop-rest.invariant

use Rattle.std.proofs.Common.{◌∙◌, rules}
use Rattle.scj_model.specs.declared.plans.FireFrom.TheVariants.{Start}
use Rattle.trace_audit.specs.Fires.{AreFireKeys}
use Rattle.trace_audit.proofs.planned.AuditPlan.is_starting.Goals as goal

pub returns : goal.returns
returns c =
    let keys : AreFireKeys Start c.args.self.now.fires c.self.inside.starting = search rules in
    c.is_among.ensures ∙ keys.are c.args.at c.args.name.now

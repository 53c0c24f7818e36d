use Rattle.std.proofs.Common.{◌∙◌, ◌-◌, rules}
use Rattle.scj_model.specs.declared.plans.FireFrom.TheVariants.{Mission}
use Rattle.trace_audit.specs.Fires.{AreFireKeys}
use Rattle.trace_audit.proofs.FireLaws.{fired_since}
use Rattle.trace_audit.proofs.planned.AuditPlan.is_since.Goals as goal

pub returns-then-origin-unit : goal.returns-then-origin-unit
returns-then-origin-unit c =
    let keys : AreFireKeys Mission c.args.self.now.fires c.self.inside.of_missions = search rules in
    fired_since c.args.origin c.in-Some.origin c.args.unit c.args.name.now c.args.self.now.fires (search rules)
    (search rules) (c.is_among.ensures ∙ keys.are (c.args.unit - c.in-Some.origin) c.args.name.now)

use Rattle.std.proofs.Common.{◌∙◌, ◌||◌, Bool, ap, sym}
use Rattle.trace_audit.specs.Fires.{is_fired_since}
use Rattle.trace_audit.proofs.FireLaws.{fired}
use Rattle.trace_audit.proofs.planned.AuditPlan.is_fired.Goals as goal

pub returns-then-is_starting : goal.returns-then-is_starting
returns-then-is_starting c =
    c.if-is_starting.true
    ∙ sym (fired c.args.unit c.args.name.now c.args.origin c.args.self.now.fires
    ∙ ap (λ (b : Bool). b || is_fired_since c.args.origin c.args.unit c.args.name.now c.args.self.now.fires)
    (sym c.is_starting.ensures ∙ c.if-is_starting.true))

pub returns-else-is_starting : goal.returns-else-is_starting
returns-else-is_starting c =
    c.is_since.ensures
    ∙ sym (fired c.args.unit c.args.name.now c.args.origin c.args.self.now.fires
    ∙ ap (λ (b : Bool). b || is_fired_since c.args.origin c.args.unit c.args.name.now c.args.self.now.fires)
    (sym c.is_starting.ensures ∙ c.if-is_starting.false))

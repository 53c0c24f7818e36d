use Rattle.std.proofs.Common.{◌≡◌, true, false, ap, sym, ◌∙◌}
use Rattle.scj_tree.specs.Forest.{Forest}
use Rattle.scj_rules.specs.Bodies.{is_synchronized_body}
use Rattle.scj_rules.specs.Contexts.{declarations_of}
use Rattle.job_frames.proofs.Monitors.{monitor_is, no_monitor}
use Rattle.job_frames.proofs.frames.Frame.monitor.Goals as goal

pub returns-then-is_synchronized : goal.returns-then-is_synchronized
returns-then-is_synchronized c =
    let asked : is_synchronized_body (declarations_of c.args.code.now.program) c.in-Written.node ≡ true =
    ap (λ (forest : Forest). is_synchronized_body (declarations_of forest) c.in-Written.node) (sym (c.layout.ensures ∙ c.code.ensures))
    ∙ sym c.is_synchronized.ensures ∙ c.if-is_synchronized.true in
    monitor_is c.args.code.now c.args.self.now c.in-Written.node c.in-Written.is asked

pub returns-else-is_synchronized : goal.returns-else-is_synchronized
returns-else-is_synchronized c =
    let asked : is_synchronized_body (declarations_of c.args.code.now.program) c.in-Written.node ≡ false =
    ap (λ (forest : Forest). is_synchronized_body (declarations_of forest) c.in-Written.node) (sym (c.layout.ensures ∙ c.code.ensures))
    ∙ sym c.is_synchronized.ensures ∙ c.if-is_synchronized.false in
    no_monitor c.args.code.now c.args.self.now c.in-Written.node c.in-Written.is asked

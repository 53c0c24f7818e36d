use Rattle.std.proofs.Common.{◌≡◌, ◌+◌, ◌-◌, sym, arith}
use Rattle.trace_audit.proofs.Priorities.{priority_none, priority_some}
use Rattle.trace_audit.proofs.keys.priority_of.Goals as goal

pub returns-in-Some : goal.returns-in-Some
returns-in-Some c =
    let next : c.args.handler ≡ c.args.handler - 1 + 1 = omega arith in
    sym (priority_some c.args.handlers.now c.args.handler (c.args.handler - 1) c.in-Some.row.now next
    (sym c.in-Some.ensures))

pub returns-in-None : goal.returns-in-None
returns-in-None c =
    let next : c.args.handler ≡ c.args.handler - 1 + 1 = omega arith in
    sym (priority_none c.args.handlers.now c.args.handler (c.args.handler - 1) next (sym c.in-None.ensures))

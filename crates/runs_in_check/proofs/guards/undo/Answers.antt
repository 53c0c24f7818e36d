use Rattle.std.proofs.Common.{◌≡◌, ◌==◌, ◌-◌, None, Some, Option, sym, ap, ◌∙◌, arith}
use Rattle.std.specs.HashMap.{get}
use Rattle.scj_rules.specs.declared.typing.Guard.{Guard}
use Rattle.scj_rules.specs.Contexts.{parent_in}
use Rattle.scj_rules.specs.Guards.{ifs_around}
use Rattle.runs_in_check.specs.Guards.{ifs_on, left_by}
use Rattle.runs_in_check.proofs.Walks.{left_at_end, left_at_top, left_by_next}
use Rattle.runs_in_check.proofs.guards.undo.Goals as goal

pub returns-in_default : goal.returns-in_default
unfolding ifs_around
returns-in_default c = λ number.
    let top : parent_in c.args.program.now.nodes c.loop-left.part ≡ None = cc (c.requires c.loop-left.part) in
    sym (left_at_top c.args.program.now.nodes c.args.x.now c.loop-left.left c.loop-left.part number
    (get ◌==◌ c.loop-left.rows number) (omega arith) top)
    ∙ c.loop-left.invariant number

pub loop-left-preserved : goal.loop-left-preserved
loop-left-preserved c = λ number.
    let up : parent_in c.args.program.now.nodes c.loop-left.part ≡ Some c.in-Some.parent =
    cc (c.requires c.loop-left.part) in
    ap (λ (o : Option Guard). left_by c.args.x.now
    (ifs_on c.args.program.now.nodes (c.loop-left.left - 1) c.in-Some.parent) number o) (c.undo_at.ensures number)
    ∙ left_by_next c.args.program.now.nodes c.args.x.now c.loop-left.left c.loop-left.part c.in-Some.parent number
    (get ◌==◌ c.loop-left.rows number) (omega arith) up
    ∙ c.loop-left.invariant number

pub returns : goal.returns
unfolding ifs_around
returns c = λ number.
    sym (left_at_end c.args.program.now.nodes c.args.x.now c.loop-left.left c.loop-left.part number
    (get ◌==◌ c.loop-left.rows number) (omega arith))
    ∙ c.loop-left.invariant number

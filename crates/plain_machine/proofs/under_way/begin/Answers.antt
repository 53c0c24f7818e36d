use Rattle.std.proofs.Common.{refl}
use Rattle.plain_machine.proofs.UnderLaws.{begun_between}
use Rattle.plain_machine.proofs.under_way.begin.Goals as goal

pub returns-clause-between : goal.returns-clause-between
returns-clause-between c =
    begun_between c.args.code.now c.args.plan.now _ c.in_ok-state.ensures.state
    c.in_ok-state.ensures.unit refl

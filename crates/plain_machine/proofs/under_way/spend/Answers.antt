use Rattle.plain_machine.proofs.ReachedRuns.{arrived_stands, operated_stands}
use Rattle.plain_machine.proofs.UnderLaws.{goes_through, has_spent}
use Rattle.plain_machine.proofs.under_way.spend.Goals as goal

pub unreachable-requires : goal.unreachable-requires
unreachable-requires c =
    goes_through c.args.setting.code.now c.args.setting.plan.now c.args.at.now c.args.at.now c.requires.between
    c.in_ok-one_unit.field-0 c.clear.new.self.items c.one_unit.new.reported.items c.one_unit.new.state c.if-branch.false
    c.requires.never c.in_ok-one_unit.ensures.led

pub returns : goal.returns
returns c =
    has_spent c.args.setting.code.now c.args.setting.plan.now c.args.at.now _ c.requires.between
    c.in_ok-one_unit.field-0 c.clear.new.self.items c.if-branch.true c.clear.ensures.items
    c.in_ok-one_unit.ensures.led c.in_ok-one_unit.ensures.past

pub one_unit-requires-clause-arrived : goal.one_unit-requires-clause-arrived
one_unit-requires-clause-arrived c = λ st e.
    arrived_stands c.args.setting.code.now c.args.setting.plan.now c.args.at.now c.requires.between c.requires.lawful
    st e

pub one_unit-requires-clause-operated : goal.one_unit-requires-clause-operated
one_unit-requires-clause-operated c = λ st step e alike.
    operated_stands c.args.setting.code.now c.args.setting.plan.now c.args.at.now c.requires.between c.requires.lawful
    st step e alike

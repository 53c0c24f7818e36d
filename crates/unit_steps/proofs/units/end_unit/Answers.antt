use Rattle.unit_steps.proofs.UnitParts.{goes_to_next, stuck_then}
use Rattle.unit_steps.proofs.units.end_unit.Goals as goal

pub phase_after-requires : goal.phase_after-requires
phase_after-requires c =
    record { live = c.requires.stands.live; closes = c.requires.stands.closes }

pub returns-then-not-followed : goal.returns-then-not-followed
returns-then-not-followed c = λ done before led.
    stuck_then c.args.setting.code.now done c.args.state.now c.phase_after.new.state before
    c.args.reported.now.items c.phase_after.new.reported.items led c.in_ok-followed.followed c.in_ok-followed.ensures
    c.if-not-followed.true

pub returns : goal.returns
returns c = λ done before led.
    goes_to_next c.args.setting.code.now done c.args.state.now c.phase_after.new.state before
    c.args.reported.now.items c.phase_after.new.reported.items led c.in_ok-followed.followed c.in_ok-followed.ensures
    c.next_unit.new.state c.if-not-followed.false (c.in_ok-next_unit.ensures.next c.args.setting.code.now)

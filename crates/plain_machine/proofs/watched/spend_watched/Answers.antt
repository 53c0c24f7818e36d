use Rattle.std.specs.Prelude.{false, true}
use Rattle.std.proofs.Common.{◌∙◌, ℕ, ap, refl, subst, sym}
use Rattle.scj_model.specs.Code.{code_of}
use Rattle.scj_model.specs.Choice.{by_priority}
use Rattle.scj_model.specs.State.{State}
use Rattle.run_plan.specs.Index.{fires_before}
use Rattle.run_state.specs.Seen.{state_of}
use Rattle.unit_steps.specs.Alike.{IsAlike}
use Rattle.unit_steps.specs.Refused.{followed, operated}
use Rattle.unit_steps.proofs.UnitJoins.{operated_acts}
use Rattle.unit_steps.proofs.UnitParts.{goes_on, led_there, stuck_at_once, unit_counted}
use Rattle.plain_machine.proofs.ReachedRuns.{arrived_stands, operated_stands, reached_there}
use Rattle.plain_machine.proofs.UnderLaws.{goes_through, has_spent}
use Rattle.plain_machine.proofs.Watching.{unit_reports}
use Rattle.plain_machine.proofs.watched.spend_watched.Goals as goal

pub begin_unit-requires-clause-arrived : goal.begin_unit-requires-clause-arrived
begin_unit-requires-clause-arrived c = λ st e.
    arrived_stands c.args.setting.code.now c.args.setting.plan.now c.args.at.now c.requires.between c.requires.lawful
    st e

pub unreachable-requires : goal.unreachable-requires
unreachable-requires c =
    goes_through c.args.setting.code.now c.args.setting.plan.now c.args.at.now c.args.at.now c.requires.between false
    c.clear.new.self.items c.begin_unit.new.reported.items c.begin_unit.new.state refl c.requires.never
    (stuck_at_once c.args.setting.code.now c.args.setting.plan.now by_priority c.args.at.now.state
    c.begin_unit.new.state c.clear.new.self.items c.begin_unit.new.reported.items
    (rw c.in_default.is at c.in_ok-acted.ensures.led))

pub end_unit-requires : goal.end_unit-requires
end_unit-requires c =
    let code = c.args.setting.code.now in
    let there = led_there code (operated (code_of code.program) c.args.setting.plan.now by_priority (state_of code c.args.at.now.state))
    true c.begin_unit.new.state c.clear.new.self.items c.begin_unit.new.reported.items refl
    (rw c.in-Done.is at c.in_ok-acted.ensures.led) in
    let acted = operated_acts code c.args.setting.plan.now by_priority (state_of code c.args.at.now.state) there.0
    there.1 in
    record {
      stands = operated_stands c.args.setting.code.now c.args.setting.plan.now c.args.at.now c.requires.between
          c.requires.lawful c.begin_unit.new.state acted.0 acted.1
          (subst (λ (s : State). IsAlike s (state_of code c.begin_unit.new.state)) (sym acted.2) there.2.alike);
    }

pub unreachable-requires-else-ended : goal.unreachable-requires-else-ended
unreachable-requires-else-ended c =
    let code = c.args.setting.code.now in
    let there = led_there code (operated (code_of code.program) c.args.setting.plan.now by_priority (state_of code c.args.at.now.state))
    true c.begin_unit.new.state c.clear.new.self.items c.begin_unit.new.reported.items refl
    (rw c.in-Done.is at c.in_ok-acted.ensures.led) in
    goes_through c.args.setting.code.now c.args.setting.plan.now c.args.at.now c.args.at.now c.requires.between
    c.in_ok-ended.ended c.clear.new.self.items c.end_unit.new.reported.items c.end_unit.new.state c.if-ended.false
    c.requires.never
    (goes_on code c.args.setting.plan.now by_priority c.args.at.now.state c.end_unit.new.state
    c.clear.new.self.items c.end_unit.new.reported.items there.0 c.in_ok-ended.ended there.1
    (c.in_ok-ended.ensures there.0 c.clear.new.self.items there.2))

pub returns-clause-spent : goal.returns-clause-spent
returns-clause-spent c =
    let code = c.args.setting.code.now in
    let there = led_there code (operated (code_of code.program) c.args.setting.plan.now by_priority (state_of code c.args.at.now.state))
    true c.begin_unit.new.state c.clear.new.self.items c.begin_unit.new.reported.items refl
    (rw c.in-Done.is at c.in_ok-acted.ensures.led) in
    let led = goes_on code c.args.setting.plan.now by_priority c.args.at.now.state c.end_unit.new.state
    c.clear.new.self.items c.end_unit.new.reported.items there.0 true there.1
    (rw c.if-ended.true at (c.in_ok-ended.ensures there.0 c.clear.new.self.items there.2)) in
    has_spent c.args.setting.code.now c.args.setting.plan.now c.args.at.now _ c.requires.between true
    c.clear.new.self.items refl c.clear.ensures.items led
    (λ e. c.in_ok-acted.ensures.past
    ∙ ap (λ (unit : ℕ). fires_before c.args.setting.plan.now unit)
    (sym (unit_counted code c.args.setting.plan.now by_priority c.args.at.now.state c.end_unit.new.state
    c.clear.new.self.items c.end_unit.new.reported.items led)))

pub returns-clause-reports : goal.returns-clause-reports
returns-clause-reports c =
    let code = c.args.setting.code.now in
    let there = led_there code (operated (code_of code.program) c.args.setting.plan.now by_priority (state_of code c.args.at.now.state))
    true c.begin_unit.new.state c.clear.new.self.items c.begin_unit.new.reported.items refl
    (rw c.in-Done.is at c.in_ok-acted.ensures.led) in
    let after = led_there code (followed (code_of code.program) there.0) true c.end_unit.new.state c.clear.new.self.items
    c.end_unit.new.reported.items refl
    (rw c.if-ended.true at (c.in_ok-ended.ensures there.0 c.clear.new.self.items there.2)) in
    unit_reports c.args.setting.code.now c.args.setting.plan.now c.args.at.now c.begin_unit.new.state
    c.end_unit.new.state c.in-Done.refusal there.0 after.0 c.args.table.now c.note.new.self c.look.new.self
    c.look-then-ended.new.self c.requires.between c.requires.reports
    (c.requires.situated.at _
    (reached_there c.args.setting.code.now c.args.setting.plan.now c.args.at.now c.requires.between
    c.requires.lawful))
    there.1 there.2.alike after.1 after.2.alike (rw c.in-Done.is at c.in_ok-acted.ensures.refused) c.note.ensures
    c.in_ok-look.ensures c.in_ok-look-2.ensures

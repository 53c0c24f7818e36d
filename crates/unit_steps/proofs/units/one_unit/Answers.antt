use Rattle.std.specs.Prelude.{Bool, true}
use Rattle.std.proofs.Common.{◌∙◌, ℕ, ap, refl, subst, sym}
use Rattle.scj_model.specs.Code.{code_of}
use Rattle.scj_model.specs.Choice.{by_priority}
use Rattle.scj_model.specs.Run.{one_unit}
use Rattle.scj_model.specs.State.{State}
use Rattle.run_plan.specs.Index.{fires_before}
use Rattle.run_state.specs.Seen.{state_of}
use Rattle.unit_steps.specs.Alike.{IsAlike}
use Rattle.unit_steps.specs.Led.{IsLedTry}
use Rattle.unit_steps.specs.Refused.{operated}
use Rattle.unit_steps.proofs.UnitJoins.{operated_acts}
use Rattle.unit_steps.proofs.UnitParts.{goes_on, led_there, stuck_at_once, unit_counted}
use Rattle.unit_steps.proofs.units.one_unit.Goals as goal

pub returns-in-Stuck-clause-led : goal.returns-in-Stuck-clause-led
returns-in-Stuck-clause-led c =
    stuck_at_once c.args.setting.code.now c.args.setting.plan.now by_priority c.args.state.now
    c.begin_unit.new.state c.args.reported.now.items c.begin_unit.new.reported.items
    (rw c.in-Stuck.is at c.in_ok-acted.ensures.led)

pub end_unit-requires : goal.end_unit-requires
end_unit-requires c =
    let code = c.args.setting.code.now in
    let there = led_there code (operated (code_of code.program) c.args.setting.plan.now by_priority (state_of code c.args.state.now))
    true c.begin_unit.new.state c.args.reported.now.items c.begin_unit.new.reported.items refl
    (rw c.in-Done.is at c.in_ok-acted.ensures.led) in
    let acted = operated_acts code c.args.setting.plan.now by_priority (state_of code c.args.state.now) there.0
    there.1 in
    record {
      stands = c.requires.operated c.begin_unit.new.state acted.0 acted.1
          (subst (λ (s : State). IsAlike s (state_of code c.begin_unit.new.state)) (sym acted.2) there.2.alike);
    }

pub returns-in_ok-ended-in-Done-clause-led : goal.returns-in_ok-ended-in-Done-clause-led
returns-in_ok-ended-in-Done-clause-led c =
    let code = c.args.setting.code.now in
    let there = led_there code (operated (code_of code.program) c.args.setting.plan.now by_priority (state_of code c.args.state.now))
    true c.begin_unit.new.state c.args.reported.now.items c.begin_unit.new.reported.items refl
    (rw c.in-Done.is at c.in_ok-acted.ensures.led) in
    goes_on code c.args.setting.plan.now by_priority c.args.state.now c.end_unit.new.state c.args.reported.now.items
    c.end_unit.new.reported.items there.0 c.in_ok-ended-in-Done.ended there.1
    (c.in_ok-ended-in-Done.ensures there.0 c.args.reported.now.items there.2)

pub returns-in_ok-ended-in-Done-clause-past : goal.returns-in_ok-ended-in-Done-clause-past
returns-in_ok-ended-in-Done-clause-past c = λ e.
    c.in_ok-acted.ensures.past
    ∙ ap (λ (unit : ℕ). fires_before c.args.setting.plan.now unit)
    (sym (unit_counted c.args.setting.code.now c.args.setting.plan.now by_priority c.args.state.now
    c.end_unit.new.state c.args.reported.now.items c.end_unit.new.reported.items
    (subst (λ (b : Bool). IsLedTry c.args.setting.code.now
    (one_unit (code_of c.args.setting.code.now.program) c.args.setting.plan.now by_priority
    (state_of c.args.setting.code.now c.args.state.now)) b c.end_unit.new.state c.args.reported.now.items
    c.end_unit.new.reported.items) e (returns-in_ok-ended-in-Done-clause-led c))))

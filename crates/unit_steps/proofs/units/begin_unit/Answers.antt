use Rattle.std.proofs.Common.{ap, sym}
use Rattle.scj_model.specs.Code.{code_of}
use Rattle.scj_model.specs.Choice.{by_priority}
use Rattle.scj_model.specs.State.{State}
use Rattle.area_needs.specs.Refusals.{refused_at}
use Rattle.unit_steps.specs.Refused.{went}
use Rattle.unit_steps.proofs.RefusedTurns.{refuses_as}
use Rattle.unit_steps.proofs.UnitParts.{both_led}
use Rattle.unit_steps.proofs.units.begin_unit.Goals as goal

pub acts-requires : goal.acts-requires
acts-requires c = record {
  stands = c.requires.arrived c.arrivals.new.state
      (c.in_ok-arrivals.ensures.arrived c.args.setting.code.now (sym c.requires.same)).state;
}

pub returns-clause-led : goal.returns-clause-led
returns-clause-led c =
    both_led c.args.setting.code.now c.args.setting.plan.now by_priority c.args.state.now
    c.arrivals.new.state c.acts.new.state c.args.reported.now.items c.arrivals.new.reported.items c.acts.new.reported.items
    (c.in_ok-arrivals.ensures.arrived c.args.setting.code.now (sym c.requires.same))
    (went c.in_ok-acted.acted) c.in_ok-acted.ensures.led

pub returns-clause-refused : goal.returns-clause-refused
returns-clause-refused c =
    refuses_as c.in_ok-acted.acted _ _
    (ap (λ (s : State). refused_at (code_of c.args.setting.code.now.program) c.args.setting.plan.now.readings by_priority s)
    (c.in_ok-arrivals.ensures.arrived c.args.setting.code.now (sym c.requires.same)).state)
    c.in_ok-acted.ensures.refused

pub returns-clause-past : goal.returns-clause-past
returns-clause-past c = c.in_ok-arrivals.ensures.past

use Rattle.std.proofs.Common.{◌≡◌, ◌∙◌, ◌<◌, List, ap, arith, sym}
use Rattle.scj_model.specs.declared.events.Event.{Event}
use Rattle.plain_machine.specs.AreaTexts.{last_fault}
use Rattle.plain_machine.proofs.WatchedRuns.{over_none, over_some, stopped_with, watched_on}
use Rattle.plain_machine.proofs.watched.watched_step.Goals as goal

pub returns-then-unit-units-clause-end : goal.returns-then-unit-units-clause-end
returns-then-unit-units-clause-end c =
    let spent : c.args.run.now.at.state.unit ≡ c.args.setting.plan.now.units =
    omega (arith, c.units.ensures.units, c.if-unit-units.true) in
    stopped_with c.args.setting.code.now c.args.setting.plan.now c.args.run.now c.requires.watched spent

pub returns-then-is_over-clause-on : goal.returns-then-is_over-clause-on
returns-then-is_over-clause-on c =
    let within : c.args.run.now.at.state.unit < c.args.setting.plan.now.units =
    omega (arith, c.units.ensures.units, c.if-unit-units.false, c.requires.watched.between.within) in
    over_none c.args.setting.code.now c.args.setting.plan.now c.args.run.now.at.state.unit
    (record {
      at = c.spend_watched.new.at;
      table = c.spend_watched.new.table;
      fault = c.last_fault-run.result;
    })
    c.args.run.now.fault within c.in_ok-spend_watched.ensures.spent c.in_ok-spend_watched.ensures.reports
    c.requires.watched.fault c.requires.watched.between.goes_on
    (c.last_fault-run.ensures
    ∙ ap (λ (events : List Event). last_fault c.args.run.now.fault events) c.deref.ensures.value) _
    c.last_reported.result (sym c.is_over.ensures ∙ c.if-is_over.true) c.last_reported.ensures

pub returns-then-is_over-clause-end : goal.returns-then-is_over-clause-end
returns-then-is_over-clause-end c =
    let within : c.args.run.now.at.state.unit < c.args.setting.plan.now.units =
    omega (arith, c.units.ensures.units, c.if-unit-units.false, c.requires.watched.between.within) in
    over_some c.args.setting.code.now c.args.setting.plan.now c.args.run.now.at.state.unit
    (record {
      at = c.spend_watched.new.at;
      table = c.spend_watched.new.table;
      fault = c.last_fault-run.result;
    })
    c.args.run.now.fault within c.in_ok-spend_watched.ensures.spent c.in_ok-spend_watched.ensures.reports
    c.requires.watched.fault c.requires.watched.between.goes_on
    (c.last_fault-run.ensures
    ∙ ap (λ (events : List Event). last_fault c.args.run.now.fault events) c.deref.ensures.value)
    c.last_reported.result (sym c.is_over.ensures ∙ c.if-is_over.true) c.last_reported.ensures

pub returns-clause-on : goal.returns-clause-on
returns-clause-on c =
    let within : c.args.run.now.at.state.unit < c.args.setting.plan.now.units =
    omega (arith, c.units.ensures.units, c.if-unit-units.false, c.requires.watched.between.within) in (
      watched_on c.args.setting.code.now c.args.setting.plan.now c.args.run.now.at.state.unit
          (record {
            at = c.spend_watched.new.at;
            table = c.spend_watched.new.table;
            fault = c.last_fault-run.result;
          })
          c.args.run.now.fault within c.in_ok-spend_watched.ensures.spent c.in_ok-spend_watched.ensures.reports
          c.requires.watched.fault c.requires.watched.between.goes_on
          (c.last_fault-run.ensures
          ∙ ap (λ (events : List Event). last_fault c.args.run.now.fault events) c.deref.ensures.value)
          (sym c.is_over.ensures ∙ c.if-is_over.false),
      c.in_ok-spend_watched.ensures.spent.unit,
    )

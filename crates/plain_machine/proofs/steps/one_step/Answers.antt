use Rattle.std.proofs.Common.{◌≡◌, ◌<◌, arith}
use Rattle.std.proofs.lemmas.Result.{err_from_is_err_and}
use Rattle.plain_machine.proofs.BehindLaws.{breaks_before}
use Rattle.plain_machine.proofs.LastLaws.{reports_last}
use Rattle.plain_machine.proofs.StepLaws.{steps, stops, stops_broken, unit_broken}
use Rattle.plain_machine.proofs.steps.one_step.Goals as goal

pub returns-in_err-end-clause-stop : goal.returns-in_err-end-clause-stop
returns-in_err-end-clause-stop g c =
    let p = err_from_is_err_and c.from_residual.result c.from_residual.ensures.1 in
    let spent : c.args.at.now.state.unit ≡ c.args.setting.plan.now.units = omega (arith, c.units.ensures.units) in
    rw (p.1, p.2)
    (stops_broken c.args.setting.code.now c.args.printer.now.program c.args.setting.plan.now c.args.printer.now.names
    c.args.at.now _ c.requires.printed c.requires.between spent _ c.in_err-end.ensures.stop)

pub returns-then-is_spent-clause-ok : goal.returns-then-is_spent-clause-ok
returns-then-is_spent-clause-ok g c =
    let spent : c.args.at.now.state.unit ≡ c.args.setting.plan.now.units = omega (arith, c.units.ensures.units) in
    stops c.args.setting.code.now c.args.printer.now.program c.args.setting.plan.now c.args.printer.now.names
    c.args.at.now _ c.requires.printed c.requires.between spent c.in_ok-end.end c.in_ok-end.ensures.end
    c.in_ok-end.ensures.ok

pub returns-in_err-spend-clause-stop : goal.returns-in_err-spend-clause-stop
returns-in_err-spend-clause-stop g c =
    let p = err_from_is_err_and c.from_residual-in_err-spend.result c.from_residual-in_err-spend.ensures.1 in
    rw (p.1, p.2)
    (breaks_before c.args.setting.code.now.program c.args.setting.plan.now c.args.printer.now.names c.args.at.now.state.unit _ _
    c.requires.between.within)

pub returns-in_err-put_all-clause-stop : goal.returns-in_err-put_all-clause-stop
returns-in_err-put_all-clause-stop g c =
    let p = err_from_is_err_and c.from_residual-in_err-put_all.result c.from_residual-in_err-put_all.ensures.1 in
    let within : c.args.at.now.state.unit < c.args.setting.plan.now.units =
    omega (arith, c.units.ensures.units, c.requires.between.within) in
    rw (p.1, p.2)
    (unit_broken c.args.setting.code.now c.args.printer.now.program c.args.setting.plan.now c.args.printer.now.names
    c.args.at.now.state.unit c.spend.new.at _ c.deref.result.now c.requires.printed c.deref.ensures.value within
    c.in_ok-spend.ensures _ c.in_err-put_all.ensures.stop)

pub progress_after-requires : goal.progress_after-requires
progress_after-requires g c = λ e.
    reports_last c.args.setting.code.now c.args.setting.plan.now c.args.at.now.state.unit c.spend.new.at
    c.in_ok-spend.ensures c.requires.between.goes_on e

pub returns-clause-ok : goal.returns-clause-ok
returns-clause-ok g c =
    let within : c.args.at.now.state.unit < c.args.setting.plan.now.units =
    omega (arith, c.units.ensures.units, c.requires.between.within) in
    steps c.args.setting.code.now c.args.printer.now.program c.args.setting.plan.now c.args.printer.now.names
    c.args.at.now.state.unit c.spend.new.at _ c.deref.result.now c.requires.printed c.deref.ensures.value within
    c.in_ok-spend.ensures c.progress_after.result c.in_ok-put_all.ensures.ok c.progress_after.ensures

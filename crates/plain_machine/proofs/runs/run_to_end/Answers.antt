use Rattle.std.proofs.Common.{refl}
use Rattle.std.proofs.lemmas.Result.{err_from_is_err_and}
use Rattle.plain_machine.proofs.BehindLaws.{broken_run, nothing_put}
use Rattle.plain_machine.proofs.runs.run_to_end.Goals as goal

pub loop-end-init : goal.loop-end-init
loop-end-init g c =
    record {
      same = refl;
      put = nothing_put c.args.machine.now.program c.args.machine.now.plan c.args.machine.now.names
          c.args.machine.now.spent _ _ c.requires.first;
    }

pub returns-in_err-step-clause-stop : goal.returns-in_err-step-clause-stop
returns-in_err-step-clause-stop g c =
    let p = err_from_is_err_and c.from_residual.result c.from_residual.ensures.1 in
    rw (p.1, p.2)
    (broken_run c.args.machine.now c.loop-end.machine _ c.loop-end.invariant.same _ _ _ _ _ _
    c.loop-end.invariant.put _ c.in_err-step.ensures.stop)

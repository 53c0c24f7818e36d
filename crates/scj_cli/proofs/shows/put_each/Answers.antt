use Rattle.std.proofs.lemmas.Result.{err_from_is_err_and}
use Rattle.scj_cli.proofs.ShowLaws.{front_of_all}
use Rattle.scj_cli.proofs.shows.put_each.Goals as goal

pub returns-in_err-put_all-clause-failed : goal.returns-in_err-put_all-clause-failed
returns-in_err-put_all-clause-failed g c =
    let p = err_from_is_err_and c.from_residual.result c.from_residual.ensures.1 in
    rw p.1
    (front_of_all (λ t. t.items) c.args.texts.now c.loop-text.text-index c.text-item.result _ _ _ _ _ _
    c.loop-text-test.true c.loop-text.invariant
    (rw (c.deref.ensures.value, c.text-item.is) at c.in_err-put_all.ensures.failed))

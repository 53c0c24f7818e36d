use Rattle.scj_io.proofs.PutLaws.{PutWhole-nothing}
use Rattle.scj_cli.proofs.CauseLaws.{Ends-answered, Ends-reported, Ends-broken}
use Rattle.scj_cli.proofs.calls.finish.Goals as goal

pub returns-in-Ok-clause-ends : goal.returns-in-Ok-clause-ends
returns-in-Ok-clause-ends g c = Ends-answered c.in-Ok.ensures.ok (PutWhole-nothing _ _)

pub returns-in-Err-Told-clause-ends : goal.returns-in-Err-Told-clause-ends
returns-in-Err-Told-clause-ends g c =
    Ends-reported (rw c.in-Err-Told.field-0-is at c.in-Err-Told.ensures.stop) c.tell.ensures

pub returns-in-Err-Broken-clause-ends : goal.returns-in-Err-Broken-clause-ends
returns-in-Err-Broken-clause-ends g c = Ends-broken (rw c.in-Err-Broken.field-0-is at c.in-Err-Broken.ensures.stop)
    (PutWhole-nothing _ _)

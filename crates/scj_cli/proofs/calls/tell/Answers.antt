use Rattle.scj_cli.specs.Modes.Tells.{whole, fault}
use Rattle.scj_cli.proofs.calls.tell.Goals as goal

pub returns-in-Ok : goal.returns-in-Ok
returns-in-Ok g c = rw c.status.ensures (whole (rw c.line.ensures at c.in-Ok.ensures.ok))

pub returns-in-Err : goal.returns-in-Err
returns-in-Err g c = fault (rw c.line.ensures at c.in-Err.ensures.failed)

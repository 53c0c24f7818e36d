use Rattle.response_bounds.proofs.EndsInTime.{worked}
use Rattle.response_bounds.proofs.Interference.{interfered}
use Rattle.response_bounds.proofs.Monotone.{gaps_of}
use Rattle.response_bounds.proofs.laws.busy_periods_are_worked.Goals as goal

pub returns-clause-worked : goal.returns-clause-worked
returns-clause-worked c = λ rows n s least t x h period. worked rows n s least t x h period

pub returns-clause-fewer : goal.returns-clause-fewer
returns-clause-fewer c =
    λ rows declared n s i t x h keeps period from upto.
    interfered rows n s i t x h keeps (λ j l. gaps_of rows declared j) period from upto

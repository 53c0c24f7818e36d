use Rattle.response_bounds.proofs.EndsInTime.{ends_in_time, period_ends}
use Rattle.response_bounds.proofs.Monotone.{gaps_of}
use Rattle.response_bounds.proofs.laws.schedules_end_in_time.Goals as goal

pub returns-clause-period : goal.returns-clause-period
returns-clause-period c =
    λ rows declared n s i t x h keeps bound period.
    period_ends rows n s i t x h keeps (λ j l. gaps_of rows declared j) bound period

pub returns-clause-ends : goal.returns-clause-ends
returns-clause-ends c =
    λ rows declared n s h keeps. ends_in_time rows n s h keeps (λ j l. gaps_of rows declared j)

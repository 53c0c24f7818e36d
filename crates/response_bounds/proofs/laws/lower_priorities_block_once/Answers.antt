use Rattle.response_bounds.proofs.Blocking.{blocked, one_blocks, was_raised}
use Rattle.response_bounds.proofs.laws.lower_priorities_block_once.Goals as goal

pub returns-clause-blocked : goal.returns-clause-blocked
returns-clause-blocked c = λ rows n s i t x h keeps period long. blocked rows n s i t x h keeps period long

pub returns-clause-raised : goal.returns-clause-raised
returns-clause-raised c = λ rows n s least t x p h period low some. was_raised rows n s least t x h period p low some

pub returns-clause-one : goal.returns-clause-one
returns-clause-one c =
    λ rows n s least t x p q h period low_p some_p low_q some_q.
    one_blocks rows n s least t x p q h period low_p some_p low_q some_q

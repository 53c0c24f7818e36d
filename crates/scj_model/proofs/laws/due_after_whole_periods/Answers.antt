use Rattle.scj_model.proofs.RunLemmas.{periodic_due, one_shot_due, aperiodic_due}
use Rattle.scj_model.proofs.laws.due_after_whole_periods.Goals as goal

pub returns-clause-periodic : goal.returns-clause-periodic
returns-clause-periodic c = λ origin unit row e p. periodic_due origin unit row e p

pub returns-clause-one_shot : goal.returns-clause-one_shot
returns-clause-one_shot c = λ origin unit row e. one_shot_due origin unit row e

pub returns-clause-aperiodic : goal.returns-clause-aperiodic
returns-clause-aperiodic c = λ origin unit row e. aperiodic_due origin unit row e

use Rattle.area_growth.proofs.Units.{acts_go, arrivals_same, phase_still}
use Rattle.area_growth.proofs.memory_goes_on.Goals as goal

pub returns-clause-arrivals : goal.returns-clause-arrivals
returns-clause-arrivals c = arrivals_same

pub returns-clause-operation : goal.returns-clause-operation
returns-clause-operation c = λ code rows policy s step m e. (acts_go code rows policy s m).is step e

pub returns-clause-phase : goal.returns-clause-phase
returns-clause-phase c = λ code s step e. (phase_still code s).is step e

use Rattle.int_values.proofs.Kept.{first_fits, operation_fits}
use Rattle.int_values.proofs.Phases.{arrivals_fit, phase_fits}
use Rattle.int_values.proofs.laws.units_keep_ints.Goals as goal

pub returns-clause-first : goal.returns-clause-first
returns-clause-first c = λ code ints plan store. first_fits code ints plan store

pub returns-clause-arrivals : goal.returns-clause-arrivals
returns-clause-arrivals c = λ code plan s h. arrivals_fit code.program code plan s h

pub returns-clause-operations : goal.returns-clause-operations
returns-clause-operations c =
    λ code ints facts rows readings s base memory jobs h policy step e.
    (operation_fits code ints facts rows readings s base memory jobs h policy).is step e

pub returns-clause-phases : goal.returns-clause-phases
returns-clause-phases c = λ code s h step e. (phase_fits code.program code s h).is step e

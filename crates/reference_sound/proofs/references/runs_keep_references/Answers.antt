use Rattle.reference_sound.proofs.PhaseHolds.{first_state_holds, arrivals_keep, phase_keeps, rests}
use Rattle.reference_sound.proofs.references.runs_keep_references.Goals as goal

pub returns-clause-first : goal.returns-clause-first
returns-clause-first c = λ code plan base. first_state_holds code plan base

pub returns-clause-arrived : goal.returns-clause-arrived
returns-clause-arrived c = λ code plan s base held. arrivals_keep code base plan s held

pub returns-clause-phases : goal.returns-clause-phases
returns-clause-phases c = λ code s base held step e. (phase_keeps code s base held).gives step e

pub returns-clause-resting : goal.returns-clause-resting
returns-clause-resting c =
    λ s after base held areas objects statics releases activity. rests s base held after areas objects statics releases
    activity

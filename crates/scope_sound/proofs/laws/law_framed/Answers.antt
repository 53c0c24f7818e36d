use Rattle.scope_sound.proofs.Halting.{halting_stays}
use Rattle.scope_sound.proofs.HaltingPhases.{halting_phase_stays}
use Rattle.scope_sound.proofs.Halves.{is_framed}
use Rattle.scope_sound.proofs.Safe.{has_facts}
use Rattle.scope_sound.proofs.laws.law_framed.Goals as goal

pub returns-clause-framed : goal.returns-clause-framed
returns-clause-framed c =
    λ rows s job step sound may e. is_framed c.args.checked.now.program c.checked_is_accepted.ensures rows s job sound
    may step e

pub returns-clause-halted : goal.returns-clause-halted
returns-clause-halted c =
    λ rows s step sound may e over.
    (let facts = has_facts c.args.checked.now.program c.checked_is_accepted.ensures in
    halting_stays _ facts.bodies facts.sequencer rows s sound may step e over)

pub returns-clause-ended : goal.returns-clause-ended
returns-clause-ended c = λ s step e over. halting_phase_stays _ s step e over

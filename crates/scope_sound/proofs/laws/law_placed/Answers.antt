use Rattle.scope_sound.proofs.Halves.{is_placed, what_is_stored_passes}
use Rattle.scope_sound.proofs.laws.law_placed.Goals as goal

pub returns-clause-placed : goal.returns-clause-placed
returns-clause-placed c =
    λ rows s job step sound may e. is_placed c.args.checked.now.program c.checked_is_accepted.ensures rows s job sound
    may step e

pub returns-clause-passes : goal.returns-clause-passes
returns-clause-passes c =
    λ rows s job sound may. what_is_stored_passes c.args.checked.now.program c.checked_is_accepted.ensures rows s job
    sound may

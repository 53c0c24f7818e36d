use Rattle.scope_sound.proofs.Halves.{reached_sound, reached_framed, reached_placed}
use Rattle.scope_sound.proofs.laws.reached_states_are_framed_and_placed.Goals as goal

pub returns-clause-sound : goal.returns-clause-sound
returns-clause-sound c =
    λ plan choices moment s reached. reached_sound c.args.checked.now.program c.checked_is_accepted.ensures plan choices
    moment s reached

pub returns-clause-framed : goal.returns-clause-framed
returns-clause-framed c =
    λ plan choices moment s reached job. reached_framed c.args.checked.now.program c.checked_is_accepted.ensures plan
    choices moment s reached job

pub returns-clause-placed : goal.returns-clause-placed
returns-clause-placed c =
    λ plan choices moment s reached. reached_placed c.args.checked.now.program c.checked_is_accepted.ensures plan choices
    moment s reached

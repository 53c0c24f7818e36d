use Rattle.area_laws.proofs.ClosingOrder.{mission_closes, release_closes, sequencer_closes}
use Rattle.area_laws.proofs.areas_close_as_the_last.Goals as goal

pub returns-clause-release : goal.returns-clause-release
returns-clause-release c =
    λ plan s reached index activity turn e. release_closes c.args.checked.now.program c.checked_is_accepted.ensures plan
    s reached index activity turn e

pub returns-clause-sequencer : goal.returns-clause-sequencer
returns-clause-sequencer c =
    λ plan s reached phase. sequencer_closes c.args.checked.now.program c.checked_is_accepted.ensures plan s reached
    phase

pub returns-clause-mission : goal.returns-clause-mission
returns-clause-mission c =
    λ plan s reached phase. mission_closes c.args.checked.now.program c.checked_is_accepted.ensures plan s reached phase

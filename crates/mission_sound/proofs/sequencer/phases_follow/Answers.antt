use Rattle.mission_sound.proofs.Phases.{phase_follows}
use Rattle.mission_sound.proofs.sequencer.phases_follow.Goals as goal

pub returns : goal.returns
returns c = λ code s after. phase_follows code s after

use Rattle.mission_sound.proofs.EmptyState.{empty_is_settled}
use Rattle.mission_sound.proofs.sequencer.runs_begin_settled.Goals as goal

pub returns : goal.returns
returns c = λ code plan facts. empty_is_settled code plan facts

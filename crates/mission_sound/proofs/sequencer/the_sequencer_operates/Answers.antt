use Rattle.mission_sound.proofs.SequencerOps.{sequencer_operates}
use Rattle.mission_sound.proofs.sequencer.the_sequencer_operates.Goals as goal

pub returns : goal.returns
returns c = λ code s basics facts settled frameless outside goes_on. sequencer_operates code basics facts s settled
    frameless outside goes_on

use Rattle.mission_sound.proofs.Arrivals as lemmas
use Rattle.mission_sound.proofs.sequencer.arrivals_settle.Goals as goal

pub returns : goal.returns
returns c = λ code plan s settled. lemmas.arrivals_settle code plan s settled

use Rattle.mission_facts.proofs.AllFacts.{sequencer_facts}
use Rattle.mission_facts.proofs.sequencer.sequencers_have_facts.Goals as goal

pub returns : goal.returns
returns c = sequencer_facts

use Rattle.source_nodes.proofs.Reading.{nodes_fit}
use Rattle.source_nodes.proofs.laws.nodes_have_words_and_places.Goals as goal

pub returns : goal.returns
returns c = nodes_fit

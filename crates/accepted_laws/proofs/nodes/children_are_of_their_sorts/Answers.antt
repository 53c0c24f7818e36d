use Rattle.accepted_laws.proofs.ClassSorts.{well_sorted}
use Rattle.accepted_laws.proofs.nodes.children_are_of_their_sorts.Goals as goal

pub returns : goal.returns
returns c = well_sorted

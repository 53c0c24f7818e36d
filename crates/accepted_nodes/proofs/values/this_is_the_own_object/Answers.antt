use Rattle.accepted_nodes.proofs.ValueFacts.{this_is_own}
use Rattle.accepted_laws.proofs.ClassSorts.{well_sorted}
use Rattle.accepted_nodes.proofs.values.this_is_the_own_object.Goals as goal

pub returns : goal.returns
returns c = λ forest a member class id position there inside. this_is_own forest a.is_accepted a.whole (well_sorted forest a.is_read) member class id position there inside

use Rattle.priority_laws.proofs.ReachedOrder.{ordered}
use Rattle.priority_laws.proofs.laws.releases_are_in_order.Goals as goal

pub returns : goal.returns
returns c = λ code plan moment s h. (ordered code plan h).order

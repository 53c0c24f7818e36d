use Rattle.scj_model.proofs.Orders.{orderly_run}
use Rattle.scj_model.proofs.laws.runs_are_orderly.Goals as goal

pub returns : goal.returns
returns c = λ code plan policy n. orderly_run code plan policy n

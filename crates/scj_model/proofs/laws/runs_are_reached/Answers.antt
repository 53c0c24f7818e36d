use Rattle.scj_model.proofs.Reaching.{reached_run}
use Rattle.scj_model.proofs.laws.runs_are_reached.Goals as goal

pub returns : goal.returns
returns c = λ code plan policy n. reached_run code plan policy n

use Rattle.scj_model.proofs.RunLemmas.{run_grows}
use Rattle.scj_model.proofs.laws.trace_grows.Goals as goal

pub returns : goal.returns
returns c = λ code plan policy n k. run_grows code plan policy n k

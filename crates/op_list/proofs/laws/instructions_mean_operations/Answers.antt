use Rattle.op_list.proofs.MeaningLemmas.{means}
use Rattle.op_list.proofs.laws.instructions_mean_operations.Goals as goal

pub returns : goal.returns
returns c = λ code world frame op. means code world frame op

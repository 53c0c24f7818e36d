use Rattle.priority_laws.proofs.Together.{safe_by_priority}
use Rattle.priority_laws.proofs.laws.priorities_keep_programs_safe.Goals as goal

pub returns : goal.returns
returns c = λ code enters spares. safe_by_priority code enters spares

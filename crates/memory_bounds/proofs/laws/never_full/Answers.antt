use Rattle.memory_bounds.proofs.Yes.{yes_never_full}
use Rattle.memory_bounds.proofs.laws.never_full.Goals as goal

pub returns : goal.returns
returns c =
    λ class bytes answer. yes_never_full c.args.checked.now.program c.checked_is_accepted.ensures class bytes answer

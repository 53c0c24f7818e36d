use Rattle.memory_bounds.proofs.StoreLaws.{never_lacks}
use Rattle.memory_bounds.proofs.laws.never_lacks_store.Goals as goal

pub returns : goal.returns
returns c =
    λ rows bytes are reported. never_lacks c.args.checked.now.program c.checked_is_accepted.ensures rows are bytes reported

use Rattle.memory_bounds.proofs.StoreLaws.{need_found}
use Rattle.memory_bounds.proofs.Yes.{yes_found}
use Rattle.memory_bounds.proofs.call.bounds.Goals as goal

pub returns-clause-never_full : goal.returns-clause-never_full
returns-clause-never_full c =
    yes_found c.args.checked.now.program c.checked_is_accepted.ensures (λ found. found.rows) c.find_bounds.result
    c.find_bounds.ensures.rows

pub returns-clause-never_lacks_store : goal.returns-clause-never_lacks_store
returns-clause-never_lacks_store c =
    need_found c.args.checked.now.program c.checked_is_accepted.ensures (λ found. found.rows) (λ found. found.need)
    c.find_bounds.result c.find_bounds.ensures.rows c.find_bounds.ensures.need

use Rattle.run_releases.proofs.Counted.{nothing_counted}
use Rattle.run_releases.proofs.history.Releases.new.Goals as goal

pub invariant_of-result : goal.invariant_of-result
invariant_of-result c =
    rw (c.new-2.ensures.items, c.new-3.ensures.items, c.new-4.ensures.items, c.new.ensures.items) nothing_counted

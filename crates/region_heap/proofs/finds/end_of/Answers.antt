use Rattle.std.proofs.Common.{sym}
use Rattle.region_heap.proofs.Stacks.{end_is_last}
use Rattle.region_heap.proofs.finds.end_of.Goals as goal

pub returns-in-Some : goal.returns-in-Some
returns-in-Some c = sym (end_is_last 0 c.args.areas.now _ (sym c.in-Some.ensures.value))

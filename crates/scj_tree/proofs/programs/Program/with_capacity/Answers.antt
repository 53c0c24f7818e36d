use Rattle.scj_tree.proofs.ForestLemmas.{empty_forest}
use Rattle.scj_tree.proofs.programs.Program.with_capacity.Goals as goal

pub invariant_of-result : goal.invariant_of-result
invariant_of-result c = rw (c.in_ok-nodes.ensures, c.new.ensures.items) empty_forest

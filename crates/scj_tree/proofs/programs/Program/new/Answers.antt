use Rattle.scj_tree.proofs.ForestLemmas.{empty_forest}
use Rattle.scj_tree.proofs.programs.Program.new.Goals as goal

pub invariant_of-result : goal.invariant_of-result
invariant_of-result c = rw (c.new.ensures, c.new-2.ensures.items) empty_forest

use Rattle.machine_laws.proofs.Whole.{one_tree_nodes, one_tree_classes}
use Rattle.machine_laws.proofs.laws.one_tree_at_most.Goals as goal

pub returns-clause-nodes : goal.returns-clause-nodes
returns-clause-nodes c = λ before one other lexemes these those d f. one_tree_nodes d f

pub returns-clause-classes : goal.returns-clause-classes
returns-clause-classes c = λ before one other lexemes these those d f. one_tree_classes d f

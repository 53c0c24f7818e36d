-- What is taken from that a program is accepted.
use Rattle.std.proofs.Common.{List, sym, subst}
use Rattle.scj_tree.specs.declared.nodes.Node.{Node}
use Rattle.scj_tree.specs.Forest.{Forest, ChildrenFirst}
use Rattle.scj_model.specs.Code.{code_of}
use Rattle.accepted_laws.specs.Programs.{IsAcceptedProgram}
use Rattle.op_list.proofs.CodeLemmas.{nodes_are}

pub children_first : (forest : Forest) → IsAcceptedProgram forest → ChildrenFirst 0 (code_of forest).program.nodes
children_first forest a =
    subst (λ (nodes : List Node). ChildrenFirst 0 nodes) (sym (nodes_are forest)) a.whole.children_first

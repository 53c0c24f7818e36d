use Rattle.accepted_laws.proofs.Judged.{bindings_are}
use Rattle.scj_rules.specs.Contexts.{declarations_of}
use Rattle.accepted_laws.proofs.nodes.bindings_are_of_their_kinds.Goals as goal

pub returns : goal.returns
returns c = λ forest id node there. bindings_are (declarations_of forest) id node there

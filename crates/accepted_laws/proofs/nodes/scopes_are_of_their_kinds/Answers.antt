use Rattle.accepted_laws.proofs.Judged.{scopes_are}
use Rattle.accepted_laws.proofs.Typed.{behind_children}
use Rattle.accepted_laws.specs.Judgements.{type_at_node}
use Rattle.scj_rules.specs.Contexts.{declarations_of}
use Rattle.accepted_laws.proofs.nodes.scopes_are_of_their_kinds.Goals as goal

pub returns : goal.returns
returns c = λ forest whole id node there. scopes_are (declarations_of forest) (type_at_node (declarations_of forest)) (behind_children forest whole) id node there

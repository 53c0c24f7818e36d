use Rattle.accepted_laws.proofs.Typed.{types_are, behind_children}
use Rattle.accepted_laws.proofs.Breaks.{type_phase_empty}
use Rattle.scj_rules.specs.Contexts.{declarations_of}
use Rattle.accepted_laws.proofs.nodes.types_are_of_their_kinds.Goals as goal

pub returns : goal.returns
returns c = λ forest whole accepted id node there. (types_are (declarations_of forest) (behind_children forest whole) (type_phase_empty forest accepted) id node there).1

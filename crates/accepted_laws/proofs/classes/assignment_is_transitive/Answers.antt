use Rattle.accepted_laws.proofs.Subtypes.{assigns_on}
use Rattle.accepted_laws.proofs.classes.assignment_is_transitive.Goals as goal

pub returns : goal.returns
returns c = assigns_on

use Rattle.accepted_laws.proofs.ClassChains.{acyclic}
use Rattle.accepted_laws.proofs.classes.no_class_is_above_itself.Goals as goal

pub returns : goal.returns
returns c = acyclic

use Rattle.accepted_laws.proofs.Subtypes.{under_object}
use Rattle.accepted_laws.proofs.classes.object_is_above_each_class.Goals as goal

pub returns : goal.returns
returns c = under_object

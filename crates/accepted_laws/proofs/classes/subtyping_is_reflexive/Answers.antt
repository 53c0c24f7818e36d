use Rattle.accepted_laws.proofs.Subtypes.{is_sub_itself}
use Rattle.accepted_laws.proofs.classes.subtyping_is_reflexive.Goals as goal

pub returns : goal.returns
returns c = is_sub_itself

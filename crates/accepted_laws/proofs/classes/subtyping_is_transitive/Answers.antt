use Rattle.accepted_laws.proofs.Subtypes.{is_sub_on}
use Rattle.accepted_laws.proofs.classes.subtyping_is_transitive.Goals as goal

pub returns : goal.returns
returns c = is_sub_on

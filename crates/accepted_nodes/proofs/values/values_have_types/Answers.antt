use Rattle.accepted_laws.proofs.ClassSorts.{well_sorted}
use Rattle.accepted_nodes.proofs.TypesComplete.{value_has_type}
use Rattle.scj_rules.specs.Contexts.{declarations_of}
use Rattle.accepted_nodes.proofs.values.values_have_types.Goals as goal

pub returns : goal.returns
unfolding declarations_of
returns c = λ forest a member class id node there inside v. value_has_type forest a.is_accepted a.whole (well_sorted forest a.is_read) member class id node there inside v

use Rattle.accepted_laws.proofs.ClassSorts.{well_sorted}
use Rattle.accepted_nodes.proofs.ScopesComplete.{value_has_scope}
use Rattle.scj_rules.specs.Contexts.{declarations_of}
use Rattle.accepted_nodes.proofs.values.references_have_scopes.Goals as goal

pub returns : goal.returns
unfolding declarations_of
returns c = λ forest a member class id node t there inside v e r. value_has_scope forest a.is_accepted a.whole (well_sorted forest a.is_read) member class id node t there inside v e r

use Rattle.accepted_laws.proofs.ClassSorts.{well_sorted}
use Rattle.accepted_facts.proofs.Parameters.{takes_kinds}
use Rattle.accepted_facts.proofs.methods.parameters_have_kinds.Goals as goal

pub returns : goal.returns
returns c = λ forest a f u. takes_kinds forest a.is_accepted a.whole (well_sorted forest a.is_read) f u

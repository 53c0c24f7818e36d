use Rattle.accepted_laws.proofs.ClassSorts.{well_sorted}
use Rattle.accepted_facts.proofs.MethodKinds.{takes_as}
use Rattle.accepted_facts.proofs.methods.overriding_keeps_parameters.Goals as goal

pub returns : goal.returns
returns c = λ forest a f g u plain steps. takes_as forest a.is_accepted a.whole (well_sorted forest a.is_read) f g u plain steps

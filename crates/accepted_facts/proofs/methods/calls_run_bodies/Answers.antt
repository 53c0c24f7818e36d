use Rattle.accepted_laws.proofs.ClassSorts.{well_sorted}
use Rattle.accepted_facts.proofs.MethodKinds.{dispatched}
use Rattle.accepted_facts.proofs.methods.calls_run_bodies.Goals as goal

pub returns : goal.returns
returns c = λ forest a class above row c name f r stands is concrete h e u plain k. dispatched forest a.is_accepted a.whole (well_sorted forest a.is_read) class above row c name f r stands is concrete h e u plain k

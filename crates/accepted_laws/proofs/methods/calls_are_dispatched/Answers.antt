use Rattle.accepted_laws.proofs.Dispatch.{dispatches}
use Rattle.accepted_laws.proofs.ClassSorts.{well_sorted}
use Rattle.accepted_laws.proofs.methods.calls_are_dispatched.Goals as goal

pub returns : goal.returns
returns c = λ forest a class above name f l h e u. dispatches forest a.is_accepted a.whole (well_sorted forest a.is_read) class above name f l h e u

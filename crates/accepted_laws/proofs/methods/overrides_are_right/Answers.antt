use Rattle.accepted_laws.proofs.Dispatch.{overrides_rightly}
use Rattle.accepted_laws.proofs.ClassSorts.{well_sorted}
use Rattle.accepted_laws.proofs.methods.overrides_are_right.Goals as goal

pub returns : goal.returns
returns c = λ forest a class name g f e n up. overrides_rightly forest a.is_accepted a.whole (well_sorted forest a.is_read) class name g f e n up

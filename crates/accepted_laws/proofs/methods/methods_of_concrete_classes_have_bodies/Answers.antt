use Rattle.accepted_laws.proofs.Bodies.{concrete_has_body}
use Rattle.accepted_laws.proofs.ClassSorts.{well_sorted}
use Rattle.accepted_laws.proofs.methods.methods_of_concrete_classes_have_bodies.Goals as goal

pub returns : goal.returns
returns c = λ forest a class row c name g there is plain e u. concrete_has_body forest a.is_accepted a.whole (well_sorted forest a.is_read) class row c name g there is plain e u

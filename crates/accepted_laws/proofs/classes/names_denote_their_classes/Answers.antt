use Rattle.accepted_laws.proofs.ClassNumbers.{name_denotes}
use Rattle.accepted_laws.proofs.ClassSorts.{well_sorted}
use Rattle.accepted_laws.proofs.classes.names_denote_their_classes.Goals as goal

pub returns : goal.returns
returns c = λ forest a class row c there is. name_denotes forest a.whole a.is_accepted (well_sorted forest a.is_read) class row c there is

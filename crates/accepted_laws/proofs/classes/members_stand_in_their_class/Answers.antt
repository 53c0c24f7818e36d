use Rattle.accepted_laws.proofs.ClassNumbers.{member_class}
use Rattle.accepted_laws.proofs.ClassSorts.{well_sorted}
use Rattle.accepted_laws.proofs.classes.members_stand_in_their_class.Goals as goal

pub returns : goal.returns
returns c = λ forest a class row c there is m among. member_class forest a.whole a.is_accepted (well_sorted forest a.is_read) class row c there is m among

use Rattle.accepted_laws.proofs.ClassSorts.{well_sorted}
use Rattle.accepted_nodes.proofs.Slots.{field_has_number}
use Rattle.accepted_nodes.proofs.members.fields_have_numbers.Goals as goal

pub returns : goal.returns
returns c = λ forest a class name f e. field_has_number forest a.is_accepted a.whole (well_sorted forest a.is_read) class name f e

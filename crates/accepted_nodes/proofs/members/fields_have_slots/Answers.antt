use Rattle.accepted_laws.proofs.ClassSorts.{well_sorted}
use Rattle.accepted_nodes.proofs.Slots.{field_has_slot}
use Rattle.accepted_nodes.proofs.members.fields_have_slots.Goals as goal

pub returns : goal.returns
returns c = λ forest a class under number name f l h e plain n. field_has_slot forest a.is_accepted a.whole (well_sorted forest a.is_read) class under number name f l h e plain n

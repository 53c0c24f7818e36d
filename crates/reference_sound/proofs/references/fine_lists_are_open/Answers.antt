use Rattle.reference_sound.proofs.Dangling.{list_open, first_open}
use Rattle.reference_sound.proofs.references.fine_lists_are_open.Goals as goal

pub returns-clause-on_list : goal.returns-clause-on_list
returns-clause-on_list c = λ s list r fine h. list_open s list r fine h

pub returns-clause-in_first : goal.returns-clause-in_first
returns-clause-in_first c = λ p s r heap immortal h. first_open p s r heap immortal h

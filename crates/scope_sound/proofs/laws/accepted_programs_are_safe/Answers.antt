use Rattle.scope_sound.proofs.Safe.{safe}
use Rattle.scope_sound.proofs.laws.accepted_programs_are_safe.Goals as goal

pub returns : goal.returns
returns c = λ forest accepted. safe forest accepted

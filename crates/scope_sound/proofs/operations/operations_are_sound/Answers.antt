use Rattle.scope_sound.proofs.Operated.{operated}
use Rattle.scope_sound.proofs.operations.operations_are_sound.Goals as goal

pub returns : goal.returns
returns c = λ code facts promised rows s job sound acts. operated code facts promised rows s job sound acts

use Rattle.accepted_laws.proofs.Interfaces.{interfaces_give_framework_methods}
use Rattle.accepted_laws.proofs.methods.interfaces_give_framework_methods.Goals as goal

pub returns : goal.returns
returns c = interfaces_give_framework_methods

use Rattle.accepted_laws.proofs.MemberVariables.{variable_once}
use Rattle.accepted_laws.proofs.nodes.variables_have_one_number.Goals as goal

pub returns : goal.returns
returns c = variable_once

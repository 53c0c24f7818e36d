use Rattle.accepted_nodes.proofs.ValueFacts.{while_condition}
use Rattle.accepted_nodes.proofs.values.conditions_of_while_are_boolean.Goals as goal

pub returns : goal.returns
returns c = while_condition

use Rattle.accepted_nodes.proofs.ValueFacts.{if_condition}
use Rattle.accepted_nodes.proofs.values.conditions_of_if_are_boolean.Goals as goal

pub returns : goal.returns
returns c = if_condition

use Rattle.accepted_nodes.proofs.ValueFacts.{for_condition}
use Rattle.accepted_nodes.proofs.values.conditions_of_for_are_boolean.Goals as goal

pub returns : goal.returns
returns c = for_condition

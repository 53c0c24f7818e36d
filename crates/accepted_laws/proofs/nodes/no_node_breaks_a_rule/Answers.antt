use Rattle.accepted_laws.proofs.Breaks.{no_break_at_node}
use Rattle.accepted_laws.proofs.nodes.no_node_breaks_a_rule.Goals as goal

pub returns : goal.returns
returns c = no_break_at_node

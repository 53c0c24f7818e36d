use Rattle.accepted_laws.proofs.Breaks.{no_break_at_class}
use Rattle.accepted_laws.proofs.classes.no_class_breaks_a_rule.Goals as goal

pub returns : goal.returns
returns c = no_break_at_class

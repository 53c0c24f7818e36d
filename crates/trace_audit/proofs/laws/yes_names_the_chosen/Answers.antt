use Rattle.trace_audit.proofs.YesLaws.{yes_names_pick}
use Rattle.trace_audit.proofs.laws.yes_names_the_chosen.Goals as goal

pub returns : goal.returns
returns c = yes_names_pick

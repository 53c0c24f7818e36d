use Rattle.trace_audit.proofs.ChosenLaws.{pick_is_choice}
use Rattle.trace_audit.proofs.laws.pick_is_the_machines_choice.Goals as goal

pub returns : goal.returns
returns c = pick_is_choice

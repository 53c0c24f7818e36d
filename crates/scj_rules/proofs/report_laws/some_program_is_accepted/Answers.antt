use Rattle.scj_rules.proofs.RowOfUse.{controller, controller_is_forest, controller_accepted}
use Rattle.scj_rules.proofs.report_laws.some_program_is_accepted.Goals as goal

pub returns : goal.returns
returns c = (controller, controller_is_forest, controller_accepted)

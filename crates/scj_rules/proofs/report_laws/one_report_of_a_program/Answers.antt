use Rattle.scj_rules.proofs.ReportsLemmas.{one_of_reports}
use Rattle.scj_rules.proofs.report_laws.one_report_of_a_program.Goals as goal

pub returns : goal.returns
returns c = λ forest early xs ys h k. one_of_reports forest early xs ys h k

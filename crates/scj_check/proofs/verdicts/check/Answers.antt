use Rattle.std.proofs.Common.{arith}
use Rattle.scj_rules.specs.Verdicts.{in_texts}
use Rattle.scj_check.proofs.VerdictLaws.{verdict_of_program}
use Rattle.scj_check.proofs.verdicts.check.Goals as goal

pub check_program-requires : goal.check_program-requires
check_program-requires c = record { texts = _; reads = rw c.in-Read.is at c.in_ok-program.ensures }

pub returns-in_ok-check_program-in-Read : goal.returns-in_ok-check_program-in-Read
returns-in_ok-check_program-in-Read c =
    verdict_of_program _ _ _ (rw c.in-Read.is at c.in_ok-program.ensures) c.in_ok-check_program-in-Read.ensures

pub returns-in_ok-report_of_one-in-Broken : goal.returns-in_ok-report_of_one-in-Broken
returns-in_ok-report_of_one-in-Broken c =
    rw c.in_ok-report_of_one-in-Broken.ensures (omega arith, in_texts (rw c.in-Broken.is at c.in_ok-program.ensures))

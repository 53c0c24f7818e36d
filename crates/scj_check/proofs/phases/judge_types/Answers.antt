use Rattle.std.proofs.Common.{arith}
use Rattle.scj_rules.proofs.VerdictLemmas.{nothing_found}
use Rattle.scj_check.proofs.phases.judge_types.Goals as goal

pub late_report-requires-clause-right_types : goal.late_report-requires-clause-right_types
late_report-requires-clause-right_types c =
    rw (c.with_meanings-facts.ensures, c.again.ensures)
    (nothing_found _ _ (omega arith) c.in_ok-types.ensures.report)

pub late_report-requires-clause-right_classes : goal.late_report-requires-clause-right_classes
late_report-requires-clause-right_classes c = rw (c.with_meanings-facts.ensures, c.again.ensures) c.requires.right

use Rattle.std.proofs.Common.{arith}
use Rattle.scj_rules.proofs.VerdictLemmas.{nothing_found}
use Rattle.scj_check.proofs.VerdictLaws.{report_behind_scopes}
use Rattle.scj_check.proofs.phases.late_report.Goals as goal

pub returns : goal.returns
returns c =
    report_behind_scopes _ _ c.requires.right_classes c.requires.right_types
    (nothing_found _ _ (omega arith) c.in_ok-tree.ensures.found)
    (rw (c.with_tree.ensures, c.again.ensures) at c.in_ok-report_of_uses.ensures)

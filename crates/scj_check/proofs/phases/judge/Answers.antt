use Rattle.std.proofs.Common.{arith}
use Rattle.scj_rules.proofs.VerdictLemmas.{nothing_found}
use Rattle.scj_check.proofs.phases.judge.Goals as goal

pub judge_types-requires-clause-right : goal.judge_types-requires-clause-right
judge_types-requires-clause-right c =
    rw (c.new.ensures, c.in_ok-table.ensures.table) (nothing_found _ _ (omega arith) c.in_ok-table.ensures.report)

use Rattle.std.proofs.Common.{◌≡◌}
use Rattle.class_rows.proofs.tables.ClassTable.report_ancestries.Given as goal

abbrev pub invariant-loop-class : goal.invariant-loop-class
invariant-loop-class l = l.self ≡ l.fn.self

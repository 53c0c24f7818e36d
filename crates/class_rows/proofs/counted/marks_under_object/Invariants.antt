use Rattle.std.proofs.Common.{◌≡◌}
use Rattle.scj_tree.specs.Recursion.{listed}
use Rattle.scj_rules.specs.Contexts.{declarations_of}
use Rattle.class_rows.specs.Tables.{is_under_object}
use Rattle.class_rows.proofs.counted.marks_under_object.Given as goal

abbrev pub invariant-loop-number : goal.invariant-loop-number
invariant-loop-number l = l.marks.items ≡ listed (is_under_object (declarations_of l.written)) l.number

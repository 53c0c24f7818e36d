use Rattle.std.proofs.Common.{◌≡◌, length}
use Rattle.scj_rules.specs.Words.{is_among}
use Rattle.scj_rules.specs.Classes.{superclasses}
use Rattle.class_rows.specs.Members.{rows_of}
use Rattle.class_rows.proofs.tables.ClassTable.is_on_chain.Given as goal

-- what is left tells it
abbrev pub invariant-loop-at : goal.invariant-loop-at
invariant-loop-at l = is_among l.above l.chain ≡ is_among l.above (superclasses (rows_of l.fn.self) l.fn.class)

abbrev pub decreases-loop-at : goal.decreases-loop-at
decreases-loop-at l = length l.chain

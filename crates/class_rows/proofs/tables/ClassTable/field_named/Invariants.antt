use Rattle.std.proofs.Common.{◌≡◌, length}
use Rattle.scj_rules.specs.Words.{along}
use Rattle.scj_rules.specs.Classes.{own_field, field_named}
use Rattle.class_rows.specs.Members.{rows_of}
use Rattle.class_rows.proofs.tables.ClassTable.field_named.Given as goal

-- what is left tells it
abbrev pub invariant-loop-at : goal.invariant-loop-at
invariant-loop-at l = along (own_field (rows_of l.self) l.name) l.chain ≡ field_named (rows_of l.self) l.fn.class l.name

abbrev pub decreases-loop-at : goal.decreases-loop-at
decreases-loop-at l = length l.chain

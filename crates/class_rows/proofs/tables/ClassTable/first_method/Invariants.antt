use Rattle.std.proofs.Common.{◌≡◌, length}
use Rattle.scj_rules.specs.Words.{along}
use Rattle.scj_rules.specs.Classes.{own_method}
use Rattle.scj_rules.specs.Contexts.{declarations_of}
use Rattle.class_rows.specs.Walks.{asked}
use Rattle.class_rows.proofs.tables.ClassTable.first_method.Given as goal

-- what is left tells it
abbrev pub invariant-loop-at : goal.invariant-loop-at
invariant-loop-at l = along (own_method (declarations_of l.self).classes l.name) (asked l.of_framework l.chain)
    ≡ along (own_method (declarations_of l.self).classes l.name) (asked l.of_framework l.initial.chain)

abbrev pub decreases-loop-at : goal.decreases-loop-at
decreases-loop-at l = length l.chain

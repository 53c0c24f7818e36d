use Rattle.std.proofs.Common.{◌≡◌, length}
use Rattle.scj_rules.specs.Words.{is_among}
use Rattle.scj_rules.specs.Classes.{superclasses}
use Rattle.scj_rules.specs.Contexts.{declarations_of}
use Rattle.class_rows.proofs.tables.ClassTable.is_reported_under.Given as goal

-- the class that is reached tells it
abbrev pub invariant-loop-reported : goal.invariant-loop-reported
invariant-loop-reported l = is_among l.above (superclasses (declarations_of l.self).classes l.at)
    ≡ is_among l.above (superclasses (declarations_of l.self).classes l.fn.class)

abbrev pub decreases-loop-reported : goal.decreases-loop-reported
decreases-loop-reported l = length (superclasses (declarations_of l.self).classes l.at)

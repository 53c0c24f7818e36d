use Rattle.std.proofs.Common.{◌≡◌, ◌++◌}
use Rattle.scj_rules.specs.ClassRules.{c8}
use Rattle.scj_rules.specs.Contexts.{declarations_of}
use Rattle.class_rules.specs.Safelets.{left_from}
use Rattle.class_rules.proofs.safelets.note_c8.Given as goal

-- the other safelets are still to be noted
abbrev pub invariant-loop-number : goal.invariant-loop-number
invariant-loop-number l =
    l.found.items ++ left_from (declarations_of l.classes) l.number l.is_seen
    ≡ l.initial.found.items ++ c8 (declarations_of l.classes)

use Rattle.std.proofs.Common.{◌≡◌, ◌++◌, length}
use Rattle.scj_rules.specs.Contexts.{declarations_of}
use Rattle.plain_machine.specs.AreaTexts.{lines_from}
use Rattle.plain_machine.proofs.area_texts.scope_lines.Given as goal

-- the lines of those that are left are still to come
abbrev pub invariant-loop-others : goal.invariant-loop-others
invariant-loop-others l =
    l.text.items ++ lines_from (declarations_of l.classes) l.scope l.others
    ≡ lines_from (declarations_of l.classes) 0 l.rows

abbrev pub decreases-loop-others : goal.decreases-loop-others
decreases-loop-others l = length l.others

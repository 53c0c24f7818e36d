use Rattle.std.proofs.Common.{◌≡◌, drop}
use Rattle.std.specs.List.{list_any}
use Rattle.scj_builtins.specs.Framework.{framework_methods}
use Rattle.scj_rules.specs.Contexts.{declarations_of}
use Rattle.class_rules.specs.Members.{is_row_left}
use Rattle.class_rules.proofs.openings.leaves_open.Given as goal

-- the rows before the number aren't left open
abbrev pub invariant-loop-number : goal.invariant-loop-number
invariant-loop-number l =
    list_any (is_row_left (declarations_of l.table.forest) l.table.class) (drop l.number framework_methods)
    ≡ list_any (is_row_left (declarations_of l.table.forest) l.table.class) framework_methods

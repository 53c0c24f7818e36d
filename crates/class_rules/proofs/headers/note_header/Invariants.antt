use Rattle.std.proofs.Common.{◌≡◌, ◌++◌, length}
use Rattle.scj_rules.specs.Contexts.{declarations_of}
use Rattle.class_rules.specs.Members.{unknown_interfaces}
use Rattle.class_rules.proofs.headers.note_header.Given as goal

-- the other names are still to be noted
abbrev pub invariant-loop-others : goal.invariant-loop-others
invariant-loop-others l = l.found.items ++ unknown_interfaces (declarations_of l.classes) l.classes.nodes l.others
    ≡ l.initial.found.items ++ unknown_interfaces (declarations_of l.classes) l.classes.nodes l.c.interfaces.now

abbrev pub decreases-loop-others : goal.decreases-loop-others
decreases-loop-others l = length l.others

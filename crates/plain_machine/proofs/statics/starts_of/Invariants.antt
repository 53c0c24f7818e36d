use Rattle.std.proofs.Common.{◌≡◌, ◌++◌, length, map}
use Rattle.plain_machine.specs.Statics.{start_of}
use Rattle.plain_machine.proofs.statics.starts_of.Given as goal

-- those that are left are still to come
abbrev pub invariant-loop-others : goal.invariant-loop-others
invariant-loop-others l =
    l.values.items ++ map (start_of l.checked.program.nodes) l.others
    ≡ map (start_of l.checked.program.nodes) l.initial.others

abbrev pub decreases-loop-others : goal.decreases-loop-others
decreases-loop-others l = length l.others

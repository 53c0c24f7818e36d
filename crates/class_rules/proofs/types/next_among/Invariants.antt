use Rattle.std.proofs.Common.{◌≡◌, length}
use Rattle.class_rules.specs.Types.{types_among}
use Rattle.class_rules.proofs.types.next_among.Given as goal

-- no parameter so far
abbrev pub invariant-loop-others : goal.invariant-loop-others
invariant-loop-others l = types_among l.program.nodes l.others ≡ types_among l.program.nodes l.list

abbrev pub decreases-loop-others : goal.decreases-loop-others
decreases-loop-others l = length l.others

use Rattle.std.proofs.Common.{◌≡◌, length}
use Rattle.scj_rules.specs.Classes.{with_kinds}
use Rattle.class_headers.proofs.kinds.add_kinds.Given as goal

-- what is left tells it
abbrev pub invariant-loop-others : goal.invariant-loop-others
invariant-loop-others l = with_kinds l.there.items l.others ≡ with_kinds l.initial.there.items l.initial.others

abbrev pub decreases-loop-others : goal.decreases-loop-others
decreases-loop-others l = length l.others

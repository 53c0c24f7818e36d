use Rattle.std.proofs.Common.{◌≡◌, length}
use Rattle.runs_in_check.specs.Guards.{noted}
use Rattle.runs_in_check.proofs.parents.put_all.Given as goal

-- the rest is still to be noted
abbrev pub invariant-loop-rest : goal.invariant-loop-rest
invariant-loop-rest l = noted l.parent l.rows.items l.rest ≡ noted l.parent l.initial.rows.items l.initial.rest

abbrev pub decreases-loop-rest : goal.decreases-loop-rest
decreases-loop-rest l = length l.rest

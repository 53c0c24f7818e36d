use Rattle.std.proofs.Common.{◌≡◌, ◌++◌, length}
use Rattle.scj_show.specs.Parts.{each}
use Rattle.scj_show.proofs.parts.put_each.Given as goal

-- what is put and what is left to be put are what is to be put
abbrev pub invariant-loop-rest : goal.invariant-loop-rest
invariant-loop-rest l = l.parts ++ each l.rest ≡ l.initial.parts ++ each l.initial.rest

abbrev pub decreases-loop-rest : goal.decreases-loop-rest
decreases-loop-rest l = length l.rest

use Rattle.std.proofs.Common.{◌≡◌, ◌++◌, length}
use Rattle.scj_show.specs.Parts.{each_behind_comma}
use Rattle.scj_show.proofs.parts.put_each_behind_comma.Given as goal

-- what is put and what is left to be put are what is to be put
abbrev pub invariant-loop-rest : goal.invariant-loop-rest
invariant-loop-rest l = l.parts ++ each_behind_comma l.rest ≡ l.initial.parts
    ++ each_behind_comma l.initial.rest

abbrev pub decreases-loop-rest : goal.decreases-loop-rest
decreases-loop-rest l = length l.rest

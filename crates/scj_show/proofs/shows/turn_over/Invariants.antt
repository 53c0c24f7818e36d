use Rattle.std.proofs.Common.{◌≡◌, ◌++◌, reverse, length}
use Rattle.scj_show.proofs.shows.turn_over.Given as goal

-- what is moved and what is left to be moved are what is to be moved
abbrev pub invariant-loop-part : goal.invariant-loop-part
invariant-loop-part l = l.waiting ++ reverse l.parts ≡ l.initial.waiting
    ++ reverse l.initial.parts

abbrev pub decreases-loop-part : goal.decreases-loop-part
decreases-loop-part l = length l.parts

use Rattle.std.proofs.Common.{◌≡◌, length, None}
use Rattle.scj_model.specs.Code.{code_of}
use Rattle.memory_needs.specs.ClassShown.{first_shown}
use Rattle.memory_needs.proofs.class_answers.first_shown.Given as goal

-- what is left goes on from what is found
abbrev pub invariant-loop-rest : goal.invariant-loop-rest
invariant-loop-rest l =
    first_shown (code_of l.code) l.marks l.loops l.shown l.best l.rest
    ≡ first_shown (code_of l.code) l.marks l.loops l.shown None l.fn.points

abbrev pub decreases-loop-rest : goal.decreases-loop-rest
decreases-loop-rest l = length l.rest

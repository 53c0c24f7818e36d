use Rattle.std.proofs.Common.{◌≡◌, length}
use Rattle.std.specs.Prelude.{find}
use Rattle.scj_model.specs.Code.{code_of}
use Rattle.memory_needs.specs.Causes.{class_with_form}
use Rattle.memory_needs.specs.Formed.{begins_with_form}
use Rattle.memory_needs.proofs.storage.class_with_form.Given as goal

-- what is left tells it
abbrev pub invariant-loop-at : goal.invariant-loop-at
invariant-loop-at l =
    find (begins_with_form (code_of l.code).program) l.chain ≡ class_with_form (code_of l.code).program l.fn.class

abbrev pub decreases-loop-at : goal.decreases-loop-at
decreases-loop-at l = length l.chain

use Rattle.std.proofs.Common.{◌≡◌, ◌++◌}
use Rattle.scj_tree.specs.Recursion.{joined_below}
use Rattle.scj_model.specs.Code.{code_of}
use Rattle.memory_needs.specs.Sites.{class_nodes}
use Rattle.memory_needs.proofs.sites.note_under.Given as goal

abbrev pub invariant-loop-number : goal.invariant-loop-number
invariant-loop-number l =
    l.found.items ≡ l.initial.found.items
    ++ joined_below (class_nodes (code_of l.code).program l.on l.asked) l.number

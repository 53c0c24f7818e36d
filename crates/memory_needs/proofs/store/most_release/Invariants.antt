use Rattle.std.proofs.Common.{◌≡◌}
use Rattle.scj_tree.specs.Heights.{highest}
use Rattle.scj_tree.specs.Recursion.{joined_below}
use Rattle.scj_model.specs.Code.{code_of}
use Rattle.memory_needs.specs.RowLists.{if_picked}
use Rattle.memory_needs.specs.Rows.{is_concrete_handler, release_bytes}
use Rattle.memory_needs.specs.Stores.{class_room}
use Rattle.memory_needs.proofs.store.most_release.Given as goal

abbrev pub invariant-loop-number : goal.invariant-loop-number
invariant-loop-number l =
    l.most
    ≡ highest (release_bytes (code_of l.code).program (class_room (code_of l.code) l.rooms))
    (joined_below (if_picked (is_concrete_handler (code_of l.code).program)) l.number)

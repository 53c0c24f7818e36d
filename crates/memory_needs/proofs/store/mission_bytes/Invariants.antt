use Rattle.std.proofs.Common.{◌≡◌}
use Rattle.scj_tree.specs.Heights.{highest}
use Rattle.scj_tree.specs.Recursion.{joined_below}
use Rattle.scj_rules.specs.Bodies.{size_of}
use Rattle.scj_model.specs.Code.{code_of}
use Rattle.memory_needs.specs.RowLists.{if_picked}
use Rattle.memory_needs.specs.Rows.{is_concrete_mission, rounded_or_0}
use Rattle.memory_needs.proofs.store.mission_bytes.Given as goal

abbrev pub invariant-loop-number : goal.invariant-loop-number
invariant-loop-number l =
    l.most
    ≡ highest (λ class. rounded_or_0 (size_of (code_of l.code).program class))
    (joined_below (if_picked (is_concrete_mission (code_of l.code).program)) l.number)

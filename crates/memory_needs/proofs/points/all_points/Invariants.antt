use Rattle.std.proofs.Common.{◌≡◌}
use Rattle.scj_tree.specs.Recursion.{joined_below}
use Rattle.scj_model.specs.Code.{code_of}
use Rattle.memory_needs.specs.ClassShown.{is_point}
use Rattle.memory_needs.specs.RowLists.{if_picked}
use Rattle.memory_needs.proofs.points.all_points.Given as goal

abbrev pub invariant-loop-number : goal.invariant-loop-number
invariant-loop-number l =
    l.points.items ≡ joined_below (if_picked (is_point (code_of l.code) l.loops l.shown)) l.number

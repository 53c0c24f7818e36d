use Rattle.std.proofs.Common.{◌≡◌, length}
use Rattle.std.specs.List.{list_any}
use Rattle.runs_in_check.specs.Guards.{guards_both, ifs_on, row_in}
use Rattle.runs_in_check.proofs.guards.is_guarded.Given as goal

-- the rest of the way is still to be asked
abbrev pub invariant-loop-left : goal.invariant-loop-left
invariant-loop-left l =
    list_any (guards_both (row_in l.guards) l.x l.y) (ifs_on l.at.facts.now.nodes l.left l.part)
    ≡ list_any (guards_both (row_in l.guards) l.x l.y)
    (ifs_on l.at.facts.now.nodes (length l.at.facts.now.nodes) l.at.id)

abbrev pub decreases-loop-left : goal.decreases-loop-left
decreases-loop-left l = l.left

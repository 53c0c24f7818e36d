use Rattle.std.proofs.Common.{◌≡◌, ◌==◌, ℕ}
use Rattle.std.specs.HashMap.{get}
use Rattle.scj_rules.specs.Contexts.{declarations_of}
use Rattle.runs_in_check.specs.Guards.{left_from}
use Rattle.runs_in_check.proofs.guards.undo_all.Given as goal

-- what the nodes from the place on undo is still to be undone
abbrev pub invariant-loop-index : goal.invariant-loop-index
invariant-loop-index l = (number : ℕ)
    → left_from (declarations_of l.facts) l.index number (get ◌==◌ l.rows number)
    ≡ left_from (declarations_of l.facts) 0 number (get ◌==◌ l.initial.rows number)

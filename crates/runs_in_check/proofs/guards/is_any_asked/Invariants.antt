use Rattle.std.proofs.Common.{◌≡◌, ◌<◌, ℕ, None}
use Rattle.scj_tree.specs.Recursion.{lookup}
use Rattle.scj_rules.specs.Contexts.{declarations_of}
use Rattle.scj_rules.specs.Guards.{asked_at}
use Rattle.runs_in_check.proofs.guards.is_any_asked.Given as goal

-- no node so far asks
abbrev pub invariant-loop-index : goal.invariant-loop-index
invariant-loop-index l =
    (number : ℕ) → number < l.index → asked_at (declarations_of l.facts) (lookup None l.types) number ≡ None

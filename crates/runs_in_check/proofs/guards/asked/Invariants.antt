use Rattle.std.proofs.Common.{◌≡◌, ◌==◌, ℕ, nat_lt, None, if◌then◌else◌}
use Rattle.std.specs.HashMap.{get}
use Rattle.scj_tree.specs.Recursion.{lookup}
use Rattle.scj_rules.specs.Contexts.{declarations_of}
use Rattle.scj_rules.specs.Guards.{asked_at}
use Rattle.runs_in_check.proofs.guards.asked.Given as goal

-- what the nodes so far ask
abbrev pub invariant-loop-index : goal.invariant-loop-index
invariant-loop-index l = (number : ℕ) → get ◌==◌ l.rows number
    ≡ (if nat_lt number l.index then asked_at (declarations_of l.facts) (lookup None l.types) number else None)

use Rattle.std.proofs.Common.{◌≡◌, None}
use Rattle.scj_tree.specs.Recursion.{lookup, bottom_up, joined_below}
use Rattle.scj_rules.specs.Contexts.{declarations_of}
use Rattle.scj_rules.specs.UseRules.{scope_of_next, scopes_in}
use Rattle.runs_in_check.specs.Phase.{breaks_at}
use Rattle.runs_in_check.proofs.checks.check_uses.Given as goal

-- the scopes of the nodes so far, and what is broken at them
abbrev pub invariant-loop-number : goal.invariant-loop-number
invariant-loop-number l = record {
  reported : l.scopes.items ≡ bottom_up None (scope_of_next (declarations_of l.facts) (lookup None l.types)) l.number;
  noted : l.found.items ≡ joined_below (breaks_at (declarations_of l.facts) (lookup None l.types)
      (lookup None (scopes_in (declarations_of l.facts) (lookup None l.types)))) l.number;
}

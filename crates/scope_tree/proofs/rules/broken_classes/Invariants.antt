use Rattle.std.proofs.Common.{◌≡◌}
use Rattle.scj_tree.specs.Recursion.{joined_below}
use Rattle.scj_rules.specs.Contexts.{declarations_of}
use Rattle.scj_rules.specs.ScopeRules.{scope_breaks}
use Rattle.scj_rules.specs.Phases.{at_class}
use Rattle.scope_tree.proofs.rules.broken_classes.Given as goal

abbrev pub invariant-loop-number : goal.invariant-loop-number
invariant-loop-number l =
    l.found.items ≡ joined_below
    (at_class (declarations_of l.facts) (λ class row c. scope_breaks (declarations_of l.facts) class c)) l.number

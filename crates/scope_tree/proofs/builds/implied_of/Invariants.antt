use Rattle.std.proofs.Common.{◌≡◌}
use Rattle.scj_tree.specs.Recursion.{listed}
use Rattle.scj_rules.specs.Contexts.{declarations_of}
use Rattle.scj_rules.specs.StaticScopes.{is_implied_immortal}
use Rattle.scope_tree.proofs.builds.implied_of.Given as goal

abbrev pub invariant-loop-number : goal.invariant-loop-number
invariant-loop-number l = l.implied.items ≡ listed (is_implied_immortal (declarations_of l.facts)) l.number

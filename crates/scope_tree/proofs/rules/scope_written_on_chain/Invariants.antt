use Rattle.std.proofs.Common.{◌≡◌, length}
use Rattle.scj_rules.specs.Words.{along}
use Rattle.scj_rules.specs.Contexts.{declarations_of}
use Rattle.scj_rules.specs.ScopeRules.{scope_written_in, scope_written_on_chain}
use Rattle.scope_tree.proofs.rules.scope_written_on_chain.Given as goal

-- what is left tells it
abbrev pub invariant-loop-at : goal.invariant-loop-at
invariant-loop-at l = along (scope_written_in (declarations_of l.facts)) l.chain ≡ scope_written_on_chain
    (declarations_of l.facts) l.fn.class

abbrev pub decreases-loop-at : goal.decreases-loop-at
decreases-loop-at l = length l.chain

use Rattle.std.proofs.Common.{◌≡◌, length}
use Rattle.scj_rules.specs.Words.{along}
use Rattle.scj_rules.specs.Contexts.{declarations_of}
use Rattle.scj_rules.specs.ScopeRules.{defined_by, defined_by_chain}
use Rattle.scope_tree.proofs.scopes.find_chained.Given as goal

-- what is left tells it
abbrev pub invariant-loop-at : goal.invariant-loop-at
invariant-loop-at l = let p = declarations_of l.facts in
    along (defined_by p) l.chain ≡ defined_by_chain p l.fn.class

abbrev pub decreases-loop-at : goal.decreases-loop-at
decreases-loop-at l = length l.chain

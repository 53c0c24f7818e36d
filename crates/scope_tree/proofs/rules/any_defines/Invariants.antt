use Rattle.std.proofs.Common.{◌≡◌, is_some, length}
use Rattle.std.specs.List.{list_any}
use Rattle.scj_rules.specs.Contexts.{declarations_of}
use Rattle.scj_rules.specs.ScopeRules.{definition_in}
use Rattle.scope_tree.proofs.rules.any_defines.Given as goal

-- what is left tells it
abbrev pub invariant-loop-class : goal.invariant-loop-class
invariant-loop-class l =
    list_any (λ class. is_some (definition_in (declarations_of l.facts) class)) l.rest
    ≡ list_any (λ class. is_some (definition_in (declarations_of l.facts) class)) l.fn.chain

abbrev pub decreases-loop-class : goal.decreases-loop-class
decreases-loop-class l = length l.rest

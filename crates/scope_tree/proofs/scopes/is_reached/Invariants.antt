use Rattle.std.proofs.Common.{◌≡◌, length}
use Rattle.scj_rules.specs.Words.{is_among}
use Rattle.scj_rules.specs.Contexts.{declarations_of}
use Rattle.scj_rules.specs.ScopeRules.{parent_scope}
use Rattle.class_rows.specs.Walks.{chain_from}
use Rattle.scope_tree.proofs.scopes.is_reached.Given as goal

abbrev pub invariant-loop-left : goal.invariant-loop-left
invariant-loop-left l = let p = declarations_of l.facts in
    is_among l.a (chain_from (parent_scope p) l.left l.here)
    ≡ is_among l.a (chain_from (parent_scope p) (length p.classes) l.fn.from)

abbrev pub decreases-loop-left : goal.decreases-loop-left
decreases-loop-left l = l.left

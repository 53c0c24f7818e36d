use Rattle.std.proofs.Common.{◌≡◌, ℕ, Some}
use Rattle.std.specs.BTreeMap.{get}
use Rattle.std.specs.Ordering.{nat_cmp}
use Rattle.scj_rules.specs.declared.typing.Scope.{Scope}
use Rattle.scj_rules.specs.Contexts.{declarations_of}
use Rattle.scj_rules.specs.UseRules.{variable_scope_at}
use Rattle.static_scopes.proofs.scoped.variables_of.Given as goal

abbrev pub invariant-loop-number : goal.invariant-loop-number
invariant-loop-number l = (id : ℕ) (scope : Scope) → get nat_cmp l.rows id ≡ Some scope →
    variable_scope_at (declarations_of l.facts) id ≡ Some scope

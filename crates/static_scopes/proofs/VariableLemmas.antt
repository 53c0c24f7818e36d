-- Variables whose type has no scope.
use Rattle.std.proofs.Common.{◌≡◌, arith, ℕ, true, Some, None, option_map}
use Rattle.scj_tree.specs.Forest.{Forest}
use Rattle.scj_rules.specs.Views.{variable_at}
use Rattle.scj_rules.specs.Contexts.{Declarations, declarations_of}
use Rattle.scj_rules.specs.AnnotationRules.{scoped_variable_at}
use Rattle.scj_rules.specs.StaticScopes.{has_no_scope, declaration_scope}
use Rattle.scj_rules.specs.UseRules.{variable_scope_at}
use Rattle.scj_rules.specs.declared.views.Declared.{Declared}
use Rattle.scj_rules.specs.declared.views.WrittenType.{WrittenType}

-- what is made of a variable whose type has no scope, wherever it stands
none_made : (p : Declarations) (id : ℕ) (type : WrittenType)
    → Some type ≡ option_map (λ (d : Declared). d.declared_type) (variable_at p.nodes id)
    → true ≡ has_no_scope type → variable_scope_at p id ≡ None
unfolding scoped_variable_at declaration_scope
none_made p id type h k = grind (arith, h, k)

pub plain_type : (forest : Forest) (id : ℕ) (type : WrittenType)
    → Some type ≡ option_map (λ (d : Declared). d.declared_type) (variable_at forest.nodes id)
    → true ≡ has_no_scope type → variable_scope_at (declarations_of forest) id ≡ None
unfolding declarations_of
plain_type forest id type h k = none_made (declarations_of forest) id type h k

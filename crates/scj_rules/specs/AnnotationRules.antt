-- A1 to A9: what breaks the rules on annotations, and where (JSR 302: @Scope, @RunsIn; the rules are this project's
-- profile).
use Rattle.std.specs.Prelude.{ℕ, Bool, true, false, not, ◌&&◌, ◌||◌, List, [], ◌∷◌, ◌++◌, Option, Some, None, if◌then◌else◌, option_map}
use Rattle.scj_base.specs.declared.findings.Found.{Found}
use Rattle.scj_base.specs.declared.findings.Rule.{Rule}
use Rattle.scj_base.specs.declared.findings.Rule.TheVariants.{A1, A2, A3, A4, A5, A6, A7, A8, A9}
use Rattle.scj_base.specs.declared.positions.Position.{Position}
use Rattle.scj_tree.specs.declared.nodes.Node.{Node}
use Rattle.scj_tree.specs.declared.nodes.Node.TheVariants.{Class, Field, Method, Parameter, Local, LocalWithValue}
use Rattle.scj_rules.specs.declared.scopes.Written.{Written}
use Rattle.scj_rules.specs.declared.typing.Scope.{Scope}
use Rattle.scj_rules.specs.declared.typing.Scope.TheVariants.{This}
use Rattle.scj_rules.specs.Words.{broken, found_at, holds, ◌>>=◌}
use Rattle.scj_rules.specs.Views.{DeclaredMethod, variable_at, field_at, method_at}
use Rattle.scj_rules.specs.Classes.{FoundMethod, class_number, superclass_in, is_user_class, method_above}
use Rattle.scj_rules.specs.Contexts.{Declarations, context, in_class, in_member, is_static_member}
use Rattle.scj_rules.specs.ScopeRules.{scope_written_in}
use Rattle.scj_rules.specs.StaticScopes.{are_same_scope, has_unknown_scope, differs_from_above, is_implied_immortal, class_scope, this_in, runs_in, current_in, has_unknown_runs_in, has_other_runs_in, is_unknown_scope, contradicts, scoped_variable, scoped_result, parameter_scope, scoped_field, declaration_scope, misfits_field}
use Rattle.scj_rules.specs.declared.scopes.ClassScope.{ClassScope}
use Rattle.scj_rules.specs.declared.scopes.ClassScope.TheVariants.{Unannotated as unannotated}
use Rattle.scj_rules.specs.declared.scopes.ScopedDeclaration.{ScopedDeclaration}
use Rattle.scj_rules.specs.declared.views.Declared.{Declared}

-- what a node declares: a parameter or local of the member around it; a field; or a method's result
unfoldable pub scoped_variable_at : Declarations → ℕ → Option ScopedDeclaration
scoped_variable_at p id =
    in_member p id (λ class member.
    option_map (λ (d : Declared). scoped_variable class (current_in p class member) (is_static_member p.nodes member) d)
    (variable_at p.nodes id))

unfoldable pub scoped_declaration_at : Declarations → ℕ → Node → Option ScopedDeclaration
scoped_declaration_at p id (Field position name flags declared_type equals value) =
    in_class p id (λ class. option_map (λ (f : Declared). scoped_field p class f) (field_at p.nodes id))
scoped_declaration_at p id (Method position name flags result_type parameters body) =
    in_class p id (λ class. option_map (λ (m : DeclaredMethod). scoped_result p class m) (method_at p.nodes id))
scoped_declaration_at p id (Parameter position name flags declared_type) = scoped_variable_at p id
scoped_declaration_at p id (Local position name flags declared_type) = scoped_variable_at p id
scoped_declaration_at p id (LocalWithValue position name_position name flags declared_type value) = scoped_variable_at p id
scoped_declaration_at p id _ = None

-- the rule is broken at the value of an annotation, where there is one of which the test holds
abbrev pub broken_value : Option Written → (Written → Bool) → Rule → List Found
broken_value written test rule = found_at written (λ w. broken (test w) rule w.position)

-- A1, unknown scope
abbrev pub a1_of_class : Declarations → ℕ → List Found
a1_of_class p class = broken_value (scope_written_in p class) (λ w. has_unknown_scope p (Some w)) A1

unfoldable pub a1 : Declarations → ℕ → Node → List Found
a1 p id (Class position name flags header members) = found_at (class_number p.names name) (a1_of_class p)
a1 p id node = found_at (scoped_declaration_at p id node) (λ t. broken_value t.scope (is_unknown_scope p t) A1)

-- the scope of a class's superclass
abbrev pub scope_above : Declarations → ℕ → ClassScope
scope_above p class = elim (superclass_in p.classes class) [ None ↦ unannotated | Some above ↦ class_scope p above ]

-- A2, class scope: it differs from the superclass's, or from IMMORTAL where that is implied. The place is the value, or
-- the class's name where there is no annotation
abbrev pub has_other_scope : Declarations → ℕ → Bool
has_other_scope p class =
    differs_from_above p (scope_written_in p class) (scope_above p class) (is_implied_immortal p class)

unfoldable pub a2_position : Position → Option Written → Position
a2_position position None = position
a2_position position (Some w) = w.position

unfoldable pub a2 : Declarations → ℕ → Node → List Found
a2 p id (Class position name flags header members) =
    found_at (class_number p.names name)
    (λ class. broken (has_other_scope p class) A2 (a2_position position (scope_written_in p class)))
a2 p id _ = []

-- A3, field scope: in an annotated class neither the class's scope nor an outer one. A4, field of unannotated class:
-- neither THIS nor IMMORTAL. A5, static field scope: not IMMORTAL
unfoldable pub field_rule : ClassScope → Bool → Rule
field_rule class true = A5
field_rule unannotated false = A4
field_rule _ false = A3

abbrev pub a3_to_a5_of : Declarations → ℕ → Declared → List Found
a3_to_a5_of p class f =
    broken (misfits_field p class f) (field_rule (class_scope p class) f.modifiers.is_static) f.position

unfoldable pub a3_to_a5 : Declarations → ℕ → Node → List Found
a3_to_a5 p id (Field position name flags declared_type equals value) =
    found_at (context p id).class (λ class. found_at (field_at p.nodes id) (a3_to_a5_of p class))
a3_to_a5 p id _ = []

-- a scope of the method above, as the class sees it: THIS is the class's scope where it is annotated
unfoldable pub seen_in : Declarations → ℕ → Option Scope → Option Scope
seen_in p class scope = scope >>= (λ s. if are_same_scope s This then this_in p class else Some s)

-- two scopes differ; one that is missing differs from none
abbrev pub differ : Option Scope → Option Scope → Bool
differ s t = holds s (λ a. holds t (λ b. not (are_same_scope a b)))

unfoldable pub parameters_differ :
    Declarations → ℕ → DeclaredMethod → ℕ → DeclaredMethod → List Declared → List Declared → Bool
parameters_differ p class m on above (d ∷ ds) (e ∷ es) =
    differ (parameter_scope p class m d) (seen_in p class (parameter_scope p on above e))
    || parameters_differ p class m on above ds es
parameters_differ p class m on above _ _ = false

abbrev pub result_scope : Declarations → ℕ → DeclaredMethod → Option Scope
result_scope p class m = declaration_scope p (scoped_result p class m)

-- the override runs in another scope, or has other scopes of its parameters or of its result
abbrev pub runs_in_differs : Declarations → ℕ → DeclaredMethod → ℕ → DeclaredMethod → Bool
runs_in_differs p class m on above = differ (runs_in p class m) (seen_in p class (runs_in p on above))

abbrev pub result_differs : Declarations → ℕ → DeclaredMethod → ℕ → DeclaredMethod → Bool
result_differs p class m on above = differ (result_scope p class m) (seen_in p class (result_scope p on above))

unfoldable pub scopes_differ : Declarations → ℕ → DeclaredMethod → ℕ → DeclaredMethod → Bool
scopes_differ p class m on above =
    runs_in_differs p class m on above
    || (parameters_differ p class m on above m.parameters above.parameters || result_differs p class m on above)

-- A6, override scopes: between the methods of two user classes, static methods apart
abbrev pub misfits_above : Declarations → ℕ → DeclaredMethod → FoundMethod → Bool
misfits_above p class m f = is_user_class f.on && scopes_differ p class m f.on f.method

abbrev pub overrides_scopes : Declarations → ℕ → DeclaredMethod → Bool
overrides_scopes p class m =
    not m.declared.modifiers.is_static
    && holds (method_above p.classes class m.declared.name) (misfits_above p class m)

unfoldable pub a6_of : Declarations → ℕ → DeclaredMethod → List Found
a6_of p class m = broken (overrides_scopes p class m) A6 m.declared.position

-- A7, unknown runs-in; A8, framework runs-in
unfoldable pub a7_and_a8_of : Declarations → ℕ → DeclaredMethod → List Found
a7_and_a8_of p class m =
    broken_value m.declared.modifiers.runs_in (has_unknown_runs_in p m) A7
    ++ broken_value m.declared.modifiers.runs_in (has_other_runs_in p class m) A8

unfoldable pub a6_to_a8 : Declarations → ℕ → Node → List Found
a6_to_a8 p id (Method position name flags result_type parameters body) =
    found_at (context p id).class
    (λ class. found_at (method_at p.nodes id) (λ m. a6_of p class m ++ a7_and_a8_of p class m))
a6_to_a8 p id _ = []

-- A9, contradicting scope: at a declaration whose type's values are no references, or lie in another scope
unfoldable pub a9 : Declarations → ℕ → Node → List Found
a9 p id node = found_at (scoped_declaration_at p id node) (λ t. broken_value t.scope (contradicts p t) A9)

-- what is broken at a node
unfoldable pub annotation_breaks : Declarations → ℕ → Node → List Found
annotation_breaks p id node =
    a1 p id node ++ (a2 p id node ++ (a3_to_a5 p id node ++ (a6_to_a8 p id node ++ a9 p id node)))

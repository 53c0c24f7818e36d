-- What a call asks of its arguments, and what the rules on annotations and uses find at a node.
use Rattle.std.specs.Prelude.{ℕ, Bool, true, false, not, List, [], ◌∷◌, ◌++◌, slice_get, Option}
use Rattle.scj_base.specs.declared.findings.Found.{Found}
use Rattle.scj_base.specs.declared.findings.Rule.TheVariants.{E3, E7, E8}
use Rattle.scj_base.specs.declared.positions.Position.{Position}
use Rattle.scj_tree.specs.Forest.{Forest}
use Rattle.scj_tree.specs.declared.kinds.NodeKind.{NodeKind}
use Rattle.scj_tree.specs.declared.kinds.NodeKind.TheVariants.{Class, Field, Method as a_method, Parameter, Local, SuperCall, LocalWithValue, Assign, Return, Cast, Parenthesized, SimpleName, FieldAccess, Call, Element, New, NewArray, Null, This}
use Rattle.scj_rules.specs.declared.typing.Scope.{Scope}
use Rattle.scj_rules.specs.declared.typing.Ty.{Ty}
use Rattle.scj_rules.specs.declared.views.Declared.{Declared}
use Rattle.scj_rules.specs.Words.{broken, found_at, holds, ◌>>=◌}
use Rattle.scj_rules.specs.Views.{position_at}
use Rattle.scj_rules.specs.Contexts.{Declarations, declarations_of}
use Rattle.scj_rules.specs.StaticScopes.{parameter_scope, constructor_parameter_scope, substitute}
use Rattle.scj_rules.specs.Types.{is_reference, constructor_parameters}
use Rattle.scj_rules.specs.TypeRules.{Types}
use Rattle.scj_rules.specs.AnnotationRules.{annotation_breaks}
use Rattle.scj_rules.specs.UseRules.{Scopes, current_at, misfit_scope, misfit_arguments, e3_of_call, e3_of_constructor, enters_wrong, executes_wrong, use_breaks}
use Rattle.method_rows.specs.Methods.{found_method}
use Rattle.runs_in_check.specs.declared.calls.Callee.{Callee}
use Rattle.runs_in_check.specs.declared.calls.Callee.TheVariants.{Method, Constructor}
use Rattle.program_facts.specs.declared.reported.At.{At}
use Rattle.program_facts.specs.Reported.{declared, types, scopes}

-- ---- a node

-- the values of a type are no references
abbrev pub is_plain : Option Ty → Bool
is_plain o = holds o (λ t. not (is_reference t))

-- a node of this kind may have a scope or break a rule on annotations or uses, where this is its type
unfoldable pub is_asked : Option Ty → NodeKind → Bool
is_asked t SimpleName = not (is_plain t)
is_asked t Class = true
is_asked t Field = true
is_asked t a_method = true
is_asked t Parameter = true
is_asked t Local = true
is_asked t SuperCall = true
is_asked t LocalWithValue = true
is_asked t Assign = true
is_asked t Return = true
is_asked t Cast = true
is_asked t Parenthesized = true
is_asked t FieldAccess = true
is_asked t Call = true
is_asked t Element = true
is_asked t New = true
is_asked t NewArray = true
is_asked t Null = true
is_asked t This = true
is_asked t _ = false

-- what is broken at the node of a number
unfoldable pub breaks_at : Declarations → Types → Scopes → ℕ → List Found
breaks_at p types scopes id =
    found_at (slice_get p.nodes id) (λ node. annotation_breaks p id node ++ use_breaks p types scopes id node)

-- ---- a call

-- the parameters of what is called
unfoldable pub parameters_of : Forest → Callee → List Declared
parameters_of forest (Method m object) = (found_method forest.nodes m).method.parameters
parameters_of forest (Constructor class object) = constructor_parameters (declarations_of forest).classes class

-- the scope of a parameter as the caller sees it
unfoldable pub seen_scope : At → Callee → Declared → Option Scope
seen_scope at (Method m object) d =
    parameter_scope (declared at) (found_method at.facts.now.nodes m).on (found_method at.facts.now.nodes m).method d
    >>= substitute object (current_at (declared at) at.id)
seen_scope at (Constructor class object) d =
    constructor_parameter_scope (declared at) class d >>= substitute object object

-- E3 of an argument, where there is a parameter for it
unfoldable pub argument_breaks : At → Callee → Option Declared → ℕ → List Found
argument_breaks at callee parameter argument =
    found_at parameter (λ (d : Declared). broken (misfit_scope (scopes at argument) (seen_scope at callee d)) E3
    (position_at at.facts.now.nodes argument))

-- E3 of arguments, from a parameter on
abbrev pub misfits_from : At → Callee → List Declared → List ℕ → List Found
misfits_from at callee parameters arguments =
    misfit_arguments (declared at) (scopes at) (seen_scope at callee) parameters arguments

-- E3 of all arguments of a call
unfoldable pub e3_of : At → Callee → List ℕ → List Found
e3_of at (Method m object) arguments =
    e3_of_call (declared at) (scopes at) object (current_at (declared at) at.id) arguments
    (found_method at.facts.now.nodes m)
e3_of at (Constructor class object) arguments = e3_of_constructor (declared at) (scopes at) object arguments class

-- E7 and E8 of a call of the framework's method of a number
unfoldable pub entry_breaks : At → Position → ℕ → List ℕ → List Found
entry_breaks at position number (o ∷ r ∷ []) = broken (enters_wrong (declared at) (types at) at.id number r) E7 position
    ++ (broken (executes_wrong (declared at) (types at) (scopes at) number o r) E8 position ++ [])
entry_breaks at position number _ = []

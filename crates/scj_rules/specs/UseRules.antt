-- The static scope of each expression, and E1 to E10: what breaks the rules on uses, and where (this project's profile
-- of JSR 302). An expression whose scope depends on a missing one has none, and no rule is broken for it.
use Rattle.std.specs.Prelude.{ℕ, Bool, true, false, not, ◌&&◌, ◌||◌, ◌==◌, List, [], ◌∷◌, ◌++◌, length, slice_get, Option, Some, None, if◌then◌else◌, is_some, option_map, codes}
use Rattle.scj_base.specs.declared.findings.Found.{Found}
use Rattle.scj_base.specs.declared.findings.Rule.{Rule}
use Rattle.scj_base.specs.declared.findings.Rule.TheVariants.{E1, E2, E3, E4, E5, E6, E7, E8, E9, E10}
use Rattle.scj_builtins.specs.Framework.{managed_memory_enter_private_memory, managed_memory_execute_in_area_of}
use Rattle.scj_tree.specs.declared.nodes.Node.{Node}
use Rattle.scj_tree.specs.declared.nodes.Node.TheVariants.{SuperCall, LocalWithValue, Assign, Return, Cast, Parenthesized, SimpleName, FieldAccess, Call, Element, New, NewArray, Null, This as ThisNode}
use Rattle.scj_tree.specs.Recursion.{bottom_up}
use Rattle.scj_rules.specs.declared.typing.Ty.{Ty}
use Rattle.scj_rules.specs.declared.typing.Ty.TheVariants.{Class as ClassTy, ClassArray}
use Rattle.scj_rules.specs.declared.typing.Scope.{Scope}
use Rattle.scj_rules.specs.declared.typing.Scope.TheVariants.{Any, This, Caller, In}
use Rattle.scj_rules.specs.Definitions.{read}
use Rattle.scj_rules.specs.Words.{broken, found_at, holds, ◌>>=◌}
use Rattle.scj_rules.specs.Views.{position_at, DeclaredMethod, method_at}
use Rattle.scj_rules.specs.Classes.{FoundMethod, is_user_class, class_number, method_named}
use Rattle.scj_rules.specs.Contexts.{Declarations, context, in_class, in_member}
use Rattle.scj_rules.specs.Types.{meaning, receiver, call_receiver, accessed_field, called_method, method_called, called_builtin, constructor_parameters}
use Rattle.scj_rules.specs.TypeRules.{Types, written_type, superclass_at}
use Rattle.scj_rules.specs.ScopeRules.{defined_by_chain, parent_scope, is_outer}
use Rattle.scj_rules.specs.StaticScopes.{are_same_scope, beside, fits, substitute, class_scope, scope_or, is_annotated_and, this_in, runs_in, current_in, declaration_scope, parameter_scope, constructor_parameter_scope, field_scope}
use Rattle.scj_rules.specs.AnnotationRules.{scoped_variable_at, result_scope}
use Rattle.scj_rules.specs.Guards.{is_guarded_store}
use Rattle.scj_rules.specs.declared.typing.FoundField.{FoundField}
use Rattle.scj_rules.specs.declared.typing.Meaning.{Meaning}
use Rattle.scj_rules.specs.declared.typing.Meaning.TheVariants.{Class as a_class, Field as a_field, Nothing as nothing, Variable as a_variable}
use Rattle.scj_rules.specs.declared.views.Declared.{Declared}

-- the static scope of each node
abbrev pub Scopes : Type 0
Scopes = ℕ → Option Scope

-- THIS at a node, and the scope that is current there
abbrev pub this_at : Declarations → ℕ → Option Scope
this_at p id = in_class p id (this_in p)

unfoldable pub current_at : Declarations → ℕ → Option Scope
current_at p id = in_member p id (current_in p)

-- ---- static scopes

-- the scope of the receiver of a call: of the object before the dot, or of `this`
unfoldable pub receiver_scope : Declarations → Scopes → ℕ → Option ℕ → Option Scope
receiver_scope p scopes id None = this_at p id
receiver_scope p scopes id (Some object) = scopes object

-- a field's scope, with that of the object for THIS
unfoldable pub scope_of_field : Declarations → Option Scope → FoundField → Option Scope
scope_of_field p object f = field_scope p f.on f.field >>= substitute object None

-- the scope of the variable that a node declares
abbrev pub variable_scope_at : Declarations → ℕ → Option Scope
variable_scope_at p id = scoped_variable_at p id >>= declaration_scope p

unfoldable pub scope_of_meaning : Declarations → ℕ → Meaning → Option Scope
scope_of_meaning p id (a_variable v) = variable_scope_at p v
scope_of_meaning p id (a_field f) = scope_of_field p (this_at p id) f
scope_of_meaning p id (a_class class) = None
scope_of_meaning p id nothing = None

-- the scope of a new object: its class's, or the current one
unfoldable pub scope_of_new : Declarations → ℕ → ℕ → Option Scope
scope_of_new p id class = scope_or (class_scope p class) (current_at p id)

-- the scope of a class's values, or this one where the class is unannotated
unfoldable pub scope_in_class : Declarations → ℕ → Option Scope → Option Scope
scope_in_class p class other = scope_or (class_scope p class) other

-- the scope of a method's value: its result's, with the receiver's scope for THIS and the current one for CALLER
unfoldable pub scope_of_call : Declarations → Option Scope → Option Scope → FoundMethod → Option Scope
scope_of_call p object current f = result_scope p f.on f.method >>= substitute object current

-- the scope of an array's elements
unfoldable pub scope_of_element : Declarations → Option Scope → Ty → Option Scope
scope_of_element p array (ClassArray class) = scope_in_class p class (option_map beside array)
scope_of_element p array _ = None

unfoldable pub scope_of : Declarations → Types → Scopes → ℕ → Node → Option Scope
scope_of p types scopes id (ThisNode position) = this_at p id
scope_of p types scopes id (Null position) = Some Any
scope_of p types scopes id (Parenthesized position inner) = scopes inner
scope_of p types scopes id (SimpleName position name) = scope_of_meaning p id (meaning p id name)
scope_of p types scopes id (FieldAccess position name object) =
    receiver p types object >>= (λ r. accessed_field p r name >>= scope_of_field p (scopes object))
scope_of p types scopes id (Call position name object arguments) =
    call_receiver p types id object >>= (λ r.
    called_method p r name >>= scope_of_call p (receiver_scope p scopes id object) (current_at p id))
scope_of p types scopes id (New position name_position name arguments) = class_number p.names name >>= scope_of_new p id
scope_of p types scopes id (NewArray position element length) = current_at p id
scope_of p types scopes id (Element position array index) = types array >>= scope_of_element p (scopes array)
scope_of p types scopes id (Cast position name_position name operand) =
    class_number p.names name >>= (λ class. scope_in_class p class (scopes operand))
scope_of p types scopes id _ = None

unfoldable pub scope_of_next : Declarations → Types → ℕ → Scopes → Option Scope
scope_of_next p types id scopes = slice_get p.nodes id >>= scope_of p types scopes id

-- the static scopes of all nodes
unfoldable pub scopes_in : Declarations → Types → List (Option Scope)
scopes_in p types = bottom_up None (scope_of_next p types) (length p.nodes)

-- ---- E1, new: of a class that is annotated with another scope than the current one
abbrev pub isnt_current : Declarations → ℕ → Scope → Bool
isnt_current p id s = holds (current_at p id) (λ current. not (are_same_scope current s))

abbrev pub lies_elsewhere : Declarations → ℕ → ℕ → Bool
lies_elsewhere p id class = is_annotated_and (class_scope p class) (λ s. isnt_current p id (In s))

abbrev pub misfits_new : Declarations → ℕ → List ℕ → Bool
misfits_new p id name = holds (class_number p.names name) (lies_elsewhere p id)

unfoldable pub e1 : Declarations → Types → Scopes → ℕ → Node → List Found
e1 p types scopes id (New position name_position name arguments) = broken (misfits_new p id name) E1 position
e1 p types scopes id _ = []

-- E2, call: the callee runs neither in CALLER, nor in THIS where the receiver lies in the current scope, nor in a named
-- scope that is the current one
unfoldable pub misfits_runs_in : Declarations → ℕ → Option Scope → Scope → Bool
misfits_runs_in p id object Caller = false
misfits_runs_in p id object This = holds object (λ s. holds (current_at p id) (λ current. not (fits s current)))
misfits_runs_in p id object s = isnt_current p id s

-- a method, where a user class declares it
abbrev pub of_user : Option FoundMethod → Option FoundMethod
of_user method = method >>= (λ (f : FoundMethod). if is_some f.method.builtin then None else Some f)

-- the user's method that a call invokes
abbrev pub called_user_method : Declarations → Types → ℕ → Option ℕ → List ℕ → Option FoundMethod
called_user_method p types id object name = of_user (method_called p types id object name)

abbrev pub misfits_call : Declarations → Scopes → ℕ → Option ℕ → FoundMethod → Bool
misfits_call p scopes id object f =
    holds (runs_in p f.on f.method) (misfits_runs_in p id (receiver_scope p scopes id object))

unfoldable pub e2 : Declarations → Types → Scopes → ℕ → Node → List Found
e2 p types scopes id (Call position name object arguments) =
    broken (holds (called_user_method p types id object name) (misfits_call p scopes id object)) E2 position
e2 p types scopes id _ = []

-- E3, argument: its scope doesn't fit the parameter's, as the caller sees that
abbrev pub misfit_scope : Option Scope → Option Scope → Bool
misfit_scope value target = holds value (λ s. holds target (λ t. not (fits s t)))

unfoldable pub misfit_arguments :
    Declarations → Scopes → (Declared → Option Scope) → List Declared → List ℕ → List Found
misfit_arguments p scopes parameter (d ∷ ds) (a ∷ rest) =
    broken (misfit_scope (scopes a) (parameter d)) E3 (position_at p.nodes a)
    ++ misfit_arguments p scopes parameter ds rest
misfit_arguments p scopes parameter _ _ = []

-- of a call, and of a constructor that runs for an object of this scope
unfoldable pub e3_of_call : Declarations → Scopes → Option Scope → Option Scope → List ℕ → FoundMethod → List Found
e3_of_call p scopes object current arguments f =
    misfit_arguments p scopes (λ d. parameter_scope p f.on f.method d >>= substitute object current)
    f.method.parameters arguments

unfoldable pub e3_of_constructor : Declarations → Scopes → Option Scope → List ℕ → ℕ → List Found
e3_of_constructor p scopes object arguments class =
    misfit_arguments p scopes (λ d. constructor_parameter_scope p class d >>= substitute object object)
    (constructor_parameters p.classes class) arguments

unfoldable pub e3 : Declarations → Types → Scopes → ℕ → Node → List Found
e3 p types scopes id (Call position name object arguments) =
    found_at (called_user_method p types id object name)
    (e3_of_call p scopes (receiver_scope p scopes id object) (current_at p id) arguments)
e3 p types scopes id (New position name_position name arguments) =
    found_at (class_number p.names name) (λ class. e3_of_constructor p scopes (scope_of_new p id class) arguments class)
e3 p types scopes id (SuperCall position arguments) =
    found_at (superclass_at p id) (e3_of_constructor p scopes (this_at p id) arguments)
e3 p types scopes id _ = []

-- E4, assign: to a local. E5, store: to a field or an element
unfoldable pub target_of_meaning : Meaning → Rule
target_of_meaning (a_variable v) = E4
target_of_meaning _ = E5

unfoldable pub target_rule : Declarations → ℕ → Node → Option Rule
target_rule p id (SimpleName position name) = Some (target_of_meaning (meaning p id name))
target_rule p id _ = Some E5

-- E4 to E5: the value's scope doesn't fit the target's, and no guard allows the store
unfoldable pub e4_and_e5 : Declarations → Types → Scopes → ℕ → Node → List Found
e4_and_e5 p types scopes id (Assign position target value) =
    found_at (read p.nodes (target_rule p target) target)
    (λ rule.
    broken (misfit_scope (scopes value) (scopes target) && not (is_guarded_store p types id target value)) rule position)
e4_and_e5 p types scopes id (LocalWithValue position name_position name flags declared_type value) =
    broken (misfit_scope (scopes value) (variable_scope_at p id)) E4 position
e4_and_e5 p types scopes id _ = []

-- E6, return: the value's scope doesn't fit the result's
unfoldable pub result_scope_at : Declarations → ℕ → Option Scope
result_scope_at p id =
    in_class p id (λ class.
    (context p id).member >>= method_at p.nodes >>= (λ (m : DeclaredMethod). result_scope p class m))

unfoldable pub e6 : Declarations → Types → Scopes → ℕ → Node → List Found
e6 p types scopes id (Return position (Some value)) =
    broken (misfit_scope (scopes value) (result_scope_at p id)) E6 position
e6 p types scopes id _ = []

-- the user's `run` of a class
abbrev pub run_of : Declarations → ℕ → Option FoundMethod
run_of p class = of_user (method_named p.classes class (codes "run"))

-- there is none, or the test holds of it
abbrev pub is_missing_or : {A : Type 0} → Option A → (A → Bool) → Bool
is_missing_or value test = elim value [ None ↦ true | Some x ↦ test x ]

-- ---- E7, enter: the type of `r` is no user class whose chain defines a scope, or that scope's parent isn't the
-- current scope, or `r` has a `run` that runs neither there nor in CALLER
abbrev pub isnt_in_parent : Declarations → ℕ → ℕ → Bool
isnt_in_parent p id scope = holds (parent_scope p scope) (λ parent. isnt_current p id (In parent))

abbrev pub runs_outside : Declarations → ℕ → FoundMethod → Bool
runs_outside p scope f =
    holds (runs_in p f.on f.method) (λ s. not (are_same_scope s Caller || are_same_scope s (In scope)))

unfoldable pub misfits_entered : Declarations → ℕ → ℕ → ℕ → Bool
misfits_entered p id class scope = isnt_in_parent p id scope || holds (run_of p class) (runs_outside p scope)

unfoldable pub misfits_enter : Declarations → ℕ → Ty → Bool
misfits_enter p id (ClassTy class) =
    if is_user_class class then is_missing_or (defined_by_chain p class) (misfits_entered p id class) else true
misfits_enter p id _ = true

abbrev pub enters_wrong : Declarations → Types → ℕ → ℕ → ℕ → Bool
enters_wrong p types id number r =
    (number == managed_memory_enter_private_memory) && holds (types r) (misfits_enter p id)

unfoldable pub e7 : Declarations → Types → Scopes → ℕ → Node → List Found
e7 p types scopes id (Call position name object (size ∷ r ∷ [])) =
    broken (holds (called_builtin p types id object name) (λ number. enters_wrong p types id number r)) E7 position
e7 p types scopes id _ = []

-- E8, execute in area: `o` lies in no named scope, or `r` has no `run` of a user class that runs in it
unfoldable pub is_named_scope : Scope → Bool
is_named_scope (In s) = true
is_named_scope _ = false

abbrev pub misfits_area : Declarations → Scope → FoundMethod → Bool
misfits_area p area f = holds (runs_in p f.on f.method) (λ s. not (are_same_scope s area))

unfoldable pub misfits_execute : Declarations → Option Scope → Ty → Bool
misfits_execute p area (ClassTy class) =
    is_missing_or (run_of p class) (λ f. holds area (λ s. not (is_named_scope s) || misfits_area p s f))
misfits_execute p area _ = true

abbrev pub executes_wrong : Declarations → Types → Scopes → ℕ → ℕ → ℕ → Bool
executes_wrong p types scopes number o r =
    (number == managed_memory_execute_in_area_of) && holds (types r) (misfits_execute p (scopes o))

unfoldable pub e8 : Declarations → Types → Scopes → ℕ → Node → List Found
e8 p types scopes id (Call position name object (o ∷ r ∷ [])) =
    broken (holds (called_builtin p types id object name) (λ number. executes_wrong p types scopes number o r)) E8 position
e8 p types scopes id _ = []

-- E9, cast scope: to an annotated class, of an operand in another scope
abbrev pub lies_outside : Declarations → Option Scope → ℕ → Bool
lies_outside p operand class = is_annotated_and (class_scope p class) (λ s. misfit_scope operand (Some (In s)))

abbrev pub misfits_cast : Declarations → Option Scope → List ℕ → Bool
misfits_cast p operand name = holds (class_number p.names name) (lies_outside p operand)

unfoldable pub e9 : Declarations → Types → Scopes → ℕ → Node → List Found
e9 p types scopes id (Cast position name_position name operand) = broken (misfits_cast p (scopes operand) name) E9 position
e9 p types scopes id _ = []

-- E10, array: of a class that is annotated with a scope that is neither the current one, by name, nor outside it
unfoldable pub is_outer_of_current : Declarations → ℕ → Scope → Bool
is_outer_of_current p s (In current) = is_outer p s current
is_outer_of_current p s _ = false

abbrev pub isnt_around_current : Declarations → ℕ → ℕ → Bool
isnt_around_current p id s = holds (current_at p id) (λ current. not (is_outer_of_current p s current))

unfoldable pub misfits_element : Declarations → ℕ → Ty → Bool
misfits_element p id (ClassTy class) = is_annotated_and (class_scope p class) (isnt_around_current p id)
misfits_element p id _ = false

unfoldable pub e10 : Declarations → Types → Scopes → ℕ → Node → List Found
e10 p types scopes id (NewArray position element length) =
    broken (holds (written_type p element) (misfits_element p id)) E10 position
e10 p types scopes id _ = []

-- what is broken at a node
unfoldable pub use_breaks : Declarations → Types → Scopes → ℕ → Node → List Found
use_breaks p types scopes id node =
    e1 p types scopes id node
    ++ (e2 p types scopes id node
    ++ (e3 p types scopes id node
    ++ (e4_and_e5 p types scopes id node
    ++ (e6 p types scopes id node
    ++ (e7 p types scopes id node
    ++ (e8 p types scopes id node ++ (e9 p types scopes id node ++ e10 p types scopes id node)))))))

-- Static scopes: of classes, of methods, and of variables, fields and results, each in normal form (JSR 302: @Scope,
-- @RunsIn; the rules are this project's profile). What breaks a rule on annotations has no scope.
use Rattle.std.specs.Prelude.{ℕ, Bool, true, false, not, ◌&&◌, ◌||◌, ◌==◌, List, [], ◌∷◌, slice_get, Option, Some, None, if◌then◌else◌, is_some, option_map, codes}
use Rattle.std.specs.List.{list_any}
use Rattle.scj_builtins.specs.declared.kinds.RunsInKind.{RunsInKind}
use Rattle.scj_builtins.specs.declared.kinds.RunsInKind.TheVariants.{Immortal as in_immortal, DefinedOrCaller as in_defined_or_caller, DefinedOrDeclared as in_defined_or_declared, Caller as in_caller}
use Rattle.scj_builtins.specs.declared.methods.FrameworkMethod.{FrameworkMethod}
use Rattle.scj_builtins.specs.Framework.{framework_methods, mission, mission_sequencer, safelet}
use Rattle.scj_rules.specs.declared.scopes.Written.{Written}
use Rattle.scj_rules.specs.declared.typing.Scope.{Scope}
use Rattle.scj_rules.specs.declared.typing.Scope.TheVariants.{Any, This, Caller, In, Unknown, Lost}
use Rattle.scj_base.specs.Bytes.{is_same}
use Rattle.scj_rules.specs.Words.{is_among, holds, ◌>>=◌}
use Rattle.scj_rules.specs.Views.{DeclaredMethod, method_at}
use Rattle.scj_rules.specs.Classes.{FoundMethod, is_user_class, superclasses, all_interfaces, framework_row_named}
use Rattle.scj_rules.specs.ClassRules.{class_written, inherits_as, numbers_from}
use Rattle.scj_rules.specs.Contexts.{Declarations}
use Rattle.scj_rules.specs.ScopeRules.{immortal_scope, scope_number, defined_by_chain, is_outer, scope_written_in}
use Rattle.scj_rules.specs.declared.views.Declared.{Declared}
use Rattle.scj_rules.specs.declared.views.WrittenType.{WrittenType}
use Rattle.scj_rules.specs.declared.views.WrittenType.TheVariants.{Boolean as boolean_type, Int as int_type, Long as long_type, Text as text_type, Void as void_type}
use Rattle.scj_rules.specs.declared.scopes.ClassScope.{ClassScope}
use Rattle.scj_rules.specs.declared.scopes.ClassScope.TheVariants.{Unannotated as unannotated, Annotated as annotated, Missing as scopeless}
use Rattle.scj_rules.specs.declared.scopes.Resolution.{Resolution}
use Rattle.scj_rules.specs.declared.scopes.Resolution.TheVariants.{Resolved as resolved, Missing as missing, Unresolved as unresolved}
use Rattle.scj_rules.specs.declared.scopes.ScopedDeclaration.{ScopedDeclaration}

unfoldable pub are_same_scope : Scope → Scope → Bool
are_same_scope Any Any = true
are_same_scope This This = true
are_same_scope Caller Caller = true
are_same_scope (In a) (In b) = a == b
are_same_scope Unknown Unknown = true
are_same_scope Lost Lost = true
are_same_scope _ _ = false

-- a reference to an object in scope s may be stored where one to an object in scope t is expected. `null` fits anywhere,
-- and where nothing is asked of the scope each one fits. Two objects of a lost scope needn't lie in one area, so such a
-- scope is fitted by `null` alone
unfoldable pub fits : Scope → Scope → Bool
fits Any t = true
fits s Any = true
fits s Unknown = true
fits s Lost = false
fits s t = are_same_scope s t

-- the scope of what lies where an object of this scope does: it is lost where nothing is known of the object
unfoldable pub beside : Scope → Scope
beside Unknown = Lost
beside s = s

-- a callee's scope as its caller sees it: that of the receiver's area for THIS, and `current` for CALLER
unfoldable pub substitute : Option Scope → Option Scope → Scope → Option Scope
substitute receiver current This = option_map beside receiver
substitute receiver current Caller = current
substitute receiver current s = Some s

abbrev pub this_name : List ℕ
this_name = codes "THIS"

abbrev pub caller_name : List ℕ
caller_name = codes "CALLER"

abbrev pub unknown_name : List ℕ
unknown_name = codes "UNKNOWN"

-- ---- scopes of classes

-- the objects of the user classes under Mission, MissionSequencer and Safelet lie in IMMORTAL without an annotation
unfoldable pub is_implied_immortal : Declarations → ℕ → Bool
is_implied_immortal p class =
    is_user_class class
    && (is_among mission (superclasses p.classes class)
    || (is_among mission_sequencer (superclasses p.classes class) || is_among safelet (all_interfaces p.classes class)))

-- A1 of a class: the annotation names no scope
abbrev pub has_unknown_scope : Declarations → Option Written → Bool
has_unknown_scope p written = holds written (λ (w : Written). not (is_some (scope_number p w.name)))

-- the annotation names another scope than this one, or none
abbrev pub is_not_scope : Declarations → Written → ℕ → Bool
is_not_scope p w scope = not (holds (scope_number p w.name) (λ s. s == scope))

-- the scopes that are demanded of a class: its superclass's, and IMMORTAL where that is implied
abbrev pub implied_scopes : Bool → List ℕ
implied_scopes implied = if implied then immortal_scope ∷ [] else []

abbrev pub demanded_scopes : ClassScope → Bool → List ℕ
demanded_scopes (annotated above) implied = above ∷ implied_scopes implied
demanded_scopes _ implied = implied_scopes implied

-- A2 of a class: the scope that it names, or else inherits, differs from one of these
unfoldable pub differs_from_above : Declarations → Option Written → ClassScope → Bool → Bool
differs_from_above p (Some w) above implied = list_any (is_not_scope p w) (demanded_scopes above implied)
differs_from_above p None (annotated above) implied = list_any (λ s. not (above == s)) (implied_scopes implied)
differs_from_above p None _ implied = false

-- the scope of a class that breaks neither A1 nor A2: the one that it names, else the superclass's, else the implied
-- one
unfoldable pub scope_of_right_class : Declarations → Option Written → ClassScope → Bool → ClassScope
scope_of_right_class p (Some w) above implied = elim (scope_number p w.name) [ None ↦ scopeless | Some s ↦ annotated s ]
scope_of_right_class p None unannotated implied = if implied then annotated immortal_scope else unannotated
scope_of_right_class p None above implied = above

-- the scope of a class, from that of its superclass
unfoldable pub class_scope_under : Declarations → ClassScope → ℕ → ClassScope
class_scope_under p above class =
    if has_unknown_scope p (scope_written_in p class)
    || differs_from_above p (scope_written_in p class) above (is_implied_immortal p class) then scopeless
    else scope_of_right_class p (scope_written_in p class) above (is_implied_immortal p class)

-- the scope of the first class of a chain of superclasses
unfoldable pub class_scope_on : Declarations → List ℕ → ClassScope
class_scope_on p [] = unannotated
class_scope_on p (class ∷ above) = class_scope_under p (class_scope_on p above) class

unfoldable pub class_scope : Declarations → ℕ → ClassScope
class_scope p class = class_scope_on p (superclasses p.classes class)

-- the scope of an object of a class: the class's, or this one where the class is unannotated
abbrev pub scope_or : ClassScope → Option Scope → Option Scope
scope_or scope other = elim scope [ unannotated ↦ other | annotated s ↦ Some (In s) | scopeless ↦ None ]

-- a test of the scope of a class, where it is annotated
abbrev pub is_annotated_and : ClassScope → (ℕ → Bool) → Bool
is_annotated_and scope test = elim scope [ unannotated ↦ false | annotated s ↦ test s | scopeless ↦ false ]

-- ---- names of scopes

-- THIS in a class, in normal form
unfoldable pub this_in : Declarations → ℕ → Option Scope
this_in p class = scope_or (class_scope p class) (Some This)

abbrev pub resolved_or_missing : Option Scope → Resolution
resolved_or_missing None = missing
resolved_or_missing (Some s) = resolved s

-- what the name of a defined scope denotes
abbrev pub resolve_defined : Declarations → List ℕ → Resolution
resolve_defined p name = elim (scope_number p name) [ None ↦ unresolved | Some s ↦ resolved (In s) ]

-- what a name in an annotation denotes, in a class and where this scope is current
unfoldable pub resolve_name : Declarations → ℕ → Option Scope → List ℕ → Resolution
resolve_name p class current name =
    if is_same name this_name then resolved_or_missing (this_in p class)
    else (if is_same name caller_name then resolved_or_missing current else resolve_defined p name)

abbrev pub resolved_scope : Resolution → Option Scope
resolved_scope (resolved s) = Some s
resolved_scope missing = None
resolved_scope unresolved = None

abbrev pub is_unresolved : Resolution → Bool
is_unresolved unresolved = true
is_unresolved _ = false

-- a name denotes another scope than this one, or nothing; a missing scope differs from none
abbrev pub is_other_scope : Resolution → Scope → Bool
is_other_scope (resolved s) scope = not (are_same_scope s scope)
is_other_scope missing scope = false
is_other_scope unresolved scope = true

-- the scope that a name denotes
unfoldable pub written_scope : Declarations → ℕ → Option Scope → List ℕ → Option Scope
written_scope p class current name = resolved_scope (resolve_name p class current name)

abbrev pub is_known_name : Declarations → List ℕ → Bool
is_known_name p name = is_some (scope_number p name) || (is_same name this_name || is_same name caller_name)

unfoldable pub differs_from : Declarations → ℕ → Option Scope → List ℕ → Scope → Bool
differs_from p class current name scope = is_other_scope (resolve_name p class current name) scope

-- ---- the scope that is current in a method

-- the scope in which every declaration of a framework's method runs in a class
unfoldable pub fixed_scope : Declarations → ℕ → RunsInKind → Option Scope
fixed_scope p class in_immortal = Some (In immortal_scope)
fixed_scope p class in_defined_or_caller = elim (defined_by_chain p class) [ None ↦ Some Caller | Some s ↦ Some (In s) ]
fixed_scope p class in_defined_or_declared = option_map (λ s. In s) (defined_by_chain p class)
fixed_scope p class in_caller = Some Caller

-- the same, where the method is given by its number
unfoldable pub fixed_runs_in : Declarations → ℕ → ℕ → Option Scope
fixed_runs_in p class number = slice_get framework_methods number
    >>= (λ (m : FrameworkMethod). fixed_scope p class m.runs_in)

-- the fixed one of a method of this name in a class, if it has one
unfoldable pub fixed_for : Declarations → ℕ → List ℕ → Option Scope
fixed_for p class name =
    framework_row_named p.classes class name >>= (λ (f : FoundMethod). f.method.builtin) >>= fixed_runs_in p class

-- A7: the annotation names no scope; on a static method it may name CALLER alone
unfoldable pub has_unknown_runs_in : Declarations → DeclaredMethod → Written → Bool
has_unknown_runs_in p m w =
    if m.declared.modifiers.is_static then not (is_same w.name caller_name) else not (is_known_name p w.name)

-- some class inherits the method as one of Safelet's
unfoldable pub is_inherited_by_safelet : Declarations → DeclaredMethod → Bool
is_inherited_by_safelet p m =
    list_any (inherits_as p (safelet ∷ []) m.declared.node m.declared.name) (numbers_from 0 p.classes)

-- a name denotes another scope than the one that the framework fixes for a method
abbrev pub differs_from_fixed : Declarations → ℕ → List ℕ → List ℕ → Bool
differs_from_fixed p class method name = holds (fixed_for p class method) (differs_from p class (Some Caller) name)

-- a name is that of a scope inside IMMORTAL
abbrev pub names_inner_scope : Declarations → List ℕ → Bool
names_inner_scope p name = holds (scope_number p name) (λ s. not (s == immortal_scope))

-- A8: the annotation differs from the fixed scope; or it names a scope inside IMMORTAL on what a class inherits as a
-- method of Safelet
unfoldable pub has_other_runs_in : Declarations → ℕ → DeclaredMethod → Written → Bool
has_other_runs_in p class m w =
    differs_from_fixed p class m.declared.name w.name || (names_inner_scope p w.name && is_inherited_by_safelet p m)

-- the scope in which a method runs that has neither an annotation nor a fixed one: the class's, or CALLER
unfoldable pub default_runs_in : Declarations → ℕ → Option Scope
default_runs_in p class = scope_or (class_scope p class) (Some Caller)

unfoldable pub free_runs_in : Declarations → ℕ → Option Written → Option Scope
free_runs_in p class None = default_runs_in p class
free_runs_in p class (Some w) = written_scope p class (Some Caller) w.name

-- A7 or A8
abbrev pub has_wrong_runs_in : Declarations → ℕ → DeclaredMethod → Bool
has_wrong_runs_in p class m =
    holds m.declared.modifiers.runs_in (λ w. has_unknown_runs_in p m w || has_other_runs_in p class m w)

-- the scope in which a method of a class runs, which is current in its body
unfoldable pub runs_in : Declarations → ℕ → DeclaredMethod → Option Scope
runs_in p class m =
    if has_wrong_runs_in p class m then None
    else (if m.declared.modifiers.is_static then Some Caller
    else (elim (fixed_for p class m.declared.name) [
      | Some s ↦ Some s
      | None ↦ free_runs_in p class m.declared.modifiers.runs_in
    ]))

-- the scope that is current in a member of a class: in a constructor it is THIS
unfoldable pub current_in : Declarations → ℕ → ℕ → Option Scope
current_in p class member = elim (method_at p.nodes member) [ Some m ↦ runs_in p class m | None ↦ this_in p class ]

-- ---- scopes of declarations: of variables, fields and results

-- a type whose values are no references
unfoldable pub has_no_scope : WrittenType → Bool
has_no_scope int_type = true
has_no_scope boolean_type = true
has_no_scope void_type = true
has_no_scope long_type = true
has_no_scope text_type = true
has_no_scope _ = false

-- the scope in which all values of a type lie; array types are unannotated
unfoldable pub type_scope : Declarations → WrittenType → ClassScope
type_scope p type = elim (class_written p.names type) [ None ↦ unannotated | Some class ↦ class_scope p class ]

unfoldable pub is_unannotated : ClassScope → Bool
is_unannotated unannotated = true
is_unannotated _ = false

-- THIS denotes nothing in a static member of an unannotated class, nor CALLER on a field
unfoldable pub denotes_nothing : Declarations → ScopedDeclaration → List ℕ → Bool
denotes_nothing p t name =
    if is_same name this_name then t.is_static && is_unannotated (class_scope p t.class)
    else is_same name caller_name && t.is_field

-- what the name in the annotation of a declaration denotes; UNKNOWN is a scope of locals and parameters alone
unfoldable pub resolve_at : Declarations → ScopedDeclaration → List ℕ → Resolution
resolve_at p t name =
    if is_same name unknown_name then (if t.is_variable then resolved Unknown else unresolved)
    else (if denotes_nothing p t name then unresolved else resolve_name p t.class t.current name)

-- A1 off a class: the annotation names no scope
unfoldable pub is_unknown_scope : Declarations → ScopedDeclaration → Written → Bool
is_unknown_scope p t w = is_unresolved (resolve_at p t w.name)

-- A9: the values of the declared type are no references, or lie in another scope than the annotation names
unfoldable pub contradicts : Declarations → ScopedDeclaration → Written → Bool
contradicts p t w =
    has_no_scope t.declared_type
    || is_annotated_and (type_scope p t.declared_type) (λ s. is_other_scope (resolve_at p t w.name) (In s))

abbrev pub is_rightly_scoped : Declarations → ScopedDeclaration → Bool
is_rightly_scoped p t = not (holds t.scope (λ w. is_unknown_scope p t w || contradicts p t w))

-- the scope of a declaration that breaks neither, where its type is unannotated: the one that it names, else the
-- default
unfoldable pub scope_as_written : Declarations → ScopedDeclaration → Option Scope
scope_as_written p t = elim t.scope [ None ↦ t.default | Some w ↦ resolved_scope (resolve_at p t w.name) ]

-- the scope of a declaration: that of its type's class, or else its own
unfoldable pub declaration_scope : Declarations → ScopedDeclaration → Option Scope
declaration_scope p t =
    if has_no_scope t.declared_type then None
    else (if is_rightly_scoped p t then scope_or (type_scope p t.declared_type) (scope_as_written p t) else None)

-- a parameter or local of a member, or else its result: by default it lies in the current scope
abbrev pub scoped_in_member : Bool → ℕ → Option Scope → Bool → Declared → ScopedDeclaration
scoped_in_member is_variable class current is_static d =
    record {
      class = class;
      current = current;
      default = current;
      is_field = false;
      is_variable = is_variable;
      is_static = is_static;
      declared_type = d.declared_type;
      scope = d.modifiers.scope;
    }

abbrev pub scoped_variable : ℕ → Option Scope → Bool → Declared → ScopedDeclaration
scoped_variable class current is_static d = scoped_in_member true class current is_static d

abbrev pub scoped_result : Declarations → ℕ → DeclaredMethod → ScopedDeclaration
scoped_result p class m = scoped_in_member false class (runs_in p class m) m.declared.modifiers.is_static m.declared

abbrev pub parameter_scope : Declarations → ℕ → DeclaredMethod → Declared → Option Scope
parameter_scope p class m d =
    declaration_scope p (scoped_variable class (runs_in p class m) m.declared.modifiers.is_static d)

abbrev pub constructor_parameter_scope : Declarations → ℕ → Declared → Option Scope
constructor_parameter_scope p class d = declaration_scope p (scoped_variable class (this_in p class) false d)

-- a field: by default it lies in THIS, and in IMMORTAL where it is static
abbrev pub scoped_field : Declarations → ℕ → Declared → ScopedDeclaration
scoped_field p class f =
    record {
      class = class;
      current = None;
      default = if f.modifiers.is_static then Some (In immortal_scope) else this_in p class;
      is_field = true;
      is_variable = false;
      is_static = f.modifiers.is_static;
      declared_type = f.declared_type;
      scope = f.modifiers.scope;
    }

-- the scopes that a field may have: IMMORTAL where it is static; in an annotated class the class's own and the outer
-- ones; else THIS and IMMORTAL
unfoldable pub is_outer_of : Declarations → ℕ → Scope → Bool
is_outer_of p class (In s) = is_outer p s class
is_outer_of p class _ = false

unfoldable pub suits_field : Declarations → ClassScope → Bool → Scope → Bool
suits_field p class true s = are_same_scope s (In immortal_scope)
suits_field p unannotated false s = are_same_scope s This || are_same_scope s (In immortal_scope)
suits_field p (annotated class) false s = is_outer_of p class s
suits_field p scopeless false s = true

-- A3 to A5: the field has none of these
unfoldable pub misfits_field : Declarations → ℕ → Declared → Bool
misfits_field p class f =
    holds (declaration_scope p (scoped_field p class f))
    (λ s. not (suits_field p (class_scope p class) f.modifiers.is_static s))

-- the scope of a field, where it breaks none of A3 to A5
unfoldable pub field_scope : Declarations → ℕ → Declared → Option Scope
field_scope p class f = if misfits_field p class f then None else declaration_scope p (scoped_field p class f)

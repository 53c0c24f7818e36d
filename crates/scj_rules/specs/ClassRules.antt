-- C1 to C11: the rules on classes and members. Each rule is a function that gives its breaks, with the test beside it.
use Rattle.std.specs.Prelude.{ℕ, ◌+◌, nat_lt, Bool, true, false, not, ◌&&◌, ◌||◌, ◌==◌, List, [], ◌∷◌, ◌++◌, length, filter, filter_map, flat_map, slice_get, Option, Some, None, if◌then◌else◌, is_some}
use Rattle.std.specs.List.{list_any}
use Rattle.std.specs.Cmp.Lexicographic.{pointwise}
use Rattle.scj_base.specs.declared.findings.Found.{Found}
use Rattle.scj_base.specs.declared.findings.Rule.{Rule}
use Rattle.scj_base.specs.declared.findings.Rule.TheVariants.{C1, C2, C3, C4, C5, C6, C7, C8, C9, C10, C11}
use Rattle.scj_base.specs.declared.positions.Position.{Position}
use Rattle.scj_builtins.specs.Framework.{runnable, safelet, mission, mission_sequencer}
use Rattle.scj_tree.specs.declared.nodes.Node.{Node}
use Rattle.scj_tree.specs.declared.nodes.Node.TheVariants.{Class, TypeArgument, ClassType, Field, Method, Constructor, Parameter, Local, LocalWithValue, Cast, New, NewArray}
use Rattle.scj_rules.specs.declared.scopes.Written.{Written}
use Rattle.scj_rules.specs.Definitions.{read}
use Rattle.scj_base.specs.Bytes.{is_same}
use Rattle.scj_rules.specs.Words.{is_among, broken, broken_at_each, found_at, named_twice, holds, ◌>>=◌}
use Rattle.scj_rules.specs.Views.{modifiers_at, DeclaredMethod, WrittenClass, callable_name}
use Rattle.scj_rules.specs.Classes.{ClassRow, FoundMethod, is_user_class, class_number, superclasses, all_interfaces, is_sub, field_named, method_named, method_above, framework_row_named, own_method, superclass_in, unknown_supers, is_cyclic, forbidden_supers, is_extended, is_implemented}
use Rattle.scj_rules.specs.Contexts.{Declarations, context}
use Rattle.scj_rules.specs.declared.views.Declared.{Declared}
use Rattle.scj_rules.specs.declared.views.Modifiers.{Modifiers}
use Rattle.scj_rules.specs.declared.views.WrittenType.{WrittenType}
use Rattle.scj_rules.specs.declared.views.WrittenType.TheVariants.{Boolean as boolean_type, BooleanArray as boolean_array, Class as class_type, ClassArray as class_array, Int as int_type, IntArray as int_array, Long as long_type, Text as text_type, Void as void_type}

-- the rule is broken at each of these names
abbrev pub broken_at : Rule → List Written → List Found
broken_at rule names = broken_at_each (λ (w : Written). w.position) rule names

-- an earlier class has the name, of the user or of the framework
abbrev pub is_declared_before : Declarations → ℕ → WrittenClass → Bool
is_declared_before p class c = holds (class_number p.names c.name) (λ first. nat_lt first class)

-- C1, class twice (JLS 7.6)
unfoldable pub c1 : Declarations → ℕ → WrittenClass → List Found
c1 p class c = broken (is_declared_before p class c) C1 c.position

-- C2, unknown super: no class has the name after `extends` or `implements` (JLS 8.1.4, 8.1.5)
unfoldable pub c2 : Declarations → WrittenClass → List Found
c2 p c = broken_at C2 (unknown_supers p.names c)

-- C3, class cycle (JLS 8.1.4)
unfoldable pub c3 : Declarations → ℕ → WrittenClass → List Found
c3 p class c = broken (is_cyclic p.written class) C3 c.position

-- a field of a class above has the name
abbrev pub hides_field : Declarations → ℕ → Declared → Bool
hides_field p class f =
    holds (superclass_in p.classes class) (λ above. is_some (field_named p.classes above f.name))

-- C4, field twice: an earlier field of the class has the name, or a field above is hidden (JLS 8.3; hiding is left out)
unfoldable pub c4 : Declarations → ℕ → ClassRow → List Found
c4 p class row =
    broken_at_each (λ (f : Declared). f.position) C4 (named_twice (λ (f : Declared). f.name) [] row.fields)
    ++ flat_map (λ (f : Declared). broken (hides_field p class f) C4 f.position) row.fields

-- the names of the methods and constructors that a class declares
abbrev pub callable_names : Declarations → WrittenClass → List Written
callable_names p c = filter_map (read p.nodes callable_name) c.members

-- C5, method twice: an earlier method or constructor of the class has the name (JLS 8.4.2; overloading is left out)
unfoldable pub c5 : Declarations → WrittenClass → List Found
c5 p c = broken_at C5 (named_twice (λ (w : Written). w.name) [] (callable_names p c))

-- two written types are the same
unfoldable pub is_same_type : WrittenType → WrittenType → Bool
is_same_type int_type int_type = true
is_same_type boolean_type boolean_type = true
is_same_type void_type void_type = true
is_same_type long_type long_type = true
is_same_type text_type text_type = true
is_same_type int_array int_array = true
is_same_type boolean_array boolean_array = true
is_same_type (class_type a) (class_type b) = is_same a b
is_same_type (class_array a) (class_array b) = is_same a b
is_same_type _ _ = false

-- as many parameters, of the same types
abbrev pub have_same_types : List Declared → List Declared → Bool
have_same_types xs ys = pointwise (λ (x : Declared) (y : Declared). is_same_type x.declared_type y.declared_type) xs ys

-- the class of a written class type
unfoldable pub class_written : List (List ℕ) → WrittenType → Option ℕ
class_written names (class_type name) = class_number names name
class_written names _ = None

-- the framework's methods that allow a narrower result give these kinds
abbrev pub is_narrowed : ℕ → Bool
is_narrowed kind = is_among kind (mission_sequencer ∷ mission ∷ [])

-- the kind of the results that the method of this name may have: any user sequencer class for the framework's
-- `getSequencer`, any user mission class for its `getNextMission`
unfoldable pub narrower_kind : Declarations → ℕ → List ℕ → Option ℕ
narrower_kind p class name =
    framework_row_named p.classes class name
    >>= (λ (f : FoundMethod).
    class_written p.names f.method.declared.declared_type
    >>= (λ kind. if is_narrowed kind then Some kind else None))

-- a user class of this kind that is a subtype of the result of the method above
abbrev pub is_narrower : Declarations → ℕ → WrittenType → WrittenType → Bool
is_narrower p kind result above =
    holds (class_written p.names result) (λ r.
    holds (class_written p.names above) (λ a.
    is_user_class r && is_sub p.classes r kind && is_sub p.classes r a))

-- a result that a method of this name may have, where the method above has the result `above` (JLS 8.4.5)
unfoldable pub is_result_of : Declarations → ℕ → List ℕ → WrittenType → WrittenType → Bool
is_result_of p class name result above =
    is_same_type result above || holds (narrower_kind p class name) (λ kind. is_narrower p kind result above)

-- the types of the parameters and of the result are those of the method above, or allowed under them (JLS 8.4.8.3)
unfoldable pub has_types_of : Declarations → ℕ → DeclaredMethod → DeclaredMethod → Bool
has_types_of p class m above =
    have_same_types m.parameters above.parameters
    && is_result_of p class m.declared.name m.declared.declared_type above.declared.declared_type

-- both are static, or neither is
abbrev pub both_static : DeclaredMethod → DeclaredMethod → Bool
both_static m n =
    if m.declared.modifiers.is_static then n.declared.modifiers.is_static else not n.declared.modifiers.is_static

-- a method may not override the one above: its types or being static differ, or nothing may override that one
abbrev pub is_wrong_override : Declarations → ℕ → DeclaredMethod → DeclaredMethod → Bool
is_wrong_override p class m above = not (has_types_of p class m above && both_static m above && above.overridable)

-- a method overrides one above wrongly
abbrev pub overrides_wrongly : Declarations → ℕ → DeclaredMethod → Bool
overrides_wrongly p class m =
    holds (method_above p.classes class m.declared.name) (λ (f : FoundMethod). is_wrong_override p class m f.method)

-- C6, override types (JLS 8.4.8.1, 8.4.8.3)
unfoldable pub c6 : Declarations → ℕ → ClassRow → List Found
c6 p class row =
    flat_map (λ (m : DeclaredMethod). broken (overrides_wrongly p class m) C6 m.declared.position) row.methods

-- the abstract methods that a class declares
abbrev pub own_abstract_methods : List ClassRow → ℕ → List DeclaredMethod
own_abstract_methods rows class =
    elim (slice_get rows class) [
      | None ↦ []
      | Some row ↦ filter (λ (m : DeclaredMethod). m.declared.modifiers.is_abstract) row.methods
    ]

-- the abstract methods of a class: its own, those above and those of its interfaces
unfoldable pub abstract_methods : List ClassRow → ℕ → List DeclaredMethod
abstract_methods rows class =
    flat_map (own_abstract_methods rows) (superclasses rows class ++ all_interfaces rows class)

-- a method doesn't implement the framework's abstract one: it is static, or its types differ
abbrev pub misfits_framework : Declarations → ℕ → DeclaredMethod → DeclaredMethod → Bool
misfits_framework p class found m =
    is_some m.builtin && (found.declared.modifiers.is_static || not (has_types_of p class found m))

-- the method that a class has doesn't implement the abstract one of that name
abbrev pub stays_open : Declarations → ℕ → DeclaredMethod → DeclaredMethod → Bool
stays_open p class m found = found.declared.modifiers.is_abstract || misfits_framework p class found m

-- an abstract method isn't implemented in a class
unfoldable pub is_left_open : Declarations → ℕ → DeclaredMethod → Bool
is_left_open p class m =
    holds (method_named p.classes class m.declared.name) (λ (f : FoundMethod). stays_open p class m f.method)

-- a concrete class has an abstract method left
abbrev pub leaves_open : Declarations → ℕ → WrittenClass → Bool
leaves_open p class c =
    not c.modifiers.is_abstract && list_any (is_left_open p class) (abstract_methods p.classes class)

-- an abstract method has a body, or another one has none
abbrev pub has_wrong_body : DeclaredMethod → Bool
has_wrong_body m = if m.declared.modifiers.is_abstract then is_some m.body else not (is_some m.body)

-- C7, abstract left open (JLS 8.1.1.1, 8.4.3.1, 8.4.7)
unfoldable pub c7 : Declarations → ℕ → WrittenClass → ClassRow → List Found
c7 p class c row =
    broken (leaves_open p class c) C7 c.position
    ++ flat_map (λ (m : DeclaredMethod). broken (has_wrong_body m) C7 m.declared.position) row.methods

-- a concrete class that implements Safelet, by itself or by a class above
abbrev pub is_safelet : List ClassRow → ℕ → WrittenClass → Bool
is_safelet rows class c = not c.modifiers.is_abstract && is_among safelet (all_interfaces rows class)

-- the safelets among these rows, the first of which is that of the class `class`
unfoldable pub safelets_from : List ClassRow → ℕ → List ClassRow → List WrittenClass
safelets_from rows class [] = []
safelets_from rows class (row ∷ more) =
    elim row.written [
      | None ↦ safelets_from rows (class + 1) more
      | Some c ↦ (if is_safelet rows class c then c ∷ [] else []) ++ safelets_from rows (class + 1) more
    ]

-- line 1, column 1 of the first file
abbrev pub first_position : Position
first_position = record { file = 0; line = 1; col = 1 }

unfoldable pub c8_of : List WrittenClass → List Found
c8_of [] = record { pos = first_position; rule = C8 } ∷ []
c8_of (first ∷ others) = broken_at_each (λ (c : WrittenClass). c.position) C8 others

-- C8, not exactly one safelet: there is none, or there are others after the first (JSR 302, Safelet)
unfoldable pub c8 : Declarations → List Found
c8 p = c8_of (safelets_from p.written 0 p.written)

-- a class that a type may name: neither one of static methods alone nor a part of a form
abbrev pub is_type_class : Declarations → ℕ → Bool
is_type_class p class =
    holds (slice_get p.classes class) (λ (row : ClassRow). is_extended row.kind || is_implemented row.kind)

-- the name is that of no class; of no class that a type may name; of no mission class
abbrev pub names_no_class : Declarations → List ℕ → Bool
names_no_class p name = not (is_some (class_number p.names name))

abbrev pub names_no_type : Declarations → List ℕ → Bool
names_no_type p name = not (holds (class_number p.names name) (is_type_class p))

abbrev pub names_no_mission : Declarations → List ℕ → Bool
names_no_mission p name =
    not (holds (class_number p.names name) (λ class. is_among mission (superclasses p.written class)))

-- C9 at a declared type, and at the element type of a new array
unfoldable pub c9_type : Declarations → Node → Option (List Found)
c9_type p (ClassType position name argument is_array) = Some (broken (names_no_type p name) C9 position)
c9_type p _ = None

unfoldable pub c9_element : Declarations → Node → Option (List Found)
c9_element p (ClassType position name argument is_array) = Some (broken (names_no_class p name) C9 position)
c9_element p _ = None

-- what a rule finds at the node of a number
abbrev pub at_node : Declarations → (Node → Option (List Found)) → ℕ → List Found
at_node p rule id = found_at (read p.nodes rule id) (λ found. found)

-- C9, unknown type (JLS 6.5.5)
unfoldable pub c9 : Declarations → Node → List Found
c9 p (Field position name flags declared_type equals value) = at_node p (c9_type p) declared_type
c9 p (Method position name flags result_type parameters body) = at_node p (c9_type p) result_type
c9 p (Parameter position name flags declared_type) = at_node p (c9_type p) declared_type
c9 p (Local position name flags declared_type) = at_node p (c9_type p) declared_type
c9 p (LocalWithValue position name_position name flags declared_type value) = at_node p (c9_type p) declared_type
c9 p (TypeArgument position name) = broken (names_no_mission p name) C9 position
c9 p (New position name_position name arguments) = broken (names_no_class p name) C9 name_position
c9 p (Cast position name_position name operand) = broken (names_no_class p name) C9 name_position
c9 p (NewArray position element length) = at_node p (c9_element p) element
c9 p _ = []

-- C10, forbidden super (JLS 8.1.4, 8.1.5; that a class is of one kind at most is this checker's own)
unfoldable pub c10 : Declarations → WrittenClass → List Found
c10 p c = broken_at C10 (forbidden_supers p.names p.written c)

-- the class implements one of the interfaces, which declares a method of the name
abbrev pub implements_method : Declarations → List ℕ → List ℕ → ℕ → Bool
implements_method p interfaces name class =
    list_any (λ i. is_among i interfaces && is_some (own_method p.classes name i)) (all_interfaces p.classes class)

-- the method of the name that a class has is declared at the node
abbrev pub has_method_of_node : Declarations → ℕ → List ℕ → ℕ → Bool
has_method_of_node p node name class =
    holds (method_named p.classes class name) (λ (f : FoundMethod).
    not (is_some f.method.builtin) && (f.method.declared.node == node))

-- a class has the method that is declared at the node as a method of one of the interfaces
unfoldable pub inherits_as : Declarations → List ℕ → ℕ → List ℕ → ℕ → Bool
inherits_as p interfaces node name class =
    implements_method p interfaces name class && has_method_of_node p node name class

-- the numbers from n on, as many as the list has elements
unfoldable pub numbers_from : {A : Type 0} → ℕ → List A → List ℕ
numbers_from n [] = []
numbers_from n (x ∷ xs) = n ∷ numbers_from (n + 1) xs

-- a method overrides or implements one of the framework, in its own class, or in one that inherits it as a method of
-- Safelet or Runnable
unfoldable pub is_framework_method : Declarations → Option ℕ → ℕ → List ℕ → Bool
is_framework_method p class node name =
    holds class (λ c. is_some (framework_row_named p.classes c name))
    || list_any (inherits_as p (safelet ∷ runnable ∷ []) node name) (numbers_from 0 p.classes)

-- the annotations and modifiers that only a class may have, and those that only a method may have
abbrev pub has_class_words : Modifiers → Bool
has_class_words m = m.defines_scope

abbrev pub has_method_words : Modifiers → Bool
has_method_words m = is_some m.runs_in || m.is_synchronized

-- a word is misplaced on a class; a field; a parameter or local; a method; a constructor
abbrev pub is_misplaced_on_class : Modifiers → Bool
is_misplaced_on_class m = has_method_words m || m.is_static

abbrev pub is_misplaced_on_field : Modifiers → Bool
is_misplaced_on_field m = has_class_words m || has_method_words m || m.is_abstract

abbrev pub is_misplaced_on_variable : Modifiers → Bool
is_misplaced_on_variable m = has_class_words m || has_method_words m || m.is_static || m.is_abstract

-- `synchronized` stands on a method that can't have it
abbrev pub is_wrongly_synchronized : Declarations → ℕ → List ℕ → Modifiers → Bool
is_wrongly_synchronized p id name m =
    m.is_synchronized && (m.is_static || m.is_abstract || is_framework_method p (context p id).class id name)

abbrev pub is_misplaced_on_method : Declarations → ℕ → List ℕ → Modifiers → Bool
is_misplaced_on_method p id name m =
    has_class_words m || (m.is_static && m.is_abstract) || is_wrongly_synchronized p id name m

-- the class of the node has the name
abbrev pub is_named_as_class : Declarations → ℕ → List ℕ → Bool
is_named_as_class p id name =
    holds (context p id).class (λ class.
    holds (slice_get p.classes class) (λ (row : ClassRow). is_same row.name name))

abbrev pub is_misplaced_on_constructor : Declarations → ℕ → List ℕ → Modifiers → Bool
is_misplaced_on_constructor p id name m =
    has_class_words m || has_method_words m || m.is_static || m.is_abstract || is_some m.scope
    || not (is_named_as_class p id name)

-- C11, misplaced word (JLS 8.1.1, 8.3.1, 8.4.1, 8.4.3, 8.8)
unfoldable pub c11 : Declarations → ℕ → Node → List Found
c11 p id (Class position name flags header members) =
    broken (is_misplaced_on_class (modifiers_at p.nodes flags)) C11 position
c11 p id (Field position name flags declared_type equals value) =
    broken (is_misplaced_on_field (modifiers_at p.nodes flags)) C11 position
c11 p id (Method position name flags result_type parameters body) =
    broken (is_misplaced_on_method p id name (modifiers_at p.nodes flags)) C11 position
c11 p id (Constructor position name flags parameters super_call body) =
    broken (is_misplaced_on_constructor p id name (modifiers_at p.nodes flags)) C11 position
c11 p id (Parameter position name flags declared_type) =
    broken (is_misplaced_on_variable (modifiers_at p.nodes flags)) C11 position
c11 p id (Local position name flags declared_type) =
    broken (is_misplaced_on_variable (modifiers_at p.nodes flags)) C11 position
c11 p id (LocalWithValue position name_position name flags declared_type value) =
    broken (is_misplaced_on_variable (modifiers_at p.nodes flags)) C11 name_position
c11 p id _ = []

-- the breaks at a user class, and at a node
unfoldable pub class_breaks : Declarations → ℕ → ClassRow → WrittenClass → List Found
class_breaks p class row c =
    c1 p class c
    ++ (c2 p c ++ (c3 p class c ++ (c4 p class row ++ (c5 p c ++ (c6 p class row ++ (c7 p class c row ++ c10 p c))))))

unfoldable pub node_breaks : Declarations → ℕ → Node → List Found
node_breaks p id node = c9 p node ++ c11 p id node

-- The types of expressions (JLS, chapters 4 and 15), and the declaration that a name, an access, a call or a `new`
-- resolves to. Each node is judged by itself, from the types of its children: a node with an ill-typed child has no
-- type and breaks nothing. One rule is asked whatever the children are: T14 of a `new` or a new array of a form class
-- outside a form.
use Rattle.std.specs.Prelude.{ℕ, Bool, true, false, not, ◌&&◌, ◌||◌, ◌==◌, List, [], ◌∷◌, length, slice_get, Option, Some, None, if◌then◌else◌, is_some, option_map, codes}
use Rattle.std.specs.List.{list_any}
use Rattle.scj_builtins.specs.Framework.{object, periodic_handler, aperiodic_handler, mission_sequencer, priority_parameters, periodic_parameters, aperiodic_parameters, storage_parameters, relative_time}
use Rattle.scj_base.specs.Vocabulary.{sign_equal, sign_not_equal, sign_less, sign_greater, sign_less_equal, sign_greater_equal, sign_and_and, sign_or_or, sign_not}
use Rattle.scj_tree.specs.declared.nodes.Node.{Node}
use Rattle.scj_tree.specs.declared.nodes.Node.TheVariants.{Block, If, While, Return, SimpleName, New, True}
use Rattle.scj_rules.specs.declared.typing.Ty.{Ty}
use Rattle.scj_rules.specs.declared.typing.Ty.TheVariants.{Int, Bool as Boolean, Void, NullTy, Label, Class as ClassTy, IntArray, BoolArray, ClassArray}
use Rattle.scj_rules.specs.Definitions.{read}
use Rattle.scj_base.specs.Bytes.{is_same}
use Rattle.scj_rules.specs.Words.{◌>>=◌, is_among, holds}
use Rattle.scj_rules.specs.Views.{DeclaredConstructor}
use Rattle.scj_rules.specs.Classes.{ClassRow, FoundMethod, class_number, superclass_in, is_sub, field_named, method_named, framework_row_named}
use Rattle.scj_rules.specs.ClassRules.{is_same_type}
use Rattle.scj_rules.specs.Contexts.{Declarations, context, variable_named}
use Rattle.scj_builtins.specs.declared.kinds.ClassKind.{ClassKind}
use Rattle.scj_builtins.specs.declared.kinds.ClassKind.TheVariants.{Concrete as concrete_class, Form as form_only}
use Rattle.scj_rules.specs.declared.typing.FoundField.{FoundField}
use Rattle.scj_rules.specs.declared.views.Declared.{Declared}
use Rattle.scj_rules.specs.declared.views.WrittenType.{WrittenType}
use Rattle.scj_rules.specs.declared.views.WrittenType.TheVariants.{Boolean as boolean_type, BooleanArray as boolean_array, Class as class_type, ClassArray as class_array, Int as int_type, IntArray as int_array, Long as long_type, Text as text_type, Void as void_type}
use Rattle.scj_rules.specs.declared.typing.Meaning.{Meaning}
use Rattle.scj_rules.specs.declared.typing.Meaning.TheVariants.{Variable as a_variable, Field as a_field, Class as a_class, Nothing as nothing}
use Rattle.scj_rules.specs.declared.typing.Receiver.{Receiver}
use Rattle.scj_rules.specs.declared.typing.Receiver.TheVariants.{Class as the_class, Value as the_value, Own as own_object}

-- ---- types

-- the type that is written; `long` is none of the types of an expression
unfoldable pub type_written : List (List ℕ) → WrittenType → Option Ty
type_written names int_type = Some Int
type_written names boolean_type = Some Boolean
type_written names void_type = Some Void
type_written names long_type = None
type_written names text_type = Some Label
type_written names int_array = Some IntArray
type_written names boolean_array = Some BoolArray
type_written names (class_type name) = option_map (λ class. ClassTy class) (class_number names name)
type_written names (class_array name) = option_map (λ class. ClassArray class) (class_number names name)

unfoldable pub are_same : Ty → Ty → Bool
are_same Int Int = true
are_same Boolean Boolean = true
are_same Void Void = true
are_same NullTy NullTy = true
are_same Label Label = true
are_same IntArray IntArray = true
are_same BoolArray BoolArray = true
are_same (ClassTy a) (ClassTy b) = a == b
are_same (ClassArray a) (ClassArray b) = a == b
are_same _ _ = false

abbrev pub is_int : Ty → Bool
is_int t = are_same t Int

abbrev pub is_boolean : Ty → Bool
is_boolean t = are_same t Boolean

-- a class, interface or array type, or the type of null (JLS 4.1)
unfoldable pub is_reference : Ty → Bool
is_reference NullTy = true
is_reference (ClassTy class) = true
is_reference IntArray = true
is_reference BoolArray = true
is_reference (ClassArray class) = true
is_reference _ = false

unfoldable pub is_array : Ty → Bool
is_array IntArray = true
is_array BoolArray = true
is_array (ClassArray class) = true
is_array _ = false

-- a value of type s may be assigned to a variable of type t (JLS 5.2)
unfoldable pub assigns : List ClassRow → Ty → Ty → Bool
assigns rows NullTy t = is_reference t
assigns rows (ClassTy a) (ClassTy b) = is_sub rows a b
assigns rows s t = are_same s t

-- the type of an array's elements (JLS 10.1), and of an array of some type
unfoldable pub element_type : Ty → Option Ty
element_type IntArray = Some Int
element_type BoolArray = Some Boolean
element_type (ClassArray class) = Some (ClassTy class)
element_type _ = None

unfoldable pub array_of : Ty → Option Ty
array_of Int = Some IntArray
array_of Boolean = Some BoolArray
array_of (ClassTy class) = Some (ClassArray class)
array_of _ = None

-- ---- operators (JLS 15.15 to 15.24)

abbrev pub conditional_operators : List ℕ
conditional_operators = sign_and_and ∷ sign_or_or ∷ []

abbrev pub relational_operators : List ℕ
relational_operators = sign_less ∷ sign_greater ∷ sign_less_equal ∷ sign_greater_equal ∷ []

abbrev pub equality_operators : List ℕ
equality_operators = sign_equal ∷ sign_not_equal ∷ []

-- two ints, two booleans, or two references of which one may be assigned to the other's type (JLS 15.21)
abbrev pub are_comparable : List ClassRow → Ty → Ty → Bool
are_comparable rows a b =
    (is_int a && is_int b) || ((is_boolean a && is_boolean b)
    || (is_reference a && (is_reference b && (assigns rows a b || assigns rows b a))))

-- the type of a binary operator's value at operands of these types, if they fit
unfoldable pub binary_type : List ClassRow → ℕ → Ty → Ty → Option Ty
binary_type rows operator a b =
    if is_among operator conditional_operators then (if is_boolean a && is_boolean b then Some Boolean else None)
    else (if is_among operator relational_operators then (if is_int a && is_int b then Some Boolean else None)
    else (if is_among operator equality_operators then (if are_comparable rows a b then Some Boolean else None)
    else (if is_int a && is_int b then Some Int else None)))

unfoldable pub unary_type : ℕ → Ty → Option Ty
unary_type operator a =
    if operator == sign_not then (if is_boolean a then Some Boolean else None)
    else (if is_int a then Some Int else None)

-- ---- names (JLS 6.5)

unfoldable pub class_meaning : Declarations → ℕ → List ℕ → Meaning
class_meaning p id name =
    if (context p id).before_dot then (elim (class_number p.names name) [ None ↦ nothing | Some class ↦ a_class class ])
    else nothing

unfoldable pub meaning : Declarations → ℕ → List ℕ → Meaning
meaning p id name =
    elim (variable_named p id name) [
      | Some v ↦ a_variable v
      | None ↦ elim ((context p id).class >>= λ class. field_named p.classes class name) [
        | Some f ↦ a_field f
        | None ↦ class_meaning p id name
      ]
    ]

unfoldable pub class_in : Meaning → Option ℕ
class_in (a_class class) = Some class
class_in _ = None

-- the class that a node names, where it is a simple name that stands for a class
unfoldable pub class_at_name : Declarations → ℕ → Node → Option ℕ
class_at_name p id (SimpleName position name) = class_in (meaning p id name)
class_at_name p id _ = None

unfoldable pub receiver : Declarations → (ℕ → Option Ty) → ℕ → Option Receiver
receiver p types object =
    elim (read p.nodes (class_at_name p object) object) [
      | Some class ↦ Some (the_class class)
      | None ↦ option_map (λ t. the_value t) (types object)
    ]

-- of a call: where no object is written it is the class in which the call stands
unfoldable pub call_receiver : Declarations → (ℕ → Option Ty) → ℕ → Option ℕ → Option Receiver
call_receiver p types id (Some object) = receiver p types object
call_receiver p types id None = option_map (λ class. own_object class) (context p id).class

-- the class whose members a receiver has
unfoldable pub class_of_receiver : Receiver → Option ℕ
class_of_receiver (the_class class) = Some class
class_of_receiver (the_value (ClassTy class)) = Some class
class_of_receiver (the_value _) = None
class_of_receiver (own_object class) = Some class

unfoldable pub names_class : Receiver → Bool
names_class (the_class class) = true
names_class _ = false

unfoldable pub is_value : Receiver → Bool
is_value (the_value t) = true
is_value _ = false

unfoldable pub type_of_receiver : Receiver → Option Ty
type_of_receiver (the_value t) = Some t
type_of_receiver _ = None

-- a receiver that is a value of type int, boolean or void, or a text
abbrev pub is_no_reference : Receiver → Bool
is_no_reference r = holds (type_of_receiver r) (λ t. not (is_reference t))

abbrev pub is_array_value : Receiver → Bool
is_array_value r = holds (type_of_receiver r) is_array

abbrev pub accessed_field : Declarations → Receiver → List ℕ → Option FoundField
accessed_field p r name = class_of_receiver r >>= λ class. field_named p.classes class name

abbrev pub called_method : Declarations → Receiver → List ℕ → Option FoundMethod
called_method p r name = class_of_receiver r >>= λ class. method_named p.classes class name

-- the method that a call invokes, and its number where it is the framework's
abbrev pub method_called : Declarations → (ℕ → Option Ty) → ℕ → Option ℕ → List ℕ → Option FoundMethod
method_called p types id object name = call_receiver p types id object >>= (λ r. called_method p r name)

abbrev pub called_builtin : Declarations → (ℕ → Option Ty) → ℕ → Option ℕ → List ℕ → Option ℕ
called_builtin p types id object name =
    method_called p types id object name >>= (λ (f : FoundMethod). f.method.builtin)

abbrev pub is_length : List ℕ → Bool
is_length name = is_same name (codes "length")

abbrev pub is_length_of_array : Receiver → List ℕ → Bool
is_length_of_array r name = is_array_value r && is_length name

-- a method that nobody calls: one of the framework that isn't callable, and the size methods
abbrev pub is_size_method : Declarations → FoundMethod → Bool
is_size_method p f =
    is_same_type f.method.declared.declared_type long_type
    && holds (framework_row_named p.classes f.on f.method.declared.name)
    (λ (row : FoundMethod). is_same_type row.method.declared.declared_type long_type)

abbrev pub is_callable : Declarations → FoundMethod → Bool
is_callable p f = f.method.callable && not (is_size_method p f)

-- a parameter list takes the arguments, each of a known type (JLS 15.12.2); a text fits a framework's parameter alone
unfoldable pub accepts_arguments : Declarations → List Declared → List Ty → Bool
accepts_arguments p [] [] = true
accepts_arguments p [] (t ∷ ts) = false
accepts_arguments p (d ∷ ds) [] = false
accepts_arguments p (d ∷ ds) (t ∷ ts) =
    holds (type_written p.names d.declared_type) (assigns p.classes t) && accepts_arguments p ds ts

-- the types of all these nodes, if each has one
unfoldable pub all_types : (ℕ → Option Ty) → List ℕ → Option (List Ty)
all_types types [] = Some []
all_types types (id ∷ ids) = types id >>= λ t. option_map (λ ts. t ∷ ts) (all_types types ids)

-- the parameters of a class's constructor: none where none is written (JLS 8.8.9)
unfoldable pub constructor_in : List ClassRow → ℕ → Option DeclaredConstructor
constructor_in rows class =
    slice_get rows class >>= λ (row : ClassRow). elim row.constructors [ [] ↦ None | c ∷ cs ↦ Some c ]

unfoldable pub constructor_parameters : List ClassRow → ℕ → List Declared
constructor_parameters rows class = elim (constructor_in rows class) [ None ↦ [] | Some c ↦ c.parameters ]

abbrev pub kind_is : (ClassKind → Bool) → Declarations → ℕ → Bool
kind_is test p class = holds (slice_get p.classes class) (λ (row : ClassRow). test row.kind)

unfoldable pub is_concrete : ClassKind → Bool
is_concrete concrete_class = true
is_concrete _ = false

unfoldable pub is_form : ClassKind → Bool
is_form form_only = true
is_form _ = false

-- ---- the form with which the constructor of a handler or a sequencer begins (JSR 302: PriorityParameters,
-- PeriodicParameters, AperiodicParameters, StorageParameters)

-- the arguments of `new class(..)` at this node, where they are so many
unfoldable pub new_of : Declarations → ℕ → ℕ → Node → Option (List ℕ)
new_of p class count (New position name_position name arguments) =
    if holds (class_number p.names name) (λ c. c == class) && (length arguments == count) then Some arguments else None
new_of p class count _ = None

abbrev pub is_new : Declarations → ℕ → ℕ → ℕ → Bool
is_new p class count id = is_some (read p.nodes (new_of p class count) id)

-- `new PeriodicParameters(new RelativeTime(e, e), new RelativeTime(e, e))`: its own node, the start's and the period's
unfoldable pub periodic_part : Declarations → ℕ → List ℕ → Option (List ℕ)
periodic_part p id (start ∷ period ∷ []) =
    if is_new p relative_time 2 start && is_new p relative_time 2 period then Some (id ∷ start ∷ period ∷ []) else None
periodic_part p id _ = None

-- the release parameters of a handler's form, its second part
unfoldable pub release_part : Declarations → ℕ → ℕ → Option (List ℕ)
release_part p superclass id =
    if superclass == periodic_handler then read p.nodes (new_of p periodic_parameters 2) id >>= periodic_part p id
    else (if is_new p aperiodic_parameters 0 id then Some (id ∷ []) else None)

abbrev pub have_priority_and_storage : Declarations → ℕ → ℕ → Bool
have_priority_and_storage p priority storage =
    is_new p priority_parameters 1 priority && is_new p storage_parameters 1 storage

-- the `new` parts of the arguments of a super call, where they are of the form of this framework superclass
unfoldable pub form_parts : Declarations → ℕ → List ℕ → Option (List ℕ)
form_parts p superclass (priority ∷ storage ∷ []) =
    if (superclass == mission_sequencer) && have_priority_and_storage p priority storage
    then Some (priority ∷ storage ∷ []) else None
form_parts p superclass (priority ∷ release ∷ storage ∷ []) =
    if not (superclass == mission_sequencer) && have_priority_and_storage p priority storage
    then option_map (λ parts. priority ∷ storage ∷ parts) (release_part p superclass release) else None
form_parts p superclass _ = None

-- the superclasses under which a constructor begins with the form
abbrev pub has_form : ℕ → Bool
has_form class = is_among class (periodic_handler ∷ aperiodic_handler ∷ mission_sequencer ∷ [])

-- the arguments of the super call that is written in a class's constructor
abbrev pub super_call_in : Declarations → ℕ → Option (List ℕ)
super_call_in p class = constructor_in p.classes class >>= λ (c : DeclaredConstructor). c.super_call

-- the parts of the form in a class's constructor, where the class stands directly under such a class and its super call
-- is
-- of the form
unfoldable pub form_in : Declarations → ℕ → Option (List ℕ)
form_in p class =
    superclass_in p.classes class >>= λ superclass.
    if has_form superclass then super_call_in p class >>= form_parts p superclass else None

-- the node is one of the parts of its class's form
unfoldable pub is_form_part : Declarations → ℕ → Bool
is_form_part p id =
    (context p id).in_super_call && holds (context p id).class (λ class. holds (form_in p class) (is_among id))

-- ---- statements that always return (as JLS 14.21, but for unreachable statements)

unfoldable pub is_true_literal : Node → Option Bool
is_true_literal (True position) = Some true
is_true_literal _ = None

unfoldable pub returns_of : List Node → (ℕ → Bool) → Node → Bool
returns_of nodes returns (Return position value) = true
returns_of nodes returns (Block position statements) = list_any returns statements
returns_of nodes returns (If position condition then_part else_part) =
    holds else_part (λ other. returns then_part && returns other)
returns_of nodes returns (While position condition body) = is_some (read nodes is_true_literal condition)
returns_of nodes returns _ = false

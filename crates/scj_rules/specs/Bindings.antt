-- What each node of a well-typed program stands for: what its name, access, call, `new` or cast means where it is
-- typed.
use Rattle.std.specs.Prelude.{ℕ, ◌+◌, not, ◌==◌, List, [], ◌∷◌, length, position, slice_get, Option, Some, None, if◌then◌else◌, option_map, unwrap_or}
use Rattle.scj_builtins.specs.Framework.{managed_memory}
use Rattle.scj_tree.specs.declared.nodes.Node.{Node}
use Rattle.scj_tree.specs.declared.nodes.Node.TheVariants.{Class, Field, Constructor, Parameter, SuperCall, Local, LocalWithValue, Cast, SimpleName, FieldAccess, Call, New, NewArray}
use Rattle.scj_tree.specs.Recursion.{lookup, listed}
use Rattle.scj_rules.specs.declared.typing.Ty.{Ty}
use Rattle.scj_rules.specs.declared.typing.Ty.TheVariants.{Class as ClassTy, IntArray, BoolArray, ClassArray}
use Rattle.scj_rules.specs.declared.typing.Binding.{Binding}
use Rattle.scj_rules.specs.declared.typing.Binding.TheVariants.{Plain, Local as LocalVariable, Field as InstanceField, Static, Length, Class as ClassNamed, Method, StaticMethod, Builtin}
use Rattle.scj_rules.specs.declared.typing.Target.{Target}
use Rattle.scj_rules.specs.Classes.{FoundMethod, class_number, superclass_in, field_number, method_number}
use Rattle.scj_rules.specs.Words.{◌>>=◌}
use Rattle.scj_rules.specs.LimitRules.{variables_of}
use Rattle.scj_rules.specs.ClassRules.{is_same_type}
use Rattle.scj_rules.specs.Contexts.{Declarations, context}
use Rattle.scj_rules.specs.Types.{array_of, meaning, receiver, call_receiver, class_of_receiver, is_length_of_array, accessed_field, called_method, is_form_part}
use Rattle.scj_rules.specs.TypeRules.{Types, written_type, superclass_at, types_in}
use Rattle.scj_rules.specs.declared.typing.FoundField.{FoundField}
use Rattle.scj_rules.specs.declared.typing.Meaning.{Meaning}
use Rattle.scj_rules.specs.declared.typing.Meaning.TheVariants.{Class as a_class, Field as a_field, Nothing as nothing, Variable as a_variable}
use Rattle.scj_rules.specs.declared.typing.Receiver.{Receiver}
use Rattle.scj_rules.specs.declared.typing.Receiver.TheVariants.{Class as the_class}
use Rattle.scj_rules.specs.declared.views.Declared.{Declared}
use Rattle.scj_rules.specs.declared.views.WrittenType.TheVariants.{Void as void_type}

-- the number of an array's class: behind the classes, first of int, then of boolean, then of each class
unfoldable pub array_class : Declarations → Ty → Option ℕ
array_class p IntArray = Some (length p.names)
array_class p BoolArray = Some (length p.names + 1)
array_class p (ClassArray class) = Some (length p.names + 2 + class)
array_class p _ = None

abbrev pub plain_or : {A : Type 0} → (A → Binding) → Option A → Binding
plain_or f o = unwrap_or (option_map f o) Plain

-- a variable, by its number among those of its member
unfoldable pub variable_binding : Declarations → ℕ → ℕ → Binding
variable_binding p id variable =
    plain_or (λ k. LocalVariable k)
    ((context p id).member >>= λ member. position (λ v. v == variable) (variables_of p member))

unfoldable pub field_binding : Declarations → Declared → Binding
field_binding p f =
    plain_or (λ k. if f.modifiers.is_static then Static k else InstanceField k) (field_number p.classes f.node)

abbrev pub class_binding : Option ℕ → Binding
class_binding class = plain_or (λ c. ClassNamed c) class

unfoldable pub meaning_binding : Declarations → ℕ → Meaning → Binding
meaning_binding p id (a_variable v) = variable_binding p id v
meaning_binding p id (a_field f) = field_binding p f.field
meaning_binding p id (a_class class) = ClassNamed class
meaning_binding p id nothing = Plain

unfoldable pub access_binding : Declarations → Receiver → List ℕ → Binding
access_binding p r name =
    if is_length_of_array r name then Length
    else plain_or (λ (f : FoundField). field_binding p f.field) (accessed_field p r name)

unfoldable pub class_of_type : Ty → Option ℕ
class_of_type (ClassTy class) = Some class
class_of_type _ = None

-- the type of the second argument, where it is a class
unfoldable pub second_class : Types → List ℕ → Option ℕ
second_class types (first ∷ second ∷ []) = types second >>= class_of_type
second_class types _ = None

-- the class on which a method is called
unfoldable pub called_on : Types → Receiver → FoundMethod → List ℕ → ℕ
called_on types r f arguments =
    if f.on == managed_memory then unwrap_or (second_class types arguments) f.on
    else (if f.method.declared.modifiers.is_static then f.on else unwrap_or (class_of_receiver r) f.on)

unfoldable pub target : Types → Receiver → FoundMethod → List ℕ → ℕ → Target
target types r f arguments id =
    record {
      id = id;
      on = called_on types r f arguments;
      gives = not (is_same_type f.method.declared.declared_type void_type);
    }

abbrev pub user_method_binding : Types → Receiver → List ℕ → FoundMethod → ℕ → Binding
user_method_binding types r arguments f number =
    if f.method.declared.modifiers.is_static then StaticMethod (target types r f arguments number)
    else Method (target types r f arguments number)

unfoldable pub method_binding : Declarations → Types → Receiver → List ℕ → FoundMethod → Binding
method_binding p types r arguments f =
    elim f.method.builtin [
      | Some number ↦ Builtin (target types r f arguments number)
      | None ↦ plain_or (user_method_binding types r arguments f)
          (method_number p.nodes p.users f.method.declared.node)
    ]

unfoldable pub binding_of : Declarations → Types → ℕ → Node → Binding
binding_of p types id (Parameter position name flags declared_type) = variable_binding p id id
binding_of p types id (Local position name flags declared_type) = variable_binding p id id
binding_of p types id (LocalWithValue position name_position name flags declared_type value) = variable_binding p id id
binding_of p types id (Field position name flags declared_type equals value) =
    plain_or (λ (row : FoundField). field_binding p row.field)
    ((context p id).class >>= λ class. accessed_field p (the_class class) name)
binding_of p types id (Class position name flags header members) =
    class_binding (class_number p.names name >>= superclass_in p.classes)
binding_of p types id (Constructor position name flags parameters super_call body) = class_binding (superclass_at p id)
binding_of p types id (SuperCall position arguments) = class_binding (superclass_at p id)
binding_of p types id (SimpleName position name) = meaning_binding p id (meaning p id name)
binding_of p types id (FieldAccess position name object) =
    plain_or (λ r. access_binding p r name) (receiver p types object)
binding_of p types id (Call position name object arguments) =
    plain_or (λ r. plain_or (method_binding p types r arguments) (called_method p r name))
    (call_receiver p types id object)
binding_of p types id (New position name_position name arguments) =
    if is_form_part p id then Plain else class_binding (class_number p.names name)
binding_of p types id (NewArray position element length) =
    class_binding (written_type p element >>= array_of >>= array_class p)
binding_of p types id (Cast position name_position name operand) = class_binding (class_number p.names name)
binding_of p types id _ = Plain

unfoldable pub binding_at : Declarations → Types → ℕ → Binding
binding_at p types id = plain_or (binding_of p types id) (slice_get p.nodes id)

-- what each node stands for
unfoldable pub bindings_in : Declarations → List Binding
bindings_in p = let types = types_in p in listed (binding_at p (lookup None types)) (length p.nodes)

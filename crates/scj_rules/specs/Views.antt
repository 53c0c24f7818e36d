-- The declarations at the nodes of a program: annotations and modifiers, types, fields, methods, constructors and
-- classes as they are written (JLS 8.1, 8.3, 8.4, 8.8).
use Rattle.std.specs.Prelude.{ℕ, Bool, true, false, List, [], slice_get, filter_map, Option, Some, None, if◌then◌else◌, unwrap_or, is_some}
use Rattle.scj_base.specs.declared.positions.Position.{Position}
use Rattle.scj_tree.specs.declared.nodes.Node.{Node}
use Rattle.scj_tree.specs.declared.nodes.Node.TheVariants.{Class, Flags, Supers, SuperType, IntType, BooleanType, ClassType, VoidType, LongType, Field, Method, Constructor, Parameters, Parameter, SuperCall, Local, LocalWithValue}
use Rattle.scj_tree.specs.Shape.{position_of}
use Rattle.scj_rules.specs.declared.scopes.Written.{Written}
use Rattle.scj_rules.specs.Definitions.{read, written_of}
use Rattle.scj_rules.specs.Words.{◌>>=◌}
use Rattle.scj_rules.specs.declared.views.Modifiers.{Modifiers}
use Rattle.scj_rules.specs.declared.views.WrittenType.{WrittenType}
use Rattle.scj_rules.specs.declared.views.WrittenType.TheVariants.{Int as int_type, Boolean as boolean_type, Void as void_type, Long as long_type, IntArray as int_array, BooleanArray as boolean_array, Class as class_type, ClassArray as class_array}
use Rattle.scj_rules.specs.declared.views.Declared.{Declared}

-- the place of what no source declares
abbrev pub nowhere : Position
nowhere = record { file = 0; line = 0; col = 0 }

abbrev pub position_at : List Node → ℕ → Position
position_at nodes id = elim (slice_get nodes id) [ None ↦ nowhere | Some node ↦ position_of node ]

abbrev pub no_modifiers : Modifiers
no_modifiers =
    record {
      defines_scope = false;
      scope = None;
      runs_in = None;
      is_static = false;
      is_abstract = false;
      is_synchronized = false;
    }

unfoldable pub modifiers_of : List Node → Node → Option Modifiers
modifiers_of nodes (Flags position define_scope scope runs_in is_static is_abstract is_synchronized) =
    Some (record {
      defines_scope = is_some define_scope;
      scope = scope >>= read nodes written_of;
      runs_in = runs_in >>= read nodes written_of;
      is_static = is_static;
      is_abstract = is_abstract;
      is_synchronized = is_synchronized;
    })
modifiers_of nodes _ = None

abbrev pub modifiers_at : List Node → Option ℕ → Modifiers
modifiers_at nodes flags = unwrap_or (flags >>= read nodes (modifiers_of nodes)) no_modifiers

unfoldable pub type_of_node : Node → Option WrittenType
type_of_node (IntType position is_array) = Some (if is_array then int_array else int_type)
type_of_node (BooleanType position is_array) = Some (if is_array then boolean_array else boolean_type)
type_of_node (ClassType position name argument is_array) = Some (if is_array then class_array name else class_type name)
type_of_node (VoidType position) = Some void_type
type_of_node (LongType position) = Some long_type
type_of_node _ = None

abbrev pub type_at : List Node → ℕ → WrittenType
type_at nodes id = unwrap_or (read nodes type_of_node id) void_type

-- a class that is named after `extends` or `implements`
unfoldable pub named_super : Node → Option Written
named_super (SuperType position name argument) = Some (record { name = name; position = position })
named_super _ = None

-- the names after `extends`, and those after `implements`
unfoldable pub named_supers : List Node → Node → Option (Option Written × List Written)
named_supers nodes (Supers position superclass interfaces) =
    Some (superclass >>= read nodes named_super, filter_map (read nodes named_super) interfaces)
named_supers nodes _ = None

-- a declaration at a node, from the nodes of its modifiers and its type
abbrev pub declared : List Node → ℕ → Position → List ℕ → Option ℕ → ℕ → Declared
declared nodes node position name flags declared_type =
    record {
      node = node;
      position = position;
      name = name;
      modifiers = modifiers_at nodes flags;
      declared_type = type_at nodes declared_type;
    }

-- a parameter or a local
unfoldable pub variable_of : List Node → ℕ → Node → Option Declared
variable_of nodes id (Parameter position name flags declared_type) =
    Some (declared nodes id position name flags declared_type)
variable_of nodes id (Local position name flags declared_type) = Some (declared nodes id position name flags declared_type)
variable_of nodes id (LocalWithValue position name_position name flags declared_type value) =
    Some (declared nodes id name_position name flags declared_type)
variable_of nodes id _ = None

abbrev pub variable_at : List Node → ℕ → Option Declared
variable_at nodes id = read nodes (variable_of nodes id) id

unfoldable pub field_of : List Node → ℕ → Node → Option Declared
field_of nodes id (Field position name flags declared_type equals value) =
    Some (declared nodes id position name flags declared_type)
field_of nodes id _ = None

abbrev pub field_at : List Node → ℕ → Option Declared
field_at nodes id = read nodes (field_of nodes id) id

unfoldable pub parameters_of : List Node → Node → Option (List Declared)
parameters_of nodes (Parameters position list) = Some (filter_map (variable_at nodes) list)
parameters_of nodes _ = None

abbrev pub parameters_at : List Node → Option ℕ → List Declared
parameters_at nodes parameters = unwrap_or (parameters >>= read nodes (parameters_of nodes)) []

-- a method: its declaration, whose type is the type of the result; its parameters; its body, if it has one; and the
-- number of a framework's method
pub record DeclaredMethod : Type 0 where
  pub declared : Declared
  pub parameters : List Declared
  pub body : Option ℕ
  pub builtin : Option ℕ
  pub callable : Bool
  pub overridable : Bool

unfoldable pub method_of : List Node → ℕ → Node → Option DeclaredMethod
method_of nodes id (Method position name flags result_type parameters body) =
    Some (record {
      declared = declared nodes id position name flags result_type;
      parameters = parameters_at nodes parameters;
      body = body;
      builtin = None;
      callable = true;
      overridable = true;
    })
method_of nodes id _ = None

abbrev pub method_at : List Node → ℕ → Option DeclaredMethod
method_at nodes id = read nodes (method_of nodes id) id

-- a constructor; `super_call` has the arguments of its super call, where it has one
pub record DeclaredConstructor : Type 0 where
  pub node : ℕ
  pub position : Position
  pub name : List ℕ
  pub modifiers : Modifiers
  pub parameters : List Declared
  pub super_call : Option (List ℕ)
  pub body : ℕ

unfoldable pub super_arguments : Node → Option (List ℕ)
super_arguments (SuperCall position arguments) = Some arguments
super_arguments _ = None

unfoldable pub constructor_of : List Node → ℕ → Node → Option DeclaredConstructor
constructor_of nodes id (Constructor position name flags parameters super_call body) =
    Some (record {
      node = id;
      position = position;
      name = name;
      modifiers = modifiers_at nodes flags;
      parameters = parameters_at nodes parameters;
      super_call = super_call >>= read nodes super_arguments;
      body = body;
    })
constructor_of nodes id _ = None

abbrev pub constructor_at : List Node → ℕ → Option DeclaredConstructor
constructor_at nodes id = read nodes (constructor_of nodes id) id

-- the name of a method or a constructor, and where it is named
unfoldable pub callable_name : Node → Option Written
callable_name (Method position name flags result_type parameters body) = Some (record { name = name; position = position })
callable_name (Constructor position name flags parameters super_call body) = Some (record { name = name; position = position })
callable_name _ = None

-- a class as it is written
pub record WrittenClass : Type 0 where
  pub node : ℕ
  pub position : Position
  pub name : List ℕ
  pub modifiers : Modifiers
  pub extends : Option Written
  pub implements : List Written
  pub members : List ℕ

unfoldable pub class_of : List Node → ℕ → Node → Option WrittenClass
class_of nodes id (Class position name flags header members) =
    let supers : Option Written × List Written = unwrap_or (header >>= read nodes (named_supers nodes)) (None, []) in
    Some (record {
      node = id;
      position = position;
      name = name;
      modifiers = modifiers_at nodes flags;
      extends = supers.0;
      implements = supers.1;
      members = members;
    })
class_of nodes id _ = None

abbrev pub class_at : List Node → ℕ → Option WrittenClass
class_at nodes id = read nodes (class_of nodes id) id

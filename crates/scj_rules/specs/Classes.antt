-- The classes of a program and their members (JLS 8.1.4, 8.1.5, 8.2, 4.10.2), and which superclasses and interfaces are
-- forbidden.
use Rattle.std.specs.Prelude.{ℕ, ◌+◌, nat_lt, Bool, true, false, not, ◌&&◌, ◌||◌, ◌==◌, List, [], ◌∷◌, ◌++◌, length, map, reverse, filter, filter_map, flat_map, find, position, slice_get, Option, Some, None, if◌then◌else◌, is_some, option_map}
use Rattle.std.specs.List.{list_any}
use Rattle.scj_builtins.specs.declared.kinds.GivesKind.{GivesKind}
use Rattle.scj_builtins.specs.declared.kinds.GivesKind.TheVariants.{Nothing, Number, Long, Truth, Sequencer, Mission}
use Rattle.scj_builtins.specs.declared.classes.FrameworkClass.{FrameworkClass}
use Rattle.scj_builtins.specs.declared.methods.FrameworkMethod.{FrameworkMethod}
use Rattle.scj_builtins.specs.Framework.{framework_class_count, framework_classes, framework_methods, parameter_list, object_name, runnable_name, mission_name, mission_sequencer_name, object, runnable, safelet, mission, mission_sequencer, periodic_handler, aperiodic_handler}
use Rattle.scj_tree.specs.declared.nodes.Node.{Node}
use Rattle.scj_tree.specs.Forest.{Forest, joined}
use Rattle.scj_rules.specs.declared.scopes.Written.{Written}
use Rattle.scj_base.specs.Bytes.{is_same}
use Rattle.scj_rules.specs.Words.{is_among, along, chain, chain_behind, holds, ◌>>=◌}
use Rattle.scj_rules.specs.Views.{nowhere, no_modifiers, DeclaredMethod, DeclaredConstructor, WrittenClass, class_at, field_at, method_at, constructor_at}
use Rattle.scj_builtins.specs.declared.kinds.ClassKind.{ClassKind}
use Rattle.scj_builtins.specs.declared.kinds.ClassKind.TheVariants.{Abstract as abstract_class, Concrete as concrete_class, Interface as interface_type}
use Rattle.scj_builtins.specs.declared.kinds.ParameterKind.{ParameterKind}
use Rattle.scj_builtins.specs.declared.kinds.ParameterKind.TheVariants.{Int as int_parameter, Object as object_parameter, Runnable as runnable_parameter, Text as text_parameter}
use Rattle.scj_rules.specs.declared.views.Declared.{Declared}
use Rattle.scj_rules.specs.declared.views.WrittenType.{WrittenType}
use Rattle.scj_rules.specs.declared.views.WrittenType.TheVariants.{Boolean as boolean_type, Class as class_type, Int as int_type, Long as long_type, Text as text_type, Void as void_type}
use Rattle.scj_rules.specs.declared.typing.FoundField.{FoundField}

-- ---- the numbers of classes: the framework's classes in their order, then the user's in the order of the sources,
-- then the arrays of int, of boolean and of each of these classes

abbrev pub first_user_class : ℕ
first_user_class = framework_class_count

abbrev pub is_user_class : ℕ → Bool
is_user_class class = not (nat_lt class first_user_class)

-- the nodes of the user classes in the order of the sources
abbrev pub class_nodes : Forest → List ℕ
class_nodes forest = joined forest.files

unfoldable pub user_classes : Forest → List WrittenClass
user_classes forest = filter_map (class_at forest.nodes) (class_nodes forest)

-- the name of each class, at its number
unfoldable pub class_names : List WrittenClass → List (List ℕ)
class_names users = map (λ (c : FrameworkClass). c.name) framework_classes ++ map (λ (c : WrittenClass). c.name) users

-- the class of a name: the first class that has it
unfoldable pub class_number : List (List ℕ) → List ℕ → Option ℕ
class_number names name = position (is_same name) names

-- ---- the rows of classes

-- a class with its superclass, its interfaces and its own members; `written` is the declaration of a user class
pub record ClassRow : Type 0 where
  pub written : Option WrittenClass
  pub name : List ℕ
  pub kind : ClassKind
  pub superclass : Option ℕ
  pub interfaces : List ℕ
  pub fields : List Declared
  pub methods : List DeclaredMethod
  pub constructors : List DeclaredConstructor

-- the result of a framework's method, and the type of a parameter, as a user class writes it
unfoldable pub result_written : GivesKind → WrittenType
result_written Nothing = void_type
result_written Number = int_type
result_written Long = long_type
result_written Truth = boolean_type
result_written Sequencer = class_type mission_sequencer_name
result_written Mission = class_type mission_name

unfoldable pub parameter_written : ParameterKind → WrittenType
parameter_written int_parameter = int_type
parameter_written text_parameter = text_type
parameter_written object_parameter = class_type object_name
parameter_written runnable_parameter = class_type runnable_name

abbrev pub of_framework : List ℕ → Bool → Bool → WrittenType → Declared
of_framework name is_static is_abstract type =
    record {
      node = 0;
      position = nowhere;
      name = name;
      modifiers = record no_modifiers { is_static = is_static; is_abstract = is_abstract };
      declared_type = type;
    }

unfoldable pub framework_method : FrameworkMethod → DeclaredMethod
framework_method m =
    record {
      declared = of_framework m.name m.is_static m.is_abstract (result_written m.gives);
      parameters = map (λ (p : ParameterKind). of_framework [] false false (parameter_written p))
          (parameter_list m.parameters);
      body = None;
      builtin = Some m.number;
      callable = m.callable;
      overridable = m.overridable;
    }

-- the methods of a framework class
unfoldable pub framework_methods_on : ℕ → List DeclaredMethod
framework_methods_on class = map framework_method (filter (λ (m : FrameworkMethod). m.on == class) framework_methods)

-- the superclass of every other framework class is Object, also of an interface (JLS 4.10.2)
unfoldable pub framework_row : ℕ → FrameworkClass → ClassRow
framework_row number c =
    record {
      written = None;
      name = c.name;
      kind = c.kind;
      superclass = if number == object then None else Some object;
      interfaces = [];
      fields = [];
      methods = framework_methods_on number;
      constructors = [];
    }

unfoldable pub framework_rows_from : ℕ → List FrameworkClass → List ClassRow
framework_rows_from number [] = []
framework_rows_from number (c ∷ cs) = framework_row number c ∷ framework_rows_from (number + 1) cs

-- a class without `extends` has the superclass Object (JLS 8.1.4)
unfoldable pub superclass_written : List (List ℕ) → Option Written → Option ℕ
superclass_written names None = Some object
superclass_written names (Some extends) = class_number names extends.name

unfoldable pub user_row : List Node → List (List ℕ) → WrittenClass → ClassRow
user_row nodes names c =
    record {
      written = Some c;
      name = c.name;
      kind = if c.modifiers.is_abstract then abstract_class else concrete_class;
      superclass = superclass_written names c.extends;
      interfaces = filter_map (λ (w : Written). class_number names w.name) c.implements;
      fields = filter_map (field_at nodes) c.members;
      methods = filter_map (method_at nodes) c.members;
      constructors = filter_map (constructor_at nodes) c.members;
    }

-- the classes as they are written, each at its number
unfoldable pub written_rows : List Node → List WrittenClass → List ClassRow
written_rows nodes users =
    let names = class_names users in
    framework_rows_from 0 framework_classes ++ map (user_row nodes names) users

-- ---- chains of classes

abbrev pub superclass_in : List ClassRow → ℕ → Option ℕ
superclass_in rows class = slice_get rows class >>= (λ (row : ClassRow). row.superclass)

-- the class, its superclass and so on: the chain of the class
unfoldable pub superclasses : List ClassRow → ℕ → List ℕ
superclasses rows class = chain (superclass_in rows) (length rows) class

-- the same from the superclass on
unfoldable pub classes_above : List ClassRow → ℕ → List ℕ
classes_above rows class = chain_behind (superclass_in rows) (length rows) class

abbrev pub interfaces_in : List ClassRow → ℕ → List ℕ
interfaces_in rows class = elim (slice_get rows class) [ None ↦ [] | Some row ↦ row.interfaces ]

-- the interfaces that the classes of the chain implement, those of the class itself first
unfoldable pub all_interfaces : List ClassRow → ℕ → List ℕ
all_interfaces rows class = flat_map (interfaces_in rows) (superclasses rows class)

-- b is the superclass of a or one of its interfaces
unfoldable pub is_super : List ClassRow → ℕ → ℕ → Bool
is_super rows a b = holds (superclass_in rows a) (λ c. c == b) || is_among b (interfaces_in rows a)

-- a is b or a subtype of it: b is the class, a class above it or an interface of one of these (JLS 4.10.2). The law
-- `subtypes_are_reached` says that these are what steps of `is_super` reach
unfoldable pub is_sub : List ClassRow → ℕ → ℕ → Bool
is_sub rows a b = is_among b (superclasses rows a) || is_among b (all_interfaces rows a)

-- ---- members

unfoldable pub own_field : List ClassRow → List ℕ → ℕ → Option FoundField
own_field rows name class =
    option_map
    (λ (f : Declared). record { on = class; field = f })
    (slice_get rows class >>= (λ (row : ClassRow). find (λ (f : Declared). is_same name f.name) row.fields))

unfoldable pub field_named : List ClassRow → ℕ → List ℕ → Option FoundField
field_named rows class name = along (own_field rows name) (superclasses rows class)

-- a method, with the class or interface that declares it
pub record FoundMethod : Type 0 where
  pub on : ℕ
  pub method : DeclaredMethod

unfoldable pub own_method : List ClassRow → List ℕ → ℕ → Option FoundMethod
own_method rows name class =
    option_map
    (λ (m : DeclaredMethod). record { on = class; method = m })
    (slice_get rows class
    >>= (λ (row : ClassRow). find (λ (m : DeclaredMethod). is_same name m.declared.name) row.methods))

-- the nearest declaration on the chain of superclasses, else that of an interface of the chain (JLS 8.4.8)
unfoldable pub method_named : List ClassRow → ℕ → List ℕ → Option FoundMethod
method_named rows class name = along (own_method rows name) (superclasses rows class ++ all_interfaces rows class)

-- the same without the class's own declaration: the method that a declaration of the class overrides
unfoldable pub method_above : List ClassRow → ℕ → List ℕ → Option FoundMethod
method_above rows class name = along (own_method rows name) (classes_above rows class ++ all_interfaces rows class)

-- the framework's declaration of a method of the name, where the class inherits or implements one
unfoldable pub framework_row_named : List ClassRow → ℕ → List ℕ → Option FoundMethod
framework_row_named rows class name =
    along
    (own_method rows name)
    (filter (λ c. not (is_user_class c)) (superclasses rows class ++ all_interfaces rows class))

unfoldable pub own_instance_fields : List ClassRow → ℕ → List Declared
own_instance_fields rows class =
    elim (slice_get rows class) [
      | None ↦ []
      | Some row ↦ filter (λ (f : Declared). not f.modifiers.is_static) row.fields
    ]

-- the instance fields of an object of a class that are declared: those of the class farthest above first, and of each
-- class in the order of its declaration
unfoldable pub instance_fields : List ClassRow → ℕ → List Declared
instance_fields rows class = flat_map (own_instance_fields rows) (reverse (superclasses rows class))

-- how many fields that nothing declares an object has before these: a handler's priority and storage, and a periodic
-- handler's start and period
unfoldable pub hidden_fields : List ClassRow → ℕ → ℕ
hidden_fields rows class =
    if is_among periodic_handler (superclasses rows class)
    then 4
    else (if is_among aperiodic_handler (superclasses rows class) then 2 else 0)

-- ---- the numbers of fields and methods

-- the nodes of the declared fields, each at its number
unfoldable pub field_nodes : List ClassRow → List ℕ
field_nodes rows = flat_map (λ (row : ClassRow). map (λ (f : Declared). f.node) row.fields) rows

unfoldable pub field_number : List ClassRow → ℕ → Option ℕ
field_number rows node = position (λ other. node == other) (field_nodes rows)

-- a method or constructor is declared at the node
abbrev pub is_callable : List Node → ℕ → Bool
is_callable nodes id = is_some (method_at nodes id) || is_some (constructor_at nodes id)

-- the nodes of the declared methods and constructors in the order of the sources
unfoldable pub method_nodes : List Node → List WrittenClass → List ℕ
method_nodes nodes users = flat_map (λ (c : WrittenClass). filter (is_callable nodes) c.members) users

-- the framework's methods have the first numbers
unfoldable pub method_number : List Node → List WrittenClass → ℕ → Option ℕ
method_number nodes users node =
    option_map (λ k. length framework_methods + k) (position (λ other. node == other) (method_nodes nodes users))

-- ---- what is forbidden in a header

-- the names in a header in their order
abbrev pub supers_named : WrittenClass → List Written
supers_named c = elim c.extends [ None ↦ c.implements | Some e ↦ e ∷ c.implements ]

-- C2: the names after `extends` and `implements` that no class has
abbrev pub unknown_supers : List (List ℕ) → WrittenClass → List Written
unknown_supers names c = filter (λ (w : Written). not (is_some (class_number names w.name))) (supers_named c)

-- C3: the class is among the classes above it
abbrev pub is_cyclic : List ClassRow → ℕ → Bool
is_cyclic rows class = is_among class (classes_above rows class)

-- the kinds of classes: a class may be of one of them at most
abbrev pub kinds : List ℕ
kinds = mission ∷ mission_sequencer ∷ periodic_handler ∷ aperiodic_handler ∷ runnable ∷ safelet ∷ []

abbrev pub is_kind : ℕ → Bool
is_kind class = is_among class kinds

-- those on the chain of a class and among the interfaces of that chain
unfoldable pub kinds_of : List ClassRow → ℕ → List ℕ
kinds_of rows class = filter (λ kind. is_among kind (superclasses rows class ++ all_interfaces rows class)) kinds

-- two of the kinds differ
unfoldable pub more_than_one : List ℕ → Bool
more_than_one [] = false
more_than_one (k ∷ ks) = list_any (λ m. not (m == k)) ks

-- a name adds the kinds `added` to those of the names before it: one of them is new, and the class is then of two kinds
abbrev pub brings_too_many : List ℕ → List ℕ → Bool
brings_too_many before added = list_any (λ k. not (is_among k before)) added && more_than_one (before ++ added)

-- all these kinds, without those that are repeated
unfoldable pub with_kinds : List ℕ → List ℕ → List ℕ
with_kinds before [] = before
with_kinds before (k ∷ ks) = with_kinds (if is_among k before then before else before ++ (k ∷ [])) ks

-- a class of this kind may be named after `extends`
unfoldable pub is_extended : ClassKind → Bool
is_extended concrete_class = true
is_extended abstract_class = true
is_extended _ = false

-- a class of this kind may be named after `implements`
unfoldable pub is_implemented : ClassKind → Bool
is_implemented interface_type = true
is_implemented _ = false

-- the class may not be named after `implements`, or it adds a second kind to those of the names before it
abbrev pub is_forbidden_interface : List ClassRow → List ℕ → ℕ → Bool
is_forbidden_interface rows before class =
    not (holds (slice_get rows class) (λ (row : ClassRow). is_implemented row.kind))
    || brings_too_many before (kinds_of rows class)

-- the class may not be named after `extends`, or is of two kinds itself
abbrev pub is_forbidden_superclass : List ClassRow → ℕ → Bool
is_forbidden_superclass rows class =
    not (holds (slice_get rows class) (λ (row : ClassRow). is_extended row.kind))
    || brings_too_many [] (kinds_of rows class)

-- the forbidden names after `implements`, where the names before them have these kinds; an unknown name breaks C2 alone
unfoldable pub forbidden_interfaces : List (List ℕ) → List ClassRow → List ℕ → List Written → List Written
forbidden_interfaces names rows before [] = []
forbidden_interfaces names rows before (w ∷ ws) =
    elim (class_number names w.name) [
      | None ↦ forbidden_interfaces names rows before ws
      | Some class ↦
          (if is_forbidden_interface rows before class then w ∷ [] else [])
          ++ forbidden_interfaces names rows (with_kinds before (kinds_of rows class)) ws
    ]

-- C10: the forbidden names after `extends` and `implements`
unfoldable pub forbidden_supers : List (List ℕ) → List ClassRow → WrittenClass → List Written
forbidden_supers names rows c =
    elim c.extends [
      | None ↦ forbidden_interfaces names rows [] c.implements
      | Some e ↦ elim (class_number names e.name) [
        | None ↦ forbidden_interfaces names rows [] c.implements
        | Some class ↦
            (if is_forbidden_superclass rows class then e ∷ [] else [])
            ++ forbidden_interfaces names rows (kinds_of rows class) c.implements
      ]
    ]

unfoldable pub is_empty : {A : Type 0} → List A → Bool
is_empty [] = true
is_empty (x ∷ xs) = false

-- the header of the class breaks none of C2, C3 and C10
unfoldable pub is_well_headed : List (List ℕ) → List ClassRow → ℕ → WrittenClass → Bool
is_well_headed names rows class c =
    is_empty (unknown_supers names c) && not (is_cyclic rows class) && is_empty (forbidden_supers names rows c)

-- a class whose header breaks one of them has, for the rules on members, the superclass Object and no interfaces
unfoldable pub counted_row : List (List ℕ) → List ClassRow → ℕ → ClassRow → ClassRow
counted_row names rows class row =
    elim row.written [
      | None ↦ row
      | Some c ↦
          if is_well_headed names rows class c then row else record row { superclass = Some object; interfaces = [] }
    ]

-- the same for all rows from this number on
unfoldable pub counted_from : List (List ℕ) → List ClassRow → ℕ → List ClassRow → List ClassRow
counted_from names rows class [] = []
counted_from names rows class (row ∷ more) =
    counted_row names rows class row ∷ counted_from names rows (class + 1) more

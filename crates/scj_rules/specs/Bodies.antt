-- The bodies that a run calls: the method that a class has for a name (JLS 15.12.4.4), constructors (JLS 8.8), locals,
-- the constants of the size methods, and what the framework itself looks up of the safelet and the missions (JSR 302:
-- Safelet, Mission). Each is said of any program, also of one that breaks rules.
use Rattle.std.specs.Prelude.{ℕ, ◌-◌, nat_lt, Bool, ◌==◌, List, [], ◌∷◌, length, map, find, slice_get, Option, Some, None, if◌then◌else◌, option_map, codes}
use Rattle.scj_base.specs.declared.positions.Position.{Position}
use Rattle.scj_builtins.specs.declared.methods.FrameworkMethod.{FrameworkMethod}
use Rattle.scj_builtins.specs.Framework.{framework_methods, object, mission_clean_up}
use Rattle.scj_tree.specs.declared.nodes.Node.{Node}
use Rattle.scj_tree.specs.declared.nodes.Node.TheVariants.{Block, Return, Number}
use Rattle.scj_rules.specs.declared.scopes.Written.{Written}
use Rattle.scj_rules.specs.Definitions.{read}
use Rattle.scj_rules.specs.Words.{◌>>=◌, or_else, holds}
use Rattle.scj_rules.specs.Views.{WrittenClass, nowhere, modifiers_at, callable_name}
use Rattle.scj_rules.specs.Classes.{FoundMethod, method_nodes, method_number, method_named}
use Rattle.scj_rules.specs.ClassRules.{numbers_from}
use Rattle.scj_rules.specs.Contexts.{Declarations, context, number_of_class, member_flags}
use Rattle.scj_rules.specs.LimitRules.{variables_of}
use Rattle.scj_rules.specs.ScopeRules.{user_class_in, is_mission}
use Rattle.scj_rules.specs.Types.{constructor_in}
use Rattle.scj_rules.specs.TypeRules.{is_concrete_safelet}
use Rattle.scj_rules.specs.declared.views.Body.{Body}
use Rattle.scj_rules.specs.declared.views.Body.TheVariants.{Written as written, Empty as empty}

-- ---- bodies

-- the node of a declared method or constructor, by its number: the framework's methods have the first numbers, and no
-- node
unfoldable pub method_node : Declarations → ℕ → Option ℕ
method_node p method =
    if nat_lt method (length framework_methods) then None
    else slice_get (method_nodes p.nodes p.users) (method - length framework_methods)

-- the name of the method or constructor of a number
unfoldable pub method_name : Declarations → ℕ → Option (List ℕ)
method_name p method =
    elim (method_node p method) [
      | Some node ↦ option_map (λ (w : Written). w.name) (read p.nodes callable_name node)
      | None ↦ option_map (λ (m : FrameworkMethod). m.name) (slice_get framework_methods method)
    ]

-- the number of a method that was found
unfoldable pub number_of_method : Declarations → FoundMethod → Option ℕ
number_of_method p f =
    elim f.method.builtin [
      | Some number ↦ Some number
      | None ↦ method_number p.nodes p.users f.method.declared.node
    ]

-- the body of a method: of the framework's methods cleanUp alone has one
unfoldable pub body_of_method : FoundMethod → Option Body
body_of_method f =
    elim f.method.builtin [
      | None ↦ Some (written f.method.declared.node)
      | Some method ↦ if method == mission_clean_up then Some empty else None
    ]

-- the body that a call of this name runs on an object of a class
unfoldable pub body_named : Declarations → ℕ → List ℕ → Option Body
body_named p class name = method_named p.classes class name >>= body_of_method

-- the method that a call of a method invokes on an object of a class: the one which the class has for its name
unfoldable pub invoked_method : Declarations → ℕ → ℕ → Option FoundMethod
invoked_method p class method = method_name p method >>= method_named p.classes class

-- the body that such a call runs
unfoldable pub body_of : Declarations → ℕ → ℕ → Option Body
body_of p class method = invoked_method p class method >>= body_of_method

-- the node of a user class, and the user class of a node
abbrev pub class_node : Declarations → ℕ → Option ℕ
class_node p class = option_map (λ (c : WrittenClass). c.node) (user_class_in p.classes class)

abbrev pub class_at_node : Declarations → ℕ → Option ℕ
class_at_node p node = number_of_class (map (λ (c : WrittenClass). c.node) p.users) node

-- the body that `new` runs for a class (JLS 8.8.9): the written constructor, else the class itself; Object's is empty
unfoldable pub constructor_body : Declarations → ℕ → Option Body
constructor_body p class =
    if class == object then Some empty
    else (elim (constructor_in p.classes class) [
      | Some c ↦ Some (written c.node)
      | None ↦ option_map (λ node. written node) (class_node p class)
    ])

-- ---- what is in a body

-- the class in which a body stands: that of the method or constructor, and the class itself where its constructor isn't
-- written
unfoldable pub class_of_body : Declarations → ℕ → Option ℕ
class_of_body p body = or_else (context p body).class (class_at_node p body)

-- the number of locals of a body, parameters included
abbrev pub locals : Declarations → ℕ → ℕ
locals p body = length (variables_of p body)

-- the body is a synchronized method's (JLS 8.4.3.6)
unfoldable pub is_synchronized_body : Declarations → ℕ → Bool
is_synchronized_body p body =
    holds (read p.nodes member_flags body) (λ flags. (modifiers_at p.nodes flags).is_synchronized)

-- ---- what the framework looks up

-- the number that a body returns, where it is `{ return Number; }`
unfoldable pub number_literal : Node → Option ℕ
number_literal (Number position value is_negative) = if is_negative then None else Some value
number_literal _ = None

unfoldable pub number_returned : List Node → Node → Option ℕ
number_returned nodes (Return position (Some value)) = read nodes number_literal value
number_returned nodes _ = None

unfoldable pub size_constant : List Node → Node → Option ℕ
size_constant nodes (Block position (statement ∷ [])) = read nodes (number_returned nodes) statement
size_constant nodes _ = None

-- the bytes that a class declares by the method of this name
unfoldable pub declared_size : Declarations → ℕ → List ℕ → Option ℕ
declared_size p class name =
    method_named p.classes class name >>= (λ (f : FoundMethod). f.method.body) >>= read p.nodes (size_constant p.nodes)

-- a mission's class declares the bytes of mission memory, a safelet's those of immortal memory
abbrev pub size_method : Declarations → ℕ → List ℕ
size_method p class =
    if is_mission p class then codes "missionMemorySize" else codes "immortalMemorySize"

unfoldable pub size_of : Declarations → ℕ → Option ℕ
size_of p class = declared_size p class (size_method p class)

-- the concrete class that implements Safelet
unfoldable pub safelet_class : Declarations → Option ℕ
safelet_class p = find (is_concrete_safelet p) (numbers_from 0 p.classes)

-- ---- places of faults that no node has

-- where a user class is named
unfoldable pub class_position : Declarations → ℕ → Position
class_position p class = elim (user_class_in p.classes class) [ None ↦ nowhere | Some c ↦ c.position ]

-- Targets: the bodies that a node may run. A call of an instance method may run what any concrete class under the static
-- type of its object has for the name (JLS 15.12.4.4); a call of a static method, `new` and a super part run one body
-- (JLS 15.9.4, 8.8.7.1); where memory is entered, the `run` of any concrete class under the static type of the Runnable
-- (JSR 302: ManagedMemory).
use Rattle.std.specs.Prelude.{ℕ, Bool, ◌==◌, ◌&&◌, ◌||◌, List, [], ◌++◌, filter, filter_map, slice_get, Some, None, if◌then◌else◌, option_to_list, codes}
use Rattle.scj_builtins.specs.Framework.{managed_memory_enter_private_memory, managed_memory_execute_in_area_of}
use Rattle.scj_tree.specs.declared.nodes.Node.{Node}
use Rattle.scj_tree.specs.declared.nodes.Node.TheVariants.{Class, Constructor, SuperCall, Call, New}
use Rattle.scj_rules.specs.declared.typing.Binding.{Binding}
use Rattle.scj_rules.specs.declared.typing.Binding.TheVariants.{Class as ClassNamed, Method, StaticMethod, Builtin}
use Rattle.scj_rules.specs.declared.views.Body.{Body}
use Rattle.scj_rules.specs.Words.{◌>>=◌}
use Rattle.scj_rules.specs.Classes.{is_sub, is_user_class}
use Rattle.scj_rules.specs.ClassRules.{numbers_from}
use Rattle.scj_rules.specs.Contexts.{Declarations}
use Rattle.scj_rules.specs.Types.{kind_is, is_concrete}
use Rattle.scj_rules.specs.Bodies.{body_named, body_of, constructor_body, class_of_body, class_node}
use Rattle.scj_model.specs.Code.{Code, binding}

-- ---- of what a node stands for

-- the concrete classes under a class
abbrev pub is_concrete_under : Declarations → ℕ → ℕ → Bool
is_concrete_under p on class = is_sub p.classes class on && kind_is is_concrete p class

unfoldable pub classes_under : Declarations → ℕ → List ℕ
classes_under p on = filter (is_concrete_under p on) (numbers_from 0 p.classes)

unfoldable pub dispatched : Declarations → ℕ → ℕ → List Body
dispatched p on method = filter_map (λ class. body_of p class method) (classes_under p on)

unfoldable pub runs_under : Declarations → ℕ → List Body
runs_under p on = filter_map (λ class. body_named p class (codes "run")) (classes_under p on)

unfoldable pub call_targets : Declarations → Binding → List Body
call_targets p (Method t) = dispatched p t.on t.id
call_targets p (StaticMethod t) = option_to_list (body_of p t.on t.id)
call_targets p _ = []

unfoldable pub constructor_targets : Declarations → Binding → List Body
constructor_targets p (ClassNamed class) = option_to_list (constructor_body p class)
constructor_targets p _ = []

-- a super part runs the constructor of a user class alone
unfoldable pub super_targets : Declarations → Binding → List Body
super_targets p (ClassNamed superclass) =
    if is_user_class superclass then constructor_targets p (ClassNamed superclass) else []
super_targets p _ = []

-- a super part that isn't written stands at the class
unfoldable pub unwritten_super_targets : Code → ℕ → List Body
unwritten_super_targets code body =
    elim (class_of_body code.program body >>= class_node code.program) [
      | None ↦ []
      | Some node ↦ super_targets code.program (binding code node)
    ]

-- the two calls that enter memory
abbrev pub enters_memory : ℕ → Bool
enters_memory method =
    (method == managed_memory_enter_private_memory) || (method == managed_memory_execute_in_area_of)

unfoldable pub entered_targets : Declarations → Binding → List Body
entered_targets p (Builtin t) = runs_under p t.on
entered_targets p _ = []

unfoldable pub memory_targets : Declarations → Binding → List Body
memory_targets p (Builtin t) = if enters_memory t.id then entered_targets p (Builtin t) else []
memory_targets p _ = []

-- ---- of a node

-- the bodies that run in the area in which the node does
unfoldable pub targets_here : Code → ℕ → Node → List Body
targets_here code id (New position name_position name arguments) = constructor_targets code.program (binding code id)
targets_here code id (Call position name object arguments) = call_targets code.program (binding code id)
targets_here code id (SuperCall position arguments) = super_targets code.program (binding code id)
targets_here code id (Constructor position name flags parameters None body) = unwritten_super_targets code id
targets_here code id (Class position name flags header members) = unwritten_super_targets code id
targets_here code id _ = []

-- the bodies that run in the area that the node enters
unfoldable pub targets_entered : Code → ℕ → Node → List Body
targets_entered code id (Call position name object arguments) = memory_targets code.program (binding code id)
targets_entered code id _ = []

unfoldable pub targets : Code → ℕ → List Body
targets code id =
    elim (slice_get code.program.nodes id) [
      | None ↦ []
      | Some node ↦ targets_here code id node ++ targets_entered code id node
    ]

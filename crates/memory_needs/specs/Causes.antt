-- Why a bound can't be told of a handler class: the causes in their order, each with the places that show it.
use Rattle.std.specs.Prelude.{◌≡◌, ℕ, ◌<◌, ◌==◌, Bool, true, false, [], ◌∷◌, find, slice_get, Option, Some, None, Contains}
use Rattle.std.specs.declared.cmp.Ordering.TheVariants.{Less}
use Rattle.scj_base.specs.declared.positions.Position.{Position}
use Rattle.scj_builtins.specs.Framework.{managed_memory_execute_in_area_of}
use Rattle.scj_tree.specs.declared.nodes.Node.{Node}
use Rattle.scj_tree.specs.declared.nodes.Node.TheVariants.{New, NewArray, While, For}
use Rattle.scj_rules.specs.declared.typing.Binding.{Binding}
use Rattle.scj_rules.specs.declared.typing.Binding.TheVariants.{Builtin}
use Rattle.scj_rules.specs.declared.views.Body.{Body}
use Rattle.scj_rules.specs.declared.views.Body.TheVariants.{Written}
use Rattle.scj_rules.specs.Words.{holds, ◌>>=◌}
use Rattle.scj_rules.specs.Classes.{superclasses, superclass_in}
use Rattle.scj_rules.specs.Contexts.{Declarations}
use Rattle.scj_rules.specs.Definitions.{read}
use Rattle.scj_rules.specs.Report.{position_order}
use Rattle.scj_rules.specs.Types.{has_form, form_in}
use Rattle.scj_rules.specs.Bodies.{number_literal, class_position}
use Rattle.scj_model.specs.Code.{Code, binding, position_of_node}
use Rattle.memory_needs.specs.declared.answers.NoBound.{NoBound}
use Rattle.memory_needs.specs.declared.answers.NoBound.TheVariants.{Recursion, NotLiteral, OuterArea, NewInLoop, TooSmall}
use Rattle.memory_needs.specs.Targets.{targets_entered}
use Rattle.memory_needs.specs.Reach.{Leads, handler_body, Reaches, ReachesNode}
use Rattle.memory_needs.specs.Need.{Table, need}
use Rattle.memory_needs.specs.Room.{entered_with, size_entered}

-- ---- storage

-- the argument of a part of a form
unfoldable pub only_argument : Node → Option ℕ
only_argument (New position name_position name (argument ∷ [])) = Some argument
only_argument _ = None

-- the class of a handler's chain whose constructor begins with the form
abbrev pub class_with_form : Declarations → ℕ → Option ℕ
class_with_form p class = find (λ c. holds (superclass_in p.classes c) has_form) (superclasses p.classes class)

-- the node of the storage in the form: the argument of its second part (JSR 302: StorageParameters)
unfoldable pub storage_node : Declarations → ℕ → Option ℕ
storage_node p class =
    class_with_form p class >>= form_in p >>= (λ parts. slice_get parts 1) >>= read p.nodes only_argument

-- the storage, where it is a number
unfoldable pub storage : Declarations → ℕ → Option ℕ
storage p class = storage_node p class >>= read p.nodes number_literal

-- ---- the causes

-- a body that is reached leads to itself
pub record Recurs (code : Code) (class : ℕ) (at : Position) : Type 0 where
  pub node : ℕ
  pub reached : Reaches code class (Written node)
  pub again : Leads code (Written node) (Written node)
  pub is_position : position_of_node code node ≡ at

-- the node of the size of a private memory, and of the length of an array
unfoldable pub number_asked : Code → ℕ → Node → Option ℕ
number_asked code id (NewArray position element count) = Some count
number_asked code id node = entered_with (binding code id) node

pub data AsksNumber (code : Code) (class : ℕ) (number : ℕ) : Type 0 where
  of_form : storage_node code.program class ≡ Some number → AsksNumber code class number
  of_node : (id : ℕ) (node : Node) → ReachesNode code class id node → number_asked code id node ≡ Some number →
      AsksNumber code class number

-- what is asked to be a number is none
pub record LacksNumber (code : Code) (class : ℕ) (at : Position) : Type 0 where
  pub number : ℕ
  pub is_asked : AsksNumber code class number
  pub is_none : read code.program.nodes number_literal number ≡ None
  pub is_position : position_of_node code number ≡ at

-- what a call of executeInAreaOf runs puts something there
unfoldable pub executes_in_area : Binding → Bool
executes_in_area (Builtin t) = t.id == managed_memory_execute_in_area_of
executes_in_area _ = false

pub record FillsOuterArea (code : Code) (class : ℕ) (table : Table) (at : Position) : Type 0 where
  pub id : ℕ
  pub node : Node
  pub reached : ReachesNode code class id node
  pub executes : executes_in_area (binding code id) ≡ true
  pub target : Body
  pub is_target : Contains (targets_entered code id node) target
  pub needs : 0 < table target
  pub is_position : position_of_node code id ≡ at

unfoldable pub is_loop : Node → Bool
is_loop (While position condition body) = true
is_loop (For position first condition step body) = true
is_loop _ = false

pub record MakesInLoop (code : Code) (class : ℕ) (table : Table) (at : Position) : Type 0 where
  pub id : ℕ
  pub node : Node
  pub reached : ReachesNode code class id node
  pub loops : is_loop node ≡ true
  pub needs : 0 < need code table id
  pub is_position : position_of_node code id ≡ at

-- a size is below what is put there, or the storage is
pub data IsTooSmall (code : Code) (class : ℕ) (table : Table) (at : Position) : Type 0 where
  entered : (id : ℕ) (node : Node) (size : ℕ) (target : Body) → ReachesNode code class id node →
      size_entered code id node ≡ Some size → Contains (targets_entered code id node) target → size < table target →
      position_of_node code id ≡ at → IsTooSmall code class table at
  stored : (bytes : ℕ) (body : Body) → storage code.program class ≡ Some bytes → handler_body code class ≡ Some body →
      bytes < table body → class_position code.program class ≡ at → IsTooSmall code class table at

-- a place that shows a cause, by a table of Needs
unfoldable pub Shows : Code → ℕ → Table → NoBound → Position → Type 0
Shows code class table Recursion at = Recurs code class at
Shows code class table NotLiteral at = LacksNumber code class at
Shows code class table OuterArea at = FillsOuterArea code class table at
Shows code class table NewInLoop at = MakesInLoop code class table at
Shows code class table TooSmall at = IsTooSmall code class table at

-- ---- the first cause, at its first place

unfoldable pub order_of : NoBound → ℕ
order_of Recursion = 0
order_of NotLiteral = 1
order_of OuterArea = 2
order_of NewInLoop = 3
order_of TooSmall = 4

-- none is shown anywhere
abbrev pub IsNowhere : (Position → Type 0) → Type 0
IsNowhere Is = (at : Position) → Is at → ⊥

pub record IsFirst (Is : Position → Type 0) (at : Position) : Type 0 where
  pub here : Is at
  pub none_before : (other : Position) → Is other → position_order other at ≡ Less → ⊥

pub record IsFirstCause (code : Code) (class : ℕ) (table : Table) (cause : NoBound) (at : Position) : Type 0 where
  pub none_before : (other : NoBound) → order_of other < order_of cause → IsNowhere (Shows code class table other)
  pub first : IsFirst (Shows code class table cause) at

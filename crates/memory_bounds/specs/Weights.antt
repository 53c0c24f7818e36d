-- Weights: what nodes and operations put at most into the area in which they run, by a table that tells it of bodies.
-- What has no bound weighs `too_much`, which is more than any memory has.
use Rattle.std.specs.Prelude.{◌≤◌, ℕ, zero, suc, ◌+◌, ◌==◌, nat_lt, min, max, Bool, not, ◌&&◌, List, [], ◌∷◌, slice_get, Option, Some, None, if◌then◌else◌, option_to_list}
use Rattle.scj_builtins.specs.Framework.{managed_memory_enter_private_memory, managed_memory_execute_in_area_of}
use Rattle.scj_tree.specs.declared.nodes.Node.{Node}
use Rattle.scj_tree.specs.declared.nodes.Node.TheVariants.{Class, Method as MethodNode, Constructor, SuperCall, Local as LocalNode, LocalWithValue, If, Call, New, NewArray, While, For}
use Rattle.scj_tree.specs.Recursion.{by_smaller}
use Rattle.scj_tree.specs.Shape.{children, optional}
use Rattle.scj_rules.specs.declared.typing.Binding.{Binding}
use Rattle.scj_rules.specs.declared.typing.Binding.TheVariants.{Class as ClassNamed, Method, StaticMethod, Builtin}
use Rattle.scj_rules.specs.declared.views.Body.{Body}
use Rattle.scj_rules.specs.declared.views.Body.TheVariants.{Written, Empty}
use Rattle.scj_rules.specs.Words.{◌>>=◌}
use Rattle.scj_rules.specs.Classes.{is_user_class}
use Rattle.scj_rules.specs.Layout.{size_with_slots}
use Rattle.scj_rules.specs.Bodies.{number_literal, class_of_body, class_node}
use Rattle.scj_model.specs.declared.operations.Op.{Op}
use Rattle.scj_model.specs.declared.operations.Op.TheVariants.{And as AND, Or as OR, Alloc as ALLOC, Construct as CONSTRUCT, AllocArray as ALLOCARRAY, Call as CALL, CallStatic as CALLSTATIC, Enter as ENTER, ExecuteIn as EXECUTEIN, If as IF, Loop as LOOP, Super as SUPER}
use Rattle.scj_model.specs.Code.{Code, binding, part}
use Rattle.scj_model.specs.Ops.{right_operand, if_parts, body_ops}
use Rattle.memory_needs.specs.Targets.{call_targets, constructor_targets, entered_targets}
use Rattle.memory_needs.specs.Need.{too_much, Table, greatest, object_bytes, sum_of}

-- what is wanted where the test holds
abbrev pub only_if : Bool → ℕ → ℕ
only_if test bytes = if test then bytes else too_much

-- ---- single operations

-- an array whose length is a number
unfoldable pub length_node : Node → Option ℕ
length_node (NewArray position element count) = Some count
length_node _ = None

unfoldable pub array_weight : Code → ℕ → ℕ
array_weight code id =
    elim (part code length_node id >>= part code number_literal) [ None ↦ too_much | Some count ↦ size_with_slots count ]

-- the first argument of a call
unfoldable pub size_node : Node → Option ℕ
size_node (Call position name object (first ∷ more)) = Some first
size_node _ = None

-- the memory that is entered has room for what is run there
unfoldable pub entered_weight : Code → Table → ℕ → ℕ
entered_weight code table id =
    elim (part code size_node id >>= part code number_literal) [
      | None ↦ too_much
      | Some size ↦
          only_if (nat_lt size too_much && not (nat_lt size (greatest table (entered_targets code.program (binding code id))))) 0
    ]

-- nothing is put into the area of another object
unfoldable pub executed_weight : Code → Table → ℕ → ℕ
executed_weight code table id = only_if (greatest table (entered_targets code.program (binding code id)) == 0) 0

-- ---- nodes

-- a call of a method, or of the framework
unfoldable pub call_weight : Code → Table → ℕ → Binding → ℕ
call_weight code table id (Method t) = greatest table (call_targets code.program (Method t))
call_weight code table id (StaticMethod t) = greatest table (call_targets code.program (StaticMethod t))
call_weight code table id (Builtin t) =
    if t.id == managed_memory_enter_private_memory then entered_weight code table id
    else (if t.id == managed_memory_execute_in_area_of then executed_weight code table id else 0)
call_weight code table id _ = 0

unfoldable pub new_weight : Code → Table → Binding → ℕ
new_weight code table (ClassNamed class) =
    object_bytes code.program (ClassNamed class) + greatest table (constructor_targets code.program (ClassNamed class))
new_weight code table _ = 0

-- a super part calls the constructor of a user class alone
unfoldable pub super_weight : Code → Table → Binding → ℕ
super_weight code table (ClassNamed superclass) =
    if is_user_class superclass then greatest table (constructor_targets code.program (ClassNamed superclass)) else 0
super_weight code table _ = 0

-- a super part that isn't written stands at the class
unfoldable pub unwritten_super_weight : Code → Table → ℕ → ℕ
unwritten_super_weight code table body =
    elim (class_of_body code.program body >>= class_node code.program) [
      | None ↦ 0
      | Some node ↦ super_weight code table (binding code node)
    ]

-- a loop may be turned often
abbrev pub loop_weight : ℕ → ℕ
loop_weight turn = only_if (turn == 0) 0

unfoldable pub node_weight : Code → Table → (ℕ → ℕ) → ℕ → Node → ℕ
node_weight code table sub id (If position condition then_part else_part) =
    sub condition + max (sub then_part) (sum_of sub (optional else_part))
node_weight code table sub id (While position condition body) =
    sub condition + loop_weight (sub condition + sub body)
node_weight code table sub id (For position first condition step body) =
    sub first + (sub condition + loop_weight (sub condition + (sub step + sub body)))
node_weight code table sub id (New position name_position name arguments) =
    sum_of sub arguments + new_weight code table (binding code id)
node_weight code table sub id (NewArray position element count) = sub count + array_weight code id
node_weight code table sub id (Call position name object arguments) =
    sum_of sub (optional object) + (sum_of sub arguments + call_weight code table id (binding code id))
node_weight code table sub id (SuperCall position arguments) =
    sum_of sub arguments + super_weight code table (binding code id)
node_weight code table sub id (MethodNode position name flags result_type parameters body) =
    sum_of sub (optional body)
node_weight code table sub id (Constructor position name flags parameters super_call body) =
    (elim super_call [ None ↦ unwritten_super_weight code table id | Some call ↦ sub call ]) + sub body
node_weight code table sub id (Class position name flags header members) = unwritten_super_weight code table id
node_weight code table sub id (LocalNode position name flags declared_type) = 0
node_weight code table sub id (LocalWithValue position name_position name flags declared_type value) = sub value
node_weight code table sub id node = sum_of sub (children node)

unfoldable pub next_weight : Code → Table → ℕ → (ℕ → ℕ) → ℕ
next_weight code table id sub =
    elim (slice_get code.program.nodes id) [ None ↦ 0 | Some node ↦ node_weight code table sub id node ]

-- Need of a node
unfoldable pub weight : Code → Table → ℕ → ℕ
weight code table id = by_smaller 0 (next_weight code table) id

-- ---- lists of operations

-- what a loop puts at most in one turn
unfoldable pub iteration_weight : Code → Table → Node → Option ℕ
iteration_weight code table (While position condition body) = Some (weight code table condition + weight code table body)
iteration_weight code table (For position first condition step body) =
    Some (weight code table condition + (weight code table step + weight code table body))
iteration_weight code table _ = None

abbrev pub number_or : ℕ → Option ℕ → ℕ
number_or default o = elim o [ None ↦ default | Some n ↦ n ]

unfoldable pub op_weight : Code → Table → Op → ℕ
op_weight code table (AND id) = sum_of (weight code table) (option_to_list (part code right_operand id))
op_weight code table (OR id) = sum_of (weight code table) (option_to_list (part code right_operand id))
op_weight code table (IF id) =
    elim (part code if_parts id) [
      | None ↦ 0
      | Some parts ↦ max (weight code table parts.0) (sum_of (weight code table) (optional parts.1))
    ]
op_weight code table (LOOP id) = loop_weight (number_or 0 (part code (iteration_weight code table) id))
op_weight code table (ALLOC id) = object_bytes code.program (binding code id)
op_weight code table (ALLOCARRAY id) = array_weight code id
op_weight code table (CONSTRUCT id) = greatest table (constructor_targets code.program (binding code id))
op_weight code table (SUPER id) = greatest table (constructor_targets code.program (binding code id))
op_weight code table (CALL id) = greatest table (call_targets code.program (binding code id))
op_weight code table (CALLSTATIC id) = greatest table (call_targets code.program (binding code id))
op_weight code table (ENTER id) = entered_weight code table id
op_weight code table (EXECUTEIN id) = executed_weight code table id
op_weight code table _ = 0

-- Need of the operations that are left
unfoldable pub ops_weight : Code → Table → List Op → ℕ
ops_weight code table [] = 0
ops_weight code table (op ∷ ops) = op_weight code table op + ops_weight code table ops

-- ---- tables

-- the table bounds each body
pub record IsBound (code : Code) (table : Table) : Type 0 where
  pub bodies : (body : Body) → min too_much (ops_weight code table (body_ops code body)) ≤ table body

-- ---- Need of bodies, from above: where no more is known a body needs too much, and each round tells more. Any number
-- of rounds gives a table that bounds each body
unfoldable pub weights : Code → ℕ → Table
weights code zero body = too_much
weights code (suc rounds) (Written node) = min too_much (weight code (weights code rounds) node)
weights code (suc rounds) Empty = 0

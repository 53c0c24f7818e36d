-- The operations of each node, in the order in which Java evaluates its parts (JLS 15.7; statements: JLS chapter 14;
-- calls and constructors: JLS 15.9.4, 15.12.4, 8.8.7, 12.5). One line a kind of node.
use Rattle.std.specs.Prelude.{ℕ, Bool, true, false, List, [], ◌∷◌, ◌++◌, map, flat_map, slice_get, Option, Some, None, ◌==◌, if◌then◌else◌, option_map}
use Rattle.scj_base.specs.Vocabulary.{sign_and_and, sign_or_or}
use Rattle.scj_builtins.specs.Framework.{mission_request_termination, periodic_handler_register, aperiodic_handler_register, aperiodic_handler_release, managed_memory_enter_private_memory, managed_memory_execute_in_area_of, managed_memory_alloc_in_same, services_set_ceiling, trace_print, device_read}
use Rattle.scj_tree.specs.declared.nodes.Node.{Node}
use Rattle.scj_tree.specs.declared.nodes.Node.TheVariants.{Class, Method as MethodNode, Constructor, SuperCall, Block, Local as LocalNode, LocalWithValue, Assign, ExpressionStatement, If, While, For, Return, Binary, Unary, Cast, Parenthesized, SimpleName, FieldAccess, Call, Element, New, NewArray, Number, True, False, Null, This}
use Rattle.scj_tree.specs.Recursion.{by_smaller}
use Rattle.scj_rules.specs.declared.typing.Binding.{Binding}
use Rattle.scj_rules.specs.declared.typing.Binding.TheVariants.{Local, Field, Static, Length, Class as ClassNamed, Method, StaticMethod, Builtin}
use Rattle.scj_rules.specs.declared.views.Body.{Body}
use Rattle.scj_rules.specs.declared.views.Body.TheVariants.{Written, Empty}
use Rattle.scj_rules.specs.declared.views.Declared.{Declared}
use Rattle.scj_rules.specs.declared.views.WrittenType.TheVariants.{Void as void_type}
use Rattle.scj_rules.specs.Words.{is_among}
use Rattle.scj_rules.specs.Views.{type_at}
use Rattle.scj_rules.specs.Classes.{is_user_class}
use Rattle.scj_rules.specs.ClassRules.{is_same_type}
use Rattle.scj_rules.specs.Types.{has_form}
use Rattle.scj_rules.specs.Layout.{fields_with_literal}
use Rattle.scj_rules.specs.Bodies.{class_node, class_of_body}
use Rattle.scj_model.specs.declared.operations.Op.{Op}
use Rattle.scj_model.specs.declared.operations.Op.TheVariants.{Push as PUSH, This as THIS, Load as LOAD, Get as GET, GetStatic as GETSTATIC, Length as LENGTH, Elem as ELEM, Unary as UNARY, Bin as BIN, And as AND, Or as OR, Alloc as ALLOC, Construct as CONSTRUCT, AllocArray as ALLOCARRAY, Call as CALL, CallStatic as CALLSTATIC, Cast as CAST, Enter as ENTER, ExecuteIn as EXECUTEIN, Same as SAME, SetCeiling as SETCEILING, Print as PRINT, Read as READ, Register as REGISTER, Release as RELEASE, Terminate as TERMINATE, Zero as ZERO, Store as STORE, Put as PUT, PutStatic as PUTSTATIC, PutElem as PUTELEM, If as IF, Loop as LOOP, LeaveWith as LEAVEWITH, Leave as LEAVE, Drop as DROP, Init as INIT, Super as SUPER, Params as PARAMS}
use Rattle.scj_model.specs.Code.{Code, binding, part}

-- in all of this `ops` are the operations of the node's parts

-- ---- names and accesses (JLS 15.11, 15.14.1)

unfoldable pub name_ops : ℕ → Binding → List Op
name_ops id (Local k) = LOAD id ∷ []
name_ops id (Field k) = THIS id ∷ GET id ∷ []
name_ops id (Static k) = GETSTATIC id ∷ []
name_ops id _ = []

unfoldable pub access_ops : (ℕ → List Op) → ℕ → ℕ → Binding → List Op
access_ops ops id object (Field k) = ops object ++ GET id ∷ []
access_ops ops id object (Static k) = GETSTATIC id ∷ []
access_ops ops id object Length = ops object ++ LENGTH id ∷ []
access_ops ops id object _ = []

-- ---- operators: the right operand of `&&` and `||` is put in front of the rest by AND and OR (JLS 15.23, 15.24)

unfoldable pub binary_ops : (ℕ → List Op) → ℕ → ℕ → ℕ → ℕ → List Op
binary_ops ops id operator left right =
    if operator == sign_and_and then ops left ++ AND id ∷ []
    else (if operator == sign_or_or then ops left ++ OR id ∷ []
    else (ops left ++ (ops right ++ BIN id ∷ [])))

-- ---- new objects: a part of a framework form makes none, and stands for its arguments

unfoldable pub new_ops : (ℕ → List Op) → ℕ → List ℕ → Binding → List Op
new_ops ops id arguments (ClassNamed class) = ALLOC id ∷ flat_map ops arguments ++ CONSTRUCT id ∷ []
new_ops ops id arguments _ = flat_map ops arguments

-- ---- calls (JLS 15.12.4)

-- of the object on which a method is called: THIS where none is written
unfoldable pub receiver_ops : (ℕ → List Op) → ℕ → Option ℕ → List Op
receiver_ops ops id None = THIS id ∷ []
receiver_ops ops id (Some object) = ops object

-- of a call of the framework, by the number of the method. A text has no operation
unfoldable pub builtin_ops : (ℕ → List Op) → ℕ → Option ℕ → List ℕ → ℕ → List Op
builtin_ops ops id object arguments method =
    if method == managed_memory_enter_private_memory then flat_map ops arguments ++ ENTER id ∷ []
    else (if method == managed_memory_execute_in_area_of then flat_map ops arguments ++ EXECUTEIN id ∷ []
    else (if method == managed_memory_alloc_in_same then flat_map ops arguments ++ SAME id ∷ []
    else (if method == services_set_ceiling then flat_map ops arguments ++ SETCEILING id ∷ []
    else (if method == trace_print then flat_map ops arguments ++ PRINT id ∷ []
    else (if method == device_read then flat_map ops arguments ++ READ id ∷ []
    else (if method == mission_request_termination then receiver_ops ops id object ++ TERMINATE id ∷ []
    else (if method == aperiodic_handler_release then receiver_ops ops id object ++ RELEASE id ∷ []
    else (if is_among method (periodic_handler_register ∷ aperiodic_handler_register ∷ [])
    then receiver_ops ops id object ++ REGISTER id ∷ [] else []))))))))

unfoldable pub call_ops : (ℕ → List Op) → ℕ → Option ℕ → List ℕ → Binding → List Op
call_ops ops id object arguments (Method t) = receiver_ops ops id object ++ (flat_map ops arguments ++ CALL id ∷ [])
call_ops ops id object arguments (StaticMethod t) = flat_map ops arguments ++ CALLSTATIC id ∷ []
call_ops ops id object arguments (Builtin t) = builtin_ops ops id object arguments t.id
call_ops ops id object arguments _ = []

-- a call or a `new` leaves a value, but for a call of a method without a result
unfoldable pub leaves_value : Binding → Bool
leaves_value (Method t) = t.gives
leaves_value (StaticMethod t) = t.gives
leaves_value (Builtin t) = t.gives
leaves_value (ClassNamed class) = true
leaves_value _ = false

-- ---- assignments, by the target (JLS 15.26.1)

unfoldable pub assign_ops : (ℕ → List Op) → ℕ → ℕ → Binding → Node → List Op
assign_ops ops id value (Local k) (SimpleName position name) = ops value ++ STORE id ∷ []
assign_ops ops id value (Field k) (SimpleName position name) = THIS id ∷ ops value ++ PUT id ∷ []
assign_ops ops id value (Field k) (FieldAccess position name object) = ops object ++ (ops value ++ PUT id ∷ [])
assign_ops ops id value (Static k) _ = ops value ++ PUTSTATIC id ∷ []
assign_ops ops id value _ (Element position array index) = ops array ++ (ops index ++ (ops value ++ PUTELEM id ∷ []))
assign_ops ops id value _ _ = []

-- ---- the end of bodies (JLS 14.17, 8.4.7)

unfoldable pub return_ops : (ℕ → List Op) → ℕ → Option ℕ → List Op
return_ops ops id None = LEAVE ∷ []
return_ops ops id (Some value) = ops value ++ LEAVEWITH id ∷ []

-- a body without a result ends by LEAVE where it comes to its end; one with a result always returns
unfoldable pub method_ops : Code → (ℕ → List Op) → ℕ → Option ℕ → List Op
method_ops code ops result_type None = []
method_ops code ops result_type (Some body) =
    if is_same_type (type_at code.program.nodes result_type) void_type then ops body ++ LEAVE ∷ [] else ops body

-- ---- constructors (JLS 8.8.7, 12.5)

-- the super part, by the superclass: a user class's constructor is called; a framework form is read; Object and Mission
-- do nothing
unfoldable pub super_ops : (ℕ → List Op) → ℕ → List ℕ → Binding → List Op
super_ops ops id arguments (ClassNamed superclass) =
    if is_user_class superclass then THIS id ∷ flat_map ops arguments ++ SUPER id ∷ []
    else (if has_form superclass then flat_map ops arguments ++ PARAMS id ∷ [] else [])
super_ops ops id arguments _ = []

-- the super part where it isn't written stands at the class
unfoldable pub unwritten_super_ops : Code → (ℕ → List Op) → ℕ → List Op
unwritten_super_ops code ops class =
    elim (class_node code.program class) [ None ↦ [] | Some node ↦ super_ops ops node [] (binding code node) ]

-- the literals of the class's own instance fields
unfoldable pub literal_ops : Code → ℕ → List Op
literal_ops code class = map (λ (f : Declared). INIT f.node) (fields_with_literal code.program class)

-- the super part, the literals, the body
unfoldable pub constructor_ops : Code → (ℕ → List Op) → ℕ → Option ℕ → List Op → List Op
constructor_ops code ops id super_call body =
    elim (class_of_body code.program id) [
      | None ↦ []
      | Some class ↦
          (elim super_call [ None ↦ unwritten_super_ops code ops class | Some call ↦ ops call ])
          ++ (literal_ops code class ++ (body ++ LEAVE ∷ []))
    ]

-- ---- all nodes

unfoldable pub node_ops : Code → (ℕ → List Op) → ℕ → Node → List Op
node_ops code ops id (Number position value is_negative) = PUSH id ∷ []
node_ops code ops id (True position) = PUSH id ∷ []
node_ops code ops id (False position) = PUSH id ∷ []
node_ops code ops id (Null position) = PUSH id ∷ []
node_ops code ops id (This position) = THIS id ∷ []
node_ops code ops id (SimpleName position name) = name_ops id (binding code id)
node_ops code ops id (FieldAccess position name object) = access_ops ops id object (binding code id)
node_ops code ops id (Element position array index) = ops array ++ (ops index ++ ELEM id ∷ [])
node_ops code ops id (Parenthesized position inner) = ops inner
node_ops code ops id (Unary position operator operand) = ops operand ++ UNARY id ∷ []
node_ops code ops id (Binary position operator left right) = binary_ops ops id operator left right
node_ops code ops id (New position name_position name arguments) = new_ops ops id arguments (binding code id)
node_ops code ops id (NewArray position element length) = ops length ++ ALLOCARRAY id ∷ []
node_ops code ops id (Call position name object arguments) = call_ops ops id object arguments (binding code id)
node_ops code ops id (Cast position name_position name operand) = ops operand ++ CAST id ∷ []
node_ops code ops id (LocalNode position name flags declared_type) = ZERO id ∷ []
node_ops code ops id (LocalWithValue position name_position name flags declared_type value) = ops value ++ STORE id ∷ []
node_ops code ops id (Assign position target value) =
    elim (slice_get code.program.nodes target) [
      | None ↦ []
      | Some node ↦ assign_ops ops id value (binding code target) node
    ]
node_ops code ops id (ExpressionStatement position expression) =
    ops expression ++ (if leaves_value (binding code expression) then DROP id ∷ [] else [])
node_ops code ops id (Block position statements) = flat_map ops statements
node_ops code ops id (If position condition then_part else_part) = ops condition ++ IF id ∷ []
node_ops code ops id (While position condition body) = ops condition ++ LOOP id ∷ []
node_ops code ops id (For position first condition step body) = ops first ++ (ops condition ++ LOOP id ∷ [])
node_ops code ops id (Return position value) = return_ops ops id value
node_ops code ops id (MethodNode position name flags result_type parameters body) = method_ops code ops result_type body
node_ops code ops id (SuperCall position arguments) = super_ops ops id arguments (binding code id)
node_ops code ops id (Constructor position name flags parameters super_call body) =
    constructor_ops code ops id super_call (ops body)
node_ops code ops id (Class position name flags header members) = constructor_ops code ops id None []
node_ops code ops id _ = []

unfoldable pub next_ops : Code → ℕ → (ℕ → List Op) → List Op
next_ops code id ops = elim (slice_get code.program.nodes id) [ None ↦ [] | Some node ↦ node_ops code ops id node ]

-- the operations of a node
unfoldable pub ops_of : Code → ℕ → List Op
ops_of code id = by_smaller [] (next_ops code) id

-- the operations of a body; the framework's empty one is left at once
unfoldable pub body_ops : Code → Body → List Op
body_ops code (Written node) = ops_of code node
body_ops code Empty = LEAVE ∷ []

-- ---- what AND, OR, IF and LOOP put in front of the operations that are left

unfoldable pub right_operand : Node → Option ℕ
right_operand (Binary position operator left right) = Some right
right_operand _ = None

-- the two parts of an `if`, the second where it is written
unfoldable pub if_parts : Node → Option (ℕ × Option ℕ)
if_parts (If position condition then_part else_part) = Some (then_part, else_part)
if_parts _ = None

unfoldable pub optional_ops : Code → Option ℕ → List Op
optional_ops code None = []
optional_ops code (Some id) = ops_of code id

-- one more turn of a loop, up to its next LOOP (JLS 14.12.1, 14.14.1.2)
unfoldable pub iteration_ops : Code → ℕ → Node → Option (List Op)
iteration_ops code id (While position condition body) = Some (ops_of code body ++ (ops_of code condition ++ LOOP id ∷ []))
iteration_ops code id (For position first condition step body) =
    Some (ops_of code body ++ (ops_of code step ++ (ops_of code condition ++ LOOP id ∷ [])))
iteration_ops code id _ = None

-- by the condition: AND goes on with its right operand where the left one is true, and OR where it is false
unfoldable pub put_in_front : Code → Op → Bool → Option (List Op)
put_in_front code (AND id) condition =
    option_map (λ right. if condition then ops_of code right else []) (part code right_operand id)
put_in_front code (OR id) condition =
    option_map (λ right. if condition then [] else ops_of code right) (part code right_operand id)
put_in_front code (IF id) condition =
    option_map (λ (parts : ℕ × Option ℕ). if condition then ops_of code parts.0 else optional_ops code parts.1)
    (part code if_parts id)
put_in_front code (LOOP id) condition =
    option_map (λ turn. if condition then turn else []) (part code (iteration_ops code id) id)
put_in_front code _ condition = None

-- ---- the node whose operation it is

unfoldable pub node_of : Op → Option ℕ
node_of (PUSH id) = Some id
node_of (THIS id) = Some id
node_of (LOAD id) = Some id
node_of (GET id) = Some id
node_of (GETSTATIC id) = Some id
node_of (LENGTH id) = Some id
node_of (ELEM id) = Some id
node_of (UNARY id) = Some id
node_of (BIN id) = Some id
node_of (AND id) = Some id
node_of (OR id) = Some id
node_of (ALLOC id) = Some id
node_of (CONSTRUCT id) = Some id
node_of (ALLOCARRAY id) = Some id
node_of (CALL id) = Some id
node_of (CALLSTATIC id) = Some id
node_of (CAST id) = Some id
node_of (ENTER id) = Some id
node_of (EXECUTEIN id) = Some id
node_of (SAME id) = Some id
node_of (SETCEILING id) = Some id
node_of (PRINT id) = Some id
node_of (READ id) = Some id
node_of (REGISTER id) = Some id
node_of (RELEASE id) = Some id
node_of (TERMINATE id) = Some id
node_of (ZERO id) = Some id
node_of (STORE id) = Some id
node_of (PUT id) = Some id
node_of (PUTSTATIC id) = Some id
node_of (PUTELEM id) = Some id
node_of (IF id) = Some id
node_of (LOOP id) = Some id
node_of (LEAVEWITH id) = Some id
node_of LEAVE = None
node_of (DROP id) = Some id
node_of (INIT id) = Some id
node_of (SUPER id) = Some id
node_of (PARAMS id) = Some id

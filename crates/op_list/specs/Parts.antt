-- The parts of a node in the order of its operations, and the operations that a part stands for.
use Rattle.std.specs.Prelude.{ℕ, Bool, List, [], ◌∷◌, ◌++◌, drop, flat_map, slice_get, Option, Some, None, ◌==◌, if◌then◌else◌}
use Rattle.scj_base.specs.Vocabulary.{sign_and_and, sign_or_or}
use Rattle.scj_builtins.specs.Framework.{mission_request_termination, periodic_handler_register, aperiodic_handler_register, aperiodic_handler_release, managed_memory_enter_private_memory, managed_memory_execute_in_area_of, managed_memory_alloc_in_same, services_set_ceiling, trace_print, device_read}
use Rattle.scj_tree.specs.declared.nodes.Node.{Node}
use Rattle.scj_tree.specs.declared.nodes.Node.TheVariants.{Class, Method as MethodNode, Constructor, SuperCall, Block, Local as LocalNode, LocalWithValue, Assign, ExpressionStatement, If, While, For, Return, Binary, Unary, Cast, Parenthesized, SimpleName, FieldAccess, Call, Element, New, NewArray, Number, True, False, Null, This}
use Rattle.scj_rules.specs.declared.typing.Binding.{Binding}
use Rattle.scj_rules.specs.declared.typing.Binding.TheVariants.{Local, Field, Static, Length, Class as ClassNamed, Method, StaticMethod, Builtin}
use Rattle.scj_rules.specs.declared.views.WrittenType.TheVariants.{Void as void_type}
use Rattle.scj_rules.specs.Words.{is_among}
use Rattle.scj_rules.specs.Views.{type_at}
use Rattle.scj_rules.specs.Classes.{is_user_class}
use Rattle.scj_rules.specs.ClassRules.{is_same_type}
use Rattle.scj_rules.specs.Types.{has_form}
use Rattle.scj_rules.specs.Bodies.{class_node, class_of_body}
use Rattle.scj_model.specs.declared.operations.Op.{Op}
use Rattle.scj_model.specs.declared.operations.Op.TheVariants.{Push as PUSH, This as THIS, Load as LOAD, Get as GET, GetStatic as GETSTATIC, Length as LENGTH, Elem as ELEM, Unary as UNARY, Bin as BIN, And as AND, Or as OR, Alloc as ALLOC, Construct as CONSTRUCT, AllocArray as ALLOCARRAY, Call as CALL, CallStatic as CALLSTATIC, Cast as CAST, Enter as ENTER, ExecuteIn as EXECUTEIN, Same as SAME, SetCeiling as SETCEILING, Print as PRINT, Read as READ, Register as REGISTER, Release as RELEASE, Terminate as TERMINATE, Zero as ZERO, Store as STORE, Put as PUT, PutStatic as PUTSTATIC, PutElem as PUTELEM, If as IF, Loop as LOOP, LeaveWith as LEAVEWITH, Leave as LEAVE, Drop as DROP, Super as SUPER, Params as PARAMS}
use Rattle.scj_model.specs.Code.{Code, binding}
use Rattle.scj_model.specs.Ops.{leaves_value, literal_ops}
use Rattle.op_list.specs.declared.parts.Part.{Part}
use Rattle.op_list.specs.declared.parts.Part.TheVariants.{Visit, Emit, Items, Literals}

-- ---- what a part stands for

-- the items of a node, which stand in a list: statements and arguments
unfoldable pub items_of : Node → List ℕ
items_of (SuperCall position arguments) = arguments
items_of (Block position statements) = statements
items_of (Call position name object arguments) = arguments
items_of (New position name_position name arguments) = arguments
items_of _ = []

unfoldable pub items_at : List Node → ℕ → List ℕ
items_at nodes id = elim (slice_get nodes id) [ None ↦ [] | Some node ↦ items_of node ]

-- the operations of a part, from those of nodes
unfoldable pub part_ops : Code → (ℕ → List Op) → Part → List Op
part_ops code ops (Visit id) = ops id
part_ops code ops (Emit op) = op ∷ []
part_ops code ops (Items index list) = flat_map ops (drop index (items_at code.program.nodes list))
part_ops code ops (Literals index class) = drop index (literal_ops code class)

-- the items of a node, from the first on
abbrev pub all_items : ℕ → Part
all_items id = Items 0 id

-- ---- names and accesses

unfoldable pub name_parts : ℕ → Binding → List Part
name_parts id (Local k) = Emit (LOAD id) ∷ []
name_parts id (Field k) = Emit (THIS id) ∷ Emit (GET id) ∷ []
name_parts id (Static k) = Emit (GETSTATIC id) ∷ []
name_parts id _ = []

unfoldable pub access_parts : ℕ → ℕ → Binding → List Part
access_parts id object (Field k) = Visit object ∷ Emit (GET id) ∷ []
access_parts id object (Static k) = Emit (GETSTATIC id) ∷ []
access_parts id object Length = Visit object ∷ Emit (LENGTH id) ∷ []
access_parts id object _ = []

-- ---- operators

unfoldable pub binary_parts : ℕ → ℕ → ℕ → ℕ → List Part
binary_parts id operator left right =
    if operator == sign_and_and then Visit left ∷ Emit (AND id) ∷ []
    else (if operator == sign_or_or then Visit left ∷ Emit (OR id) ∷ []
    else (Visit left ∷ Visit right ∷ Emit (BIN id) ∷ []))

-- ---- new objects and calls

unfoldable pub new_parts : ℕ → Binding → List Part
new_parts id (ClassNamed class) = Emit (ALLOC id) ∷ all_items id ∷ Emit (CONSTRUCT id) ∷ []
new_parts id _ = all_items id ∷ []

unfoldable pub receiver_part : ℕ → Option ℕ → Part
receiver_part id None = Emit (THIS id)
receiver_part id (Some object) = Visit object

unfoldable pub builtin_parts : ℕ → Option ℕ → ℕ → List Part
builtin_parts id object method =
    if method == managed_memory_enter_private_memory then all_items id ∷ Emit (ENTER id) ∷ []
    else (if method == managed_memory_execute_in_area_of then all_items id ∷ Emit (EXECUTEIN id) ∷ []
    else (if method == managed_memory_alloc_in_same then all_items id ∷ Emit (SAME id) ∷ []
    else (if method == services_set_ceiling then all_items id ∷ Emit (SETCEILING id) ∷ []
    else (if method == trace_print then all_items id ∷ Emit (PRINT id) ∷ []
    else (if method == device_read then all_items id ∷ Emit (READ id) ∷ []
    else (if method == mission_request_termination then receiver_part id object ∷ Emit (TERMINATE id) ∷ []
    else (if method == aperiodic_handler_release then receiver_part id object ∷ Emit (RELEASE id) ∷ []
    else (if is_among method (periodic_handler_register ∷ aperiodic_handler_register ∷ [])
    then receiver_part id object ∷ Emit (REGISTER id) ∷ [] else []))))))))

unfoldable pub call_parts : ℕ → Option ℕ → Binding → List Part
call_parts id object (Method t) = receiver_part id object ∷ all_items id ∷ Emit (CALL id) ∷ []
call_parts id object (StaticMethod t) = all_items id ∷ Emit (CALLSTATIC id) ∷ []
call_parts id object (Builtin t) = builtin_parts id object t.id
call_parts id object _ = []

-- ---- statements

unfoldable pub assign_parts : ℕ → ℕ → Binding → Node → List Part
assign_parts id value (Local k) (SimpleName position name) = Visit value ∷ Emit (STORE id) ∷ []
assign_parts id value (Field k) (SimpleName position name) = Emit (THIS id) ∷ Visit value ∷ Emit (PUT id) ∷ []
assign_parts id value (Field k) (FieldAccess position name object) = Visit object ∷ Visit value ∷ Emit (PUT id) ∷ []
assign_parts id value (Static k) _ = Visit value ∷ Emit (PUTSTATIC id) ∷ []
assign_parts id value _ (Element position array index) =
    Visit array ∷ Visit index ∷ Visit value ∷ Emit (PUTELEM id) ∷ []
assign_parts id value _ _ = []

unfoldable pub assignment_parts : Code → ℕ → ℕ → ℕ → List Part
assignment_parts code id target value =
    elim (slice_get code.program.nodes target) [
      | None ↦ []
      | Some node ↦ assign_parts id value (binding code target) node
    ]

unfoldable pub dropped_parts : ℕ → ℕ → Bool → List Part
dropped_parts id expression leaves = if leaves then Visit expression ∷ Emit (DROP id) ∷ [] else Visit expression ∷ []

unfoldable pub return_parts : ℕ → Option ℕ → List Part
return_parts id None = Emit LEAVE ∷ []
return_parts id (Some value) = Visit value ∷ Emit (LEAVEWITH id) ∷ []

-- ---- bodies

-- of a method with a result, or without one
unfoldable pub method_parts : Bool → Option ℕ → List Part
method_parts is_void None = []
method_parts is_void (Some body) = if is_void then Visit body ∷ Emit LEAVE ∷ [] else Visit body ∷ []

-- the super part, by the superclass
unfoldable pub super_parts : ℕ → Binding → List Part
super_parts id (ClassNamed superclass) =
    if is_user_class superclass then Emit (THIS id) ∷ all_items id ∷ Emit (SUPER id) ∷ []
    else (if has_form superclass then all_items id ∷ Emit (PARAMS id) ∷ [] else [])
super_parts id _ = []

-- the super part where it isn't written
unfoldable pub unwritten_super_parts : ℕ → Binding → List Part
unwritten_super_parts id (ClassNamed superclass) =
    if is_user_class superclass then Emit (THIS id) ∷ Emit (SUPER id) ∷ []
    else (if has_form superclass then Emit (PARAMS id) ∷ [] else [])
unwritten_super_parts id _ = []

-- the super part of a class's constructor
unfoldable pub first_parts : Code → ℕ → Option ℕ → List Part
first_parts code class (Some call) = Visit call ∷ []
first_parts code class None =
    elim (class_node code.program class) [
      | None ↦ []
      | Some node ↦ unwritten_super_parts node (binding code node)
    ]

-- the body, if one is written
unfoldable pub body_parts : Option ℕ → List Part
body_parts None = Emit LEAVE ∷ []
body_parts (Some body) = Visit body ∷ Emit LEAVE ∷ []

unfoldable pub constructor_parts : Code → ℕ → Option ℕ → Option ℕ → List Part
constructor_parts code id super_call body =
    elim (class_of_body code.program id) [
      | None ↦ []
      | Some class ↦ first_parts code class super_call ++ (Literals 0 class ∷ body_parts body)
    ]

-- ---- all nodes

unfoldable pub node_parts : Code → ℕ → Node → List Part
node_parts code id (Number position value is_negative) = Emit (PUSH id) ∷ []
node_parts code id (True position) = Emit (PUSH id) ∷ []
node_parts code id (False position) = Emit (PUSH id) ∷ []
node_parts code id (Null position) = Emit (PUSH id) ∷ []
node_parts code id (This position) = Emit (THIS id) ∷ []
node_parts code id (SimpleName position name) = name_parts id (binding code id)
node_parts code id (FieldAccess position name object) = access_parts id object (binding code id)
node_parts code id (Element position array index) = Visit array ∷ Visit index ∷ Emit (ELEM id) ∷ []
node_parts code id (Parenthesized position inner) = Visit inner ∷ []
node_parts code id (Unary position operator operand) = Visit operand ∷ Emit (UNARY id) ∷ []
node_parts code id (Binary position operator left right) = binary_parts id operator left right
node_parts code id (New position name_position name arguments) = new_parts id (binding code id)
node_parts code id (NewArray position element length) = Visit length ∷ Emit (ALLOCARRAY id) ∷ []
node_parts code id (Call position name object arguments) = call_parts id object (binding code id)
node_parts code id (Cast position name_position name operand) = Visit operand ∷ Emit (CAST id) ∷ []
node_parts code id (LocalNode position name flags declared_type) = Emit (ZERO id) ∷ []
node_parts code id (LocalWithValue position name_position name flags declared_type value) =
    Visit value ∷ Emit (STORE id) ∷ []
node_parts code id (Assign position target value) = assignment_parts code id target value
node_parts code id (ExpressionStatement position expression) =
    dropped_parts id expression (leaves_value (binding code expression))
node_parts code id (Block position statements) = all_items id ∷ []
node_parts code id (If position condition then_part else_part) = Visit condition ∷ Emit (IF id) ∷ []
node_parts code id (While position condition body) = Visit condition ∷ Emit (LOOP id) ∷ []
node_parts code id (For position first condition step body) = Visit first ∷ Visit condition ∷ Emit (LOOP id) ∷ []
node_parts code id (Return position value) = return_parts id value
node_parts code id (MethodNode position name flags result_type parameters body) =
    method_parts (is_same_type (type_at code.program.nodes result_type) void_type) body
node_parts code id (SuperCall position arguments) = super_parts id (binding code id)
node_parts code id (Constructor position name flags parameters super_call body) =
    constructor_parts code id super_call (Some body)
node_parts code id (Class position name flags header members) = constructor_parts code id None None
node_parts code id _ = []

unfoldable pub parts_at : Code → ℕ → List Part
parts_at code id = elim (slice_get code.program.nodes id) [ None ↦ [] | Some node ↦ node_parts code id node ]

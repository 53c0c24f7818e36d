-- The operations: what each does, as an effect, in the order of its faults (JLS chapters 14 and 15; JSR 302:
-- ManagedMemory, Services, the event handlers and Mission). In all of these f is the frame without the operation.
use Rattle.std.specs.Prelude.{ℕ, ◌+◌, ◌*◌, ◌/◌, ◌%◌, ◌==◌, nat_lt, Bool, true, false, not, ◌&&◌, List, [], ◌∷◌, length, slice_get, slice_set, ℤ, pos, negsuc, unsigned_abs, Option, Some, None, if◌then◌else◌, codes, option_map}
use Rattle.std.specs.Int.{is_negative, is_in_range}
use Rattle.scj_base.specs.declared.faults.RunFault.TheVariants.{ArrayIndex, NegativeSize, DivideByZero, ClassCast, BadPriority, BadPeriod, BadPort}
use Rattle.scj_base.specs.declared.values.Value.{Value}
use Rattle.scj_base.specs.declared.values.Value.TheVariants.{Int, Bool as Truth, Null, At}
use Rattle.scj_builtins.specs.Framework.{mission_sequencer, periodic_handler}
use Rattle.scj_tree.specs.declared.nodes.Node.{Node}
use Rattle.scj_tree.specs.declared.nodes.Node.TheVariants.{Assign, Binary, Unary, Call as CallNode, New, SuperCall, LocalWithValue}
use Rattle.scj_rules.specs.declared.typing.Binding.{Binding}
use Rattle.scj_rules.specs.declared.typing.Binding.TheVariants.{Local, Field, Static, Class as ClassNamed, Method, StaticMethod}
use Rattle.scj_rules.specs.declared.views.Body.{Body}
use Rattle.scj_rules.specs.declared.views.Declared.{Declared}
use Rattle.scj_rules.specs.Words.{holds, ◌>>=◌}
use Rattle.scj_rules.specs.Views.{variable_at}
use Rattle.scj_rules.specs.Classes.{is_sub}
use Rattle.scj_rules.specs.ScopeRules.{defined_by_chain}
use Rattle.scj_rules.specs.Layout.{kind_of_type, slot_of, static_index, element_kind, literal_written}
use Rattle.scj_rules.specs.Bodies.{body_named, body_of, constructor_body}
use Rattle.scj_model.specs.declared.operations.Op.{Op}
use Rattle.scj_model.specs.declared.operations.Op.TheVariants.{Push as PUSH, This as THIS, Load as LOAD, Get as GET, GetStatic as GETSTATIC, Length as LENGTH, Elem as ELEM, Unary as UNARY, Bin as BIN, And as AND, Or as OR, Alloc as ALLOC, Construct as CONSTRUCT, AllocArray as ALLOCARRAY, Call as CALL, CallStatic as CALLSTATIC, Cast as CAST, Enter as ENTER, ExecuteIn as EXECUTEIN, Same as SAME, SetCeiling as SETCEILING, Print as PRINT, Read as READ, Register as REGISTER, Release as RELEASE, Terminate as TERMINATE, Zero as ZERO, Store as STORE, Put as PUT, PutStatic as PUTSTATIC, PutElem as PUTELEM, If as IF, Loop as LOOP, LeaveWith as LEAVEWITH, Leave as LEAVE, Drop as DROP, Init as INIT, Super as SUPER, Params as PARAMS}
use Rattle.scj_model.specs.Code.{Code, binding, part}
use Rattle.scj_model.specs.State.{Object, Frame}
use Rattle.scj_model.specs.Memory.{literal_value, default_value, new_slots, new_elements, highest_priority}
use Rattle.scj_model.specs.Arithmetic.{binary_value, divides_by_zero, unary_value}
use Rattle.scj_model.specs.Effects.{Effect, Goes, Prints, Makes, Stores, StoresStatic, SetsHidden, SetsCeiling, Calls, Opens, Leaves, AsksRegistration, AsksRelease, AsksTermination, Faults, Stuck, given, pop, pop_all, as_int, as_reference, as_object, pushes, branch, new_frame}

-- what an operation sees besides its frame: the objects, the static fields, and what the ports read in this unit
pub record Environment : Type 0 where
  pub object_at : ℕ → Option Object
  pub statics : List Value
  pub reading : ℕ → ℤ

-- what a node stands for, by its binding
unfoldable pub bound_local : Binding → Option ℕ
bound_local (Local k) = Some k
bound_local _ = None

unfoldable pub bound_field : Binding → Option ℕ
bound_field (Field k) = Some k
bound_field _ = None

unfoldable pub bound_static : Binding → Option ℕ
bound_static (Static k) = Some k
bound_static _ = None

unfoldable pub bound_class : Binding → Option ℕ
bound_class (ClassNamed class) = Some class
bound_class _ = None

unfoldable pub bound_method : Binding → Option ℕ
bound_method (Method t) = Some t.id
bound_method _ = None

unfoldable pub bound_static_method : Binding → Option (ℕ × ℕ)
bound_static_method (StaticMethod t) = Some (t.on, t.id)
bound_static_method _ = None

-- ---- parts of nodes

unfoldable pub operator_of : Node → Option ℕ
operator_of (Binary position operator left right) = Some operator
operator_of (Unary position operator operand) = Some operator
operator_of _ = None

-- the node that tells what is assigned: the target of an assignment, and the declaration of a local with a value
unfoldable pub assigned_node : ℕ → Node → Option ℕ
assigned_node id (Assign position target value) = Some target
assigned_node id (LocalWithValue position name_position name flags declared_type value) = Some id
assigned_node id _ = None

abbrev pub assigned : Code → ℕ → Option Binding
assigned code id = part code (assigned_node id) id >>= (λ node. Some (binding code node))

unfoldable pub argument_count : Node → Option ℕ
argument_count (CallNode position name object arguments) = Some (length arguments)
argument_count (New position name_position name arguments) = Some (length arguments)
argument_count (SuperCall position arguments) = Some (length arguments)
argument_count _ = None

unfoldable pub first_argument : Node → Option ℕ
first_argument (CallNode position name object (first ∷ more)) = Some first
first_argument _ = None

-- the number of an element of an array, if there is one
abbrev pub index_in : List Value → ℤ → Option ℕ
index_in elements (pos i) = if nat_lt i (length elements) then Some i else None
index_in elements (negsuc i) = None

-- ---- values and variables

abbrev pub push_op : Code → Frame → ℕ → Effect
push_op code f id = given (part code literal_value id) (λ value. pushes f value)

abbrev pub this_op : Frame → Effect
this_op f = given f.this (λ r. pushes f (At r))

abbrev pub load_op : Code → Frame → ℕ → Effect
load_op code f id =
    given (bound_local (binding code id)) (λ k. given (slice_get f.locals k) (λ value. pushes f value))

-- the slot in which the object has this field
abbrev pub with_field : Code → Environment → ℕ → ℕ → (Object → ℕ → Effect) → Effect
with_field code world r field next =
    given (world.object_at r) (λ o. given (slot_of code.program o.class field) (λ slot. next o slot))

abbrev pub get_op : Code → Environment → Frame → ℕ → Effect
get_op code world f id =
    given (bound_field (binding code id)) (λ field.
    pop f (λ object f. as_object object (λ r.
    with_field code world r field (λ o slot. given (slice_get o.slots slot) (λ value. pushes f value)))))

abbrev pub get_static_op : Code → Environment → Frame → ℕ → Effect
get_static_op code world f id =
    given (bound_static (binding code id)) (λ field.
    given (static_index code.program field) (λ index. given (slice_get world.statics index) (λ value. pushes f value)))

abbrev pub length_op : Environment → Frame → Effect
length_op world f =
    pop f (λ array f. as_object array (λ r. given (world.object_at r) (λ o. pushes f (Int (pos (length o.slots))))))

abbrev pub elem_op : Environment → Frame → Effect
elem_op world f =
    pop f (λ index f. pop f (λ array f. as_object array (λ r. as_int index (λ i.
    given (world.object_at r) (λ o. elim (index_in o.slots i) [
      | None ↦ Faults ArrayIndex
      | Some k ↦ given (slice_get o.slots k) (λ value. pushes f value)
    ])))))

-- ---- operators

abbrev pub unary_op : Code → Frame → ℕ → Effect
unary_op code f id =
    given (part code operator_of id) (λ operator.
    pop f (λ operand f. given (unary_value operator operand) (λ value. pushes f value)))

abbrev pub bin_op : Code → Frame → ℕ → Effect
bin_op code f id =
    given (part code operator_of id) (λ operator.
    pop f (λ right f. pop f (λ left f.
    if divides_by_zero operator right then Faults DivideByZero
    else given (binary_value operator left right) (λ value. pushes f value))))

-- the left operand is the value, or the right operand comes next (JLS 15.23, 15.24)
abbrev pub and_op : Code → Frame → ℕ → Effect
and_op code f id = branch code (AND id) f (λ b f. if b then Goes f else pushes f (Truth false))

abbrev pub or_op : Code → Frame → ℕ → Effect
or_op code f id = branch code (OR id) f (λ b f. if b then pushes f (Truth true) else Goes f)

-- null, and an object of the class or of one under it, pass a cast (JLS 15.16)
abbrev pub cast_op : Code → Environment → Frame → ℕ → Effect
cast_op code world f id =
    given (bound_class (binding code id)) (λ class.
    pop f (λ operand f. elim operand [
      | Null ↦ pushes f Null
      | At r ↦ given (world.object_at r) (λ o.
          if is_sub code.program.classes o.class class then pushes f (At r) else Faults ClassCast)
      | Int z ↦ Stuck
      | Truth b ↦ Stuck
    ]))

-- ---- new objects and constructors

abbrev pub alloc_op : Code → Frame → ℕ → Effect
alloc_op code f id = given (bound_class (binding code id)) (λ class. Makes f class (new_slots code.program class))

abbrev pub alloc_array_op : Code → Frame → ℕ → Effect
alloc_array_op code f id =
    given (bound_class (binding code id)) (λ class. given (element_kind code.program class) (λ kind.
    pop f (λ count f. as_int count (λ n.
    if is_negative n then Faults NegativeSize else Makes f class (new_elements kind (unsigned_abs n))))))

-- the constructor of this class is called on the object below its arguments; `keeps` says whether the reference stays
abbrev pub constructs : Code → Frame → ℕ → ℕ → ℕ → Bool → Effect
constructs code f id class count keeps =
    given (constructor_body code.program class) (λ body.
    pop_all count f (λ arguments f. pop f (λ object g. as_reference object (λ r.
    Calls (if keeps then f else g) (new_frame code body (Some id) (Some r) f.area arguments)))))

abbrev pub construct_op : Code → Frame → ℕ → Effect
construct_op code f id =
    given (bound_class (binding code id)) (λ class. given (part code argument_count id) (λ count.
    constructs code f id class count true))

-- an unwritten super call has no arguments
abbrev pub super_count : Code → ℕ → ℕ
super_count code id = elim (part code argument_count id) [ None ↦ 0 | Some count ↦ count ]

abbrev pub super_op : Code → Frame → ℕ → Effect
super_op code f id =
    given (bound_class (binding code id)) (λ superclass. constructs code f id superclass (super_count code id) false)

-- the literal of a field
abbrev pub init_op : Code → Environment → Frame → ℕ → Effect
init_op code world f id =
    given (part code literal_written id >>= part code literal_value) (λ value.
    given (bound_field (binding code id)) (λ field.
    given f.this (λ r. with_field code world r field (λ o slot. Stores f r slot value))))

-- ---- the parameters of handlers and sequencers (JSR 302: PriorityParameters, PeriodicParameters, StorageParameters)

abbrev pub is_priority : ℤ → Bool
is_priority (pos p) = is_in_range 1 highest_priority p
is_priority (negsuc p) = false

-- RelativeTime(ms, ns) in units, where no part is negative and the nanoseconds are whole units below a millisecond
abbrev pub units_of : ℤ → ℤ → Option ℕ
units_of (pos ms) (pos ns) = if (ns % 1000 == 0) && nat_lt ns 1000000 then Some (1000 * ms + ns / 1000) else None
units_of _ _ = None

-- the start and the period in units, where they are right
abbrev pub times_of : ℤ → ℤ → ℤ → ℤ → Option (ℕ × ℕ)
times_of start_ms start_ns period_ms period_ns =
    units_of start_ms start_ns >>= (λ start. option_map (λ period. (start, period)) (units_of period_ms period_ns))

-- of a periodic handler: its priority, the milliseconds and nanoseconds of its start and of its period, its storage
abbrev pub periodic_parameters : Frame → ℕ → List Value → Effect
periodic_parameters f r (Int priority ∷ Int sms ∷ Int sns ∷ Int pms ∷ Int pns ∷ Int storage ∷ []) =
    if not (is_priority priority) then Faults BadPriority
    else (elim (times_of sms sns pms pns) [
      | None ↦ Faults BadPeriod
      | Some times ↦
          if is_negative storage then Faults NegativeSize
          else SetsHidden f r (Int priority ∷ Int storage ∷ Int (pos times.0) ∷ Int (pos times.1) ∷ [])
    ])
periodic_parameters f r _ = Stuck

-- of an aperiodic handler and of a sequencer: priority and storage
abbrev pub right_parameters : List Value → (ℤ → ℤ → Effect) → Effect
right_parameters (Int priority ∷ Int storage ∷ []) next =
    if not (is_priority priority) then Faults BadPriority
    else (if is_negative storage then Faults NegativeSize else next priority storage)
right_parameters _ next = Stuck

abbrev pub params_op : Code → Frame → ℕ → Effect
params_op code f id =
    given (bound_class (binding code id)) (λ superclass. given f.this (λ r.
    if superclass == periodic_handler then pop_all 6 f (λ values f. periodic_parameters f r values)
    else (if superclass == mission_sequencer
    then pop_all 2 f (λ values f. right_parameters values (λ priority storage. Goes f))
    else (pop_all 2 f (λ values f.
    right_parameters values (λ priority storage. SetsHidden f r (Int priority ∷ Int storage ∷ [])))))))

-- ---- calls

abbrev pub call_op : Code → Environment → Frame → ℕ → Effect
call_op code world f id =
    given (bound_method (binding code id)) (λ method. given (part code argument_count id) (λ count.
    pop_all count f (λ arguments f. pop f (λ object f. as_object object (λ r.
    given (world.object_at r) (λ o. given (body_of code.program o.class method) (λ body.
    Calls f (new_frame code body (Some id) (Some r) f.area arguments))))))))

abbrev pub call_static_op : Code → Frame → ℕ → Effect
call_static_op code f id =
    given (bound_static_method (binding code id)) (λ method. given (part code argument_count id) (λ count.
    given (body_of code.program method.0 method.1) (λ body.
    pop_all count f (λ arguments f. Calls f (new_frame code body (Some id) None f.area arguments)))))

abbrev pub leave_with_op : Frame → Effect
leave_with_op f = pop f (λ value f. Leaves f (Some value))

abbrev pub leave_op : Frame → Effect
leave_op f = Leaves f None

abbrev pub drop_op : Frame → Effect
drop_op f = pop f (λ value f. Goes f)

-- ---- areas (JSR 302: ManagedMemory). `run` is called in the area that is opened, or in the one of an object

abbrev pub with_run : Code → Environment → ℕ → (Object → Body → Effect) → Effect
with_run code world r next =
    given (world.object_at r) (λ o. given (body_named code.program o.class (codes "run")) (λ body. next o body))

abbrev pub enter_op : Code → Environment → Frame → ℕ → Effect
enter_op code world f id =
    pop f (λ runnable f. pop f (λ size f. as_object runnable (λ r. as_int size (λ bytes.
    if is_negative bytes then Faults NegativeSize
    else with_run code world r (λ o body. given (defined_by_chain code.program o.class) (λ scope.
    Opens f (new_frame code body (Some id) (Some r) f.area []) scope (unsigned_abs bytes)))))))

abbrev pub execute_in_op : Code → Environment → Frame → ℕ → Effect
execute_in_op code world f id =
    pop f (λ runnable f. pop f (λ object f. as_object object (λ place. as_object runnable (λ r.
    given (world.object_at place) (λ there. with_run code world r (λ o body.
    Calls f (new_frame code body (Some id) (Some r) there.area [])))))))

-- with the area of the object that a value names, and none where it is null
abbrev pub with_area : Environment → Value → (Option ℕ → Effect) → Effect
with_area world Null next = next None
with_area world (At r) next = given (world.object_at r) (λ o. next (Some o.area))
with_area world _ next = Stuck

-- the two are there and are one
abbrev pub are_one_area : Option ℕ → Option ℕ → Bool
are_one_area first second = holds first (λ a. holds second (λ b. a == b))

-- whether two objects lie in one area, and neither is null
abbrev pub same_op : Environment → Frame → Effect
same_op world f =
    pop f (λ second f. pop f (λ first f.
    with_area world first (λ a. with_area world second (λ b. pushes f (Truth (are_one_area a b))))))

-- ---- the other calls of the framework

-- whether the job may set a ceiling is asked when the effect is done, after the faults of the operands
abbrev pub set_ceiling_op : Frame → Effect
set_ceiling_op f =
    pop f (λ ceiling f. pop f (λ object f. as_object object (λ r. as_int ceiling (λ c.
    if is_priority c then SetsCeiling f r (unsigned_abs c) else Faults BadPriority))))

abbrev pub print_op : Code → Frame → ℕ → Effect
print_op code f id =
    given (part code first_argument id) (λ label. pop f (λ value f. as_int value (λ z. Prints f label z)))

abbrev pub is_port : ℤ → Bool
is_port (pos port) = nat_lt port 256
is_port (negsuc port) = false

abbrev pub read_op : Environment → Frame → Effect
read_op world f =
    pop f (λ port f. as_int port (λ z.
    if is_port z then pushes f (Int (world.reading (unsigned_abs z))) else Faults BadPort))

abbrev pub register_op : Frame → Effect
register_op f = pop f (λ handler f. as_object handler (λ r. AsksRegistration f r))

abbrev pub release_op : Frame → Effect
release_op f = pop f (λ handler f. as_object handler (λ r. AsksRelease f r))

abbrev pub terminate_op : Frame → Effect
terminate_op f = pop f (λ mission f. as_object mission (λ r. AsksTermination f r))

-- ---- assignments

-- a local that is declared without a value begins anew each time (JLS 4.12.5 has no such locals; this is the profile's)
abbrev pub zero_op : Code → Frame → ℕ → Effect
zero_op code f id =
    given (bound_local (binding code id)) (λ k. given (variable_at code.program.nodes id) (λ (d : Declared).
    Goes (record f { locals = slice_set f.locals k (default_value (kind_of_type d.declared_type)) })))

abbrev pub store_op : Code → Frame → ℕ → Effect
store_op code f id =
    given (assigned code id >>= bound_local) (λ k.
    pop f (λ value f. Goes (record f { locals = slice_set f.locals k value })))

abbrev pub put_op : Code → Environment → Frame → ℕ → Effect
put_op code world f id =
    given (assigned code id >>= bound_field) (λ field.
    pop f (λ value f. pop f (λ object f. as_object object (λ r.
    with_field code world r field (λ o slot. Stores f r slot value)))))

abbrev pub put_static_op : Code → Frame → ℕ → Effect
put_static_op code f id =
    given (assigned code id >>= bound_static) (λ field. given (static_index code.program field) (λ index.
    pop f (λ value f. StoresStatic f index value)))

abbrev pub put_elem_op : Environment → Frame → Effect
put_elem_op world f =
    pop f (λ value f. pop f (λ index f. pop f (λ array f. as_object array (λ r. as_int index (λ i.
    given (world.object_at r) (λ o. elim (index_in o.slots i) [
      | None ↦ Faults ArrayIndex
      | Some k ↦ Stores f r k value
    ]))))))

-- ---- statements (JLS 14.9, 14.12, 14.14)

abbrev pub if_op : Code → Frame → ℕ → Effect
if_op code f id = branch code (IF id) f (λ b f. Goes f)

abbrev pub loop_op : Code → Frame → ℕ → Effect
loop_op code f id = branch code (LOOP id) f (λ b f. Goes f)

-- ---- all operations

unfoldable pub effect_of : Code → Environment → Frame → Op → Effect
effect_of code world f (PUSH id) = push_op code f id
effect_of code world f (THIS id) = this_op f
effect_of code world f (LOAD id) = load_op code f id
effect_of code world f (GET id) = get_op code world f id
effect_of code world f (GETSTATIC id) = get_static_op code world f id
effect_of code world f (LENGTH id) = length_op world f
effect_of code world f (ELEM id) = elem_op world f
effect_of code world f (UNARY id) = unary_op code f id
effect_of code world f (BIN id) = bin_op code f id
effect_of code world f (AND id) = and_op code f id
effect_of code world f (OR id) = or_op code f id
effect_of code world f (ALLOC id) = alloc_op code f id
effect_of code world f (CONSTRUCT id) = construct_op code f id
effect_of code world f (ALLOCARRAY id) = alloc_array_op code f id
effect_of code world f (CALL id) = call_op code world f id
effect_of code world f (CALLSTATIC id) = call_static_op code f id
effect_of code world f (CAST id) = cast_op code world f id
effect_of code world f (ENTER id) = enter_op code world f id
effect_of code world f (EXECUTEIN id) = execute_in_op code world f id
effect_of code world f (SAME id) = same_op world f
effect_of code world f (SETCEILING id) = set_ceiling_op f
effect_of code world f (PRINT id) = print_op code f id
effect_of code world f (READ id) = read_op world f
effect_of code world f (REGISTER id) = register_op f
effect_of code world f (RELEASE id) = release_op f
effect_of code world f (TERMINATE id) = terminate_op f
effect_of code world f (ZERO id) = zero_op code f id
effect_of code world f (STORE id) = store_op code f id
effect_of code world f (PUT id) = put_op code world f id
effect_of code world f (PUTSTATIC id) = put_static_op code f id
effect_of code world f (PUTELEM id) = put_elem_op world f
effect_of code world f (IF id) = if_op code f id
effect_of code world f (LOOP id) = loop_op code f id
effect_of code world f (LEAVEWITH id) = leave_with_op f
effect_of code world f LEAVE = leave_op f
effect_of code world f (DROP id) = drop_op f
effect_of code world f (INIT id) = init_op code world f id
effect_of code world f (SUPER id) = super_op code f id
effect_of code world f (PARAMS id) = params_op code f id

-- What an instruction does, as an effect: that of its operation, without what it has already asked of the code.
use Rattle.std.specs.Prelude.{ℕ, Bool, true, false, [], ◌∷◌, ◌==◌, Some, None, slice_get, slice_set, unsigned_abs, if◌then◌else◌}
use Rattle.std.specs.Int.{is_negative}
use Rattle.scj_base.specs.declared.faults.RunFault.TheVariants.{NegativeSize, DivideByZero, ClassCast}
use Rattle.scj_base.specs.declared.values.Value.{Value}
use Rattle.scj_base.specs.declared.values.Value.TheVariants.{Int, Bool as Truth, Null, At}
use Rattle.scj_builtins.specs.Framework.{mission_sequencer, periodic_handler}
use Rattle.scj_rules.specs.declared.views.Body.{Body}
use Rattle.scj_rules.specs.declared.views.SlotKind.{SlotKind}
use Rattle.scj_rules.specs.Classes.{is_sub}
use Rattle.scj_rules.specs.Bodies.{body_of}
use Rattle.scj_model.specs.declared.operations.Op.{Op}
use Rattle.scj_model.specs.Code.{Code}
use Rattle.scj_model.specs.State.{Frame}
use Rattle.scj_model.specs.Memory.{default_value, new_slots, new_elements}
use Rattle.scj_model.specs.Arithmetic.{binary_value, divides_by_zero, unary_value}
use Rattle.scj_model.specs.Ops.{node_of}
use Rattle.scj_model.specs.Effects.{Effect, Goes, Prints, Makes, Stores, StoresStatic, SetsHidden, Calls, Faults, Stuck, given, pop, pop_all, as_int, as_reference, as_object, pushes, new_frame}
use Rattle.scj_model.specs.Operations.{Environment, this_op, with_field, length_op, elem_op, and_op, or_op, enter_op, execute_in_op, same_op, set_ceiling_op, read_op, register_op, release_op, terminate_op, put_elem_op, if_op, loop_op, leave_with_op, leave_op, drop_op, periodic_parameters, right_parameters}
use Rattle.op_list.specs.declared.instructions.Instruction.{Instruction}
use Rattle.op_list.specs.declared.instructions.Instruction.TheVariants as instruction

-- ---- the steps of single instructions; in all of these f is the frame without the operation

abbrev pub load : Frame → ℕ → Effect
load f k = given (slice_get f.locals k) (λ value. pushes f value)

abbrev pub get : Code → Environment → Frame → ℕ → Effect
get code world f field =
    pop f (λ object f. as_object object (λ r.
    with_field code world r field (λ o slot. given (slice_get o.slots slot) (λ value. pushes f value))))

abbrev pub get_static : Environment → Frame → ℕ → Effect
get_static world f index = given (slice_get world.statics index) (λ value. pushes f value)

abbrev pub unary : Frame → ℕ → Effect
unary f operator = pop f (λ operand f. given (unary_value operator operand) (λ value. pushes f value))

abbrev pub bin : Frame → ℕ → Effect
bin f operator =
    pop f (λ right f. pop f (λ left f.
    if divides_by_zero operator right then Faults DivideByZero
    else given (binary_value operator left right) (λ value. pushes f value)))

abbrev pub cast : Code → Environment → Frame → ℕ → Effect
cast code world f class =
    pop f (λ operand f. elim operand [
      | Null ↦ pushes f Null
      | At r ↦ given (world.object_at r) (λ o.
          if is_sub code.program.classes o.class class then pushes f (At r) else Faults ClassCast)
      | Int z ↦ Stuck
      | Truth b ↦ Stuck
    ])

abbrev pub alloc_array : Frame → ℕ → SlotKind → Effect
alloc_array f class kind =
    pop f (λ count f. as_int count (λ n.
    if is_negative n then Faults NegativeSize else Makes f class (new_elements kind (unsigned_abs n))))

-- the constructor is called on the object below its arguments; `keeps` says whether the reference stays
abbrev pub construct : Code → Frame → ℕ → Body → ℕ → Bool → Effect
construct code f id body count keeps =
    pop_all count f (λ arguments f. pop f (λ object g. as_reference object (λ r.
    Calls (if keeps then f else g) (new_frame code body (Some id) (Some r) f.area arguments))))

abbrev pub init : Code → Environment → Frame → Value → ℕ → Effect
init code world f value field =
    given f.this (λ r. with_field code world r field (λ o slot. Stores f r slot value))

abbrev pub params : Frame → ℕ → Effect
params f superclass =
    given f.this (λ r.
    if superclass == periodic_handler then pop_all 6 f (λ values f. periodic_parameters f r values)
    else (if superclass == mission_sequencer
    then pop_all 2 f (λ values f. right_parameters values (λ priority storage. Goes f))
    else (pop_all 2 f (λ values f.
    right_parameters values (λ priority storage. SetsHidden f r (Int priority ∷ Int storage ∷ []))))))

abbrev pub call : Code → Environment → Frame → ℕ → ℕ → ℕ → Effect
call code world f id method count =
    pop_all count f (λ arguments f. pop f (λ object f. as_object object (λ r.
    given (world.object_at r) (λ o. given (body_of code.program o.class method) (λ body.
    Calls f (new_frame code body (Some id) (Some r) f.area arguments))))))

abbrev pub call_static : Code → Frame → ℕ → Body → ℕ → Effect
call_static code f id body count =
    pop_all count f (λ arguments f. Calls f (new_frame code body (Some id) None f.area arguments))

abbrev pub print : Frame → ℕ → Effect
print f label = pop f (λ value f. as_int value (λ z. Prints f label z))

abbrev pub zero_local : Frame → ℕ → SlotKind → Effect
zero_local f k kind = Goes (record f { locals = slice_set f.locals k (default_value kind) })

abbrev pub store : Frame → ℕ → Effect
store f k = pop f (λ value f. Goes (record f { locals = slice_set f.locals k value }))

abbrev pub put : Code → Environment → Frame → ℕ → Effect
put code world f field =
    pop f (λ value f. pop f (λ object f. as_object object (λ r.
    with_field code world r field (λ o slot. Stores f r slot value))))

abbrev pub put_static : Frame → ℕ → Effect
put_static f index = pop f (λ value f. StoresStatic f index value)

-- ---- all instructions, each at the node of its operation

unfoldable pub effect_by : Code → Environment → Frame → ℕ → Instruction → Effect
effect_by code world f id instruction.Stuck = Stuck
effect_by code world f id (instruction.Push literal) = pushes f literal.value
effect_by code world f id instruction.This = this_op f
effect_by code world f id (instruction.Load k) = load f k
effect_by code world f id (instruction.Get field) = get code world f field
effect_by code world f id (instruction.GetStatic place) = get_static world f place
effect_by code world f id instruction.Length = length_op world f
effect_by code world f id instruction.Elem = elem_op world f
effect_by code world f id (instruction.Unary operator) = unary f operator
effect_by code world f id (instruction.Bin operator) = bin f operator
effect_by code world f id instruction.And = and_op code f id
effect_by code world f id instruction.Or = or_op code f id
effect_by code world f id (instruction.Alloc class) = Makes f class (new_slots code.program class)
effect_by code world f id (instruction.Construct callee) = construct code f id callee.body callee.count true
effect_by code world f id (instruction.AllocArray array) = alloc_array f array.class array.kind
effect_by code world f id (instruction.Call selector) = call code world f id selector.method selector.count
effect_by code world f id (instruction.CallStatic callee) = call_static code f id callee.body callee.count
effect_by code world f id (instruction.Cast class) = cast code world f class
effect_by code world f id instruction.Enter = enter_op code world f id
effect_by code world f id instruction.ExecuteIn = execute_in_op code world f id
effect_by code world f id instruction.Same = same_op world f
effect_by code world f id instruction.SetCeiling = set_ceiling_op f
effect_by code world f id (instruction.Print label) = print f label
effect_by code world f id instruction.Read = read_op world f
effect_by code world f id instruction.Register = register_op f
effect_by code world f id instruction.Release = release_op f
effect_by code world f id instruction.Terminate = terminate_op f
effect_by code world f id (instruction.Zero variable) = zero_local f variable.local variable.kind
effect_by code world f id (instruction.Store k) = store f k
effect_by code world f id (instruction.Put field) = put code world f field
effect_by code world f id (instruction.PutStatic place) = put_static f place
effect_by code world f id instruction.PutElem = put_elem_op world f
effect_by code world f id instruction.If = if_op code f id
effect_by code world f id instruction.Loop = loop_op code f id
effect_by code world f id instruction.LeaveWith = leave_with_op f
effect_by code world f id instruction.Leave = leave_op f
effect_by code world f id instruction.Drop = drop_op f
effect_by code world f id (instruction.Init literal) = init code world f literal.value literal.field
effect_by code world f id (instruction.Super callee) = construct code f id callee.body callee.count false
effect_by code world f id (instruction.Params superclass) = params f superclass

-- the number of the node whose operation it is
unfoldable pub node_number : Op → ℕ
node_number op = elim (node_of op) [ None ↦ 0 | Some id ↦ id ]

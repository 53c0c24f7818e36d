-- The faults that are certain before a run: where constants alone make the operation of a node fault each time that it
-- is done. An operation tests its faults in an order; one that comes later is certain only where what comes first is
-- known not to come.
use Rattle.std.specs.Prelude.{◌≡◌, ℕ, ◌==◌, Bool, true, false, not, ◌&&◌, List, [], ◌∷◌, slice_get, ℤ, pos, Option, Some, None, if◌then◌else◌, is_some}
use Rattle.std.specs.Int.{is_negative}
use Rattle.scj_base.specs.declared.faults.RunFault.{RunFault}
use Rattle.scj_base.specs.declared.faults.RunFault.TheVariants.{NullPointer, NegativeSize, DivideByZero, BadPriority, BadPeriod, BadPort}
use Rattle.scj_base.specs.declared.values.Value.TheVariants.{Int, Null}
use Rattle.scj_builtins.specs.Framework.{managed_memory_enter_private_memory, services_set_ceiling, device_read, periodic_handler}
use Rattle.scj_tree.specs.declared.nodes.Node.{Node}
use Rattle.scj_tree.specs.declared.nodes.Node.TheVariants.{Binary, Call, NewArray, SuperCall}
use Rattle.scj_rules.specs.declared.typing.Binding.{Binding}
use Rattle.scj_rules.specs.declared.typing.Binding.TheVariants.{Class as ClassNamed, Builtin}
use Rattle.scj_rules.specs.Words.{◌>>=◌}
use Rattle.scj_rules.specs.Classes.{is_user_class}
use Rattle.scj_rules.specs.Types.{has_form}
use Rattle.scj_model.specs.declared.operations.Op.{Op}
use Rattle.scj_model.specs.declared.operations.Op.TheVariants.{Bin as BIN, AllocArray as ALLOCARRAY, Enter as ENTER, SetCeiling as SETCEILING, Read as READ, Params as PARAMS}
use Rattle.scj_model.specs.Code.{Code, binding}
use Rattle.scj_model.specs.Arithmetic.{divides_by_zero}
use Rattle.scj_model.specs.Operations.{is_priority, is_port, units_of}
use Rattle.certain_faults.specs.declared.known.Known.{Known}
use Rattle.certain_faults.specs.declared.known.Known.TheVariants.{Exactly, Object}
use Rattle.certain_faults.specs.declared.known.Left.{Left}
use Rattle.certain_faults.specs.declared.known.Left.TheVariants.{Zero, One, Four}
use Rattle.certain_faults.specs.Known.{left_by}

abbrev pub fault_if : Bool → RunFault → Option RunFault
fault_if test fault = if test then Some fault else None

-- a test of a number that is known
unfoldable pub known_number : Known → Option ℤ
known_number (Exactly (Int z)) = Some z
known_number _ = None

unfoldable pub is_known : (ℤ → Bool) → Known → Bool
is_known test (Exactly (Int z)) = test z
is_known test _ = false

-- ---- operators, arrays, ports, areas and ceilings

-- by the right operand
unfoldable pub division_fault : ℕ → Left → Option RunFault
division_fault operator (One (Exactly right)) = fault_if (divides_by_zero operator right) DivideByZero
division_fault operator _ = None

-- by the length
unfoldable pub length_fault : Left → Option RunFault
length_fault (One length) = fault_if (is_known is_negative length) NegativeSize
length_fault _ = None

-- by the port
unfoldable pub port_fault : Left → Option RunFault
port_fault (One port) = fault_if (is_known (λ z. not (is_port z)) port) BadPort
port_fault _ = None

-- by the size, where the Runnable isn't null; the rules let none be null that is a constant
unfoldable pub size_fault : Left → Left → Option RunFault
size_fault (One size) (One Object) = fault_if (is_known is_negative size) NegativeSize
size_fault _ _ = None

-- by the object where that is null, and by the ceiling where it is none
unfoldable pub ceiling_fault : Left → Left → Option RunFault
ceiling_fault (One (Exactly Null)) (One ceiling) = Some NullPointer
ceiling_fault (One Object) (One ceiling) = fault_if (is_known (λ z. not (is_priority z)) ceiling) BadPriority
ceiling_fault _ _ = None

-- ---- forms

-- a number that is known is wrong in any time
unfoldable pub is_wrong_time : Known → Known → Bool
is_wrong_time ms ns =
    if is_known is_negative ms then true else is_known (λ z. not (is_some (units_of (pos 0) z))) ns

-- each number of a time is known
unfoldable pub is_known_time : Known → Known → Bool
is_known_time ms ns = is_some (known_number ms) && is_some (known_number ns)

-- by the milliseconds and nanoseconds of the start and of the period, and behind them by the storage
unfoldable pub times_fault : Known → Known → Known → Known → Option RunFault → Option RunFault
times_fault sms sns pms pns next =
    if is_wrong_time sms sns then Some BadPeriod
    else (if is_wrong_time pms pns then Some BadPeriod
    else (if is_known_time sms sns && is_known_time pms pns then next else None))

unfoldable pub storage_fault : Known → Option RunFault
storage_fault storage = fault_if (is_known is_negative storage) NegativeSize

-- by the priority, and behind it by what is asked next
unfoldable pub priority_fault : Known → Option RunFault → Option RunFault
priority_fault priority next =
    if is_known (λ z. not (is_priority z)) priority then Some BadPriority
    else (if is_known is_priority priority then next else None)

-- of a periodic handler: priority, times and storage
unfoldable pub periodic_fault : Left → Left → Left → Option RunFault
periodic_fault (One priority) (Four sms sns pms pns) (One storage) =
    priority_fault priority (times_fault sms sns pms pns (storage_fault storage))
periodic_fault _ _ _ = None

-- of a sequencer: priority and storage
unfoldable pub parameters_fault : Left → Left → Option RunFault
parameters_fault (One priority) (One storage) = priority_fault priority (storage_fault storage)
parameters_fault _ _ = None

-- of an aperiodic handler: between these two is a part without numbers
unfoldable pub aperiodic_fault : Left → Left → Left → Option RunFault
aperiodic_fault priority Zero storage = parameters_fault priority storage
aperiodic_fault _ _ _ = None

unfoldable pub form_fault : (ℕ → Left) → ℕ → List ℕ → Option RunFault
form_fault left superclass (priority ∷ times ∷ storage ∷ []) =
    if superclass == periodic_handler then periodic_fault (left priority) (left times) (left storage)
    else aperiodic_fault (left priority) (left times) (left storage)
form_fault left superclass (priority ∷ storage ∷ []) =
    if superclass == periodic_handler then None else parameters_fault (left priority) (left storage)
form_fault left superclass _ = None

-- a super part is a form where the superclass asks for one: of a user class it is a call
unfoldable pub super_fault : (ℕ → Left) → List ℕ → Binding → Option RunFault
super_fault left arguments (ClassNamed superclass) =
    if is_user_class superclass then None
    else (if has_form superclass then form_fault left superclass arguments else None)
super_fault left arguments _ = None

-- ---- calls of the framework

unfoldable pub call_fault : (ℕ → Left) → List ℕ → Binding → Option RunFault
call_fault left (x ∷ []) (Builtin t) = if t.id == device_read then port_fault (left x) else None
call_fault left (x ∷ y ∷ []) (Builtin t) =
    if t.id == managed_memory_enter_private_memory then size_fault (left x) (left y)
    else (if t.id == services_set_ceiling then ceiling_fault (left x) (left y) else None)
call_fault left _ _ = None

-- ---- all nodes

unfoldable pub fault_at_node : Code → ℕ → Node → Option RunFault
fault_at_node code id (Binary position operator l r) = division_fault operator (left_by code r)
fault_at_node code id (NewArray position element length) = length_fault (left_by code length)
fault_at_node code id (Call position name object arguments) = call_fault (left_by code) arguments (binding code id)
fault_at_node code id (SuperCall position arguments) = super_fault (left_by code) arguments (binding code id)
fault_at_node code id _ = None

-- the fault with which the node's own operation is certain to end, if there is one
unfoldable pub certain_fault : Code → ℕ → Option RunFault
certain_fault code id = slice_get code.program.nodes id >>= fault_at_node code id

-- ---- the operation of which it is said

unfoldable pub call_operation : ℕ → ℕ → Option Op
call_operation id method =
    if method == managed_memory_enter_private_memory then Some (ENTER id)
    else (if method == services_set_ceiling then Some (SETCEILING id)
    else (if method == device_read then Some (READ id) else None))

-- the operation of a node that constants can make fault, which is its last one
unfoldable pub operation_of : Code → ℕ → Node → Option Op
operation_of code id (Binary position operator l r) = Some (BIN id)
operation_of code id (NewArray position element length) = Some (ALLOCARRAY id)
operation_of code id (Call position name object arguments) =
    elim (binding code id) [ Builtin t ↦ call_operation id t.id | _ ↦ None ]
operation_of code id (SuperCall position arguments) = Some (PARAMS id)
operation_of code id _ = None

-- a node's own operation, and the fault with which it is certain to end
pub record FaultsFor (code : Code) (op : Op) (fault : RunFault) : Type 0 where
  pub id : ℕ
  pub node : Node
  pub is_there : slice_get code.program.nodes id ≡ Some node
  pub is_operation : operation_of code id node ≡ Some op
  pub is_certain : certain_fault code id ≡ Some fault

-- All operations: the numbers have 32 bits where those before them have.
use Rattle.scj_model.specs.declared.operations.Op.{Op}
use Rattle.scj_model.specs.declared.operations.Op.TheVariants.{Push as PUSH, This as THIS, Load as LOAD, Get as GET, GetStatic as GETSTATIC, Length as LENGTH, Elem as ELEM, Unary as UNARY, Bin as BIN, And as AND, Or as OR, Alloc as ALLOC, Construct as CONSTRUCT, AllocArray as ALLOCARRAY, Call as CALL, CallStatic as CALLSTATIC, Cast as CAST, Enter as ENTER, ExecuteIn as EXECUTEIN, Same as SAME, SetCeiling as SETCEILING, Print as PRINT, Read as READ, Register as REGISTER, Release as RELEASE, Terminate as TERMINATE, Zero as ZERO, Store as STORE, Put as PUT, PutStatic as PUTSTATIC, PutElem as PUTELEM, If as IF, Loop as LOOP, LeaveWith as LEAVEWITH, Leave as LEAVE, Drop as DROP, Init as INIT, Super as SUPER, Params as PARAMS}
use Rattle.scj_model.specs.Code.{Code}
use Rattle.scj_model.specs.State.{Frame}
use Rattle.scj_model.specs.Operations.{Environment, effect_of}
use Rattle.int_values.specs.Ints.{FrameFits}
use Rattle.int_values.proofs.Effects.{Asks}
use Rattle.int_values.proofs.Known.{Known, TakesElement}
use Rattle.int_values.proofs.OnCalls.{call_fits, call_static_fits, construct_fits, enter_fits, execute_in_fits, params_fit, print_fits, read_fits, register_fits, release_fits, same_fits, set_ceiling_fits, super_fits, terminate_fits}
use Rattle.int_values.proofs.OnStores.{drop_fits, if_fits, leave_fits, leave_with_fits, loop_fits, put_elem_fits, put_fits, put_static_fits, store_fits, zero_fits}
use Rattle.int_values.proofs.OnValues.{alloc_array_fits, alloc_fits, and_fits, bin_fits, cast_fits, elem_fits, get_fits, get_static_fits, init_fits, length_is_fit, load_fits, or_fits, push_fits, this_fits, unary_is_fit}

-- what an operation asks of the operands besides
abbrev pub Takes : Code → Environment → Frame → Op → Type 0
Takes code world f (ELEM id) = TakesElement code world f
Takes code world f op = Unit {0}

module _ (code : Code) (world : Environment) (known : Known code world) (f : Frame) (fits : FrameFits f) where
  pub operation_fits : (op : Op) → Takes code world f op → Asks (effect_of code world f op)
  operation_fits (PUSH id) t = push_fits code world known f fits id
  operation_fits (THIS id) t = this_fits code world known f fits id
  operation_fits (LOAD id) t = load_fits code world known f fits id
  operation_fits (GET id) t = get_fits code world known f fits id
  operation_fits (GETSTATIC id) t = get_static_fits code world known f fits id
  operation_fits (LENGTH id) t = length_is_fit code world known f fits id
  operation_fits (ELEM id) t = elem_fits code world known f fits t id
  operation_fits (UNARY id) t = unary_is_fit code world known f fits id
  operation_fits (BIN id) t = bin_fits code world known f fits id
  operation_fits (AND id) t = and_fits code world known f fits id
  operation_fits (OR id) t = or_fits code world known f fits id
  operation_fits (ALLOC id) t = alloc_fits code world known f fits id
  operation_fits (CONSTRUCT id) t = construct_fits code world known f fits id
  operation_fits (ALLOCARRAY id) t = alloc_array_fits code world known f fits id
  operation_fits (CALL id) t = call_fits code world known f fits id
  operation_fits (CALLSTATIC id) t = call_static_fits code world known f fits id
  operation_fits (CAST id) t = cast_fits code world known f fits id
  operation_fits (ENTER id) t = enter_fits code world known f fits id
  operation_fits (EXECUTEIN id) t = execute_in_fits code world known f fits id
  operation_fits (SAME id) t = same_fits code world known f fits id
  operation_fits (SETCEILING id) t = set_ceiling_fits code world known f fits id
  operation_fits (PRINT id) t = print_fits code world known f fits id
  operation_fits (READ id) t = read_fits code world known f fits id
  operation_fits (REGISTER id) t = register_fits code world known f fits id
  operation_fits (RELEASE id) t = release_fits code world known f fits id
  operation_fits (TERMINATE id) t = terminate_fits code world known f fits id
  operation_fits (ZERO id) t = zero_fits code world f fits id
  operation_fits (STORE id) t = store_fits code world f fits id
  operation_fits (PUT id) t = put_fits code world f fits id
  operation_fits (PUTSTATIC id) t = put_static_fits code world f fits id
  operation_fits (PUTELEM id) t = put_elem_fits code world f fits id
  operation_fits (IF id) t = if_fits code world f fits id
  operation_fits (LOOP id) t = loop_fits code world f fits id
  operation_fits (LEAVEWITH id) t = leave_with_fits code world f fits id
  operation_fits LEAVE t = leave_fits code world f fits
  operation_fits (DROP id) t = drop_fits code world f fits id
  operation_fits (INIT id) t = init_fits code world known f fits id
  operation_fits (SUPER id) t = super_fits code world known f fits id
  operation_fits (PARAMS id) t = params_fit code world known f fits id

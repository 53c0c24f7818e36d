-- The effect of every operation that finds what it needs is fine: it is never stuck, and asks only what keeps the
-- invariant.
use Rattle.scj_model.specs.declared.operations.Op.{Op}
use Rattle.scj_model.specs.declared.operations.Op.TheVariants.{Push as PUSH, This as THIS, Load as LOAD, Get as GET, GetStatic as GETSTATIC, Length as LENGTH, Elem as ELEM, Unary as UNARY, Bin as BIN, And as AND, Or as OR, Alloc as ALLOC, Construct as CONSTRUCT, AllocArray as ALLOCARRAY, Call as CALL, CallStatic as CALLSTATIC, Cast as CAST, Enter as ENTER, ExecuteIn as EXECUTEIN, Same as SAME, SetCeiling as SETCEILING, Print as PRINT, Read as READ, Register as REGISTER, Release as RELEASE, Terminate as TERMINATE, Zero as ZERO, Store as STORE, Put as PUT, PutStatic as PUTSTATIC, PutElem as PUTELEM, If as IF, Loop as LOOP, LeaveWith as LEAVEWITH, Leave as LEAVE, Drop as DROP, Init as INIT, Super as SUPER, Params as PARAMS}
use Rattle.frame_sound.proofs.Scenes.{Scene}
use Rattle.frame_sound.proofs.ActsOnValues.{DoesStanding, push_fine, this_fine, load_fine, get_fine, get_static_fine, length_fine, elem_fine}
use Rattle.frame_sound.proofs.ActsOnOperators.{unary_fine, bin_fine}
use Rattle.frame_sound.proofs.ActsOnStatements.{and_fine, or_fine, if_fine, loop_fine, zero_fine, store_fine, drop_fine, leave_with_fine, leave_fine}
use Rattle.frame_sound.proofs.ActsOnStores.{put_fine, put_elem_fine, put_static_fine, init_fine}
use Rattle.frame_sound.proofs.ActsOnNew.{alloc_fine, alloc_array_fine}
use Rattle.frame_sound.proofs.ActsOnCalls.{call_fine}
use Rattle.frame_sound.proofs.ActsOnConstructors.{construct_fine, super_fine}
use Rattle.frame_sound.proofs.ActsOnAreas.{call_static_fine, enter_fine, execute_in_fine}
use Rattle.frame_sound.proofs.ActsOnFramework.{cast_fine, same_fine, set_ceiling_fine, print_fine, read_fine, register_fine, release_fine, terminate_fine, params_fine}

pub effect_fine : (m : Scene) (op : Op) → DoesStanding m op
effect_fine m (PUSH id) l p s r = push_fine m id l r.1
effect_fine m (THIS id) l p s r = this_fine m id l r.1
effect_fine m (LOAD id) l p s r = load_fine m id l r.1
effect_fine m (GET id) l p s r = get_fine m id l r.1
effect_fine m (GETSTATIC id) l p s r = get_static_fine m id l r.1
effect_fine m (LENGTH id) l p s r = length_fine m id l r.1
effect_fine m (ELEM id) l p s r = elem_fine m id l r.1
effect_fine m (UNARY id) l p s r = unary_fine m id l r.1
effect_fine m (BIN id) l p s r = bin_fine m id l r.1
effect_fine m (AND id) l p s r = and_fine m id l p s r
effect_fine m (OR id) l p s r = or_fine m id l p s r
effect_fine m (ALLOC id) l p s r = alloc_fine m id l r.1
effect_fine m (CONSTRUCT id) l p s r = construct_fine m id l r
effect_fine m (ALLOCARRAY id) l p s r = alloc_array_fine m id l r.1
effect_fine m (CALL id) l p s r = call_fine m id l r
effect_fine m (CALLSTATIC id) l p s r = call_static_fine m id l r
effect_fine m (CAST id) l p s r = cast_fine m id l r.1
effect_fine m (ENTER id) l p s r = enter_fine m id l r
effect_fine m (EXECUTEIN id) l p s r = execute_in_fine m id l r
effect_fine m (SAME id) l p s r = same_fine m id l r.1
effect_fine m (SETCEILING id) l p s r = set_ceiling_fine m id l r.1
effect_fine m (PRINT id) l p s r = print_fine m id l r.1
effect_fine m (READ id) l p s r = read_fine m id l r.1
effect_fine m (REGISTER id) l p s r = register_fine m id l r.1
effect_fine m (RELEASE id) l p s r = release_fine m id l r.1
effect_fine m (TERMINATE id) l p s r = terminate_fine m id l r.1
effect_fine m (ZERO id) l p s r = zero_fine m id l p s r
effect_fine m (STORE id) l p s r = store_fine m id l p s r
effect_fine m (PUT id) l p s r = put_fine m id l p s r
effect_fine m (PUTSTATIC id) l p s r = put_static_fine m id l r.1
effect_fine m (PUTELEM id) l p s r = put_elem_fine m id l r.1
effect_fine m (IF id) l p s r = if_fine m id l p s r
effect_fine m (LOOP id) l p s r = loop_fine m id l p s r
effect_fine m (LEAVEWITH id) l p s r = leave_with_fine m id l r.1
effect_fine m LEAVE l p s r = leave_fine m l r.1
effect_fine m (DROP id) l p s r = drop_fine m id l r.1
effect_fine m (INIT id) l p s r = init_fine m id l r.1
effect_fine m (SUPER id) l p s r = super_fine m id l r
effect_fine m (PARAMS id) l p s r = params_fine m id l r.1

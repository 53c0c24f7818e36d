-- The next operation of a frame that is ready: its references stay where they may be, and what it stores may be stored.
use Rattle.std.specs.Prelude.{Option, None}
use Rattle.std.proofs.Common.{ℕ, List, ◌∷◌, ap}
use Rattle.scj_model.specs.declared.operations.Op.{Op}
use Rattle.scj_model.specs.declared.operations.Op.TheVariants.{Push as PUSH, This as THIS, Load as LOAD, Get as GET, GetStatic as GETSTATIC, Length as LENGTH, Elem as ELEM, Unary as UNARY, Bin as BIN, And as AND, Or as OR, Alloc as ALLOC, Construct as CONSTRUCT, AllocArray as ALLOCARRAY, Call as CALL, CallStatic as CALLSTATIC, Cast as CAST, Enter as ENTER, ExecuteIn as EXECUTEIN, Same as SAME, SetCeiling as SETCEILING, Print as PRINT, Read as READ, Register as REGISTER, Release as RELEASE, Terminate as TERMINATE, Zero as ZERO, Store as STORE, Put as PUT, PutStatic as PUTSTATIC, PutElem as PUTELEM, If as IF, Loop as LOOP, LeaveWith as LEAVEWITH, Leave as LEAVE, Drop as DROP, Init as INIT, Super as SUPER, Params as PARAMS}
use Rattle.scj_model.specs.Code.{Code}
use Rattle.scj_model.specs.Operations.{Environment, effect_of}
use Rattle.scj_model.specs.State.{MemoryArea, Frame}
use Rattle.scope_flow.specs.Facts.{Facts}
use Rattle.scope_flow.specs.Signatures.{Signature}
use Rattle.scope_flow.specs.Needs.{pushed}
use Rattle.frame_sound.specs.Places.{World, denote}
use Rattle.frame_sound.specs.Fine.{ListFine, HeapFine, StaticsFine, Ready, IsOnList}
use Rattle.frame_sound.proofs.Places.{denote_on}
use Rattle.frame_sound.proofs.GuardedPuts.{stored_together}
use Rattle.frame_sound.proofs.Scenes.{Scene}
use Rattle.reference_sound.specs.References.{EachReference}
use Rattle.reference_sound.proofs.Around.{all_on_list}
use Rattle.reference_sound.proofs.Plain.{each_weaker}
use Rattle.reference_sound.proofs.HeldValues.{push_holds, this_holds, load_holds, get_holds, get_static_holds, length_holds, elem_holds, unary_holds, bin_holds, and_holds, or_holds, cast_holds, alloc_holds, alloc_array_holds, init_holds}
use Rattle.reference_sound.proofs.HeldCalls.{construct_holds, super_holds, call_holds, call_static_holds, enter_holds, execute_in_holds, same_holds, set_ceiling_holds, print_holds, read_holds, register_holds, release_holds, terminate_holds, zero_holds, store_holds, if_holds, loop_holds, drop_holds, leave_with_holds, leave_holds, params_holds}
use Rattle.reference_sound.proofs.HeldStores.{GuardedStores, Does, put_holds, put_elem_holds, put_static_holds}
use Rattle.reference_sound.specs.EffectsHold.{Holding}

module _ (m : Scene) (Q : ℕ → Type 0) (l : EachReference Q m.frame.locals) (o : EachReference Q m.frame.operands) where
  effect_holds : (op : Op) → ((id : ℕ) → GuardedStores m id op) → Does m Q l op
  effect_holds (PUSH id) g r = push_holds m.code m.areas m.world Q m.frame l o id
  effect_holds (THIS id) g r = this_holds m.code m.areas m.world Q m.frame l o id
  effect_holds (LOAD id) g r = load_holds m.code m.areas m.world Q m.frame l o id
  effect_holds (GET id) g r = get_holds m.code m.areas m.world Q m.frame l o id
  effect_holds (GETSTATIC id) g r = get_static_holds m.code m.areas m.world Q m.frame l o id
  effect_holds (LENGTH id) g r = length_holds m.code m.areas m.world Q m.frame l o id
  effect_holds (ELEM id) g r = elem_holds m.code m.areas m.world Q m.frame l o id
  effect_holds (UNARY id) g r = unary_holds m.code m.areas m.world Q m.frame l o id
  effect_holds (BIN id) g r = bin_holds m.code m.areas m.world Q m.frame l o id
  effect_holds (AND id) g r = and_holds m.code m.areas m.world Q m.frame l o id
  effect_holds (OR id) g r = or_holds m.code m.areas m.world Q m.frame l o id
  effect_holds (ALLOC id) g r = alloc_holds m.code m.areas m.world Q m.frame l o id
  effect_holds (CONSTRUCT id) g r = construct_holds m.code m.areas m.world Q m.frame l o id
  effect_holds (ALLOCARRAY id) g r = alloc_array_holds m.code m.areas m.world Q m.frame l o id
  effect_holds (CALL id) g r = call_holds m.code m.areas m.world Q m.frame l o id
  effect_holds (CALLSTATIC id) g r = call_static_holds m.code m.areas m.world Q m.frame l o id
  effect_holds (CAST id) g r = cast_holds m.code m.areas m.world Q m.frame l o id
  effect_holds (ENTER id) g r = enter_holds m.code m.areas m.world Q m.frame l o id
  effect_holds (EXECUTEIN id) g r = execute_in_holds m.code m.areas m.world Q m.frame l o id
  effect_holds (SAME id) g r = same_holds m.code m.areas m.world Q m.frame l o id
  effect_holds (SETCEILING id) g r = set_ceiling_holds m.code m.areas m.world Q m.frame l o id
  effect_holds (PRINT id) g r = print_holds m.code m.areas m.world Q m.frame l o id
  effect_holds (READ id) g r = read_holds m.code m.areas m.world Q m.frame l o id
  effect_holds (REGISTER id) g r = register_holds m.code m.areas m.world Q m.frame l o id
  effect_holds (RELEASE id) g r = release_holds m.code m.areas m.world Q m.frame l o id
  effect_holds (TERMINATE id) g r = terminate_holds m.code m.areas m.world Q m.frame l o id
  effect_holds (ZERO id) g r = zero_holds m.code m.areas m.world Q m.frame l o id
  effect_holds (STORE id) g r = store_holds m.code m.areas m.world Q m.frame l o id
  effect_holds (PUT id) g r = put_holds m Q l id (g id) r
  effect_holds (PUTSTATIC id) g r = put_static_holds m Q l id r
  effect_holds (PUTELEM id) g r = put_elem_holds m Q l id r
  effect_holds (IF id) g r = if_holds m.code m.areas m.world Q m.frame l o id
  effect_holds (LOOP id) g r = loop_holds m.code m.areas m.world Q m.frame l o id
  effect_holds (LEAVEWITH id) g r = leave_with_holds m.code m.areas m.world Q m.frame l o id
  effect_holds LEAVE g r = leave_holds m.code m.areas m.world Q m.frame l o
  effect_holds (DROP id) g r = drop_holds m.code m.areas m.world Q m.frame l o id
  effect_holds (INIT id) g r = init_holds m.code m.areas m.world Q m.frame l o id
  effect_holds (SUPER id) g r = super_holds m.code m.areas m.world Q m.frame l o id
  effect_holds (PARAMS id) g r = params_holds m.code m.areas m.world Q m.frame l o id

module _ (code : Code) (facts : Facts code) (areas : ℕ → Option MemoryArea) (world : Environment) (list : List ℕ)
    (class : ℕ) (sig : Signature) (f : Frame) (op : Op) (rest : List Op) where
  abbrev w : World
  w = record { areas = areas; objects = world.object_at }

  pub next_holds : (Q : ℕ → Type 0) → ((r : ℕ) → IsOnList w list r → Q r) → ListFine areas list →
      HeapFine code.program w → StaticsFine code.program w world.statics →
      Ready code w list class sig (record f { rest = op ∷ rest }) None → EachReference Q f.locals →
      Holding w Q (effect_of code world (record f { rest = rest }) op)
  unfolding pushed
  next_holds Q seen fine heap statics r locals = effect_holds scene Q locals operands op guarded r.flow.1
    where
      scene : Scene
      scene =
          record {
            code = code;
            facts = facts;
            areas = areas;
            world = world;
            list = list;
            class = class;
            sig = sig;
            frame = record f { rest = rest };
            known = r.known;
            kinds = r.kinds;
            fine = fine;
            heap = heap;
            statics = statics;
            runs = r.runs;
            home = r.home;
            operands = r.operands;
            locals = r.locals;
          }

      guarded : (id : ℕ) → GuardedStores scene id op
      guarded id e g a b below is =
          stored_together scene r.guards.around r.guards.holds id g None f.operands (op ∷ rest) rest r.guards.progress
          (ap (λ x. x ∷ rest) e) a b below is

      operands : EachReference Q f.operands
      operands =
          each_weaker (IsOnList w list) Q seen f.operands
          (all_on_list code.program w list (denote w list f.this f.area)
          (λ s a e. denote_on code.program w list class sig f.body f.this f.area r.home s a e) r.kinds f.operands
          r.operands)

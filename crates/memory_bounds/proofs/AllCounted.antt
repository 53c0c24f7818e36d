-- The next operations of releases do no more than they weigh, in each state that a run of an accepted program comes to.
use Rattle.std.specs.Prelude.{Some, None}
use Rattle.std.proofs.Common.{◌≡◌, ℕ, ◌<◌, List, ◌∷◌, length, refl, subst}
use Rattle.scj_rules.specs.declared.typing.Scope.{Scope}
use Rattle.scj_rules.specs.declared.typing.Scope.TheVariants.{In}
use Rattle.accepted_laws.specs.Kinds.{Kind, number, reference}
use Rattle.accepted_laws.proofs.TypesBelow.{BehindChildren}
use Rattle.scj_model.specs.declared.operations.Op.{Op}
use Rattle.scj_model.specs.declared.operations.Op.TheVariants.{Alloc as ALLOC, Construct as CONSTRUCT, AllocArray as ALLOCARRAY, Call as CALL, CallStatic as CALLSTATIC, Enter as ENTER, ExecuteIn as EXECUTEIN, Super as SUPER}
use Rattle.scj_model.specs.declared.plans.ReadingRow.{ReadingRow}
use Rattle.scj_model.specs.Code.{Code}
use Rattle.scj_model.specs.State.{Object, Frame, Activity, Release, ReleaseAt, State}
use Rattle.scj_model.specs.Operations.{effect_of}
use Rattle.scj_model.specs.Run.{environment}
use Rattle.scope_flow.specs.Facts.{Facts}
use Rattle.scope_flow.specs.Needs.{pushed}
use Rattle.scope_flow.specs.Signatures.{Signature, IsConcrete}
use Rattle.frame_sound.specs.Places.{Place, world_of, denote, AllHave}
use Rattle.frame_sound.specs.Fine.{Ready, list_of}
use Rattle.mission_sound.specs.Bases.{areas_of}
use Rattle.mission_sound.specs.Invariant.{Invariant}
use Rattle.scope_sound.proofs.Registers.{is_concrete_instance}
use Rattle.certain_faults.proofs.Jobs.{Jobs}
use Rattle.certain_faults.proofs.Passes.{asked, Passes}
use Rattle.certain_faults.proofs.Stacks.{Less}
use Rattle.certain_faults.proofs.Runs.{All}
use Rattle.memory_needs.specs.Need.{Table, too_much}
use Rattle.memory_bounds.specs.Weights.{op_weight}
use Rattle.memory_bounds.proofs.Counted.{Knows, alloc_known, construct_known, super_known, call_static_known, call_known, enter_known, execute_in_known, alloc_array_known}
use Rattle.memory_bounds.proofs.Plain.{IsPlain, plain_known}
use Rattle.memory_bounds.proofs.Reckoned.{AreCounted}
use Rattle.memory_bounds.proofs.Standing.{IsNext, is_activity, stand, ready}
use Rattle.memory_bounds.proofs.Typed.{receiver_is_typed, runnable_is_typed}
use Rattle.memory_bounds.proofs.Written.{length_is_written, size_is_written}

module _ (code : Code) (facts : Facts code) (behind : BehindChildren code.program) (table : Table)
    (rows : List ReadingRow) (s : State) (i : Invariant code s) (held : Jobs (All code) s) where
  -- an object of a class is of a concrete one
  concrete : (r : ℕ) (o : Object) → (world_of s).objects r ≡ Some o → o.class < length code.program.classes →
      IsConcrete code.program o.class
  concrete r o there is_class =
      is_concrete_instance code facts o.class is_class (i.memories.memory.heap r o there).is_instance

  module _ (place : ℕ) (r : Release) (a : Activity) (f : Frame) (below : List Frame) (rest : List Op) where
    abbrev frame : Frame
    frame = record f { rest = rest }

    abbrev list : List ℕ
    list = list_of (areas_of i.base) (f ∷ below)

    abbrev den : Scope → Place
    den = denote (world_of s) (list_of (areas_of i.base) (f ∷ below)) f.this f.area

    -- what is known of the operands is what the operation asks
    mine : (op : Op) → IsNext s place r a f below op rest → All code (f ∷ below)
    mine op next =
        subst (All code) next.frames
        (held.are (ReleaseAt place) a (is_activity code facts rows s i place r a f below op rest next))

    is_asked : (op : Op) (next : IsNext s place r a f below op rest) → Less (asked code op) (mine op next).0.stack
    is_asked op next =
        (subst (λ (ops : List Op). Passes code ops (mine op next).0.stack) next.ops (mine op next).0.passes).0

    module _ (class : ℕ) (sig : Signature) (op : Op)
        (is_ready : Ready code (world_of s) (list_of (areas_of i.base) (f ∷ below)) class sig (record f { rest = op ∷ rest }) None)
        (next : IsNext s place r a f below op rest) (small : op_weight code table op < too_much) where
      abbrev Result : Type 0
      Result = Knows code table op (effect_of code (environment rows s) (record f { rest = rest }) op)

      taking : (kinds : List Kind) → is_ready.kinds ≡ kinds → AllHave code.program (world_of s) den kinds f.operands
      taking kinds e =
          subst (λ (ks : List Kind). AllHave code.program (world_of s) den ks f.operands) e is_ready.operands

    of_op : (class : ℕ) (sig : Signature) (op : Op) →
        Ready code (world_of s) (list_of (areas_of i.base) (f ∷ below)) class sig (record f { rest = op ∷ rest }) None →
        IsNext s place r a f below op rest → op_weight code table op < too_much →
        Knows code table op (effect_of code (environment rows s) (record f { rest = rest }) op)
    unfolding effect_of pushed IsPlain
    of_op class sig (ALLOC id) is_ready next small = alloc_known code table frame id
    of_op class sig (CONSTRUCT id) is_ready next small = construct_known code table frame id
    of_op class sig (SUPER id) is_ready next small = super_known code table frame id
    of_op class sig (CALLSTATIC id) is_ready next small = call_static_known code table frame id
    of_op class sig (CALL id) is_ready next small =
        call_known code table (environment rows s) frame id
        (receiver_is_typed code (world_of s) den (environment rows s) (λ r. refl) concrete frame id class sig is_ready.kinds
        is_ready.flow.1.out is_ready.flow.1.needed is_ready.operands)
    of_op class sig (ENTER id) is_ready next small =
        let need = is_ready.flow.1.needed in
        enter_known code table (environment rows s) frame id
        (runnable_is_typed code (world_of s) den (environment rows s) (λ r. refl) concrete frame id need.target need.is
        need.class need.is_on need.scope (number ∷ is_ready.flow.1.out) (taking class sig (ENTER id) is_ready next small _ need.takes))
        (size_is_written code behind frame (mine (ENTER id) next).0.stack (mine (ENTER id) next).0.shadows id facts class sig
        is_ready.runs need (is_asked (ENTER id) next)) small
    of_op class sig (EXECUTEIN id) is_ready next small =
        let need = is_ready.flow.1.needed in
        execute_in_known code table (environment rows s) frame id
        (runnable_is_typed code (world_of s) den (environment rows s) (λ r. refl) concrete frame id need.target need.is
        need.class need.is_on need.scope (reference need.type (In need.area) ∷ is_ready.flow.1.out) (taking class sig (EXECUTEIN id) is_ready next small _ need.takes)) small
    of_op class sig (ALLOCARRAY id) is_ready next small =
        alloc_array_known code table (environment rows s) frame id
        (length_is_written code behind frame (mine (ALLOCARRAY id) next).0.stack (mine (ALLOCARRAY id) next).0.shadows id
        (is_asked (ALLOCARRAY id) next)) small
    of_op class sig op is_ready next small = plain_known code table frame (environment rows s) op tt

  pub are_counted : AreCounted code table rows s
  are_counted = record {
    is = λ index r a f below op rest next small.
        of_op index r a f below rest (stand code facts rows s i index r a f below op rest next).0.class
        (stand code facts rows s i index r a f below op rest next).0.sig op
        (ready code facts rows s i index r a f below op rest next) next small;
  }

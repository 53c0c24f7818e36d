-- What the next operation of a started release does leaves its frames a chain.
use Rattle.std.specs.Prelude.{Option, Some, None, slice_get, if◌then◌else◌}
use Rattle.std.proofs.Common.{◌≡◌, ◌⊎◌, ℕ, ◌<◌, List, [], ◌∷◌, length, Bool, true, false, true≢false, inl, inr, refl, sym, ◌∙◌, ap, subst}
use Rattle.scj_base.specs.declared.faults.RunFault.{RunFault}
use Rattle.scj_base.specs.declared.positions.Position.{Position}
use Rattle.scj_rules.specs.declared.typing.Binding.{Binding}
use Rattle.scj_rules.specs.declared.typing.Binding.TheVariants.{Builtin}
use Rattle.scj_rules.specs.declared.typing.Scope.{Scope}
use Rattle.scj_rules.specs.declared.typing.Scope.TheVariants.{In}
use Rattle.scj_rules.specs.declared.views.Body.{Body}
use Rattle.scj_rules.specs.Bodies.{number_literal}
use Rattle.scj_rules.specs.Definitions.{read}
use Rattle.scj_rules.specs.Words.{◌>>=◌}
use Rattle.scj_tree.specs.declared.nodes.Node.{Node}
use Rattle.scj_tree.specs.declared.nodes.Node.TheVariants.{Call}
use Rattle.accepted_laws.specs.Kinds.{Kind, number, reference}
use Rattle.accepted_laws.proofs.Tools.{some_inj}
use Rattle.accepted_laws.proofs.TypesBelow.{BehindChildren}
use Rattle.scj_model.specs.declared.operations.Op.{Op}
use Rattle.scj_model.specs.declared.operations.Op.TheVariants.{Alloc as ALLOC, Construct as CONSTRUCT, AllocArray as ALLOCARRAY, Call as CALL, CallStatic as CALLSTATIC, Enter as ENTER, ExecuteIn as EXECUTEIN, Super as SUPER}
use Rattle.scj_model.specs.declared.plans.ReadingRow.{ReadingRow}
use Rattle.scj_model.specs.Code.{Code, binding, part}
use Rattle.scj_model.specs.State.{Object, Frame, Activity, Release, ReleaseAt, State}
use Rattle.scj_model.specs.Effects.{Effect, Goes, Prints, Makes, Stores, StoresStatic, SetsHidden, SetsCeiling, Calls, Opens, Leaves, AsksRegistration, AsksRelease, AsksTermination, Faults, Stuck}
use Rattle.scj_model.specs.Operations.{effect_of}
use Rattle.scj_model.specs.Run.{effect_at, environment}
use Rattle.scope_flow.specs.Facts.{Facts}
use Rattle.scope_flow.specs.Needs.{pushed}
use Rattle.scope_flow.specs.Pushers.{Pusher}
use Rattle.scope_flow.specs.Signatures.{Signature, IsConcrete}
use Rattle.scope_flow.specs.Ways.{Comes}
use Rattle.frame_sound.specs.EffectsFine.{IsSame, Fine as EffectIsFine}
use Rattle.frame_sound.specs.Places.{World, Place, world_of, denote, AllHave}
use Rattle.frame_sound.specs.Fine.{Ready, list_of}
use Rattle.mission_sound.specs.Bases.{areas_of}
use Rattle.mission_sound.specs.Invariant.{Invariant}
use Rattle.scope_sound.proofs.Registers.{is_concrete_instance}
use Rattle.certain_faults.proofs.Jobs.{Jobs}
use Rattle.certain_faults.proofs.Passes.{asked, Passes}
use Rattle.certain_faults.proofs.Stacks.{Less}
use Rattle.certain_faults.proofs.Runs.{All}
use Rattle.memory_needs.specs.Room.{entered_with}
use Rattle.memory_bounds.specs.Weights.{op_weight, size_node}
use Rattle.memory_bounds.proofs.ChainSteps.{EffectLinks, EntersIn, RunsIn}
use Rattle.memory_bounds.proofs.Counted.{is_memory_fault, call_known, call_static_known, construct_known, super_known}
use Rattle.memory_bounds.proofs.Plain.{IsPlain, plain_effect}
use Rattle.memory_bounds.proofs.RunBodies.{EntersAt, op_targets, opens_memory}
use Rattle.memory_bounds.proofs.RunNodes.{BodyRuns, come_to_run}
use Rattle.memory_bounds.proofs.RunTargets.{RunsRight, alloc_array_runs, alloc_runs, by_tables, enter_runs, execute_runs}
use Rattle.memory_bounds.proofs.Standing.{IsNext, is_activity, stand, ready, fine}
use Rattle.memory_bounds.proofs.Typed.{receiver_is_typed, runnable_is_typed}
use Rattle.memory_bounds.proofs.Written.{size_is_written}

-- what an effect leaves of a chain, and that it is no fault of memory of its own accord
pub record IsLinked (code : Code) (f : Frame) (e : Effect) : Type 0 where
  pub links : EffectLinks code f e
  pub full : (x : RunFault) → e ≡ Faults x → is_memory_fault x ≡ false

-- the call at a node has a first argument
pub record FirstArgument (code : Code) (id : ℕ) : Type 0 where
  pub size : ℕ
  pub position : Position
  pub name : List ℕ
  pub object : Option ℕ
  pub more : List ℕ
  pub is : slice_get code.program.nodes id ≡ Some (Call position name object (size ∷ more))

module _ (code : Code) (w : World) (list : List ℕ) (c : ℕ) (sig : Signature) (f : Frame) (op : Op) (rest : List Op)
    (pushers : List Pusher) (came : Comes code f.body (op ∷ rest) pushers)
    (arguments : (id : ℕ) → op ≡ ENTER id → FirstArgument code id) where
  same : (h : Frame) → IsSame (record f { rest = rest }) h → IsSame f h
  same h x = record {
    body = x.body;
    called_at = x.called_at;
    this = x.this;
    area = x.area;
    saved = x.saved;
    opened = x.opened;
  }

  abbrev runs : (target : Body) → BodyRuns code f.body op target → RunsIn code f.body target
  runs target r = record { id = r.id; node = r.node; is_in = r.is_in; is = r.is; is_target = r.is_target }

  module _ (target : Body) (r : BodyRuns code f.body op target) (e : EntersAt code op r.id) where
    abbrev first : FirstArgument code r.id
    first = arguments r.id e.is

    node_is : r.node ≡ Call first.position first.name first.object (first.size ∷ first.more)
    node_is = some_inj r.node (Call first.position first.name first.object (first.size ∷ first.more)) (sym r.is ∙ first.is)

    asked_size : entered_with (binding code r.id) r.node ≡ Some first.size
    unfolding entered_with
    asked_size =
        ap (λ (b : Binding). entered_with b r.node) e.bound
        ∙ (ap (entered_with (Builtin e.target)) node_is
        ∙ ap (λ (t : Bool). if t then Some first.size else None) e.enters)

    sized : (bytes : ℕ) → ((id n : ℕ) → op ≡ ENTER id → part code size_node id >>= part code number_literal ≡ Some n →
        bytes ≡ n) → (n : ℕ) → read code.program.nodes number_literal first.size ≡ Some n → bytes ≡ n
    unfolding size_node
    sized bytes h n q =
        h r.id n e.is
        (ap (λ (o : Option Node). o >>= size_node >>= part code number_literal) first.is ∙ q)

  enters : (target : Body) (bytes : ℕ) → BodyRuns code f.body op target → opens_memory op ≡ true →
      ((id n : ℕ) → op ≡ ENTER id → part code size_node id >>= part code number_literal ≡ Some n → bytes ≡ n) →
      EntersIn code f.body target bytes
  enters target bytes r opens h = of r.opens
    where
      of : (opens_memory op ≡ false) ⊎ EntersAt code op r.id → EntersIn code f.body target bytes
      of (inl none) = absurd (true≢false (sym opens ∙ none))
      of (inr e) = record {
        runs = runs target r;
        size = (first target r e).size;
        asked = asked_size target r e;
        sized = sized target r e bytes h;
      }

  links_by : (e : Effect) → EffectIsFine code w list c sig (record f { rest = rest }) e → RunsRight code op e →
      EffectLinks code f e
  links_by (Goes h) x k = same h x.is.same
  links_by (Prints h label value) x k = same h x.is.same
  links_by (Makes h class values) x k = same h x.is.goes.same
  links_by (Stores h r slot v) x k = same h x.is.0.same
  links_by (StoresStatic h n v) x k = same h x.is.0.same
  links_by (SetsHidden h r values) x k = same h x.is.0.same
  links_by (SetsCeiling h r ceiling) x k = same h x.is.0.same
  links_by (Calls h g) x k = (
    same h x.is.goes.same,
    x.is.unopened,
    runs g.body (come_to_run code f.body op rest pushers came g.body (k.calls h g refl)),
  )
  links_by (Opens h g scope bytes) x k =
      (let o = k.opens h g scope bytes refl in (
        same h x.is.goes.same,
        enters g.body bytes (come_to_run code f.body op rest pushers came g.body o.1) o.0 o.2,
      ))
  links_by (Leaves h v) x k = tt
  links_by (AsksRegistration h r) x k = same h x.is.0.same
  links_by (AsksRelease h r) x k = same h x.is.0.same
  links_by (AsksTermination h r) x k = same h x.is.0.same
  links_by (Faults fault) x k = tt
  links_by Stuck x k = tt

module _ (code : Code) (facts : Facts code) (behind : BehindChildren code.program) (rows : List ReadingRow) (s : State)
    (i : Invariant code s) (held : Jobs (All code) s) where
  -- an object of a class is of a concrete one
  concrete : (r : ℕ) (o : Object) → (world_of s).objects r ≡ Some o → o.class < length code.program.classes →
      IsConcrete code.program o.class
  concrete r o there is_class =
      is_concrete_instance code facts o.class is_class (i.memories.memory.heap r o there).is_instance

  module _ (place : ℕ) (r : Release) (a : Activity) (f : Frame) (below : List Frame) (rest : List Op) where
    abbrev frame : Frame
    frame = record f { rest = rest }

    abbrev list : List ℕ
    list = list_of (areas_of i.base) (f ∷ below)

    abbrev den : Scope → Place
    den = denote (world_of s) (list_of (areas_of i.base) (f ∷ below)) f.this f.area

    mine : (op : Op) → IsNext s place r a f below op rest → All code (f ∷ below)
    mine op next =
        subst (All code) next.frames
        (held.are (ReleaseAt place) a (is_activity code facts rows s i place r a f below op rest next))

    is_asked : (op : Op) (next : IsNext s place r a f below op rest) → Less (asked code op) (mine op next).0.stack
    is_asked op next =
        (subst (λ (ops : List Op). Passes code ops (mine op next).0.stack) next.ops (mine op next).0.passes).0

    module _ (class : ℕ) (sig : Signature) (op : Op)
        (is_ready : Ready code (world_of s) (list_of (areas_of i.base) (f ∷ below)) class sig (record f { rest = op ∷ rest }) None)
        (next : IsNext s place r a f below op rest)
        (is_fine : EffectIsFine code (world_of s) (list_of (areas_of i.base) (f ∷ below)) class sig (record f { rest = rest })
        (effect_of code (environment rows s) (record f { rest = rest }) op)) where
      taking : (kinds : List Kind) → is_ready.kinds ≡ kinds → AllHave code.program (world_of s) den kinds f.operands
      taking kinds e =
          subst (λ (ks : List Kind). AllHave code.program (world_of s) den ks f.operands) e is_ready.operands

      linked : ((id : ℕ) → op ≡ ENTER id → FirstArgument code id) →
          RunsRight code op (effect_of code (environment rows s) (record f { rest = rest }) op) →
          IsLinked code f (effect_of code (environment rows s) (record f { rest = rest }) op)
      linked arguments right = record {
        full = right.full;
        links = links_by code (world_of s) (list_of (areas_of i.base) (f ∷ below)) class sig f op rest is_ready.flow.0.pushers
            is_ready.flow.0.came arguments (effect_of code (environment rows s) (record f { rest = rest }) op) is_fine right;
      }

    of_op : (class : ℕ) (sig : Signature) (op : Op) →
        Ready code (world_of s) (list_of (areas_of i.base) (f ∷ below)) class sig (record f { rest = op ∷ rest }) None →
        IsNext s place r a f below op rest →
        EffectIsFine code (world_of s) (list_of (areas_of i.base) (f ∷ below)) class sig (record f { rest = rest })
        (effect_of code (environment rows s) (record f { rest = rest }) op) →
        IsLinked code f (effect_of code (environment rows s) (record f { rest = rest }) op)
    unfolding effect_of pushed IsPlain op_weight op_targets
    of_op class sig (CONSTRUCT id) is_ready next is_fine =
        linked class sig (CONSTRUCT id) is_ready next is_fine (λ k e. absurd (cc (e)))
        (by_tables code (CONSTRUCT id) _ (λ t. refl) (λ t. (construct_known code t frame id)))
    of_op class sig (SUPER id) is_ready next is_fine =
        linked class sig (SUPER id) is_ready next is_fine (λ k e. absurd (cc (e)))
        (by_tables code (SUPER id) _ (λ t. refl) (λ t. (super_known code t frame id)))
    of_op class sig (CALLSTATIC id) is_ready next is_fine =
        linked class sig (CALLSTATIC id) is_ready next is_fine (λ k e. absurd (cc (e)))
        (by_tables code (CALLSTATIC id) _ (λ t. refl) (λ t. (call_static_known code t frame id)))
    of_op class sig (CALL id) is_ready next is_fine =
        linked class sig (CALL id) is_ready next is_fine (λ k e. absurd (cc (e)))
        (by_tables code (CALL id) _ (λ t. refl) (λ t. (call_known code t (environment rows s) frame id
        (receiver_is_typed code (world_of s) den (environment rows s) (λ r. refl) concrete frame id class sig
        is_ready.kinds is_ready.flow.1.out is_ready.flow.1.needed is_ready.operands))))
    of_op class sig (ENTER id) is_ready next is_fine =
        (let need = is_ready.flow.1.needed in
        linked class sig (ENTER id) is_ready next is_fine (λ k e.
        (let same_id : id ≡ k = cc (e) in record {
          size = need.size;
          position = need.position;
          name = need.name;
          object = need.object;
          more = need.runnable ∷ [];
          is = ap (slice_get code.program.nodes) (sym same_id) ∙ need.is_there;
        }))
        (enter_runs code (environment rows s) frame id
        (runnable_is_typed code (world_of s) den (environment rows s) (λ r. refl) concrete frame id need.target need.is
        need.class need.is_on need.scope (number ∷ is_ready.flow.1.out)
        (taking class sig (ENTER id) is_ready next is_fine _ need.takes))
        (size_is_written code behind frame (mine (ENTER id) next).0.stack (mine (ENTER id) next).0.shadows id facts class
        sig is_ready.runs need (is_asked (ENTER id) next))))
    of_op class sig (EXECUTEIN id) is_ready next is_fine =
        (let need = is_ready.flow.1.needed in
        linked class sig (EXECUTEIN id) is_ready next is_fine (λ k e. absurd (cc (e)))
        (execute_runs code (environment rows s) frame id
        (runnable_is_typed code (world_of s) den (environment rows s) (λ r. refl) concrete frame id need.target need.is
        need.class need.is_on need.scope (reference need.type (In need.area) ∷ is_ready.flow.1.out)
        (taking class sig (EXECUTEIN id) is_ready next is_fine _ need.takes))))
    of_op class sig (ALLOC id) is_ready next is_fine =
        linked class sig (ALLOC id) is_ready next is_fine (λ k e. absurd (cc (e))) (alloc_runs code (environment rows s) frame id)
    of_op class sig (ALLOCARRAY id) is_ready next is_fine =
        linked class sig (ALLOCARRAY id) is_ready next is_fine (λ k e. absurd (cc (e)))
        (alloc_array_runs code (environment rows s) frame id)
    of_op class sig op is_ready next is_fine =
        linked class sig op is_ready next is_fine (λ k e. absurd (cc (e)))
        (record {
          calls = λ h g q. absurd ((plain_effect code frame (environment rows s) op tt).calls h g q);
          opens = λ h g scope bytes q. absurd ((plain_effect code frame (environment rows s) op tt).opens h g scope bytes q);
          full = (plain_effect code frame (environment rows s) op tt).full;
        })

  pub links : (index : ℕ) (r : Release) (a : Activity) (f : Frame) (below : List Frame) (op : Op) (rest : List Op) →
      IsNext s index r a f below op rest → IsLinked code f (effect_at code rows s f op rest)
  links index r a f below op rest next =
      of_op index r a f below rest (stand code facts rows s i index r a f below op rest next).0.class
      (stand code facts rows s i index r a f below op rest next).0.sig op
      (ready code facts rows s i index r a f below op rest next) next
      (fine code facts rows s i index r a f below op rest next)

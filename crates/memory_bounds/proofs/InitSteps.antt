-- While a mission is initialised, each object in its memory whose class has a form tells its storage or is being made: the next
-- operation of the sequencer keeps that.
use Rattle.std.specs.Prelude.{Option, Some, None, IsSome, pos, slice_get}
use Rattle.std.proofs.Common.{◌≡◌, ◌⊎◌, ℕ, ◌≤◌, true, List, [], ◌∷◌, length, refl, sym, ◌∙◌, ap, subst, arith, inl, inr}
use Rattle.scj_base.specs.declared.values.Value.{Value}
use Rattle.scj_base.specs.declared.values.Value.TheVariants.{At, Int}
use Rattle.scj_rules.specs.declared.views.Body.{Body}
use Rattle.scj_rules.specs.declared.views.Body.TheVariants.{Written, Empty}
use Rattle.scj_rules.specs.Classes.{hidden_fields, is_sub}
use Rattle.scj_rules.specs.Layout.{element_kind, storage_slot}
use Rattle.accepted_laws.proofs.Tools.{some_inj}
use Rattle.scj_model.specs.declared.operations.Op.{Op}
use Rattle.scj_model.specs.declared.operations.Op.TheVariants.{Alloc as ALLOC, Construct as CONSTRUCT, Params as PARAMS, PutElem as PUTELEM, Super as SUPER}
use Rattle.scj_model.specs.declared.plans.ReadingRow.{ReadingRow}
use Rattle.scj_model.specs.Code.{Code, binding}
use Rattle.scj_model.specs.State.{Object, Frame, TheSequencer, State, activity_of, is_init, object_at}
use Rattle.scj_model.specs.Memory.{new_slots}
use Rattle.scj_model.specs.Steps.{Step, fault_in}
use Rattle.scj_model.specs.Effects.{Effect, Makes, Stores, SetsHidden}
use Rattle.scj_model.specs.Apply.{applied}
use Rattle.scj_model.specs.Operations.{Environment, bound_class, effect_of}
use Rattle.scj_model.specs.Run.{environment, position_of_op}
use Rattle.scj_model.proofs.Reaching.{Gives as StepGives, gives_some}
use Rattle.priority_laws.proofs.StepCases.{gives_nothing}
use Rattle.scope_flow.specs.Flow.{InNode}
use Rattle.scope_flow.specs.Needs.{AllocNeeds, ConstructNeeds, IsSuperCall, ParamsNeeds, SuperNeeds, pushed}
use Rattle.scope_flow.specs.Signatures.{Runs}
use Rattle.scope_flow.specs.Slots.{IsOfType}
use Rattle.frame_sound.specs.Fine.{FramesFine, IsOnList, OwnObject, Ready, list_of}
use Rattle.frame_sound.specs.Places.{World, denote, world_of}
use Rattle.frame_sound.proofs.NextOperation.{next_fine}
use Rattle.frame_sound.specs.EffectsFine.{Fine as EffectIsFine}
use Rattle.mission_sound.specs.Bases.{areas_of}
use Rattle.mission_sound.specs.Invariant.{Invariant}
use Rattle.reference_sound.specs.References.{JobHolds, LiesAround, LiesInImmortal, ReferencesHold}
use Rattle.reference_sound.proofs.Passes.{highest_ready}
use Rattle.scope_sound.specs.Sound.{HasFacts}
use Rattle.scope_sound.proofs.ElementStores.{elements_of_arrays}
use Rattle.certain_faults.proofs.Frames.{GivesAsBound}
use Rattle.certain_faults.proofs.GivenAsBound.{GivesSo, given_as_bound}
use Rattle.certain_faults.proofs.Jobs.{Jobs}
use Rattle.certain_faults.proofs.Kept.{KeepsBody}
use Rattle.certain_faults.proofs.Meets.{operands_are}
use Rattle.certain_faults.proofs.Stacks.{Less, put}
use Rattle.certain_faults.specs.declared.known.Known.TheVariants.{Exactly}
use Rattle.memory_bounds.proofs.Making.{Holder, Pending}
use Rattle.accepted_laws.specs.Judgements.{Inside}
use Rattle.scj_rules.specs.Bodies.{constructor_body}
use Rattle.certain_faults.proofs.Passes.{Begins, Passes, asked}
use Rattle.certain_faults.proofs.Runs.{All, keeps_body}
use Rattle.certain_faults.proofs.RunsOfNodes.{ClassesAskNothing}
use Rattle.memory_bounds.specs.Theorem.{Storage}
use Rattle.memory_bounds.proofs.Above.{AllLack, slots_lack}
use Rattle.memory_bounds.proofs.AllocStep.{HeapLacks, alloc_step, past_end}
use Rattle.memory_bounds.proofs.Allocating.{all_have_lack, each_lacks, holds_new, pending_begins}
use Rattle.memory_bounds.proofs.Forms.{FormFacts, FormSays, begins_made}
use Rattle.memory_bounds.proofs.MadeMoves.{Is_made, Is_read, MovesOn, moves_on}
use Rattle.memory_bounds.proofs.Makers.{Made}
use Rattle.memory_bounds.proofs.MakerSteps.{CanBegin}
use Rattle.memory_bounds.proofs.Params.{Fault, Not_kept, ReadsForm, Sets, Unread, reads_form}
use Rattle.memory_bounds.proofs.Sources.{An_array, An_object, MadeBy, Sourced, sourced}
use Rattle.memory_bounds.proofs.StorageKept.{Later, New, SparesStorage, Reports, Was, hidden_reports, objects_later}
use Rattle.memory_bounds.proofs.Unnamed.{Clean, Heap}

module _ (code : Code) (facts : HasFacts code) (bare : ClassesAskNothing code) (storage : Storage)
    (Inner : Op → Type 0) (OnWay : ℕ → Type 0) (forms : FormFacts code storage Inner OnWay) where
  -- an object tells its storage, or is being made
  pub data Stands (s : State) (u : ℕ) (x : Object) : Type 0 where
    Reported : Reports storage x → Stands s u x
    Making : Clean u x (Made code Inner OnWay (GivesSo code) u) s → Stands s u x

  -- `first` is the memory of the mission
  pub record InInit (s : State) : Type 0 where
    pub first : ℕ
    pub base : (i : Invariant code s) → areas_of i.base ≡ first ∷ (0 ∷ [])
    pub objects : (u : ℕ) (x : Object) (n : ℕ) → object_at s u ≡ Some x → first ≤ x.area →
        storage x.class ≡ Some n → Stands s u x

  -- ---- one operation of the sequencer's highest frame

  module _ (rows : List ReadingRow) (s : State) (i : Invariant code s) (refs : ReferencesHold s (areas_of i.base))
      (held : Jobs (All code) s) (outcome : s.outcome ≡ None) (f : Frame) (below : List Frame)
      (acts : s.activity.frames ≡ f ∷ below) (op : Op) (rest : List Op) (ops : f.rest ≡ op ∷ rest) where
    abbrev list : List ℕ
    list = list_of (areas_of i.base) (f ∷ below)

    abbrev w : World
    w = world_of s

    abbrev world : Environment
    world = environment rows s

    abbrev effect : Effect
    effect = effect_of code (environment rows s) (record f { rest = rest }) op

    fine : FramesFine code (world_of s) (areas_of i.base) (f ∷ below)
    unfolding activity_of
    fine =
        subst (FramesFine code (world_of s) (areas_of i.base)) acts
        (i.memories.jobs TheSequencer s.activity refl).frames

    ready : Ready code (world_of s) (list_of (areas_of i.base) (f ∷ below)) fine.0.class fine.0.sig
        (record f { rest = op ∷ rest }) None
    ready =
        subst (λ xs. Ready code (world_of s) (list_of (areas_of i.base) (f ∷ below)) fine.0.class fine.0.sig
        (record f { rest = xs }) None) ops
        (highest_ready code (world_of s) (list_of (areas_of i.base) (f ∷ below)) f fine.0)

    mine : All code (f ∷ below)
    unfolding activity_of
    mine = subst (All code) acts (held.are TheSequencer s.activity refl)

    passes : Passes code (op ∷ rest) mine.0.stack
    passes = subst (λ (xs : List Op). Passes code xs mine.0.stack) ops mine.0.passes

    is_fine : EffectIsFine code (world_of s) (list_of (areas_of i.base) (f ∷ below)) fine.0.class fine.0.sig
        (record f { rest = rest }) (effect_of code (environment rows s) (record f { rest = rest }) op)
    is_fine =
        next_fine code facts.bodies (world_of s).areas (environment rows s) (list_of (areas_of i.base) (f ∷ below))
        fine.0.class fine.0.sig f op rest fine.1 i.memories.memory.heap i.memories.memory.statics ready

    pub stays : KeepsBody code (GivesSo code) f.body (effect_of code (environment rows s) (record f { rest = rest }) op)
    stays =
        keeps_body code (world_of s) (list_of (areas_of i.base) (f ∷ below)) f rest fine.0.class fine.0.sig ready.runs
        (effect_of code (environment rows s) (record f { rest = rest }) op) is_fine

    pub gives : GivesAsBound code (GivesSo code) (environment rows s) (record f { rest = rest }) op
    gives =
        given_as_bound code facts.bodies (environment rows s) (world_of s) i.memories.memory.heap refl
        (list_of (areas_of i.base) (f ∷ below)) fine.0.class fine.0.sig f rest op ready

    source : Sourced code (environment rows s) (record f { rest = rest }) op
        (effect_of code (environment rows s) (record f { rest = rest }) op)
    source = sourced code (environment rows s) (record f { rest = rest }) op

    -- ---- a form that is read

    before : (x : Op) → op ≡ x → Ready code (world_of s) (list_of (areas_of i.base) (f ∷ below)) fine.0.class
        fine.0.sig (record f { rest = x ∷ rest }) None
    before x e =
        subst (λ y. Ready code (world_of s) (list_of (areas_of i.base) (f ∷ below)) fine.0.class fine.0.sig
        (record f { rest = y ∷ rest }) None) e ready

    -- the form of the own object
    pub says : (id : ℕ) → op ≡ PARAMS id → (r : ℕ) (o : Object) (n : ℕ) → f.this ≡ Some r → object_at s r ≡ Some o →
        storage o.class ≡ Some n → FormSays code id n
    unfolding pushed Runs IsOfType
    says id e r o n this there reported = of f.body ready.runs need.is_written
      where
        need : ParamsNeeds code f.body fine.0.class id (before (PARAMS id) e).kinds (before (PARAMS id) e).flow.1.out
        need = (before (PARAMS id) e).flow.1.needed

        own : OwnObject code.program (world_of s) (list_of (areas_of i.base) (f ∷ below)) fine.0.class f.this f.area
        own = ready.home.own need.for_object

        same : own.object ≡ o
        same =
            some_inj own.object o
            (sym own.found
            ∙ (ap (λ m. slice_get s.objects m) (some_inj own.r r (sym own.is ∙ this)) ∙ there))

        under : is_sub code.program.classes o.class fine.0.class ≡ true
        under = subst (λ (y : Object). is_sub code.program.classes y.class fine.0.class ≡ true) same own.of_type.1

        of : (body : Body) → Runs code.program body fine.0.class fine.0.sig →
            InNode body (λ b. IsSuperCall code.program b id) → FormSays code id n
        of (Written b) runs call =
            forms.form b fine.0.class fine.0.sig runs id call need.superclass need.is need.form o.class n under reported
        of Empty runs call = absurd call

    -- the storage that it sets
    sets_storage : (id : ℕ) → op ≡ PARAMS id → (r : ℕ) (o : Object) (n : ℕ) (z : _) → f.this ≡ Some r →
        object_at s r ≡ Some o → storage o.class ≡ Some n → slice_get f.operands 0 ≡ Some (Int z) →
        Int z ≡ Int (pos n)
    sets_storage id e r o n z this there reported top =
        some_inj (Int z) (Int (pos n))
        (sym top
        ∙ (says id e r o n this there reported).last f.operands
        (operands_are (asked code (PARAMS id)) mine.0.stack f.operands
        (subst (λ y. Less (asked code y) mine.0.stack) e passes.0) mine.0.shadows))

    spares : SparesStorage storage s (effect_of code (environment rows s) (record f { rest = rest }) op)
    spares = of (effect_of code (environment rows s) (record f { rest = rest }) op) refl source
      where
        of : (e : Effect) → effect_of code (environment rows s) (record f { rest = rest }) op ≡ e →
            Sourced code (environment rows s) (record f { rest = rest }) op e → SparesStorage storage s e
        of (Stores h r slot v) e x = λ o n there reported same. stored o n there reported same (x.is o there)
          where
            stored : (o : Object) (n : ℕ) → object_at s r ≡ Some o → storage o.class ≡ Some n → slot ≡ storage_slot →
                (hidden_fields code.program.classes o.class ≤ slot) ⊎ ((id : ℕ) × (op ≡ PUTELEM id)) → ⊥
            stored o n there reported same (inl le) =
                (let two = forms.hides o.class n reported in omega (arith, two, le, same))
            stored o n there reported same (inr q) =
                (let some : IsSome (element_kind code.program o.class) =
                elements_of_arrays code facts.bodies (world_of s).areas (environment rows s)
                (list_of (areas_of i.base) (f ∷ below)) fine.0.class fine.0.sig f q.0 rest fine.1
                i.memories.memory.heap i.memories.memory.statics (before (PUTELEM q.0) q.1) h r slot v
                (ap (λ y. effect_of code (environment rows s) (record f { rest = rest }) y) (sym q.1) ∙ e) o there in
                let none = forms.no_array o.class n reported in
                cc (some, none))
        of (SetsHidden h r vs) e x = λ o n there reported. form o n there reported (reads q.1)
          where
            q : (id : ℕ) × (op ≡ PARAMS id)
            q = x.is

            reads : op ≡ PARAMS q.0 → ReadsForm code (record f { rest = rest }) q.0 (SetsHidden h r vs)
            reads k =
                subst (ReadsForm code (record f { rest = rest }) q.0)
                (ap (λ y. effect_of code (environment rows s) (record f { rest = rest }) y) (sym k) ∙ e)
                (reads_form code (record f { rest = rest }) q.0 (environment rows s))

            form : (o : Object) (n : ℕ) → object_at s r ≡ Some o → storage o.class ≡ Some n →
                ReadsForm code (record f { rest = rest }) q.0 (SetsHidden h r vs) →
                slice_get vs storage_slot ≡ Some (Int (pos n))
            form o n there reported (Sets _ _ _ z own top sets) =
                sets ∙ ap (λ y. Some y) (sets_storage q.0 q.1 r o n z own there reported top)
        of _ e x = tt

    -- ---- an object that is being made

    pub environment_lacks : (u : ℕ) (o : Object) → Heap u o s → (r : ℕ) (x : Object) →
        (environment rows s).object_at r ≡ Some x → AllLack u x.slots
    environment_lacks u o heap r x there = heap.objects r x there

    module _ (u : ℕ) (o : Object) (heap : Heap u o s) (n : ℕ) (reported : storage o.class ≡ Some n) where
      pub begin : (id class : ℕ) → (op ≡ CONSTRUCT id) ⊎ (op ≡ SUPER id) → bound_class (binding code id) ≡ Some class →
          OnWay class →
          CanBegin code Inner OnWay forms.laws (GivesSo code) bare u o s heap s.activity (position_of_op code op)
          (environment rows s) (environment_lacks u o heap) heap.statics class
      unfolding before pushed
      begin id class (inl e) bound way body g tail is new =
          begins_made code Inner OnWay (GivesSo code) u body g new
          (forms.constructors class body need.constructor.sig way is
          (subst (λ c. Runs code.program body c need.constructor.sig) same
          (subst (λ b. Runs code.program b need.class need.constructor.sig) body_is need.constructor.runs))) tail
        where
          need : ConstructNeeds code fine.0.sig id (before (CONSTRUCT id) e).kinds (before (CONSTRUCT id) e).flow.1.out
          need = (before (CONSTRUCT id) e).flow.1.needed

          same : need.class ≡ class
          same = some_inj need.class class (sym need.is ∙ bound)

          body_is : need.constructor.body ≡ body
          body_is =
              some_inj need.constructor.body body
              (sym need.constructor.is ∙ (ap (constructor_body code.program) same ∙ is))
      begin id class (inr e) bound way body g tail is new =
          begins_made code Inner OnWay (GivesSo code) u body g new
          (forms.constructors class body need.constructor.sig way is
          (subst (λ c. Runs code.program body c need.constructor.sig) same
          (subst (λ b. Runs code.program b need.superclass need.constructor.sig) body_is need.constructor.runs))) tail
        where
          need : SuperNeeds code fine.0.class fine.0.sig id (before (SUPER id) e).kinds (before (SUPER id) e).flow.1.out
          need = (before (SUPER id) e).flow.1.needed

          same : need.superclass ≡ class
          same = some_inj need.superclass class (sym need.is ∙ bound)

          body_is : need.constructor.body ≡ body
          body_is =
              some_inj need.constructor.body body
              (sym need.constructor.is ∙ (ap (constructor_body code.program) same ∙ is))

      -- afterwards it stands, unless the run is over
      abbrev StandsAfter : State → Type 0
      StandsAfter t = is_init t.phase ≡ true → (x : Object) → object_at t u ≡ Some x → Stands t u x

      read_now : (id : ℕ) → op ≡ PARAMS id → f.this ≡ Some u →
          StepGives StandsAfter (applied code s TheSequencer s.activity below (position_of_op code op)
          (effect_of code (environment rows s) (record f { rest = rest }) op))
      unfolding applied fault_in is_init
      read_now id e own =
          subst (λ y. StepGives StandsAfter (applied code s TheSequencer s.activity below (position_of_op code op)
          (effect_of code (environment rows s) (record f { rest = rest }) y))) (sym e)
          (of (effect_of code (environment rows s) (record f { rest = rest }) (PARAMS id)) refl
          (reads_form code (record f { rest = rest }) id (environment rows s)))
        where
          of : (d : Effect) → effect_of code (environment rows s) (record f { rest = rest }) (PARAMS id) ≡ d →
              ReadsForm code (record f { rest = rest }) id d →
              StepGives StandsAfter (applied code s TheSequencer s.activity below (position_of_op code op) d)
          of _ q Unread = gives_nothing StandsAfter
          of _ q (Fault x) =
              gives_some StandsAfter (fault_in s TheSequencer s.activity (position_of_op code op) x)
              (λ init. absurd (cc (init)))
          of _ q (Not_kept h sequencer) = absurd ((says id e u o n own heap.object reported).kept sequencer)
          of _ q (Sets h r vs z this top sets) =
              of_set (hidden_reports storage s (SetsHidden h r vs) code s.activity below (position_of_op code op) h r vs
              (λ y m there k. sets ∙ ap (λ v. Some v) (sets_storage id e r y m z this there k top)))
            where
              one : r ≡ u
              one = some_inj r u (sym this ∙ own)

              of_set : StepGives (λ t. (x : Object) → object_at t r ≡ Some x → Reports storage x)
                  (applied code s TheSequencer s.activity below (position_of_op code op) (SetsHidden h r vs)) →
                  StepGives StandsAfter
                  (applied code s TheSequencer s.activity below (position_of_op code op) (SetsHidden h r vs))
              of_set g = record {
                is = λ step k init x there. Reported (g.is step k x (ap (λ m. slice_get step.state.objects m) one ∙ there));
              }

      made_stands : Made code Inner OnWay (GivesSo code) u s.activity.frames →
          StepGives StandsAfter (applied code s TheSequencer s.activity below (position_of_op code op)
          (effect_of code (environment rows s) (record f { rest = rest }) op))
      made_stands made =
          of (moves_on code Inner OnWay forms.laws (GivesSo code) bare u o s heap s.activity (position_of_op code op)
          (environment rows s) (environment_lacks u o heap) heap.statics f below acts op rest ops stays gives begin made)
        where
          of : MovesOn code Inner OnWay forms.laws (GivesSo code) bare u o s heap s.activity (position_of_op code op)
              (environment rows s) (environment_lacks u o heap) heap.statics f below acts op rest ops stays gives begin →
              StepGives StandsAfter (applied code s TheSequencer s.activity below (position_of_op code op)
              (effect_of code (environment rows s) (record f { rest = rest }) op))
          of (Is_made g) = record {
            is = λ step k init x there. (
                let c = g.is step k in
                let same : o ≡ x = some_inj o x (sym c.heap.object ∙ there) in
                Making (subst (λ (y : Object). Clean u y (Made code Inner OnWay (GivesSo code) u) step.state) same c));
          }
          of (Is_read id e own) = read_now id e own

    -- ---- a new object

    none_past : (r : ℕ) (x : Object) → slice_get s.objects r ≡ Some x → r ≡ length s.objects → ⊥
    none_past r x there e = past_end s.objects x (ap (slice_get s.objects) (sym e) ∙ there)

    heap_lacks : HeapLacks (length s.objects) s
    heap_lacks = record {
      statics =
          each_lacks (length s.objects) (LiesInImmortal (world_of s))
          (λ h. none_past (length s.objects) h.object h.found refl) s.statics refs.memory.statics;
      objects = λ r x there.
          each_lacks (length s.objects) (LiesAround (world_of s) x.area)
          (λ h. none_past (length s.objects) h.object h.found refl) x.slots (refs.memory.slots r x there);
      outcome = λ e. (let none = outcome in cc (none, e));
      rows = λ k row there e. none_past row.at (i.handlers.rows k row there).object (i.handlers.rows k row there).found e;
    }

    frames_hold : JobHolds (world_of s) (areas_of i.base) (f ∷ below)
    unfolding activity_of
    frames_hold =
        subst (JobHolds (world_of s) (areas_of i.base)) acts (refs.jobs TheSequencer s.activity refl)

    this_other : f.this ≡ Some (length s.objects) → ⊥
    this_other e =
        (let on = ready.home.on_list (length s.objects) e in
        none_past (length s.objects) on.object on.found refl)

    no_object : (world_of s).objects (length s.objects) ≡ None
    no_object = of (slice_get s.objects (length s.objects)) refl
      where
        of : (x : Option Object) → slice_get s.objects (length s.objects) ≡ x →
            slice_get s.objects (length s.objects) ≡ None
        of None e = e
        of (Some x) e = absurd (past_end s.objects x e)

    module _ (id class : ℕ) (e : op ≡ ALLOC id) (bound : bound_class (binding code id) ≡ Some class) (n : ℕ)
        (reported : storage class ≡ Some n) where
      need : AllocNeeds code f.body fine.0.class fine.0.sig id (before (ALLOC id) e).kinds (before (ALLOC id) e).flow.1.out
      unfolding before pushed
      need = (before (ALLOC id) e).flow.1.needed

      pending : Pending code Inner OnWay (length s.objects) f.this rest (put (Exactly (At (length s.objects))) mine.0.stack)
      unfolding Runs
      pending = of f.body ready.runs need.inside
        where
          of : (body : Body) → Runs code.program body fine.0.class fine.0.sig →
              InNode body (λ b. Inside code.program b fine.0.class id) →
              Pending code Inner OnWay (length s.objects) f.this rest (put (Exactly (At (length s.objects))) mine.0.stack)
          of (Written b) runs inside =
              pending_begins code facts.bodies bare Inner OnWay (length s.objects) b fine.0.class fine.0.sig runs id
              need.by_expression.0 inside need.by_expression.1 rest
              (subst (λ y. Begins code y rest) e passes.1) mine.0.stack class bound (forms.starts class n reported) f.this
              this_other
          of Empty runs inside = absurd inside

      holder : Holder code Inner OnWay (length s.objects)
          (record f { rest = rest; operands = At (length s.objects) ∷ f.operands })
      holder =
          holds_new code facts.bodies bare Inner OnWay (length s.objects) f rest mine.0.stack mine.0.shadows
          (each_lacks (length s.objects) (IsOnList (world_of s) (list_of (areas_of i.base) (f ∷ below)))
          (λ h. none_past (length s.objects) h.object h.found refl) f.locals frames_hold.0)
          (all_have_lack (length s.objects) code (world_of s) no_object
          (denote (world_of s) (list_of (areas_of i.base) (f ∷ below)) f.this f.area) ready.kinds f.operands ready.operands)
          pending

      new_stands : (slots : List Value) → slots ≡ new_slots code.program class →
          StepGives (λ t. (x : Object) → object_at t (length s.objects) ≡ Some x →
          Clean (length s.objects) x (Made code Inner OnWay (GivesSo code) (length s.objects)) t)
          (applied code s TheSequencer s.activity below (position_of_op code op) (Makes (record f { rest = rest }) class slots))
      new_stands slots is =
          alloc_step code Inner OnWay (GivesSo code) s heap_lacks s.activity below (position_of_op code op)
          (record f { rest = rest }) class slots
          (subst (AllLack (length s.objects)) (sym is) (slots_lack (length s.objects) code class)) holder

    -- ---- all objects

    pub objects_stand : (h : InInit s) → (step : Step) →
        applied code s TheSequencer s.activity below (position_of_op code op)
        (effect_of code (environment rows s) (record f { rest = rest }) op) ≡ Some step →
        is_init step.state.phase ≡ true → (u : ℕ) (x : Object) (n : ℕ) → object_at step.state u ≡ Some x →
        h.first ≤ x.area → storage x.class ≡ Some n → Stands step.state u x
    objects_stand h step e init u x n there le reported =
        of (((objects_later storage s (effect_of code (environment rows s) (record f { rest = rest }) op) code s.activity
        below (position_of_op code op) (effect_of code (environment rows s) (record f { rest = rest }) op) refl spares).is
        step e).is u x there)
      where
        old : (o : Object) → object_at s u ≡ Some o → (Reports storage o → Reports storage x) → storage o.class ≡ Some n →
            Stands s u o → Stands step.state u x
        old o was keeps same (Reported k) = Reported (keeps k)
        old o was keeps same (Making c) = (made_stands u o c.heap n same c.frames).is step e init x there

        fresh : (d : Effect) → effect_of code (environment rows s) (record f { rest = rest }) op ≡ d →
            (g : Frame) (class : ℕ) (slots : List Value) → d ≡ Makes g class slots → u ≡ length s.objects →
            x.class ≡ class → Sourced code (environment rows s) (record f { rest = rest }) op d → Stands step.state u x
        fresh d is g class slots made num same src = by (subst (Sourced code (environment rows s) (record f { rest = rest }) op) made src).is
          where
            by : MadeBy code (environment rows s) (record f { rest = rest }) op g class slots → Stands step.state u x
            by (An_array kind array) =
                absurd (let none = forms.no_array class n (ap storage (sym same) ∙ reported) in cc (none, array))
            by (An_object id alloc bound top are) =
                Making (subst (λ m. Clean m x (Made code Inner OnWay (GivesSo code) m) step.state) (sym num)
                ((new_stands id class alloc bound n (ap storage (sym same) ∙ reported) slots are).is step
                (ap (applied code s TheSequencer s.activity below (position_of_op code op))
                (ap (λ (k : Frame). Makes k class slots) (sym top) ∙ (sym made ∙ sym is)) ∙ e) x
                (ap (λ m. slice_get step.state.objects m) (sym num) ∙ there)))

        of : Later storage s (effect_of code (environment rows s) (record f { rest = rest }) op) u x → Stands step.state u x
        of (Was o was class area keeps) =
            old o was keeps (ap storage (sym class) ∙ reported)
            (h.objects u o n was (subst (λ a. h.first ≤ a) area le) (ap storage (sym class) ∙ reported))
        of (New g class slots made num is) =
            fresh (effect_of code (environment rows s) (record f { rest = rest }) op) refl g class slots made num
            (ap (λ (y : Object). y.class) is) source

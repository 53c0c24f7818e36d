-- Where the faults of an accepted program may be: at nodes of its sources.
use Rattle.std.proofs.Common.{◌≡◌, ℕ, zero, suc, true, List, ◌∷◌, Option, Some, None, inl, inr, refl, sym, ap, ◌∙◌, subst, arith}
use Rattle.std.specs.Prelude.{is_some, slice_get}
use Rattle.scj_rules.proofs.ChainLemmas.{or_cases}
use Rattle.scj_base.specs.declared.positions.Position.{Position}
use Rattle.scj_base.specs.declared.values.Value.{Value}
use Rattle.scj_builtins.specs.Framework.{aperiodic_handler, mission, periodic_handler, safelet}
use Rattle.scj_tree.specs.Forest.{Forest}
use Rattle.scj_tree.specs.declared.nodes.Node.{Node}
use Rattle.scj_tree.specs.Shape.{position_of}
use Rattle.scj_rules.specs.Bodies.{class_position, safelet_class}
use Rattle.scj_rules.specs.Classes.{ClassRow, is_sub, superclasses}
use Rattle.scj_rules.specs.Contexts.{Declarations, declarations_of}
use Rattle.scj_rules.specs.ScopeRules.{is_handler}
use Rattle.scj_rules.specs.Views.{WrittenClass, nowhere}
use Rattle.scj_rules.specs.Words.{is_among, ◌>>=◌}
use Rattle.accepted_laws.specs.Programs.{IsAcceptedProgram}
use Rattle.accepted_laws.specs.Sorts.{IsWellSorted}
use Rattle.accepted_laws.proofs.ClassSorts.{well_sorted}
use Rattle.accepted_laws.proofs.Tools.{some_inj}
use Rattle.scj_model.specs.declared.handlers.HandlerRow.{HandlerRow}
use Rattle.scj_model.specs.declared.operations.Op.{Op}
use Rattle.scj_model.specs.declared.operations.Op.TheVariants.{Leave as LEAVE}
use Rattle.scj_model.specs.declared.operations.SeqOp.{SeqOp}
use Rattle.scj_model.specs.declared.operations.SeqOp.TheVariants.{GetSequencer, OpenMission}
use Rattle.scj_model.specs.Choice.{by_priority}
use Rattle.scj_model.specs.Code.{Code, code_of, position_of_node}
use Rattle.scj_model.specs.Effects.{Leaves}
use Rattle.scj_model.specs.Operations.{effect_of}
use Rattle.scj_model.specs.Ops.{node_of}
use Rattle.scj_model.specs.Plan.{Plan}
use Rattle.scj_model.specs.Reached.{Arrived, Operated, Reached}
use Rattle.scj_model.specs.Registry.{handler_row}
use Rattle.scj_model.specs.Run.{effect_at, position_of_op}
use Rattle.scj_model.specs.Sequencer.{position_of_object}
use Rattle.scj_model.specs.State.{Object, Frame, Activity, Job, State, activity_of, object_at}
use Rattle.scope_flow.specs.Signatures.{IsConcrete}
use Rattle.scope_flow.specs.Needs.{pushed}
use Rattle.scope_flow.specs.Ways.{Course}
use Rattle.flow_facts.proofs.ConcreteClasses.{IsWritten, concrete_is}
use Rattle.frame_sound.specs.Fine.{FramesFine, WaitsFor, list_of}
use Rattle.frame_sound.specs.Places.{world_of}
use Rattle.mission_facts.proofs.HeaderKinds.{object_no_safelet, under_mission}
use Rattle.mission_facts.proofs.MethodsUnder.{concrete_under}
use Rattle.mission_sound.specs.Bases.{areas_of}
use Rattle.mission_sound.specs.Invariant.{Invariant, IsImmortalOf, OperandThere, RowFine}
use Rattle.mission_sound.specs.SequencerFacts.{SafeletThere}
use Rattle.scope_sound.specs.Sound.{Sound, SoundAfter}
use Rattle.scope_sound.proofs.Safe.{has_facts}
use Rattle.source_nodes.specs.Nodes.{IsPosition, NodesFit}
use Rattle.audited_runs.proofs.Accepted.{sound_at}
use Rattle.audited_runs.proofs.proper.Classes.{IsAt, class_nodes_stand, literals_stand, written_at}
use Rattle.audited_runs.proofs.proper.Bodies.{come_standing}

-- the one operation without a node
leave_alone : (op : Op) → node_of op ≡ None → op ≡ LEAVE
unfolding node_of
leave_alone LEAVE e = refl
leave_alone _ e = absurd (cc (e))

module _ (forest : Forest) (accepted : IsAcceptedProgram forest) (files longest : ℕ)
    (fit : NodesFit forest.nodes files longest) where
  abbrev p : Declarations
  p = declarations_of forest

  abbrev code : Code
  code = code_of forest

  abbrev F : Position → Type 0
  F = IsPosition files longest

  sorted : IsWellSorted forest.nodes
  sorted = well_sorted forest accepted.is_read

  -- ---- classes

  user_place : (class : ℕ) → IsWritten p class → F (class_position p class)
  unfolding class_position
  user_place class w =
      let at : IsAt forest.nodes w.declared = written_at forest accepted.is_accepted class w.row w.declared w.stands w.is in
      subst F
      (at.placed
      ∙ sym (ap (λ (o : Option ClassRow). elim (o >>= (λ (row : ClassRow). row.written)) as (λ _. Position) [ None ↦ nowhere | Some c ↦ c.position ]) w.stands
      ∙ ap (λ (o : Option WrittenClass). elim o as (λ _. Position) [ None ↦ nowhere | Some c ↦ c.position ]) w.is))
      (fit.places w.declared.node at.node at.there)

  handler_position : (class : ℕ) → IsConcrete p class → is_handler p class ≡ true → F (class_position p class)
  handler_position class concrete h =
      user_place class
      (elim (or_cases (is_among periodic_handler (superclasses p.classes class))
      (is_among aperiodic_handler (superclasses p.classes class)) h) as (λ _. IsWritten p class) [
        | inl s ↦ concrete_under forest accepted.is_accepted accepted.whole sorted accepted.is_read class periodic_handler
            (λ e. omega (arith, e)) concrete s
        | inr s ↦ concrete_under forest accepted.is_accepted accepted.whole sorted accepted.is_read class aperiodic_handler
            (λ e. omega (arith, e)) concrete s
      ])

  mission_position : (class : ℕ) → IsConcrete p class → is_sub p.classes class mission ≡ true → F (class_position p class)
  mission_position class concrete sub =
      user_place class
      (concrete_under forest accepted.is_accepted accepted.whole sorted accepted.is_read class mission
      (λ e. omega (arith, e)) concrete
      (under_mission forest accepted.is_accepted accepted.whole sorted class sub))

  safelet_position : (class : ℕ) → IsConcrete p class → is_sub p.classes class safelet ≡ true → F (class_position p class)
  safelet_position class concrete sub =
      user_place class
      (elim (concrete_is forest accepted.is_accepted accepted.whole sorted class concrete) as (λ _. IsWritten p class) [
        | inl w ↦ w
        | inr e ↦ absurd (object_no_safelet forest accepted.is_accepted accepted.whole sorted
            (ap (λ c. is_sub p.classes c safelet) (sym e) ∙ sub))
      ])

  -- ---- nodes

  node_position : (id : ℕ) (node : Node) → slice_get forest.nodes id ≡ Some node → F (position_of_node code id)
  unfolding code_of declarations_of
  node_position id node e =
      subst F (sym (ap (λ (o : Option Node). elim o as (λ _. Position) [ None ↦ nowhere | Some n ↦ position_of n ]) e))
      (fit.places id node e)

  standing_place : (id : ℕ) → is_some (slice_get forest.nodes id) ≡ true → F (position_of_node code id)
  standing_place id h = go (slice_get forest.nodes id) refl h
    where
      go : (o : Option Node) → slice_get forest.nodes id ≡ o → is_some o ≡ true → F (position_of_node code id)
      go None e k = absurd (cc (k))
      go (Some node) e k = node_position id node e

  module _ (plan : Plan) where
    -- ---- operations

    module _ (s : State) (reached : Reached code plan by_priority Arrived s) where
      sound : Sound code s
      sound = (sound_at forest accepted plan Arrived s reached).0

      i : Invariant code s
      i = sound.settled.invariant

      stand : (job : Job) (a : Activity) (f : Frame) (below : List Frame) (op : Op) (rest : List Op) →
          activity_of s job ≡ Some a → a.frames ≡ f ∷ below → f.rest ≡ op ∷ rest → (id : ℕ) → node_of op ≡ Some id →
          is_some (slice_get forest.nodes id) ≡ true
      unfolding code_of declarations_of
      stand job a f below op rest is frames ops =
          (come_standing code (class_nodes_stand forest accepted.is_accepted) (literals_stand forest accepted.is_accepted)
          f.body (op ∷ rest) course.0.pushers course.0.came).0
        where
          fine : FramesFine code (world_of s) (areas_of i.base) (f ∷ below)
          fine = subst (FramesFine code (world_of s) (areas_of i.base)) frames (i.memories.jobs job a is).frames

          waits : WaitsFor code (world_of s) (list_of (areas_of i.base) (f ∷ below)) f None
          waits = fine.0

          course : Course code f.body waits.class waits.sig (op ∷ rest) waits.ready.known
              (pushed waits.kind waits.ready.kinds)
          course =
              subst (λ xs. Course code f.body waits.class waits.sig xs waits.ready.known (pushed waits.kind waits.ready.kinds)) ops waits.ready.flow

      pub op_position : (job : Job) (a : Activity) (f : Frame) (below : List Frame) (op : Op) (rest : List Op) →
          activity_of s job ≡ Some a → a.frames ≡ f ∷ below → f.rest ≡ op ∷ rest →
          ((h : Frame) (value : Option Value) → effect_at code plan.readings s f op rest ≡ Leaves h value → ⊥) →
          F (position_of_op code op)
      unfolding effect_of
      op_position job a f below op rest is frames ops other = go (node_of op) refl
        where
          leaves : op ≡ LEAVE → effect_at code plan.readings s f op rest ≡ Leaves (record f { rest = rest }) None
          leaves e = ap (λ (o : Op). effect_at code plan.readings s f o rest) e

          go : (o : Option ℕ) → node_of op ≡ o →
              F (elim o as (λ _. Position) [ None ↦ nowhere | Some node ↦ position_of_node code node ])
          go None e = absurd (other (record f { rest = rest }) None (leaves (leave_alone op e)))
          go (Some id) e = standing_place id (stand job a f below op rest is frames ops id e)

      -- ---- the framework's own operations

      pub start_position : (handler : ℕ) (row : HandlerRow) → handler_row s.registry handler ≡ Some row →
          F (class_position code.program row.class)
      unfolding code_of
      start_position zero row e = absurd (cc (e))
      start_position (suc k) row e =
          let r : RowFine code.program (world_of s) i.base row = i.handlers.rows k row e in
          subst (λ n. F (class_position p n)) (sym r.is_class) (handler_position r.object.class r.concrete r.is_a_handler)

      pub open_position : (r : ℕ) (o : Object) → s.operation ≡ OpenMission r → object_at s r ≡ Some o →
          F (class_position code.program o.class)
      unfolding code_of
      open_position r o e there =
          let m : IsImmortalOf code.program (world_of s) mission r =
          i.sequencer.mission r (subst (λ (op : SeqOp). OperandThere s op) e i.sequencer.there).0 in
          subst (λ (x : Object). F (class_position p x.class)) (some_inj m.object o (sym m.found ∙ there))
          (mission_position m.object.class m.concrete m.is_under)

    pub first_place : (class : ℕ) → safelet_class code.program ≡ Some class → F (class_position code.program class)
    unfolding code_of
    first_place class e =
        let t : SafeletThere code.program = (has_facts forest accepted).sequencer.safelet_there in
        subst (λ n. F (class_position p n)) (some_inj t.class class (sym t.is ∙ e))
        (safelet_position t.class t.concrete t.is_under)

    pub ask_position : (s : State) → Reached code plan by_priority Operated s → (r : ℕ) → s.operation ≡ GetSequencer r →
        F (position_of_object code s r)
    unfolding code_of
    ask_position s reached r e =
        let after : SoundAfter code s = sound_at forest accepted plan Operated s reached in
        let q = after.after.invariant.sequencer in
        let m : IsImmortalOf code.program (world_of s) safelet r =
        q.safelet r (subst (λ (op : SeqOp). OperandThere s op) e q.there) in
        subst F
        (sym (ap (λ (o : Option Object). elim o as (λ _. Position) [ None ↦ nowhere | Some x ↦ class_position p x.class ]) m.found))
        (safelet_position m.object.class m.concrete m.is_under)

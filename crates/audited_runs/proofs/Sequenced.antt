-- Each operation of the sequencer outside execution: what it tells, and what it leaves.
use Rattle.std.proofs.Common.{◌∙◌, ◌≡◌, ℕ, Bool, List, [], ◌∷◌, Option, Some, None, if◌then◌else◌, sym, ap, subst}
use Rattle.std.specs.Prelude.{option_map, codes}
use Rattle.scj_base.specs.declared.positions.Position.{Position}
use Rattle.scj_rules.specs.declared.views.Body.{Body}
use Rattle.scj_rules.specs.Words.{◌>>=◌}
use Rattle.scj_rules.specs.ScopeRules.{immortal_scope, defined_by_chain}
use Rattle.scj_rules.specs.Bodies.{body_named, constructor_body, size_of, safelet_class, class_position}
use Rattle.scj_model.specs.declared.operations.Op.{Op}
use Rattle.scj_model.specs.declared.operations.SeqOp.{SeqOp}
use Rattle.scj_model.specs.declared.operations.SeqOp.TheVariants.{OpenImmortal, AllocSafelet, ConstructSafelet, InitializeApplication, GetSequencer, GetNextMission, OpenMission, Initialize, CleanUp, Execute, Finished}
use Rattle.scj_model.specs.declared.plans.ReadingRow.{ReadingRow}
use Rattle.scj_model.specs.Code.{Code}
use Rattle.scj_model.specs.State.{Frame, Activity, TheSequencer, State, with_activity, object_at}
use Rattle.scj_model.specs.Memory.{new_slots}
use Rattle.scj_model.specs.Steps.{Step}
use Rattle.scj_model.specs.Effects.{Effect, Goes, Prints, Makes, Stores, StoresStatic, SetsHidden, SetsCeiling, Calls, Opens, Leaves, AsksRegistration, AsksRelease, AsksTermination, Faults, Stuck}
use Rattle.scj_model.specs.Apply.{with_frame, applied}
use Rattle.scj_model.specs.Sequencer.{innermost, area_opened, safelet_made, body_called, sequencer_op}
use Rattle.scj_model.specs.Run.{frame_op, effect_at, position_of_op, sequencer_turn}
use Rattle.scj_model.specs.Plan.{Plan}
use Rattle.scj_model.specs.Choice.{by_priority}
use Rattle.scj_model.specs.Run.{acts, turn_acts, turn_taken}
use Rattle.scj_model.specs.Steps.{then_try}
use Rattle.trace_audit.specs.Replay.{Replay}
use Rattle.accepted_laws.proofs.Tools.{some_inj}
use Rattle.audited_runs.proofs.Following.{Sequences}
use Rattle.audited_runs.proofs.Sequencing.{SeqOf, around_parts, around_same, gets, gets_done, quiet, seq_allocating, seq_asked, seq_called, seq_fault, seq_left, seq_opened, seq_opening, seq_print, seq_registered, seq_released}

-- ---- options

pub record SeqIf (plan : Plan) (s : State) (r : Replay) (o : Option Step) : Type 0 where
  pub is : (step : Step) → o ≡ Some step → SeqOf plan s r step

module _ (plan : Plan) (s : State) (r : Replay) (h : Sequences plan s r) where
  some : (x : Step) → SeqOf plan s r x → SeqIf plan s r (Some x)
  some x k = record { is = λ step e. subst (λ (y : Step). SeqOf plan s r y) (some_inj x step e) k }

  nothing : SeqIf plan s r None
  nothing = record { is = λ step e. absurd (cc (e)) }

  bind : {A : Type 0} (o : Option A) (f : A → Option Step) → ((a : A) → SeqIf plan s r (f a)) → SeqIf plan s r (o >>= f)
  bind None f k = nothing
  bind (Some a) f k = k a

  mapped : {A : Type 0} (o : Option A) (f : A → Step) → ((a : A) → SeqOf plan s r (f a)) →
      SeqIf plan s r (option_map f o)
  mapped None f k = nothing
  mapped (Some a) f k = some (f a) (k a)

  -- ---- operations of a body

  seq_applied : (code : Code) (activity : Activity) (below : List Frame) (position : Position) (effect : Effect) →
      SeqIf plan s r (applied code s TheSequencer activity below position effect)
  unfolding applied with_activity
  seq_applied code activity below position (Goes f) = some _ (quiet plan s r h _ (gets plan s r h s _ (around_same s)))
  seq_applied code activity below position (Prints f label value) =
      some _ (seq_print plan s r h _ label value (gets plan s r h s _ (around_same s)))
  seq_applied code activity below position (Makes f class slots) =
      some _ (seq_allocating plan s r h activity position class f.area slots _
      (λ t object k. quiet plan s r h _ (gets plan s r h t _ k)))
  seq_applied code activity below position (Stores f object slot value) =
      some _ (quiet plan s r h _ (around_parts s _ s.areas s.statics _ s.outcome))
  seq_applied code activity below position (StoresStatic f k value) =
      some _ (quiet plan s r h _ (around_parts s s.objects s.areas _ _ s.outcome))
  seq_applied code activity below position (SetsHidden f object values) =
      some _ (quiet plan s r h _ (around_parts s _ s.areas s.statics _ s.outcome))
  seq_applied code activity below position (SetsCeiling f object ceiling) =
      some _ (quiet plan s r h _ (around_parts s _ s.areas s.statics _ s.outcome))
  seq_applied code activity below position (Calls f g) =
      some _ (seq_called plan s r h code activity (f ∷ below) position g)
  seq_applied code activity below position (Opens f g scope bytes) =
      some _ (seq_opened plan s r h activity (f ∷ below) position g scope bytes)
  seq_applied code activity below position (Leaves f value) = some _ (seq_left plan s r h activity f below value)
  seq_applied code activity below position (AsksRegistration f object) =
      mapped (object_at s object) _
      (λ o. seq_registered plan s r h code activity position object o (with_frame s TheSequencer activity f below)
      (gets plan s r h s _ (around_same s)))
  seq_applied code activity below position (AsksRelease f object) =
      some _ (seq_released plan s r h (with_frame s TheSequencer activity f below) (gets plan s r h s _ (around_same s))
      object)
  seq_applied code activity below position (AsksTermination f object) =
      some _ (seq_asked plan s r h (with_frame s TheSequencer activity f below) (gets plan s r h s _ (around_same s))
      object)
  seq_applied code activity below position (Faults fault) = some _ (seq_fault plan s r h activity position fault)
  seq_applied code activity below position Stuck = nothing

  seq_frame : (code : Code) (rows : List ReadingRow) (activity : Activity) →
      SeqIf plan s r (frame_op code rows s TheSequencer activity)
  unfolding frame_op
  seq_frame code rows activity = go activity.frames
    where
      act : (f : Frame) (below : List Frame) (ops : List Op) → SeqIf plan s r (elim ops [ [] ↦ None | op ∷ rest ↦ applied code s TheSequencer activity below (position_of_op code op) (effect_at code rows s f op rest) ])
      act f below [] = nothing
      act f below (op ∷ rest) = seq_applied code activity below (position_of_op code op) (effect_at code rows s f op rest)

      go : (fs : List Frame) → SeqIf plan s r (elim fs [ [] ↦ None | f ∷ below ↦ elim f.rest [ [] ↦ None | op ∷ rest ↦ applied code s TheSequencer activity below (position_of_op code op) (effect_at code rows s f op rest) ] ])
      go [] = nothing
      go (f ∷ below) = act f below f.rest

  -- ---- the sequencer's own operations

  seq_area : (position : Position) (scope bytes : ℕ) → SeqOf plan s r (area_opened s position scope bytes)
  unfolding area_opened
  seq_area position scope bytes =
      seq_opening plan s r h s.activity position scope (innermost s.activity.areas) bytes _
      (λ t a k. quiet plan s r h _ (gets_done plan s r h t _ _ k))

  seq_safelet : (code : Code) (position : Position) (class area : ℕ) → SeqOf plan s r (safelet_made code s position class area)
  unfolding safelet_made
  seq_safelet code position class area =
      seq_allocating plan s r h s.activity position class area (new_slots code.program class) _
      (λ t object k. quiet plan s r h _ (gets_done plan s r h t t.activity _ k))

  seq_body : (code : Code) (object : ℕ) (body : Body) → SeqIf plan s r (body_called code s object body)
  unfolding body_called
  seq_body code object body =
      bind (innermost s.activity.areas) _
      (λ area. some _ (quiet plan s r h _ (gets plan s r h s _ (around_same s))))

  seq_method : (code : Code) (object : ℕ) (name : List ℕ) → SeqIf plan s r
      (object_at s object >>= (λ o. body_named code.program o.class name >>= body_called code s object))
  seq_method code object name =
      bind (object_at s object) _
      (λ o. bind (body_named code.program o.class name) _ (λ body. seq_body code object body))

  seq_op : (code : Code) (op : SeqOp) → SeqIf plan s r (sequencer_op code s op)
  unfolding sequencer_op
  seq_op code OpenImmortal =
      bind (safelet_class code.program) _ (λ class. bind (size_of code.program class) _ (λ bytes.
      some _ (seq_area (class_position code.program class) immortal_scope bytes)))
  seq_op code AllocSafelet =
      bind (safelet_class code.program) _ (λ class. bind (innermost s.activity.areas) _ (λ area.
      some _ (seq_safelet code (class_position code.program class) class area)))
  seq_op code (ConstructSafelet object) =
      bind (object_at s object) _ (λ o. bind (constructor_body code.program o.class) _ (λ body. seq_body code object body))
  seq_op code (InitializeApplication object) = seq_method code object (codes "initializeApplication")
  seq_op code (GetSequencer object) = seq_method code object (codes "getSequencer")
  seq_op code (GetNextMission object) = seq_method code object (codes "getNextMission")
  seq_op code (OpenMission object) =
      bind (object_at s object) _ (λ o. bind (defined_by_chain code.program o.class) _ (λ scope.
      bind (size_of code.program o.class) _
      (λ bytes. some _ (seq_area (class_position code.program o.class) scope bytes))))
  seq_op code (Initialize object) = seq_method code object (codes "initialize")
  seq_op code (CleanUp object) = seq_method code object (codes "cleanUp")
  seq_op code Execute = nothing
  seq_op code Finished = nothing

  seq_turn : (code : Code) (rows : List ReadingRow) → SeqIf plan s r (sequencer_turn code rows s)
  unfolding sequencer_turn
  seq_turn code rows = go s.activity.frames
    where
      go : (fs : List Frame) → SeqIf plan s r
          (elim fs [ [] ↦ sequencer_op code s s.operation | f ∷ fs ↦ frame_op code rows s TheSequencer s.activity ])
      go [] = seq_op code s.operation
      go (f ∷ fs) = seq_frame code rows s.activity

  -- ---- the operation of a unit outside execution

  pub sequenced_reported : (code : Code) (rows : List ReadingRow) (op : Step) → acts code rows by_priority s ≡ Some op →
      SeqOf plan s r op
  unfolding acts
  sequenced_reported code rows op e =
      (seq_turn code rows).is op
      (sym (ap (λ (b : Bool). if b
      then by_priority s >>= (λ turn. then_try (turn_taken s turn) (turn_acts code rows turn))
      else sequencer_turn code rows s) h.out) ∙ e)

-- An operation of the sequencer begins no execution.
use Rattle.std.specs.Prelude.{Option, Some, codes}
use Rattle.std.proofs.Common.{◌≡◌, ℕ, List, [], ◌∷◌, false, refl, sym, ◌∙◌, ap, subst, ◌⊎◌, inl, inr}
use Rattle.scj_base.specs.declared.positions.Position.{Position}
use Rattle.scj_rules.specs.declared.views.Body.{Body}
use Rattle.scj_rules.specs.ScopeRules.{immortal_scope, defined_by_chain}
use Rattle.scj_rules.specs.Bodies.{body_named, constructor_body, size_of, safelet_class, class_position}
use Rattle.accepted_laws.proofs.Tools.{some_inj}
use Rattle.scj_model.specs.declared.operations.SeqOp.{SeqOp}
use Rattle.scj_model.specs.declared.operations.SeqOp.TheVariants.{OpenImmortal, AllocSafelet, ConstructSafelet, InitializeApplication, GetSequencer, GetNextMission, OpenMission, Initialize, CleanUp, Execute, Finished}
use Rattle.scj_model.specs.declared.plans.ReadingRow.{ReadingRow}
use Rattle.scj_model.specs.Code.{Code}
use Rattle.scj_model.specs.Memory.{has_room, has_store_for}
use Rattle.scj_model.specs.State.{Frame, TheSequencer, State, activity_of, object_at, is_exec}
use Rattle.scj_model.specs.Steps.{Step, fault_in, opening, allocating}
use Rattle.scj_model.specs.Sequencer.{area_opened, safelet_made, body_called, method_called, sequencer_op, innermost}
use Rattle.scj_model.specs.Run.{frame_op, sequencer_turn}
use Rattle.scj_model.proofs.Reaching.{Gives, gives_some}
use Rattle.scope_flow.specs.Facts.{Facts}
use Rattle.frame_sound.specs.OwnJob.{HasFaulted, HasLeft, JobGoesOn, KeepsItsJob}
use Rattle.mission_sound.specs.Bases.{areas_of}
use Rattle.mission_sound.specs.SequencerFacts.{SequencerFacts}
use Rattle.priority_laws.proofs.StepCases.{step_if, gives_nothing, gives_bind}
use Rattle.scope_sound.specs.Sound.{Sound}
use Rattle.scope_sound.proofs.FrameOperates.{own}

abbrev IsQuiet : State → Type 0
IsQuiet t = is_exec t.phase ≡ false

module _ (code : Code) (s : State) (quiet : is_exec s.phase ≡ false) where
  opened_quiet : (position : Position) (scope bytes : ℕ) → IsQuiet (area_opened s position scope bytes).state
  unfolding area_opened opening fault_in is_exec
  opened_quiet position scope bytes = step_if IsQuiet (has_store_for s bytes) _ _ (λ e. quiet) (λ e. refl)

  made_quiet : (position : Position) (class area : ℕ) → IsQuiet (safelet_made code s position class area).state
  unfolding safelet_made allocating fault_in is_exec
  made_quiet position class area = step_if IsQuiet (has_room s area _) _ _ (λ e. quiet) (λ e. refl)

  called_quiet : (r : ℕ) (body : Body) → Gives IsQuiet (body_called code s r body)
  unfolding body_called
  called_quiet r body = gives_bind IsQuiet (innermost s.activity.areas) _ (λ area e. gives_some IsQuiet _ quiet)

  method_quiet : (r : ℕ) (name : List ℕ) → Gives IsQuiet (method_called code s r name)
  method_quiet r name =
      gives_bind IsQuiet (object_at s r) _ (λ o e.
      gives_bind IsQuiet (body_named code.program o.class name) _ (λ body k. called_quiet r body))

  op_quiet : (operation : SeqOp) → Gives IsQuiet (sequencer_op code s operation)
  unfolding sequencer_op
  op_quiet OpenImmortal =
      gives_bind IsQuiet (safelet_class code.program) _ (λ class e.
      gives_bind IsQuiet (size_of code.program class) _ (λ bytes k.
      gives_some IsQuiet (area_opened s (class_position code.program class) immortal_scope bytes)
      (opened_quiet (class_position code.program class) immortal_scope bytes)))
  op_quiet AllocSafelet =
      gives_bind IsQuiet (safelet_class code.program) _ (λ class e.
      gives_bind IsQuiet (innermost s.activity.areas) _ (λ area k.
      gives_some IsQuiet (safelet_made code s (class_position code.program class) class area)
      (made_quiet (class_position code.program class) class area)))
  op_quiet (ConstructSafelet r) =
      gives_bind IsQuiet (object_at s r) _ (λ o e.
      gives_bind IsQuiet (constructor_body code.program o.class) _ (λ body k. called_quiet r body))
  op_quiet (InitializeApplication r) = method_quiet r (codes "initializeApplication")
  op_quiet (GetSequencer r) = method_quiet r (codes "getSequencer")
  op_quiet (GetNextMission r) = method_quiet r (codes "getNextMission")
  op_quiet (OpenMission r) =
      gives_bind IsQuiet (object_at s r) _ (λ o e.
      gives_bind IsQuiet (defined_by_chain code.program o.class) _ (λ scope k.
      gives_bind IsQuiet (size_of code.program o.class) _ (λ bytes l.
      gives_some IsQuiet (area_opened s (class_position code.program o.class) scope bytes)
      (opened_quiet (class_position code.program o.class) scope bytes))))
  op_quiet (Initialize r) = method_quiet r (codes "initialize")
  op_quiet (CleanUp r) = method_quiet r (codes "cleanUp")
  op_quiet Execute = gives_nothing IsQuiet
  op_quiet Finished = gives_nothing IsQuiet

  module _ (facts : Facts code) (promised : SequencerFacts code) (rows : List ReadingRow) (sound : Sound code s) where
    is : activity_of s TheSequencer ≡ Some s.activity
    unfolding activity_of
    is = refl

    frame_quiet : (f : Frame) (below : List Frame) → s.activity.frames ≡ f ∷ below →
        Gives IsQuiet (frame_op code rows s TheSequencer s.activity)
    unfolding is_exec
    frame_quiet f below has =
        record { is = λ step e. subst (λ (x : Step). IsQuiet x.state) (some_inj k.step step (sym k.is ∙ e)) (go k.either) }
      where
        k : KeepsItsJob code s TheSequencer s.activity (areas_of sound.settled.invariant.base) f below
            (frame_op code rows s TheSequencer s.activity)
        k = own code facts promised rows s sound TheSequencer s.activity is f below has (λ e. quiet)

        go : JobGoesOn code s TheSequencer (areas_of sound.settled.invariant.base) f below k.step.state
            ⊎ (((below ≡ []) × HasLeft code s TheSequencer (areas_of sound.settled.invariant.base) f k.step.state)
            ⊎ HasFaulted code s TheSequencer s.activity k.step) → IsQuiet k.step.state
        go (inl g) = ap is_exec g.operation.phase ∙ quiet
        go (inr (inl x)) = ap is_exec x.1.operation.phase ∙ quiet
        go (inr (inr x)) = ap (λ (t : State). is_exec t.phase) x.ends

    pub turn_quiet : Gives IsQuiet (sequencer_turn code rows s)
    unfolding sequencer_turn
    turn_quiet = go s.activity.frames refl
      where
        go : (fs : List Frame) → s.activity.frames ≡ fs → Gives IsQuiet (elim fs as (λ z. Option Step) [
          | [] ↦ sequencer_op code s s.operation
          | f ∷ fs ↦ frame_op code rows s TheSequencer s.activity
        ])
        go [] e = op_quiet s.operation
        go (f ∷ fs) e = frame_quiet f fs e

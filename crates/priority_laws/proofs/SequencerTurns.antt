-- An operation of the sequencer outside execution, be it its own or one of its frames.
use Rattle.std.proofs.Common.{◌≡◌, ℕ, false, List, [], ◌∷◌, length, Some, None, refl}
use Rattle.scj_base.specs.declared.positions.Position.{Position}
use Rattle.scj_rules.specs.declared.views.Body.{Body}
use Rattle.scj_rules.specs.ScopeRules.{immortal_scope, defined_by_chain}
use Rattle.scj_rules.specs.Bodies.{body_named, constructor_body, size_of, safelet_class}
use Rattle.scj_model.specs.declared.operations.Op.{Op}
use Rattle.scj_model.specs.declared.operations.SeqOp.{SeqOp}
use Rattle.scj_model.specs.declared.operations.SeqOp.TheVariants.{OpenImmortal, AllocSafelet, ConstructSafelet, InitializeApplication, GetSequencer, GetNextMission, OpenMission, Initialize, CleanUp, Execute, Finished}
use Rattle.scj_model.specs.declared.plans.ReadingRow.{ReadingRow}
use Rattle.scj_model.specs.Code.{Code}
use Rattle.scj_model.specs.State.{Frame, TheSequencer, State, with_activity, object_at, is_exec}
use Rattle.scj_model.specs.Memory.{has_room, has_store_for, new_slots, with_area, with_object}
use Rattle.scj_model.specs.Steps.{allocating, opening}
use Rattle.scj_model.specs.Effects.{new_frame}
use Rattle.scj_model.specs.Apply.{applied}
use Rattle.scj_model.specs.Sequencer.{innermost, area_opened, safelet_made, body_called, method_called, sequencer_op}
use Rattle.scj_model.specs.Run.{frame_op, effect_at, position_of_op, sequencer_turn, environment}
use Rattle.scj_model.proofs.Reaching.{Gives, gives_some}
use Rattle.priority_laws.specs.Started.{started_at}
use Rattle.priority_laws.specs.Nesting.{NestsForSequencer}
use Rattle.priority_laws.proofs.AreaMoves.{areas_stay, area_added}
use Rattle.priority_laws.proofs.StepCases.{step_if, gives_nothing, gives_bind}
use Rattle.priority_laws.proofs.OperationShapes.{shaped_at}
use Rattle.priority_laws.proofs.SequencerMoves.{SequencerMoves, goes_with, comes_to_end}
use Rattle.priority_laws.proofs.SequencerEffects.{halts, applied_moves}

module _ (code : Code) (s : State) (none : (q : ℕ) → started_at s.releases q ≡ None) (quiet : is_exec s.phase ≡ false)
    (idle : s.outcome ≡ None) (n : NestsForSequencer s) where
  area_moves : (position : Position) (scope bytes : ℕ) → s.activity.frames ≡ [] →
      SequencerMoves s (area_opened s position scope bytes).state
  unfolding area_opened opening
  area_moves position scope bytes frames =
      step_if (SequencerMoves s) (has_store_for s bytes) _ _
      (λ e. comes_to_end s none quiet idle (with_area s scope (innermost s.activity.areas) bytes) refl refl
      (record s.activity { areas = length s.areas ∷ s.activity.areas }) _ frames
      (area_added s.areas _ s.activity.areas))
      (λ e. halts code s none quiet idle n s.activity position _)

  safelet_moves : (position : Position) (class area : ℕ) → s.activity.frames ≡ [] →
      SequencerMoves s (safelet_made code s position class area).state
  unfolding safelet_made allocating
  safelet_moves position class area frames =
      step_if (SequencerMoves s) (has_room s area (length (new_slots code.program class))) _ _
      (λ e. comes_to_end s none quiet idle (with_object s class area (new_slots code.program class)) refl refl
      s.activity _ frames
      (areas_stay s.areas s.activity.areas))
      (λ e. halts code s none quiet idle n s.activity position _)

  body_moves : (r : ℕ) (body : Body) → Gives (SequencerMoves s) (body_called code s r body)
  unfolding body_called new_frame with_activity
  body_moves r body =
      gives_bind (SequencerMoves s) (innermost s.activity.areas) _ (λ area e.
      gives_some (SequencerMoves s) _
      (goes_with s none quiet idle s refl refl refl
      (record s.activity { frames = new_frame code body None (Some r) area [] ∷ [] })
      (areas_stay s.areas s.activity.areas) s.activity.areas refl))

  method_moves : (r : ℕ) (name : List ℕ) → Gives (SequencerMoves s) (method_called code s r name)
  method_moves r name =
      gives_bind (SequencerMoves s) (object_at s r) _ (λ o e.
      gives_bind (SequencerMoves s) (body_named code.program o.class name) _ (λ body f. body_moves r body))

  op_moves : (op : SeqOp) → s.activity.frames ≡ [] → Gives (SequencerMoves s) (sequencer_op code s op)
  unfolding sequencer_op
  op_moves OpenImmortal frames =
      gives_bind (SequencerMoves s) (safelet_class code.program) _ (λ class e.
      gives_bind (SequencerMoves s) (size_of code.program class) _ (λ bytes f.
      gives_some (SequencerMoves s) _ (area_moves _ immortal_scope bytes frames)))
  op_moves AllocSafelet frames =
      gives_bind (SequencerMoves s) (safelet_class code.program) _ (λ class e.
      gives_bind (SequencerMoves s) (innermost s.activity.areas) _ (λ area f.
      gives_some (SequencerMoves s) _ (safelet_moves _ class area frames)))
  op_moves (ConstructSafelet r) frames =
      gives_bind (SequencerMoves s) (object_at s r) _ (λ o e.
      gives_bind (SequencerMoves s) (constructor_body code.program o.class) _ (λ body f. body_moves r body))
  op_moves (InitializeApplication r) frames = method_moves r _
  op_moves (GetSequencer r) frames = method_moves r _
  op_moves (GetNextMission r) frames = method_moves r _
  op_moves (OpenMission r) frames =
      gives_bind (SequencerMoves s) (object_at s r) _ (λ o e.
      gives_bind (SequencerMoves s) (defined_by_chain code.program o.class) _ (λ scope f.
      gives_bind (SequencerMoves s) (size_of code.program o.class) _ (λ bytes g.
      gives_some (SequencerMoves s) _ (area_moves _ scope bytes frames))))
  op_moves (Initialize r) frames = method_moves r _
  op_moves (CleanUp r) frames = method_moves r _
  op_moves Execute frames = gives_nothing _
  op_moves Finished frames = gives_nothing _

  pub turn_moves : (rows : List ReadingRow) → Gives (SequencerMoves s) (sequencer_turn code rows s)
  unfolding sequencer_turn frame_op
  turn_moves rows = go s.activity.frames refl
    where
      act : (f : Frame) (below : List Frame) → s.activity.frames ≡ f ∷ below → (ops : List Op) →
          Gives (SequencerMoves s)
          (elim ops [
            | [] ↦ None
            | op ∷ rest ↦ applied code s TheSequencer s.activity below (position_of_op code op)
                (effect_at code rows s f op rest)
          ])
      act f below frames [] = gives_nothing _
      act f below frames (op ∷ rest) =
          applied_moves code s none quiet idle n f below frames (position_of_op code op) (effect_at code rows s f op rest)
          (shaped_at code (environment rows s) f rest op)

      inner : (fs : List Frame) → s.activity.frames ≡ fs →
          Gives (SequencerMoves s)
          (elim fs [
            | [] ↦ None
            | f
                ∷ below ↦ elim f.rest [
                  | [] ↦ None
                  | op ∷ rest ↦ applied code s TheSequencer s.activity below (position_of_op code op)
                      (effect_at code rows s f op rest)
                ]
          ])
      inner [] k = gives_nothing _
      inner (f ∷ below) k = act f below k f.rest

      go : (fs : List Frame) → s.activity.frames ≡ fs →
          Gives (SequencerMoves s)
          (elim fs [ [] ↦ sequencer_op code s s.operation | f ∷ below ↦ frame_op code rows s TheSequencer s.activity ])
      go [] k = op_moves s.operation k
      go (f ∷ below) k = inner s.activity.frames refl

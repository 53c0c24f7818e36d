-- The next operation of a body that the sequencer called leaves a sound state.
use Rattle.std.specs.Prelude.{Some, unwrap_or}
use Rattle.std.proofs.Common.{◌≡◌, ℕ, List, [], ◌∷◌, false, refl, sym, ◌∙◌, ap, subst, true≢false, ◌⊎◌, inl, inr}
use Rattle.scj_base.specs.declared.values.Value.{Value}
use Rattle.scj_base.specs.declared.values.Value.TheVariants.{Null}
use Rattle.accepted_laws.proofs.Tools.{some_inj}
use Rattle.scj_model.specs.declared.plans.ReadingRow.{ReadingRow}
use Rattle.scj_model.specs.Code.{Code}
use Rattle.scj_model.specs.State.{Activity, Frame, TheSequencer, State, activity_of, is_exec, is_over}
use Rattle.scj_model.specs.Run.{frame_op}
use Rattle.scope_flow.specs.Facts.{Facts}
use Rattle.frame_sound.specs.Places.{world_of}
use Rattle.frame_sound.specs.EffectsFine.{IsSame}
use Rattle.frame_sound.specs.OwnJob.{HasFaulted, HasLeft, IsDone, JobGoesOn, KeepsItsJob, lowest as lowest_of}
use Rattle.mission_sound.specs.Bases.{areas_of, BaseBefore, BaseSuits}
use Rattle.mission_sound.specs.Invariant.{Done, Invariant, IsCalledBy, ValueSuits, lowest}
use Rattle.mission_sound.specs.SequencerFacts.{SequencerFacts}
use Rattle.mission_sound.proofs.Jobs.{sequencer_activity}
use Rattle.mission_sound.proofs.Resting.{no_lowest}
use Rattle.reference_sound.proofs.HoldsKept.{references_kept}
use Rattle.scope_sound.specs.Sound.{OperatesSoundly, Sound, SoundAfter}
use Rattle.scope_sound.proofs.Given.{given_suits}
use Rattle.scope_sound.proofs.Kept.{halts_sound, none_done, sound_after}
use Rattle.scope_sound.proofs.SequencerStands.{StaysBefore, called_by_same, calls_so_opens_none, lowest_is}
use Rattle.scope_sound.proofs.FrameOperates.{goes_on_keeps, keeps, none_is_new, own}

module _ (code : Code) (facts : Facts code) (promised : SequencerFacts code) (rows : List ReadingRow) (s : State)
    (sound : Sound code s) (outside : is_exec s.phase ≡ false) (goes_on : is_over s.phase ≡ false) (f : Frame)
    (below : List Frame) (has : s.activity.frames ≡ f ∷ below) where
  abbrev i : Invariant code s
  i = sound.settled.invariant

  abbrev list : List ℕ
  list = areas_of sound.settled.invariant.base

  is : activity_of s TheSequencer ≡ Some s.activity
  unfolding activity_of
  is = refl

  before : BaseBefore s.operation i.base
  before = subst (λ v. BaseSuits s.operation v i.base) sound.settled.followed i.sequencer.base_suits

  -- its lowest frame is that of the body that it called
  first_called : IsCalledBy code.program (world_of s) s.operation (lowest_of f below)
  first_called = i.sequencer.called (lowest_of f below) goes_on (ap lowest has ∙ lowest_is f below)

  stays_if_goes_on : (after : State) → JobGoesOn code s TheSequencer list f below after →
      StaysBefore code s i.base after
  stays_if_goes_on after g =
      record {
        operation = g.operation;
        suits = subst (λ v. BaseSuits s.operation v i.base) (sym g.outcome) i.sequencer.base_suits;
        called = λ h over low.
            called_by_same code.program (world_of s) s.operation (lowest_of f below) h
            (subst (IsSame (lowest_of f below)) (some_inj (lowest_of g.top g.others) h
            (sym (ap lowest are ∙ lowest_is g.top g.others) ∙ low)) g.same)
            first_called;
        frameless = λ e. absurd (true≢false (sym e ∙ outside));
      }
    where
      are : after.activity.frames ≡ g.top ∷ g.others
      are = ap (λ (a : Activity). a.frames) (sequencer_activity after g.stands.activity g.stands.is) ∙ g.are

  module _ (after : State) (none : below ≡ []) (x : HasLeft code s TheSequencer list f after) where
    ends : IsDone after list x.value
    ends = x.ends

    last_called : IsCalledBy code.program (world_of s) s.operation f
    unfolding lowest
    last_called = i.sequencer.called f goes_on (ap lowest (has ∙ ap (λ fs. f ∷ fs) none))

    stays_if_left : StaysBefore code s i.base after
    stays_if_left =
        record {
          operation = x.operation;
          suits = subst (λ v. BaseSuits s.operation v i.base) (sym ends.outcome)
              (calls_so_opens_none code.program (world_of s) s.operation f.body i.base last_called.runs before);
          called = λ h over low. absurd (no_lowest after.activity.frames h ends.frames low);
          frameless = λ e. ends.frames;
        }

    done_if_left : (value : Value) → after.outcome ≡ Some value → Done code after value
    done_if_left value e =
        record {
          frameless = ends.frames;
          suits =
              subst (λ o. ValueSuits code.program (world_of after) o value) (sym x.operation.operation)
              (subst (ValueSuits code.program (world_of after) s.operation)
              (some_inj (unwrap_or x.value Null) value (sym ends.outcome ∙ e))
              (given_suits code facts promised s i.base i.sequencer f after x s.operation last_called i.sequencer.there
              before));
        }

  pub sequencer_frame_operates : OperatesSoundly code (frame_op code rows s TheSequencer s.activity)
  sequencer_frame_operates = record { step = k.step; is = k.is; after = go k.either }
    where
      k : KeepsItsJob code s TheSequencer s.activity list f below (frame_op code rows s TheSequencer s.activity)
      k = own code facts promised rows s sound TheSequencer s.activity is f below has (λ e. outside)

      go : JobGoesOn code s TheSequencer list f below k.step.state
          ⊎ (((below ≡ []) × HasLeft code s TheSequencer list f k.step.state)
          ⊎ HasFaulted code s TheSequencer s.activity k.step) → SoundAfter code k.step.state
      go (inl g) =
          sound_after code s i TheSequencer s.activity.frames k.step.state
          (goes_on_keeps code facts promised rows s sound TheSequencer s.activity is f below has (λ e. outside) k g)
          (stays_if_goes_on k.step.state g)
          (none_done code k.step.state (g.outcome ∙ sound.settled.followed))
      go (inr (inl x)) =
          sound_after code s i TheSequencer s.activity.frames k.step.state
          (keeps code facts promised rows s sound TheSequencer s.activity is f below has (λ e. outside) k
          (none_is_new code s (f ∷ []) k.step.state x.1.closed) (λ a e. inr refl))
          (stays_if_left k.step.state x.0 x.1) (done_if_left k.step.state x.0 x.1)
      go (inr (inr x)) =
          halts_sound code s i outside k.step.state x.ends
          (references_kept code facts rows s TheSequencer s.activity is list sound.references i.memories.memory
          (i.memories.jobs TheSequencer s.activity is) k.step k.is)

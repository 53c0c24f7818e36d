-- An operation of a job leaves a sound state, where all jobs stand after it, the areas that are new are no mission's,
-- and the sequencer stands before its operation or has done it.
use Rattle.std.specs.Prelude.{Some, None}
use Rattle.std.proofs.Common.{◌≡◌, ℕ, List, false, refl, sym, ◌∙◌, ap, subst, inl, inr}
use Rattle.scj_base.specs.declared.values.Value.{Value}
use Rattle.scj_model.specs.Code.{Code}
use Rattle.scj_model.specs.State.{Activity, Frame, Job, TheSequencer, ReleaseAt, State, is_exec}
use Rattle.frame_sound.specs.Places.{world_of}
use Rattle.frame_sound.specs.Fine.{ListFine}
use Rattle.frame_sound.specs.OwnJob.{KeepsOperation}
use Rattle.frame_sound.specs.Others.{AreNotOf, KeepsOthers, SequencerStays}
use Rattle.frame_sound.specs.AllJobs.{AllStand}
use Rattle.frame_sound.proofs.OthersOfChanges.{others_stand}
use Rattle.mission_sound.specs.Bases.{areas_of, BaseSuits}
use Rattle.mission_sound.specs.Invariant.{Done, HandlersFine, Invariant, lowest}
use Rattle.mission_sound.proofs.Resting.{halted, halts}
use Rattle.reference_sound.specs.References.{ReferencesHold}
use Rattle.scope_sound.specs.Sound.{SoundAfter}
use Rattle.scope_sound.proofs.AllStanding.{HasFramesIfRelease, NewAreNoMissions, have_frames_after, memories_after}
use Rattle.scope_sound.proofs.OneBase.{holds_on}
use Rattle.scope_sound.proofs.SequencerStands.{StaysBefore, sequencer_stands}

-- nothing is done where there is no outcome
pub none_done : (code : Code) (s : State) → s.outcome ≡ None → (value : Value) → s.outcome ≡ Some value →
    Done code s value
none_done code s none value e = absurd (cc (none, e))

module _ (code : Code) (s : State) (i : Invariant code s) where
  -- what an operation of the job keeps
  pub record Keeps (job : Job) (frames : List Frame) (after : State) : Type 0 where
    pub others : KeepsOthers s job frames after
    pub off : AreNotOf frames (areas_of i.base)
    pub fine : ListFine (world_of s).areas (areas_of i.base)
    pub all : AllStand code after (areas_of i.base)
    pub new : NewAreNoMissions code s after
    pub own : HasFramesIfRelease after job
    pub handlers : HandlersFine code after i.base
    pub references : ReferencesHold after (areas_of i.base)

  pub sound_after : (job : Job) (frames : List Frame) (after : State) → Keeps job frames after →
      StaysBefore code s i.base after → ((value : Value) → after.outcome ≡ Some value → Done code after value) →
      SoundAfter code after
  sound_after job frames after k stays done =
      record {
        after = record {
          invariant = record {
            base = i.base;
            memories =
                memories_after code s i.base i.memories job frames after k.others k.new k.all
                (have_frames_after s after job (others_stand s job frames after k.others) i.memories.have_frames k.own);
            sequencer =
                sequencer_stands code s job frames after k.others i.base k.off k.fine k.all.base_fine i.sequencer stays;
            handlers = k.handlers;
          };
          done = done;
        };
        references = k.references;
      }

  -- ---- a release acts

  module _ (followed : s.outcome ≡ None) (index : ℕ) (frames : List Frame) (after : State)
      (k : Keeps (ReleaseAt index) frames after) where
    same_activity : (after.activity ≡ s.activity) × (after.outcome ≡ s.outcome)
    same_activity = elim k.others.activity as (λ z. (after.activity ≡ s.activity) × (after.outcome ≡ s.outcome)) [
      | inl e ↦ absurd (cc (e))
      | inr e ↦ e
    ]

    same_operation : KeepsOperation s after
    same_operation = go k.others.sequencer
      where
        go : SequencerStays s (ReleaseAt index) after → KeepsOperation s after
        go (inl e) = record { phase = e.0; operation = e.1 }
        go (inr e) = absurd (let x : ReleaseAt index ≡ TheSequencer = e.0 in cc (x))

    pub release_keeps_sound : SoundAfter code after
    release_keeps_sound =
        sound_after (ReleaseAt index) frames after k
        (record {
          operation = same_operation;
          suits = subst (λ v. BaseSuits s.operation v i.base) (sym same_activity.1) i.sequencer.base_suits;
          called = λ f over low. i.sequencer.called f over
              (ap (λ (a : Activity). lowest a.frames) (sym same_activity.0) ∙ low);
          frameless = λ e. ap (λ (a : Activity). a.frames) same_activity.0 ∙ i.sequencer.frameless e;
        })
        (none_done code after (same_activity.1 ∙ followed))

  -- ---- a fault of the sequencer halts the run

  pub halts_sound : is_exec s.phase ≡ false → (after : State) → after ≡ halted s →
      ReferencesHold after (areas_of i.base) → SoundAfter code after
  halts_sound outside after e held = subst (SoundAfter code) (sym e) here
    where
      stopped : Invariant code (halted s)
      stopped = halts code s i outside

      here : SoundAfter code (halted s)
      here =
          record {
            after = record { invariant = stopped; done = none_done code (halted s) refl };
            references =
                holds_on code s (halted s) i.base stopped.base refl i.memories stopped.memories
                (subst (λ t. ReferencesHold t (areas_of i.base)) e held);
          }

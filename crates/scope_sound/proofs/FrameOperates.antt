-- The next operation of a job that has frames leaves a sound state.
use Rattle.std.specs.Prelude.{Option, Some, None, option_map}
use Rattle.std.proofs.Common.{◌≡◌, ℕ, List, [], ◌∷◌, false, sym, ◌∙◌, ap, subst, ◌⊎◌, inl, inr}
use Rattle.scj_rules.specs.Words.{is_among, ◌>>=◌}
use Rattle.accepted_laws.proofs.Tools.{some_inj}
use Rattle.scj_model.specs.declared.plans.ReadingRow.{ReadingRow}
use Rattle.scj_model.specs.Code.{Code}
use Rattle.scj_model.specs.State.{Activity, Frame, Release, Job, TheSequencer, ReleaseAt, State, activity_in, activity_of, area_at, is_exec}
use Rattle.scj_model.specs.Steps.{Step}
use Rattle.scj_model.specs.Run.{frame_op}
use Rattle.scope_flow.specs.Facts.{Facts}
use Rattle.frame_sound.specs.Places.{world_of}
use Rattle.frame_sound.specs.Fine.{ListFine}
use Rattle.frame_sound.specs.OwnJob.{HasEnded, HasFaulted, HasLeft, IsClosedBehind, JobGoesOn, JobStands, KeepsItsJob, closed_if, opened_by}
use Rattle.frame_sound.specs.Others.{KeepsOthers}
use Rattle.frame_sound.specs.AllJobs.{AllStand, LetsAllStand}
use Rattle.frame_sound.proofs.AllJobs.{off_base}
use Rattle.frame_sound.proofs.AllSteps.{operation_lets_stand}
use Rattle.frame_sound.proofs.OwnOthers.{others_kept}
use Rattle.frame_sound.proofs.OwnSteps.{operation_kept}
use Rattle.mission_sound.specs.Bases.{areas_of}
use Rattle.mission_sound.specs.Invariant.{Invariant}
use Rattle.mission_sound.specs.SequencerFacts.{SequencerFacts}
use Rattle.mission_sound.proofs.HandlersOfOperations.{operation_handled}
use Rattle.reference_sound.proofs.HoldsKept.{references_kept}
use Rattle.scope_sound.specs.Sound.{OperatesSoundly, Sound}
use Rattle.scope_sound.proofs.AllStanding.{HasFramesIfRelease, NewAreNoMissions, all_stand, base_list, immortal_under, job_stands}
use Rattle.scope_sound.proofs.Kept.{Keeps, release_keeps_sound}
use Rattle.scope_sound.proofs.Registers.{registers_fine}

-- ---- frames and areas of a job that has come to its end

ended_is : (s : State) (index : ℕ) → HasEnded s index → activity_of s (ReleaseAt index) ≡ None
unfolding activity_of activity_in
ended_is s index h =
    ap (λ (o : Option Release). o >>= (λ r. activity_in r.status)) h.is ∙ ap activity_in h.ended

pub ended_has_frames : (s : State) (index : ℕ) → HasEnded s index → HasFramesIfRelease s (ReleaseAt index)
ended_has_frames s index h activity is = absurd (let none = ended_is s index h in cc (none, is))

pub none_is_new : (code : Code) (s : State) (frames : List Frame) (after : State) → IsClosedBehind s frames after →
    NewAreNoMissions code s after
none_is_new code s frames after c a x none there =
    absurd (let e : area_at after a ≡ None =
    c.areas a ∙ ap (option_map (closed_if (is_among a (opened_by frames)))) none in cc (e, there))

-- of one that goes on
goes_on_frames : (code : Code) (s : State) (job : Job) (base : List ℕ) (f : Frame) (below : List Frame)
    (after : State) → JobGoesOn code s job base f below after → HasFramesIfRelease after job
goes_on_frames code s job base f below after g activity is =
    inl (record {
      highest = g.top;
      below = g.others;
      are = ap (λ (a : Activity). a.frames) (some_inj activity g.stands.activity (sym is ∙ g.stands.is)) ∙ g.are;
    })

goes_on_areas : (code : Code) → SequencerFacts code → (s : State) (job : Job) (base : List ℕ) (f : Frame)
    (below : List Frame) (after : State) → JobGoesOn code s job base f below after → NewAreNoMissions code s after
goes_on_areas code promised s job base f below after g a x none there =
    let n = (g.areas.new a x none there).for_entered in (
      promised.runnables n.class x.scope n.entered.is_runnable n.entered.defines,
      record { class = n.class; is = inr n.entered.is_runnable; defines = n.entered.defines },
    )

-- ---- the operation

module _ (code : Code) (facts : Facts code) (promised : SequencerFacts code) (rows : List ReadingRow) (s : State)
    (sound : Sound code s) (job : Job) (activity : Activity) (is : activity_of s job ≡ Some activity) (f : Frame)
    (below : List Frame) (has : activity.frames ≡ f ∷ below) (outside : job ≡ TheSequencer → is_exec s.phase ≡ false)
  where
    abbrev i : Invariant code s
    i = sound.settled.invariant

    abbrev list : List ℕ
    list = areas_of sound.settled.invariant.base

    list_fine : ListFine (world_of s).areas list
    list_fine =
        base_list code s i.base i.sequencer.base_fine
        (immortal_under code (world_of s) list activity (i.memories.jobs job activity is) f below has)

    abbrev stands : JobStands code s job list
    stands = job_stands code s i.base i.memories job activity is

    pub own : KeepsItsJob code s job activity list f below (frame_op code rows s job activity)
    own = operation_kept code facts rows s job list stands f below has

    module _ (k : KeepsItsJob code s job activity list f below (frame_op code rows s job activity)) where
      others : KeepsOthers s job activity.frames k.step.state
      others = others_kept code facts rows s job list stands f below has k.step k.is

      all_after : AllStand code k.step.state list
      all_after = subst (λ (t : Step). AllStand code t.state list) (some_inj l.step k.step (sym l.is ∙ k.is)) l.stand
        where
          l : LetsAllStand code list (frame_op code rows s job activity)
          l =
              operation_lets_stand code s list (all_stand code s i.base i.memories list_fine) facts rows job activity is
              f below has

      pub keeps : NewAreNoMissions code s k.step.state → HasFramesIfRelease k.step.state job →
          Keeps code s i job activity.frames k.step.state
      keeps new frames =
          record {
            others = others;
            off = off_base code (world_of s) list activity (i.memories.jobs job activity is);
            fine = list_fine;
            all = all_after;
            new = new;
            own = frames;
            handlers =
                operation_handled code i.base rows s job activity k.step is outside i.handlers
                (registers_fine code facts promised s i sound.settled.followed rows job activity is) k.is;
            references =
                references_kept code facts rows s job activity is list sound.references i.memories.memory
                (i.memories.jobs job activity is) k.step k.is;
          }

      pub goes_on_keeps : JobGoesOn code s job list f below k.step.state →
          Keeps code s i job activity.frames k.step.state
      goes_on_keeps g =
          keeps (goes_on_areas code promised s job list f below k.step.state g)
          (goes_on_frames code s job list f below k.step.state g)

-- ---- of a release

pub release_operates : (code : Code) → Facts code → SequencerFacts code → (rows : List ReadingRow) (s : State) →
    Sound code s → (index : ℕ) (activity : Activity) → activity_of s (ReleaseAt index) ≡ Some activity → (f : Frame)
    (below : List Frame) → activity.frames ≡ f ∷ below →
    OperatesSoundly code (frame_op code rows s (ReleaseAt index) activity)
release_operates code facts promised rows s sound index activity is f below has =
    record {
      step = k.step;
      is = k.is;
      after =
          release_keeps_sound code s sound.settled.invariant sound.settled.followed index activity.frames k.step.state
          (go k.either);
    }
  where
    outside : ReleaseAt index ≡ TheSequencer → is_exec s.phase ≡ false
    outside e = absurd (cc (e))

    k : KeepsItsJob code s (ReleaseAt index) activity (areas_of sound.settled.invariant.base) f below
        (frame_op code rows s (ReleaseAt index) activity)
    k = own code facts promised rows s sound (ReleaseAt index) activity is f below has outside

    go : JobGoesOn code s (ReleaseAt index) (areas_of sound.settled.invariant.base) f below k.step.state
        ⊎ (((below ≡ [])
        × HasLeft code s (ReleaseAt index) (areas_of sound.settled.invariant.base) f k.step.state)
        ⊎ HasFaulted code s (ReleaseAt index) activity k.step) →
        Keeps code s sound.settled.invariant (ReleaseAt index) activity.frames k.step.state
    go (inl g) = goes_on_keeps code facts promised rows s sound (ReleaseAt index) activity is f below has outside k g
    go (inr (inl x)) =
        keeps code facts promised rows s sound (ReleaseAt index) activity is f below has outside k
        (none_is_new code s (f ∷ []) k.step.state x.1.closed) (ended_has_frames k.step.state index x.1.ends)
    go (inr (inr x)) =
        keeps code facts promised rows s sound (ReleaseAt index) activity is f below has outside k
        (none_is_new code s activity.frames k.step.state x.ends.closed)
        (ended_has_frames k.step.state index x.ends.ended)

-- The first operation of a release, in execution, leaves a sound state.
use Rattle.std.specs.Prelude.{Some, slice_get, ◌<◌}
use Rattle.std.proofs.Common.{◌≡◌, ℕ, List, [], length, true, refl, sym, ◌∙◌, ap, subst, ◌⊎◌, inl, inr}
use Rattle.accepted_laws.proofs.Lists.{get_within}
use Rattle.accepted_laws.proofs.Tools.{some_inj}
use Rattle.scj_model.specs.declared.handlers.HandlerRow.{HandlerRow}
use Rattle.scj_model.specs.Code.{Code}
use Rattle.scj_model.specs.State.{Activity, Waits, Release, ReleaseAt, State, is_exec}
use Rattle.scj_model.specs.Registry.{handler_row}
use Rattle.scj_model.specs.Steps.{Step}
use Rattle.scj_model.specs.Sequencer.{innermost}
use Rattle.scj_model.specs.Run.{no_activity, start_op}
use Rattle.scope_flow.specs.Facts.{Facts}
use Rattle.frame_sound.specs.Places.{world_of}
use Rattle.frame_sound.specs.Fine.{ListFine, list_of}
use Rattle.frame_sound.specs.OwnJob.{HasFaulted}
use Rattle.frame_sound.specs.AllJobs.{AllStand, LetsAllStand}
use Rattle.frame_sound.specs.Starts.{HasStarted, Starts}
use Rattle.frame_sound.proofs.AllSteps.{start_lets_stand}
use Rattle.frame_sound.proofs.OwnedAreas.{new_area_owned}
use Rattle.frame_sound.proofs.Starting.{start_keeps, starts}
use Rattle.mission_sound.specs.Bases.{Base, areas_of, unopened, in_immortal, in_mission, BaseFine, BaseSuits}
use Rattle.mission_sound.specs.Invariant.{Invariant}
use Rattle.mission_sound.specs.SequencerFacts.{SequencerFacts}
use Rattle.mission_sound.proofs.HandlersOfOperations.{start_handled}
use Rattle.mission_sound.proofs.Jobs.{sequencer_fine}
use Rattle.reference_sound.specs.Roots.{InnermostIsThere}
use Rattle.reference_sound.proofs.PhaseHolds.{start_keeps as start_keeps_references}
use Rattle.scope_sound.specs.Sound.{OperatesSoundly, Sound}
use Rattle.scope_sound.proofs.AllStanding.{HasFramesIfRelease, IsNoMissions, NewAreNoMissions, all_stand}
use Rattle.scope_sound.proofs.FrameOperates.{ended_has_frames, none_is_new}
use Rattle.scope_sound.proofs.Kept.{Keeps, release_keeps_sound}
use Rattle.scope_sound.proofs.Starts.{MayStart, in_execution, registered_may_start}

-- ---- the innermost memory of the sequencer is there

base_is_there : (code : Code) (s : State) (base : Base) → BaseFine code s base → (a : ℕ) →
    innermost (areas_of base) ≡ Some a → a < length s.areas
unfolding innermost
base_is_there code s unopened fine a e = absurd (cc (e))
base_is_there code s in_immortal fine a e =
    let x = fine.immortal in
    subst (λ a. a < length s.areas) (some_inj 0 a e) (get_within s.areas 0 x.area x.is_there)
base_is_there code s (in_mission memory) fine a e =
    let x = fine.2 in
    subst (λ a. a < length s.areas) (some_inj memory a e) (get_within s.areas memory x.area x.is_there)

module _ (code : Code) (s : State) (i : Invariant code s) (frameless : s.activity.frames ≡ []) where
  list_is : s.activity.areas ≡ areas_of i.base
  list_is = (sequencer_fine code s i.base i.memories).is_list ∙ ap (list_of (areas_of i.base)) frameless

  pub inner_there : InnermostIsThere s
  inner_there a e = base_is_there code s i.base i.sequencer.base_fine a (sym (ap innermost list_is) ∙ e)

-- ---- the first operation of a release

module _ (code : Code) (facts : Facts code) (promised : SequencerFacts code) (s : State) (sound : Sound code s)
    (exec : is_exec s.phase ≡ true) (index : ℕ) (r : Release) (there : slice_get s.releases index ≡ Some r)
    (waits : r.status ≡ Waits) (row : HandlerRow) (registered : handler_row s.registry r.handler ≡ Some row) where
  abbrev i : Invariant code s
  i = sound.settled.invariant

  abbrev list : List ℕ
  list = areas_of sound.settled.invariant.base

  frameless : s.activity.frames ≡ []
  frameless = i.sequencer.frameless exec

  fine : ListFine (world_of s).areas list
  fine =
      let inside = in_execution s.operation i.base (sym (ap is_exec i.sequencer.phase) ∙ exec)
      (subst (λ v. BaseSuits s.operation v i.base) sound.settled.followed i.sequencer.base_suits) in
      subst (λ b. ListFine (world_of s).areas (areas_of b)) (sym inside.1)
      (subst (BaseFine code s) inside.1 i.sequencer.base_fine).1

  may : MayStart code s row
  may = registered_may_start code promised s i frameless r.handler row registered

  module _ (k : Starts code s index row may.handler (start_op code s index r)) where
    all_after : AllStand code k.step.state list
    all_after = subst (λ (t : Step). AllStand code t.state list) (some_inj l.step k.step (sym l.is ∙ k.is)) l.stand
      where
        l : LetsAllStand code list (start_op code s index r)
        l =
            start_lets_stand code s list (all_stand code s i.base i.memories fine) frameless index r there waits facts
            row registered may.handler

    keeps : NewAreNoMissions code s k.step.state → HasFramesIfRelease k.step.state (ReleaseAt index) →
        Keeps code s i (ReleaseAt index) [] k.step.state
    keeps new frames =
        record {
          others = start_keeps code s index r k.step k.is;
          off = λ a on. refl;
          fine = fine;
          all = all_after;
          new = new;
          own = frames;
          handlers = start_handled code i.base s index r k.step there waits exec i.handlers k.is;
          references =
              (start_keeps_references code s list sound.references (inner_there code s i frameless) index r).gives
              k.step k.is;
        }

    either_keeps : HasStarted code s index row may.handler.scope may.handler.may_open.inner k.step.state
        ⊎ HasFaulted code s (ReleaseAt index) no_activity k.step → Keeps code s i (ReleaseAt index) [] k.step.state
    either_keeps (inl x) =
        keeps (λ a y none here.
        (let n = (new_area_owned s [] k.step.state x.frame [] _ x.areas x.opened refl).new a y none here in
        subst (IsNoMissions code) n.1 (may.is_no_missions, may.defined)))
        (λ activity is. inl (record {
          highest = x.frame;
          below = [];
          are = ap (λ (a : Activity). a.frames) (some_inj activity x.stands.activity (sym is ∙ x.stands.is)) ∙ x.are;
        }))
    either_keeps (inr x) =
        keeps (none_is_new code s [] k.step.state x.ends.closed) (ended_has_frames k.step.state index x.ends.ended)

  pub start_operates : OperatesSoundly code (start_op code s index r)
  start_operates =
      record {
        step = k.step;
        is = k.is;
        after = release_keeps_sound code s i sound.settled.followed index [] k.step.state (either_keeps k k.either);
      }
    where
      k : Starts code s index row may.handler (start_op code s index r)
      k = starts code facts s index r there row i.memories.memory may.handler registered

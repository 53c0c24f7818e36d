-- From the invariant of a state to how all jobs stand in it, and back from there after an operation: the areas that the
-- operation opens are no mission's.
use Rattle.std.specs.Prelude.{Option, Some, None, slice_get, ◌==◌}
use Rattle.std.proofs.Common.{◌≡◌, ℕ, List, ◌∷◌, Bool, true, false, refl, sym, ◌∙◌, ap, subst, arith, true≢false, ◌⊎◌, inl, inr}
use Rattle.std.proofs.lemmas.Bool.Decides.{nat_tests}
use Rattle.scj_rules.specs.Words.{is_among}
use Rattle.scj_rules.specs.ScopeRules.{is_mission, definer}
use Rattle.accepted_laws.proofs.Tools.{some_inj}
use Rattle.scj_model.specs.Code.{Code}
use Rattle.scj_model.specs.State.{MemoryArea, Activity, Frame, Job, TheSequencer, ReleaseAt, State, activity_of, area_at}
use Rattle.frame_sound.specs.Places.{World, world_of}
use Rattle.frame_sound.specs.Fine.{FramesFine, IsImmortalMemory, JobFine, ListFine}
use Rattle.frame_sound.specs.OwnJob.{JobStands, closed_if}
use Rattle.frame_sound.specs.Others.{AreaStays, KeepsOthers, OthersStand}
use Rattle.frame_sound.specs.AllJobs.{AllStand, IsOpenedBy as HasOpened}
use Rattle.frame_sound.proofs.AllJobs.{nested}
use Rattle.mission_sound.specs.Bases.{Base, areas_of, unopened, in_immortal, in_mission, BaseFine}
use Rattle.mission_sound.specs.Invariant.{HasFrame, IsOpenedBy, IsPrivate, IsPrivateScope, MemoriesFine}

-- ---- all jobs stand

is_opened : (s : State) (a : ℕ) (job : Job) → HasOpened s a job → IsOpenedBy s a job
is_opened s a job o = record { activity = o.activity; is = o.is; on_list = o.on_list }

has_opened : (s : State) (a : ℕ) (job : Job) → IsOpenedBy s a job → HasOpened s a job
has_opened s a job o = record { activity = o.activity; is = o.is; on_list = o.on_list }

pub all_stand : (code : Code) (s : State) (base : Base) → MemoriesFine code s base →
    ListFine (world_of s).areas (areas_of base) → AllStand code s (areas_of base)
all_stand code s base m fine =
    record {
      memory = m.memory;
      base_fine = fine;
      jobs = m.jobs;
      apart = λ a job other o p. m.apart a job other (is_opened s a job o) (is_opened s a other p);
      owned = λ a x there opens.
          elim (m.owned a x there opens) as
          (λ z. (is_among a (areas_of base) ≡ true) ⊎ ((job : Job) × HasOpened s a job)) [
            | inl on ↦ inl on
            | inr p ↦ inr (p.job, has_opened s a p.job p.opened)
          ];
    }

abbrev pub job_stands : (code : Code) (s : State) (base : Base) → MemoriesFine code s base → (job : Job)
    (activity : Activity) → activity_of s job ≡ Some activity → JobStands code s job (areas_of base)
job_stands code s base m job activity is =
    record {
      activity = activity;
      is = is;
      is_list = (m.jobs job activity is).is_list;
      stands = record {
        areas_fine = m.memory.areas;
        heap = m.memory.heap;
        statics_fine = m.memory.statics;
        frames_fine = (m.jobs job activity is).frames;
      };
    }

-- where there is immortal memory, the sequencer's list without frames is as the rules say
pub base_list : (code : Code) (s : State) (base : Base) → BaseFine code s base →
    IsImmortalMemory (world_of s).areas → ListFine (world_of s).areas (areas_of base)
base_list code s unopened fine m =
    absurd (let e : None ≡ Some m.area = ap (λ (areas : List MemoryArea). slice_get areas 0) (sym fine.0) ∙ m.is_there
    in cc (e))
base_list code s in_immortal fine m = fine
base_list code s (in_mission memory) fine m = fine.1

-- which there is where a job has a frame
pub immortal_under : (code : Code) (w : World) (base : List ℕ) (activity : Activity) → JobFine code w base activity →
    (f : Frame) (below : List Frame) → activity.frames ≡ f ∷ below → IsImmortalMemory w.areas
immortal_under code w base activity fine f below has =
    let u : FramesFine code w base (f ∷ below) = subst (FramesFine code w base) has fine.frames in u.1.immortal

-- ---- frames after an operation

abbrev pub HaveFrames : State → Type 0
HaveFrames s =
    (index : ℕ) (activity : Activity) → activity_of s (ReleaseAt index) ≡ Some activity → HasFrame activity

-- the job has frames, if it is a release and under way
abbrev pub HasFramesIfRelease : State → Job → Type 0
HasFramesIfRelease s job =
    (activity : Activity) → activity_of s job ≡ Some activity → HasFrame activity ⊎ (job ≡ TheSequencer)

same_or_other : (job other : Job) → (other ≡ job) ⊎ (other ≡ job → ⊥)
same_or_other TheSequencer TheSequencer = inl refl
same_or_other TheSequencer (ReleaseAt n) = inr (λ e. cc (e))
same_or_other (ReleaseAt n) TheSequencer = inr (λ e. cc (e))
same_or_other (ReleaseAt n) (ReleaseAt m) = go (m == n) refl
  where
    go : (t : Bool) → (m == n) ≡ t → (ReleaseAt m ≡ ReleaseAt n) ⊎ (ReleaseAt m ≡ ReleaseAt n → ⊥)
    go true e = inl (let same : m ≡ n = grind (arith, nat_tests) in ap ReleaseAt same)
    go false e = inr (λ f. (let same : m ≡ n = cc (f) in grind (arith, nat_tests)))

pub have_frames_after : (s after : State) (job : Job) → OthersStand s job after → HaveFrames s →
    HasFramesIfRelease after job → HaveFrames after
have_frames_after s after job stand have own index activity is = go (same_or_other job (ReleaseAt index))
  where
    mine : ReleaseAt index ≡ job → HasFrame activity ⊎ (job ≡ TheSequencer) → HasFrame activity
    mine e (inl h) = h
    mine e (inr h) = absurd (let x : ReleaseAt index ≡ TheSequencer = e ∙ h in cc (x))

    go : (ReleaseAt index ≡ job) ⊎ (ReleaseAt index ≡ job → ⊥) → HasFrame activity
    go (inl e) = mine e (own activity (ap (activity_of after) (sym e) ∙ is))
    go (inr n) = have index activity (sym (stand (ReleaseAt index) n) ∙ is)

-- ---- areas after an operation

abbrev pub IsNoMissions : Code → MemoryArea → Type 0
IsNoMissions code x = (is_mission code.program (definer x.scope) ≡ false) × IsPrivateScope code.program x.scope

abbrev pub NewAreNoMissions : Code → State → State → Type 0
NewAreNoMissions code s after =
    (a : ℕ) (x : MemoryArea) → area_at s a ≡ None → area_at after a ≡ Some x → IsNoMissions code x

module _ (code : Code) (s : State) (base : Base) (m : MemoriesFine code s base) (job : Job) (frames : List Frame)
    (after : State) (keeps : KeepsOthers s job frames after) (new : NewAreNoMissions code s after) where
  abbrev NotFromMission : ℕ → MemoryArea → Type 0
  NotFromMission a x = (is_among a (areas_of base) ≡ true) ⊎ IsNoMissions code x

  not_from_mission : (a : ℕ) (x : MemoryArea) → area_at after a ≡ Some x → x.is_open ≡ true → NotFromMission a x
  not_from_mission a x there opens = go (area_at s a) refl
    where
      by_change : (y : MemoryArea) → area_at s a ≡ Some y → AreaStays after frames a y → NotFromMission a x
      by_change y e (inl h) =
          let same : y ≡ x = some_inj y x (sym h ∙ there) in
          elim (m.owned a y e (ap (λ (z : MemoryArea). z.is_open) same ∙ opens)) as (λ z. NotFromMission a x) [
            | inl on ↦ inl on
            | inr p ↦ inr (subst (IsNoMissions code) same (p.no_mission, p.defined))
          ]
      by_change y e (inr h) =
          absurd (let same : closed_if true y ≡ x = some_inj (closed_if true y) x (sym h.1 ∙ there) in
          true≢false (sym opens ∙ ap (λ (z : MemoryArea). z.is_open) (sym same)))

      go : (o : Option MemoryArea) → area_at s a ≡ o → NotFromMission a x
      go None e = inr (new a x e there)
      go (Some y) e = by_change y e (keeps.areas a y e)

  owned_after : AllStand code after (areas_of base) → (a : ℕ) (x : MemoryArea) → area_at after a ≡ Some x →
      x.is_open ≡ true → (is_among a (areas_of base) ≡ true) ⊎ IsPrivate code after a x
  owned_after all a x there opens = go (all.owned a x there opens) (not_from_mission a x there opens)
    where
      go : (is_among a (areas_of base) ≡ true) ⊎ ((owner : Job) × HasOpened after a owner) → NotFromMission a x →
          (is_among a (areas_of base) ≡ true) ⊎ IsPrivate code after a x
      go (inl on) h = inl on
      go (inr o) (inl on) = inl on
      go (inr o) (inr h) =
          inr (record { job = o.0; opened = is_opened after a o.0 o.1; no_mission = h.0; defined = h.1 })

  pub memories_after : AllStand code after (areas_of base) → HaveFrames after → MemoriesFine code after base
  memories_after all have =
      record {
        memory = all.memory;
        jobs = all.jobs;
        have_frames = have;
        owned = owned_after all;
        apart = λ a job other o p. all.apart a job other (has_opened after a job o) (has_opened after a other p);
        nested = λ a b x is opens up. nested code after (areas_of base) all a b x is opens up;
      }

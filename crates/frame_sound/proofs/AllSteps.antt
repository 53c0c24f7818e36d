-- The next operation of a job, and START, let all jobs stand.
use Rattle.std.specs.Prelude.{Option, Some, None, slice_get}
use Rattle.std.proofs.Common.{◌≡◌, ℕ, List, [], ◌∷◌, true, refl, sym, ◌∙◌, ap, subst, true≢false, ◌⊎◌, inl, inr}
use Rattle.scj_rules.specs.Words.{is_among, ◌>>=◌}
use Rattle.accepted_laws.proofs.Tools.{some_inj}
use Rattle.scj_model.specs.declared.handlers.HandlerRow.{HandlerRow}
use Rattle.scj_model.specs.declared.operations.SeqOp.TheVariants.{Finished}
use Rattle.scj_model.specs.declared.phases.Phase.TheVariants.{Over}
use Rattle.scj_model.specs.declared.plans.ReadingRow.{ReadingRow}
use Rattle.scj_model.specs.Code.{Code}
use Rattle.scj_model.specs.State.{MemoryArea, Activity, Frame, Waits, Release, Job, TheSequencer, ReleaseAt, State, activity_in, activity_of, area_at}
use Rattle.scj_model.specs.Registry.{handler_row}
use Rattle.scj_model.specs.Steps.{Step}
use Rattle.scj_model.specs.Run.{frame_op, no_activity, start_op}
use Rattle.scope_flow.specs.Facts.{Facts}
use Rattle.frame_sound.specs.Places.{world_of}
use Rattle.frame_sound.specs.Fine.{FramesFine, JobFine, MemoryFine, list_of}
use Rattle.frame_sound.specs.OwnJob.{HasEnded, HasFaulted, HasLeft, IsClosedBehind, JobGoesOn, JobStands, KeepsItsJob, opened_by}
use Rattle.frame_sound.specs.Others.{AreNotOf, KeepsOthers}
use Rattle.frame_sound.specs.Starts.{HandlerFine, HasStarted, Starts}
use Rattle.frame_sound.specs.AllJobs.{AllStand, IsOpenedBy, LetsAllStand}
use Rattle.frame_sound.proofs.AllJobs.{all_after, off_base}
use Rattle.frame_sound.proofs.OthersOfChanges.{others_stand}
use Rattle.frame_sound.proofs.OwnJobs.{same_activity}
use Rattle.frame_sound.proofs.OwnOthers.{others_kept}
use Rattle.frame_sound.proofs.OwnSteps.{operation_kept}
use Rattle.frame_sound.proofs.OwnedAreas.{Owns, closed_owned, new_area_owned}
use Rattle.frame_sound.proofs.Starting.{start_keeps, starts}

-- ---- jobs of a state

ended_is : (s : State) (index : ℕ) → HasEnded s index → activity_of s (ReleaseAt index) ≡ None
unfolding activity_of activity_in
ended_is s index h =
    ap (λ (o : Option Release). o >>= (λ r. activity_in r.status)) h.is ∙ ap activity_in h.ended

job_fine : (code : Code) (s : State) (job : Job) (base : List ℕ) (stands : JobStands code s job base)
    (activity : Activity) →
    activity_of s job ≡ Some activity → JobFine code (world_of s) base activity
job_fine code s job base stands activity is =
    subst (JobFine code (world_of s) base) (some_inj stands.activity activity (sym stands.is ∙ is))
    (record { is_list = stands.is_list; frames = stands.stands.frames_fine })

job_frames : (code : Code) (s : State) (job : Job) (base : List ℕ) (stands : JobStands code s job base)
    (activity : Activity) →
    activity_of s job ≡ Some activity → activity.frames ≡ stands.activity.frames
job_frames code s job base stands activity is =
    ap (λ (a : Activity). a.frames) (some_inj activity stands.activity (sym is ∙ stands.is))

-- without frames the job has the areas of the sequencer
bare_fine : (code : Code) (s : State) (base : List ℕ) (activity : Activity) → activity.frames ≡ [] →
    activity.areas ≡ base → JobFine code (world_of s) base activity
bare_fine code s base activity none areas =
    record {
      is_list = areas ∙ sym (ap (list_of base) none);
      frames = subst (FramesFine code (world_of s) base) (sym none) tt;
    }

module _ (code : Code) (s : State) (base : List ℕ) (all : AllStand code s base) where
  abbrev stands_in : (job : Job) (activity : Activity) → activity_of s job ≡ Some activity → JobStands code s job base
  stands_in job activity is =
      let fine = all.jobs job activity is in
      record {
        activity = activity;
        is = is;
        is_list = fine.is_list;
        stands = record {
          areas_fine = all.memory.areas;
          heap = all.memory.heap;
          statics_fine = all.memory.statics;
          frames_fine = fine.frames;
        };
      }

  -- ---- a job with frames

  module _ (job : Job) (activity : Activity) (is : activity_of s job ≡ Some activity) where
    off : AreNotOf activity.frames base
    off = off_base code (world_of s) base activity (all.jobs job activity is)

    had : (a : ℕ) → is_among a (opened_by activity.frames) ≡ true → IsOpenedBy s a job
    had a h = record { activity = activity; is = is; on_list = h }

    before : (a : ℕ) → IsOpenedBy s a job → is_among a (opened_by activity.frames) ≡ true
    before a o =
        subst (λ (x : Activity). is_among a (opened_by x.frames) ≡ true)
        (some_inj o.activity activity (sym o.is ∙ is)) o.on_list

    -- it has come to its end
    ends : (frames : List Frame) (after : State) → activity.frames ≡ frames →
        KeepsOthers s job activity.frames after → MemoryFine code after → IsClosedBehind s frames after →
        ((x : Activity) → activity_of after job ≡ Some x → (x.frames ≡ []) × (x.areas ≡ base)) →
        AllStand code after base
    ends frames after e keeps memory closed done =
        all_after code s base all job activity.frames [] after (λ x. Unit {0}) keeps
        (others_stand s job activity.frames after keeps) memory off had before
        (λ x h. (let d = done x h in bare_fine code after base x d.0 d.1)) (λ x h. (let d = done x h in d.0))
        (λ a h. absurd (true≢false (sym h)))
        (closed_owned s activity.frames after (subst (λ fs. IsClosedBehind s fs after) (sym e) closed))

    goes_on : (f : Frame) (below : List Frame) (after : State) → activity.frames ≡ f ∷ below →
        KeepsOthers s job activity.frames after → JobGoesOn code s job base f below after → AllStand code after base
    goes_on f below after e keeps g =
        let k = g.areas in
        all_after code s base all job activity.frames (g.top ∷ g.others) after (λ x. Unit {0}) keeps
        (others_stand s job activity.frames after keeps)
        (record {
          areas = g.stands.stands.areas_fine;
          heap = g.stands.stands.heap;
          statics = g.stands.stands.statics_fine;
        }) off had before (job_fine code after job base g.stands)
        (λ x h. job_frames code after job base g.stands x h ∙ g.are)
        (λ a h. record {
          activity = g.stands.activity;
          is = g.stands.is;
          on_list = ap (λ fs. is_among a (opened_by fs)) g.are ∙ h;
        })
        (record {
          has = λ a h. elim (k.has a h) as (λ z. (is_among a (opened_by activity.frames) ≡ true) ⊎ (area_at s a ≡ None)) [
            | inl x ↦ inl (ap (λ fs. is_among a (opened_by fs)) e ∙ x)
            | inr x ↦ inr x
          ];
          lost = λ a x h there. k.lost a x (sym (ap (λ fs. is_among a (opened_by fs)) e) ∙ h) there;
          new = λ a x none there. (let n = k.new a x none there in (n.on_list, tt));
        })

  left : (job : Job) (activity : Activity) → activity_of s job ≡ Some activity → (f : Frame) (after : State) →
      activity.frames ≡ f ∷ [] → KeepsOthers s job activity.frames after → HasLeft code s job base f after →
      AllStand code after base
  unfolding activity_of
  left TheSequencer activity is f after e keeps x =
      ends TheSequencer activity is (f ∷ []) after e keeps x.memory x.closed
      (λ y h. (let same : after.activity ≡ y = some_inj after.activity y h in (
        ap (λ (a : Activity). a.frames) (sym same) ∙ x.ends.frames,
        ap (λ (a : Activity). a.areas) (sym same)
            ∙ x.ends.areas,
      )))
  left (ReleaseAt index) activity is f after e keeps x =
      ends (ReleaseAt index) activity is (f ∷ []) after e keeps x.memory x.closed
      (λ y h. (let none = ended_is after index x.ends in absurd (cc (none, h))))

  faulted : (job : Job) (activity : Activity) → activity_of s job ≡ Some activity → (step : Step) →
      KeepsOthers s job activity.frames step.state → HasFaulted code s job activity step → AllStand code step.state base
  faulted TheSequencer activity is step keeps x =
      subst (λ t. AllStand code t base) (sym x.ends)
      (record {
        memory = record { areas = all.memory.areas; heap = all.memory.heap; statics = all.memory.statics };
        base_fine = all.base_fine;
        jobs = λ job a h. all.jobs job a (sym (same_jobs job) ∙ h);
        apart = λ a job other o p. all.apart a job other (was a job o) (was a other p);
        owned = λ a y there opens.
            elim (all.owned a y there opens) as
            (λ z. (is_among a base ≡ true) ⊎ ((job : Job) × IsOpenedBy halted a job)) [
              | inl g ↦ inl g
              | inr g ↦ inr (g.0, is_now a g.0 g.1)
            ];
      })
    where
      halted : State
      halted = record s { phase = Over; operation = Finished; outcome = None }

      same_jobs : (job : Job) → activity_of halted job ≡ activity_of s job
      same_jobs job = same_activity s halted job refl refl

      was : (a : ℕ) (job : Job) → IsOpenedBy halted a job → IsOpenedBy s a job
      was a job o = record { activity = o.activity; is = sym (same_jobs job) ∙ o.is; on_list = o.on_list }

      is_now : (a : ℕ) (job : Job) → IsOpenedBy s a job → IsOpenedBy halted a job
      is_now a job o = record { activity = o.activity; is = same_jobs job ∙ o.is; on_list = o.on_list }
  faulted (ReleaseAt index) activity is step keeps x =
      ends (ReleaseAt index) activity is activity.frames step.state refl keeps x.memory x.ends.closed
      (λ y h. (let none = ended_is step.state index x.ends.ended in absurd (cc (none, h))))

  pub operation_lets_stand : Facts code → (rows : List ReadingRow) (job : Job) (activity : Activity) →
      activity_of s job ≡ Some activity → (f : Frame) (below : List Frame) → activity.frames ≡ f ∷ below →
      LetsAllStand code base (frame_op code rows s job activity)
  operation_lets_stand facts rows job activity is f below has =
      record { step = k.step; is = k.is; stand = go k.either }
    where
      stands : JobStands code s job base
      stands = stands_in job activity is

      k : KeepsItsJob code s job activity base f below (frame_op code rows s job activity)
      k = operation_kept code facts rows s job base stands f below has

      keeps : KeepsOthers s job activity.frames k.step.state
      keeps = others_kept code facts rows s job base stands f below has k.step k.is

      go : JobGoesOn code s job base f below k.step.state
          ⊎ (((below ≡ []) × HasLeft code s job base f k.step.state) ⊎ HasFaulted code s job activity k.step) →
          AllStand code k.step.state base
      go (inl g) = goes_on job activity is f below k.step.state has keeps g
      go (inr (inl x)) = left job activity is f k.step.state (has ∙ ap (λ fs. f ∷ fs) x.0) keeps x.1
      go (inr (inr x)) = faulted job activity is k.step keeps x

  -- ---- a release that starts

  module _ (none : s.activity.frames ≡ []) (index : ℕ) (r : Release) (there : slice_get s.releases index ≡ Some r)
      (waits : r.status ≡ Waits) where
    -- the memories of the sequencer, which has no frame
    base_is : s.activity.areas ≡ base
    unfolding activity_of
    base_is = (all.jobs TheSequencer s.activity refl).is_list ∙ ap (list_of base) none

    not_yet : activity_of s (ReleaseAt index) ≡ None
    unfolding activity_of activity_in
    not_yet = ap (λ (o : Option Release). o >>= (λ r. activity_in r.status)) there ∙ ap activity_in waits

    -- before it has opened nothing
    starts_all : (left : List Frame) (after : State) (P : MemoryArea → Type 0) →
        KeepsOthers s (ReleaseAt index) [] after →
        MemoryFine code after →
        ((x : Activity) → activity_of after (ReleaseAt index) ≡ Some x → JobFine code (world_of after) base x) →
        ((x : Activity) → activity_of after (ReleaseAt index) ≡ Some x → x.frames ≡ left) →
        ((a : ℕ) → is_among a (opened_by left) ≡ true → IsOpenedBy after a (ReleaseAt index)) → Owns s [] after left P →
        AllStand code after base
    starts_all left after P keeps memory own are now owns =
        all_after code s base all (ReleaseAt index) [] left after P keeps
        (others_stand s (ReleaseAt index) [] after keeps)
        memory (λ a on. refl) (λ a h. absurd (true≢false (sym h)))
        (λ a o. (let e = o.is in absurd (cc (not_yet, e)))) own are now owns

    started : (row : HandlerRow) (scope inner : ℕ) (after : State) → KeepsOthers s (ReleaseAt index) [] after →
        HasStarted code s index row scope inner after → AllStand code after base
    started row scope inner after keeps x =
        starts_all (x.frame ∷ []) after _ keeps
        (record {
          areas = x.stands.stands.areas_fine;
          heap = x.stands.stands.heap;
          statics = x.stands.stands.statics_fine;
        })
        (subst (λ b. (y : Activity) → activity_of after (ReleaseAt index) ≡ Some y → JobFine code (world_of after) b y)
        base_is
        (job_fine code after (ReleaseAt index) s.activity.areas x.stands))
        (λ y h. job_frames code after (ReleaseAt index) s.activity.areas x.stands y h ∙ x.are)
        (λ a h. record {
          activity = x.stands.activity;
          is = x.stands.is;
          on_list = ap (λ fs. is_among a (opened_by fs)) x.are ∙ h;
        }) (new_area_owned s [] after x.frame [] _ x.areas x.opened refl)

    not_started : (step : Step) → KeepsOthers s (ReleaseAt index) [] step.state →
        HasFaulted code s (ReleaseAt index) no_activity step → AllStand code step.state base
    not_started step keeps x =
        starts_all [] step.state (λ x. Unit {0}) keeps x.memory
        (λ y h. absurd (let z = ended_is step.state index x.ends.ended in cc (z, h)))
        (λ y h. absurd (let z = ended_is step.state index x.ends.ended in cc (z, h)))
        (λ a h. absurd (true≢false (sym h))) (closed_owned s [] step.state x.ends.closed)

    pub start_lets_stand : Facts code → (row : HandlerRow) → handler_row s.registry r.handler ≡ Some row →
        HandlerFine code s row → LetsAllStand code base (start_op code s index r)
    start_lets_stand facts row registered handler =
        record {
          step = k.step;
          is = k.is;
          stand = go k.either;
        }
      where
        k : Starts code s index row handler (start_op code s index r)
        k = starts code facts s index r there row all.memory handler registered

        keeps : KeepsOthers s (ReleaseAt index) [] k.step.state
        keeps = start_keeps code s index r k.step k.is

        go : HasStarted code s index row handler.scope handler.may_open.inner k.step.state
            ⊎ HasFaulted code s (ReleaseAt index) no_activity k.step → AllStand code k.step.state base
        go (inl x) = started row handler.scope handler.may_open.inner k.step.state keeps x
        go (inr x) = not_started k.step keeps x

-- States in which references are where they may be: those that differ in memory, in releases, and in the frames of a
-- job.
use Rattle.std.specs.Prelude.{Option, Some, None, slice_get}
use Rattle.std.proofs.Common.{◌≡◌, ℕ, List, refl, sym, ◌∙◌, ap, subst, ◌⊎◌, inl, inr}
use Rattle.scj_base.specs.declared.faults.RunFault.{RunFault}
use Rattle.scj_base.specs.declared.positions.Position.{Position}
use Rattle.scj_base.specs.declared.values.Value.{Value}
use Rattle.scj_rules.specs.Words.{◌>>=◌}
use Rattle.accepted_laws.proofs.Tools.{some_inj}
use Rattle.scj_model.specs.State.{MemoryArea, Object, Activity, ReleaseStatus, Started, Ended, Release, Job, TheSequencer, ReleaseAt, State, activity_in, activity_of, with_activity, with_status}
use Rattle.scj_model.specs.Steps.{Step, fault_in, closed_all}
use Rattle.frame_sound.specs.Places.{World, world_of}
use Rattle.frame_sound.proofs.Changes.{changed_from}
use Rattle.frame_sound.proofs.OwnJobs.{same_activity}
use Rattle.reference_sound.specs.References.{JobHolds, MemoryHolds, ParentsAreEarlier, ReferencesHold}
use Rattle.reference_sound.specs.Objects.{ObjectsStay}
use Rattle.reference_sound.proofs.Closing.{all_close, objects_close, memory_close}
use Rattle.reference_sound.proofs.Objects.{job_holds}

-- all references are held in whatever it leads to, if it leads to anything
pub record AllLead (base : List ℕ) (o : Option Step) : Type 0 where
  pub gives : (step : Step) → o ≡ Some step → ReferencesHold step.state base

module _ (base : List ℕ) where
  pub all_lead : (step : Step) → ReferencesHold step.state base → AllLead base (Some step)
  all_lead step h =
      record { gives = λ t e. subst (λ (x : Step). ReferencesHold x.state base) (some_inj step t e) h }

  pub none_leads : AllLead base None
  none_leads = record { gives = λ step e. absurd (cc (e)) }

  pub any_leads : {A : Type 0} (o : Option A) (next : A → Option Step) → ((a : A) → AllLead base (next a)) →
      AllLead base (o >>= next)
  any_leads None next h = none_leads
  any_leads (Some a) next h = h a

-- ---- other states

module _ (s t : State) (base : List ℕ) (held : ReferencesHold s base) where
  abbrev JobsOf : Type 0
  JobsOf = (job : Job) (a : Activity) → activity_of t job ≡ Some a → JobHolds (world_of s) base a.frames

  -- with other memory
  pub held_after : MemoryHolds (world_of t) t.statics → ParentsAreEarlier (world_of t).areas →
      ObjectsStay (world_of s) (world_of t) → JobsOf → ReferencesHold t base
  held_after memory order stay jobs =
      record {
        memory = memory;
        order = order;
        jobs = λ job a e. job_holds (world_of s) (world_of t) stay base a.frames (jobs job a e);
      }

  -- with the same releases, and other frames of the sequencer
  pub jobs_of : t.releases ≡ s.releases → JobHolds (world_of s) base t.activity.frames → JobsOf
  unfolding activity_of
  jobs_of same sequencer TheSequencer a e =
      subst (λ (x : Activity). JobHolds (world_of s) base x.frames) (some_inj t.activity a e) sequencer
  jobs_of same sequencer (ReleaseAt index) a e =
      held.jobs (ReleaseAt index) a
      (sym (ap (λ (rs : List Release). slice_get rs index >>= (λ r. activity_in r.status)) same) ∙ e)

  pub sequencer_holds : JobHolds (world_of s) base s.activity.frames
  unfolding activity_of
  sequencer_holds = held.jobs TheSequencer s.activity refl

  -- with the same memory
  pub held_still : t.areas ≡ s.areas → t.objects ≡ s.objects → t.statics ≡ s.statics → JobsOf → ReferencesHold t base
  held_still areas objects statics jobs =
      record {
        memory = subst (λ values. MemoryHolds (world_of t) values) (sym statics)
            (subst (λ w. MemoryHolds w s.statics) (sym same) held.memory);
        order = subst (λ (w : World). ParentsAreEarlier w.areas) (sym same) held.order;
        jobs = λ job a e. subst (λ w. JobHolds w base a.frames) (sym same) (jobs job a e);
      }
    where
      same : world_of t ≡ world_of s
      same =
          let at : List MemoryArea → List Object → World =
          λ xs ys. record { areas = (λ a. slice_get xs a); objects = (λ r. slice_get ys r) } in
          ap (λ xs. at xs t.objects) areas ∙ ap (at s.areas) objects

-- ---- the jobs of a state

-- where one release has another status
pub jobs_with_status : (m : State) (n : ℕ) (status : ReleaseStatus) (j : Job) (left : Activity) →
    activity_of (with_status m n status) j ≡ Some left →
    (activity_in status ≡ Some left) ⊎ (activity_of m j ≡ Some left)
unfolding activity_of
jobs_with_status m n status TheSequencer left e = inr e
jobs_with_status m n status (ReleaseAt q) left e = go (slice_get (with_status m n status).releases q) refl e
  where
    found : (r : Release) →
        (slice_get m.releases q ≡ Some r)
        ⊎ ((x : Release) × (slice_get m.releases n ≡ Some x) × (record x { status = status } ≡ r) × (q ≡ n)) →
        activity_in r.status ≡ Some left →
        (activity_in status ≡ Some left) ⊎ (slice_get m.releases q >>= (λ r. activity_in r.status) ≡ Some left)
    found r (inl was) h = inr (ap (λ (o : Option Release). o >>= (λ r. activity_in r.status)) was ∙ h)
    found r (inr new) h = inl (ap (λ (x : Release). activity_in x.status) new.2 ∙ h)

    go : (o : Option Release) → slice_get (with_status m n status).releases q ≡ o →
        o >>= (λ r. activity_in r.status) ≡ Some left →
        (activity_in status ≡ Some left) ⊎ (slice_get m.releases q >>= (λ r. activity_in r.status) ≡ Some left)
    go None there h = absurd (cc (h))
    go (Some r) there h =
        found r (changed_from (λ (x : Release). record x { status = status }) n m.releases q r there) h

-- where one job has another activity
pub jobs_with_activity : (m : State) (job : Job) (a : Activity) (j : Job) (left : Activity) →
    activity_of (with_activity m job a) j ≡ Some left → (a ≡ left) ⊎ (activity_of m j ≡ Some left)
unfolding activity_of with_activity activity_in
jobs_with_activity m TheSequencer a TheSequencer left e = inl (some_inj a left e)
jobs_with_activity m TheSequencer a (ReleaseAt q) left e = inr e
jobs_with_activity m (ReleaseAt n) a j left e =
    elim (jobs_with_status m n (Started a) j left e) as (λ z. (a ≡ left) ⊎ (activity_of m j ≡ Some left)) [
      | inl h ↦ inl (some_inj a left h)
      | inr h ↦ inr h
    ]

none_ended : (left : Activity) → activity_in Ended ≡ Some left → ⊥
unfolding activity_in
none_ended left e = cc (e)

-- other frames of a job leave the memory as it is
pub same_memory : (m : State) (job : Job) (a : Activity) (P : World → List Value → Type 0) →
    P (world_of m) m.statics → P (world_of (with_activity m job a)) (with_activity m job a).statics
unfolding with_activity
same_memory m TheSequencer a P h = h
same_memory m (ReleaseAt index) a P h = h

module _ (s : State) (base : List ℕ) (held : ReferencesHold s base) where
  -- a job has these frames, in a state where the releases and the sequencer are as they were
  pub goes_on : (job : Job) (m : State) → m.releases ≡ s.releases → m.activity ≡ s.activity → (a : Activity) →
      MemoryHolds (world_of m) m.statics → ParentsAreEarlier (world_of m).areas →
      ObjectsStay (world_of s) (world_of m) →
      JobHolds (world_of m) base a.frames → ReferencesHold (with_activity m job a) base
  goes_on job m e g a memory order objects holds =
      record {
        memory = same_memory m job a (λ w values. MemoryHolds w values) memory;
        order = same_memory m job a (λ w values. ParentsAreEarlier w.areas) order;
        jobs = λ j left h. same_memory m job a (λ w values. JobHolds w base left.frames)
            (jobs j left (jobs_with_activity m job a j left h));
      }
    where
      jobs : (j : Job) (left : Activity) → (a ≡ left) ⊎ (activity_of m j ≡ Some left) →
          JobHolds (world_of m) base left.frames
      jobs j left (inl same) = subst (λ (x : Activity). JobHolds (world_of m) base x.frames) same holds
      jobs j left (inr was) =
          job_holds (world_of s) (world_of m) objects base left.frames
          (held.jobs j left (sym (same_activity s m j e g) ∙ was))

  pub release_ends : (n : ℕ) (m : State) → m.releases ≡ s.releases → m.activity ≡ s.activity →
      MemoryHolds (world_of m) m.statics → ParentsAreEarlier (world_of m).areas →
      ObjectsStay (world_of s) (world_of m) → ReferencesHold (with_status m n Ended) base
  release_ends n m e g memory order objects =
      record {
        memory = memory;
        order = order;
        jobs = λ j left h. jobs j left (jobs_with_status m n Ended j left h);
      }
    where
      jobs : (j : Job) (left : Activity) → (activity_in Ended ≡ Some left) ⊎ (activity_of m j ≡ Some left) →
          JobHolds (world_of m) base left.frames
      jobs j left (inl none) = absurd (none_ended left none)
      jobs j left (inr was) =
          job_holds (world_of s) (world_of m) objects base left.frames
          (held.jobs j left (sym (same_activity s m j e g) ∙ was))

  pub faults_hold : (job : Job) (activity : Activity) (position : Position) (fault : RunFault) →
      ReferencesHold (fault_in s job activity position fault).state base
  unfolding fault_in
  faults_hold TheSequencer activity position fault =
      held_still s (fault_in s TheSequencer activity position fault).state base held refl refl refl
      (jobs_of s (fault_in s TheSequencer activity position fault).state base held refl (sequencer_holds s s base held))
  faults_hold (ReleaseAt n) activity position fault =
      let c = all_close activity.frames s in
      release_ends n (closed_all s activity.frames) c.releases c.activity
      (memory_close s (closed_all s activity.frames) c held.memory) (c.order held.order)
      (objects_close s (closed_all s activity.frames) c)

-- Who is under way: the jobs of a state in which the sequencer has gone on, and those of a state in which no release is
-- started.
use Rattle.std.specs.Prelude.{Option, Some, None, slice_get, ◌||◌}
use Rattle.std.specs.List.{list_any}
use Rattle.std.proofs.Common.{◌≡◌, ℕ, zero, suc, List, [], ◌∷◌, Bool, true, false, refl, sym, ◌∙◌, ap, subst, true≢false, ◌⊎◌, inl, inr}
use Rattle.scj_rules.specs.Words.{is_among, ◌>>=◌}
use Rattle.accepted_laws.proofs.Tools.{some_inj}
use Rattle.scj_model.specs.Code.{Code}
use Rattle.scj_model.specs.State.{MemoryArea, Activity, ReleaseStatus, Waits, Started, Ended, Dropped, Release, Job, TheSequencer, ReleaseAt, State, activity_in, activity_of, is_started, area_at, is_open_area}
use Rattle.scj_model.specs.Sequencer.{has_started}
use Rattle.frame_sound.specs.Places.{world_of}
use Rattle.frame_sound.specs.Fine.{list_of, JobFine, MemoryFine}
use Rattle.frame_sound.proofs.OwnJobs.{same_activity}
use Rattle.mission_sound.specs.Bases.{Base, areas_of}
use Rattle.mission_sound.specs.Invariant.{IsOpenedBy, IsPrivate, MemoriesFine}

-- ---- tests that no element passes

or_first : (a b : Bool) → (a || b) ≡ false → a ≡ false
or_first true b e = absurd (true≢false e)
or_first false b e = refl

or_second : (a b : Bool) → (a || b) ≡ false → b ≡ false
or_second true b e = absurd (true≢false e)
or_second false b e = e

pub none_passes : {A : Type 0} (test : A → Bool) (xs : List A) (i : ℕ) (x : A) → list_any test xs ≡ false →
    slice_get xs i ≡ Some x → test x ≡ false
none_passes test [] i x e there = absurd (cc (there))
none_passes test (y ∷ xs) zero x e there =
    ap test (sym (some_inj y x there)) ∙ or_first (test y) (list_any test xs) e
none_passes test (y ∷ xs) (suc i) x e there =
    none_passes test xs i x (or_second (test y) (list_any test xs) e) there

-- ---- without a started release

pub not_under_way : (s : State) → has_started s ≡ false → (index : ℕ) (activity : Activity) →
    activity_of s (ReleaseAt index) ≡ Some activity → ⊥
unfolding activity_of activity_in is_started
not_under_way s none index activity e = go (slice_get s.releases index) refl e
  where
    by_status : (r : Release) → slice_get s.releases index ≡ Some r → (status : ReleaseStatus) → r.status ≡ status →
        activity_in status ≡ Some activity → ⊥
    by_status r there Waits is e = cc (e)
    by_status r there (Started a) is e =
        true≢false (sym (ap is_started is)
        ∙ none_passes (λ (r : Release). is_started r.status) s.releases index r none there)
    by_status r there Ended is e = cc (e)
    by_status r there Dropped is e = cc (e)

    go : (o : Option Release) → slice_get s.releases index ≡ o → o >>= (λ r. activity_in r.status) ≡ Some activity → ⊥
    go None there e = cc (e)
    go (Some r) there e = by_status r there r.status refl e

pub sequencer_activity : (s : State) (activity : Activity) → activity_of s TheSequencer ≡ Some activity →
    s.activity ≡ activity
unfolding activity_of
sequencer_activity s activity e = some_inj s.activity activity e

-- where the frames of the sequencer have opened nothing either, nobody has
pub nobody_opened : (s : State) → has_started s ≡ false → list_of [] s.activity.frames ≡ [] → (a : ℕ) (job : Job) →
    IsOpenedBy s a job → ⊥
nobody_opened s none opened a TheSequencer o =
    true≢false (sym o.on_list
    ∙ (ap (λ (x : Activity). is_among a (list_of [] x.frames)) (sym (sequencer_activity s o.activity o.is))
    ∙ ap (is_among a) opened))
nobody_opened s none opened a (ReleaseAt index) o = not_under_way s none index o.activity o.is

-- no release is started, and the frames of the sequencer have opened nothing
pub record Quiet (code : Code) (s : State) (base : Base) : Type 0 where
  pub memory : MemoryFine code s
  pub job : JobFine code (world_of s) (areas_of base) s.activity
  pub none_started : has_started s ≡ false
  pub none_opened : list_of [] s.activity.frames ≡ []
  pub only_base : (a : ℕ) (x : MemoryArea) → area_at s a ≡ Some x → x.is_open ≡ true →
      is_among a (areas_of base) ≡ true
  pub nested : (a b : ℕ) (x : MemoryArea) → area_at s a ≡ Some x → x.is_open ≡ true → x.parent ≡ Some b →
      is_open_area s b ≡ true

pub quiet_is_fine : (code : Code) (s : State) (base : Base) → Quiet code s base → MemoriesFine code s base
quiet_is_fine code s base q =
    record {
      memory = q.memory;
      jobs = jobs;
      have_frames = λ index activity is. absurd (not_under_way s q.none_started index activity is);
      owned = λ a x there opens. inl (q.only_base a x there opens);
      apart = λ a job other h k. absurd (nobody_opened s q.none_started q.none_opened a job h);
      nested = q.nested;
    }
  where
    jobs : (job : Job) (activity : Activity) → activity_of s job ≡ Some activity →
        JobFine code (world_of s) (areas_of base) activity
    jobs TheSequencer activity is =
        subst (JobFine code (world_of s) (areas_of base)) (sequencer_activity s activity is) q.job
    jobs (ReleaseAt index) activity is = absurd (not_under_way s q.none_started index activity is)

pub sequencer_fine : (code : Code) (s : State) (base : Base) → MemoriesFine code s base →
    JobFine code (world_of s) (areas_of base) s.activity
unfolding activity_of
sequencer_fine code s base m = m.jobs TheSequencer s.activity refl

pub fine_is_quiet : (code : Code) (s : State) (base : Base) → MemoriesFine code s base → has_started s ≡ false →
    list_of [] s.activity.frames ≡ [] → Quiet code s base
fine_is_quiet code s base m none opened =
    record {
      memory = m.memory;
      job = sequencer_fine code s base m;
      none_started = none;
      none_opened = opened;
      only_base = λ a x there opens. elim (m.owned a x there opens) as (λ z. is_among a (areas_of base) ≡ true) [
        | inl on ↦ on
        | inr p ↦ absurd (nobody_opened s none opened a p.job p.opened)
      ];
      nested = m.nested;
    }

-- ---- where the sequencer has gone on, in the same memories and with the same jobs

module _ (s t : State) where
  abbrev pub gone_on : State
  gone_on =
      record t {
        statics = s.statics;
        objects = s.objects;
        areas = s.areas;
        releases = s.releases;
        activity = s.activity;
      }

  same_job : (job : Job) → activity_of gone_on job ≡ activity_of s job
  same_job job = same_activity s gone_on job refl refl

  opened_before : (a : ℕ) (job : Job) → IsOpenedBy gone_on a job → IsOpenedBy s a job
  opened_before a job o =
      record { activity = o.activity; is = sym (same_job job) ∙ o.is; on_list = o.on_list }

  opened_still : (a : ℕ) (job : Job) → IsOpenedBy s a job → IsOpenedBy gone_on a job
  opened_still a job o = record { activity = o.activity; is = same_job job ∙ o.is; on_list = o.on_list }

  pub memories_stay : (code : Code) (base : Base) → MemoriesFine code s base → MemoriesFine code gone_on base
  memories_stay code base m =
      record {
        memory = record { areas = m.memory.areas; heap = m.memory.heap; statics = m.memory.statics };
        jobs = λ job activity is. m.jobs job activity (sym (same_job job) ∙ is);
        have_frames = λ index activity is. m.have_frames index activity (sym (same_job (ReleaseAt index)) ∙ is);
        owned = λ a x there opens.
            elim (m.owned a x there opens) as (λ z. (is_among a (areas_of base) ≡ true) ⊎ IsPrivate code gone_on a x) [
              | inl on ↦ inl on
              | inr p ↦ inr (record {
                job = p.job;
                opened = opened_still a p.job p.opened;
                no_mission = p.no_mission;
                defined = p.defined;
              })
            ];
        apart = λ a job other h k. m.apart a job other (opened_before a job h) (opened_before a other k);
        nested = m.nested;
      }

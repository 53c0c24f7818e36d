-- Arrivals keep the invariant: a release that is taken in waits, and its handler has a row.
use Rattle.std.specs.Prelude.{Option, Some, None, slice_get, ◌+◌, ◌++◌, not, nat_lt, length, if◌then◌else◌}
use Rattle.std.proofs.Common.{◌≡◌, ℕ, List, [], ◌∷◌, Bool, true, false, refl, sym, ◌∙◌, ap, ◌⊎◌, inl, inr}
use Rattle.scj_rules.specs.Words.{is_among, ◌>>=◌}
use Rattle.accepted_laws.proofs.Lists.{get_left, get_either}
use Rattle.scj_model.specs.declared.handlers.HandlerRow.{HandlerRow}
use Rattle.scj_model.specs.declared.events.Event.TheVariants.{Arrive, Lost}
use Rattle.scj_model.specs.Code.{Code}
use Rattle.scj_model.specs.State.{Activity, Waits, Release, Job, TheSequencer, ReleaseAt, State, activity_in, activity_of, is_started}
use Rattle.scj_model.specs.Steps.{reporting}
use Rattle.scj_model.specs.Apply.{takes_releases, release_taken, releases_of, waiting_of, most_waiting}
use Rattle.mission_sound.specs.Bases.{Base, areas_of}
use Rattle.mission_sound.specs.Invariant.{IsOpenedBy, IsPrivate, MemoriesFine, SequencerFine, Invariant, Settled}
use Rattle.mission_sound.proofs.Handling.{release_waits}
use Rattle.mission_sound.proofs.Rows.{HasRow}
use Rattle.mission_sound.proofs.Carried.{operand_stays}
use Rattle.mission_sound.proofs.Resting.{base_stays}

-- ---- one more release waits

module _ (s : State) (new : Release) (waits : activity_in new.status ≡ None) where
  abbrev with_release : State
  with_release = record s { releases = s.releases ++ new ∷ [] }

  was_under_way : (job : Job) (activity : Activity) → activity_of with_release job ≡ Some activity →
      activity_of s job ≡ Some activity
  unfolding activity_of
  was_under_way TheSequencer activity e = e
  was_under_way (ReleaseAt index) activity e = go (slice_get with_release.releases index) refl e
    where
      old : (r : Release) → activity_in r.status ≡ Some activity →
          (slice_get s.releases index ≡ Some r) ⊎ (new ≡ r) →
          slice_get s.releases index >>= (λ r. activity_in r.status) ≡ Some activity
      old r e (inl there) = ap (λ (o : Option Release). o >>= (λ r. activity_in r.status)) there ∙ e
      old r e (inr same) =
          absurd (let x : None ≡ Some activity = sym waits ∙ (ap (λ (r : Release). activity_in r.status) same ∙ e) in
          cc (x))

      go : (o : Option Release) → slice_get with_release.releases index ≡ o →
          o >>= (λ r. activity_in r.status) ≡ Some activity →
          slice_get s.releases index >>= (λ r. activity_in r.status) ≡ Some activity
      go None there e = absurd (cc (e))
      go (Some r) there e = old r e (get_either s.releases new index r there)

  still_under_way : (job : Job) (activity : Activity) → activity_of s job ≡ Some activity →
      activity_of with_release job ≡ Some activity
  unfolding activity_of
  still_under_way TheSequencer activity e = e
  still_under_way (ReleaseAt index) activity e = go (slice_get s.releases index) refl e
    where
      go : (o : Option Release) → slice_get s.releases index ≡ o → o >>= (λ r. activity_in r.status) ≡ Some activity →
          slice_get with_release.releases index >>= (λ r. activity_in r.status) ≡ Some activity
      go None there e = absurd (cc (e))
      go (Some r) there e =
          ap (λ (o : Option Release). o >>= (λ r. activity_in r.status)) (get_left s.releases (new ∷ []) index r there)
          ∙ e

  opened_before : (a : ℕ) (job : Job) → IsOpenedBy with_release a job → IsOpenedBy s a job
  opened_before a job o =
      record { activity = o.activity; is = was_under_way job o.activity o.is; on_list = o.on_list }

  memories_wait : (code : Code) (base : Base) → MemoriesFine code s base → MemoriesFine code with_release base
  memories_wait code base m =
      record {
        memory = record { areas = m.memory.areas; heap = m.memory.heap; statics = m.memory.statics };
        jobs = λ job activity is. m.jobs job activity (was_under_way job activity is);
        have_frames = λ index activity is. m.have_frames index activity (was_under_way (ReleaseAt index) activity is);
        owned = λ a x there opens.
            elim (m.owned a x there opens) as
            (λ z. (is_among a (areas_of base) ≡ true) ⊎ IsPrivate code with_release a x) [
              | inl on ↦ inl on
              | inr p ↦ inr (record {
                job = p.job;
                opened = record {
                  activity = p.opened.activity;
                  is = still_under_way p.job p.opened.activity p.opened.is;
                  on_list = p.opened.on_list;
                };
                no_mission = p.no_mission;
                defined = p.defined;
              })
            ];
        apart = λ a job other h k. m.apart a job other (opened_before a job h) (opened_before a other k);
        nested = m.nested;
      }

-- ---- a release is taken in

-- execution goes on, with this registry
pub record Takes (code : Code) (registry : List HandlerRow) (s : State) : Type 0 where
  pub settled : Settled code s
  pub takes : takes_releases s ≡ true
  pub same : s.registry ≡ registry

module _ (code : Code) (s : State) (settled : Settled code s) (takes : takes_releases s ≡ true) (handler : ℕ)
    (has_row : HasRow s.registry handler) where
  abbrev new_release : Release
  new_release = record { handler = handler; number = length (releases_of s handler) + 1; status = Waits }

  abbrev after_taken : State
  after_taken = record s { releases = s.releases ++ new_release ∷ [] }

  none_new : activity_in new_release.status ≡ None
  unfolding activity_in
  none_new = refl

  not_started : is_started new_release.status ≡ false
  unfolding is_started
  not_started = refl

  waits_settled : Settled code after_taken
  waits_settled =
      record {
        invariant = record {
          base = i.base;
          memories = memories_wait s new_release none_new code i.base i.memories;
          sequencer = record {
            phase = q.phase;
            base_suits = q.base_suits;
            base_fine = base_stays code s after_taken i.base q.base_fine;
            there = operand_stays s after_taken s.operation q.there;
            safelet = q.safelet;
            mission_sequencer = q.mission_sequencer;
            mission = q.mission;
            called = q.called;
            frameless = q.frameless;
          };
          handlers = release_waits code i.base s new_release not_started takes has_row i.handlers;
        };
        followed = settled.followed;
      }
    where
      i : Invariant code s
      i = settled.invariant

      q : SequencerFine code s i.base
      q = i.sequencer

  pub is_taken : Takes code s.registry (release_taken s handler).state
  unfolding release_taken
  is_taken = go (not (nat_lt (length (waiting_of s handler)) most_waiting))
    where
      go : (b : Bool) → Takes code s.registry (if b then reporting s (Lost s.unit handler ∷ [])
          else reporting after_taken (Arrive s.unit handler (length (releases_of s handler) + 1) ∷ [])).state
      go true = record { settled = settled; takes = takes; same = refl }
      go false = record { settled = waits_settled; takes = takes; same = refl }

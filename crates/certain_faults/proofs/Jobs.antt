-- What holds of the frames of each job of a state: in states that differ in other things, or in the frames of one job.
use Rattle.std.specs.Prelude.{Option, Some, None, slice_get, if◌then◌else◌, ◌++◌, ◌+◌, not, nat_lt, length, map, option_map}
use Rattle.std.proofs.Common.{◌≡◌, ℕ, List, [], ◌∷◌, Bool, true, false, refl, sym, ◌∙◌, ap, subst, ◌⊎◌, inl, inr}
use Rattle.scj_base.specs.declared.faults.RunFault.{RunFault}
use Rattle.scj_base.specs.declared.positions.Position.{Position}
use Rattle.scj_rules.specs.Words.{◌>>=◌}
use Rattle.accepted_laws.proofs.Tools.{some_inj}
use Rattle.scj_model.specs.declared.events.Event.{Event}
use Rattle.scj_model.specs.State.{Frame, Activity, Waits, Ended, Release, Job, TheSequencer, ReleaseAt, State, activity_in, activity_of, with_activity, with_status, is_exec}
use Rattle.scj_model.specs.Registry.{handler_number}
use Rattle.scj_model.specs.Steps.{Step, fault_in, closed_all, silently, reporting}
use Rattle.scj_model.specs.Apply.{released, release_taken, releases_of, waiting_of, most_waiting, takes_releases, dropped_release, termination, termination_asked, asks_for_end}
use Rattle.frame_sound.proofs.OwnJobs.{same_activity}
use Rattle.reference_sound.proofs.Closing.{all_close}
use Rattle.reference_sound.proofs.Held.{jobs_with_activity, jobs_with_status}
use Rattle.reference_sound.proofs.Releases.{release_comes, waits_without, releases_dropped}

none_ended : (left : Activity) → activity_in Ended ≡ Some left → ⊥
unfolding activity_in
none_ended left e = cc (e)

module _ (J : List Frame → Type 0) where
  pub record Jobs (s : State) : Type 0 where
    pub are : (job : Job) (a : Activity) → activity_of s job ≡ Some a → J a.frames

  pub jobs_same : (s t : State) → ((job : Job) → activity_of t job ≡ activity_of s job) → Jobs s → Jobs t
  jobs_same s t same h = record { are = λ job a e. h.are job a (sym (same job) ∙ e) }

  pub jobs_still : (s t : State) → t.releases ≡ s.releases → t.activity ≡ s.activity → Jobs s → Jobs t
  jobs_still s t e g h = jobs_same s t (λ job. same_activity s t job e g) h

  -- with other frames of the sequencer
  pub jobs_of : (s t : State) → t.releases ≡ s.releases → J t.activity.frames → Jobs s → Jobs t
  unfolding activity_of
  jobs_of s t same now h = record { are = λ job a e. go job a e }
    where
      go : (job : Job) (a : Activity) → activity_of t job ≡ Some a → J a.frames
      go TheSequencer a e = subst (λ (x : Activity). J x.frames) (some_inj t.activity a e) now
      go (ReleaseAt index) a e =
          h.are (ReleaseAt index) a
          (sym (ap (λ (rs : List Release). slice_get rs index >>= (λ r. activity_in r.status)) same) ∙ e)

  pub sequencer_has : (s : State) → Jobs s → J s.activity.frames
  unfolding activity_of
  sequencer_has s h = h.are TheSequencer s.activity refl

  pub jobs_on : (m : State) (job : Job) (a : Activity) → J a.frames → Jobs m → Jobs (with_activity m job a)
  jobs_on m job a now h = record { are = λ j left e. go j left (jobs_with_activity m job a j left e) }
    where
      go : (j : Job) (left : Activity) → (a ≡ left) ⊎ (activity_of m j ≡ Some left) → J left.frames
      go j left (inl same) = subst (λ (x : Activity). J x.frames) same now
      go j left (inr was) = h.are j left was

  pub jobs_ended : (m : State) (n : ℕ) → Jobs m → Jobs (with_status m n Ended)
  jobs_ended m n h = record { are = λ j left e. go j left (jobs_with_status m n Ended j left e) }
    where
      go : (j : Job) (left : Activity) → (activity_in Ended ≡ Some left) ⊎ (activity_of m j ≡ Some left) → J left.frames
      go j left (inl none) = absurd (none_ended left none)
      go j left (inr was) = h.are j left was

  pub jobs_faulted : (s : State) (job : Job) (activity : Activity) (position : Position) (fault : RunFault) → Jobs s →
      Jobs (fault_in s job activity position fault).state
  unfolding fault_in
  jobs_faulted s TheSequencer activity position fault h =
      jobs_still s (fault_in s TheSequencer activity position fault).state refl refl h
  jobs_faulted s (ReleaseAt n) activity position fault h =
      let c = all_close activity.frames s in
      jobs_ended (closed_all s activity.frames) n (jobs_still s (closed_all s activity.frames) c.releases c.activity h)

  -- ---- whatever a step leads to

  pub record Lead (o : Option Step) : Type 0 where
    pub is : (step : Step) → o ≡ Some step → Jobs step.state

  pub leads : (step : Step) → Jobs step.state → Lead (Some step)
  leads step h = record { is = λ t e. subst (λ (x : Step). Jobs x.state) (some_inj step t e) h }

  pub none_leads : Lead None
  none_leads = record { is = λ step e. absurd (cc (e)) }

  pub any_leads : {A : Type 0} (o : Option A) (next : A → Option Step) → ((a : A) → o ≡ Some a → Lead (next a)) →
      Lead (o >>= next)
  any_leads None next h = none_leads
  any_leads (Some a) next h = h a refl

  pub reported_leads : (first : Step) (o : Option Step) → Lead o →
      Lead (option_map (λ (second : Step). reporting second.state (first.events ++ second.events)) o)
  reported_leads first None x = none_leads
  reported_leads first (Some second) x = leads (reporting second.state (first.events ++ second.events)) (x.is second refl)

  -- ---- releases that come, are dropped, and are asked to end

  pub taken_jobs : (t : State) (handler : ℕ) → Jobs t → Jobs (release_taken t handler).state
  unfolding release_taken activity_of
  taken_jobs t handler h = go (not (nat_lt (length (waiting_of t handler)) most_waiting)) _ _
    where
      taken : Release
      taken = record { handler = handler; number = length (releases_of t handler) + 1; status = Waits }

      same : (j : Job) → activity_of (record t { releases = t.releases ++ taken ∷ [] }) j ≡ activity_of t j
      same TheSequencer = refl
      same (ReleaseAt n) = release_comes t.releases taken waits_without n

      go : (b : Bool) (lost arrives : List Event) →
          Jobs (if b then reporting t lost
          else reporting (record t { releases = t.releases ++ taken ∷ [] }) arrives).state
      go true lost arrives = h
      go false lost arrives = jobs_same t (record t { releases = t.releases ++ taken ∷ [] }) same h

  pub released_jobs : (t : State) (r : ℕ) → Jobs t → Jobs (released t r).state
  unfolding released
  released_jobs t r h = go (takes_releases t) (handler_number t.registry r)
    where
      go : (b : Bool) (o : Option ℕ) →
          Jobs (if b
          then (elim o as (λ z. Step) [ None ↦ silently t | Some handler ↦ release_taken t handler ])
          else silently t).state
      go true None = h
      go true (Some handler) = taken_jobs t handler h
      go false o = h

  pub asked_jobs : (t : State) (r : ℕ) → Jobs t → Jobs (termination_asked t r).state
  unfolding termination_asked termination activity_of
  asked_jobs t r h = go (asks_for_end t.mission t.phase t.is_end_asked r) (is_exec t.phase) _
    where
      same : (j : Job) →
          activity_of (record t { is_end_asked = true; releases = map dropped_release t.releases }) j ≡ activity_of t j
      same TheSequencer = refl
      same (ReleaseAt n) = releases_dropped t.releases n

      go : (b u : Bool) (events : List Event) →
          Jobs (if b
          then (if u then reporting (record t { is_end_asked = true; releases = map dropped_release t.releases }) events
          else silently (record t { is_end_asked = true }))
          else silently t).state
      go true true events =
          jobs_same t (record t { is_end_asked = true; releases = map dropped_release t.releases }) same h
      go true false events = jobs_still t (record t { is_end_asked = true }) refl refl h
      go false u events = h

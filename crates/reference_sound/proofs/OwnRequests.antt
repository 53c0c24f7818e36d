-- What an effect does keeps the references of the job that acts: a handler is registered or released, and a mission is
-- asked to end.
use Rattle.std.specs.Prelude.{Option, Some, None, if◌then◌else◌, ◌++◌, ◌+◌, not, nat_lt, is_some, length, map, option_map}
use Rattle.std.proofs.Common.{◌≡◌, ℕ, List, [], ◌∷◌, Bool, true, false, refl, sym, ◌∙◌}
use Rattle.scj_base.specs.declared.faults.RunFault.TheVariants.{NotInitializing, TooManyHandlers}
use Rattle.scj_base.specs.declared.positions.Position.{Position}
use Rattle.scj_model.specs.declared.events.Event.{Event}
use Rattle.scj_model.specs.declared.handlers.HandlerRow.{HandlerRow}
use Rattle.scj_model.specs.Code.{Code}
use Rattle.scj_model.specs.State.{Object, Frame, Activity, Waits, Release, Job, TheSequencer, ReleaseAt, State, activity_of, object_at, is_exec, is_init}
use Rattle.scj_model.specs.Registry.{handler_number, most_handlers}
use Rattle.scj_model.specs.Effects.{Effect, AsksRegistration, AsksRelease, AsksTermination}
use Rattle.scj_model.specs.Steps.{Step, silently, reporting, fault_in}
use Rattle.scj_model.specs.Apply.{applied, registered, released, release_taken, releases_of, waiting_of, most_waiting, takes_releases, dropped_release, termination, termination_asked, asks_for_end, with_frame}
use Rattle.frame_sound.specs.EffectsFine.{IsSame}
use Rattle.frame_sound.proofs.OwnJobs.{same_activity}
use Rattle.reference_sound.specs.References.{ReferencesHold}
use Rattle.reference_sound.proofs.Releases.{release_comes, waits_without, releases_dropped}
use Rattle.reference_sound.proofs.Held.{AllLead, all_lead, faults_hold}
use Rattle.reference_sound.proofs.OwnEffects.{Asks, Kept, plain_holds}

-- the same memory, and the same activity of each job
rest_holds : (t : State) (base : List ℕ) (releases : List Release) (asked : Bool) (rows : List HandlerRow) →
    ((j : Job) → activity_of (record t { releases = releases; is_end_asked = asked; registry = rows }) j
    ≡ activity_of t j) →
    ReferencesHold t base →
    ReferencesHold (record t { releases = releases; is_end_asked = asked; registry = rows }) base
rest_holds t base releases asked rows same h =
    record { memory = h.memory; order = h.order; jobs = λ j left e. h.jobs j left (sym (same j) ∙ e) }

module _ (t : State) (base : List ℕ) (h : ReferencesHold t base) where
  row_holds : (rows : List HandlerRow) → ReferencesHold (record t { registry = rows }) base
  row_holds rows =
      rest_holds t base t.releases t.is_end_asked rows
      (λ j. same_activity t (record t { registry = rows }) j refl refl) h

  asked_holds : ReferencesHold (record t { is_end_asked = true }) base
  asked_holds =
      rest_holds t base t.releases true t.registry
      (λ j. same_activity t (record t { is_end_asked = true }) j refl refl) h

  dropped_holds : ReferencesHold (record t { is_end_asked = true; releases = map dropped_release t.releases }) base
  unfolding activity_of
  dropped_holds = rest_holds t base (map dropped_release t.releases) true t.registry same h
    where
      same : (j : Job) →
          activity_of (record t { is_end_asked = true; releases = map dropped_release t.releases }) j ≡ activity_of t j
      same TheSequencer = refl
      same (ReleaseAt n) = releases_dropped t.releases n

  pub taken_holds : (handler : ℕ) → ReferencesHold (release_taken t handler).state base
  unfolding release_taken activity_of
  taken_holds handler = go (not (nat_lt (length (waiting_of t handler)) most_waiting)) _ _
    where
      taken : Release
      taken = record { handler = handler; number = length (releases_of t handler) + 1; status = Waits }

      same : (j : Job) → activity_of (record t { releases = t.releases ++ taken ∷ [] }) j ≡ activity_of t j
      same TheSequencer = refl
      same (ReleaseAt n) = release_comes t.releases taken waits_without n

      go : (b : Bool) (lost arrives : List Event) →
          ReferencesHold (if b then reporting t lost
          else reporting (record t { releases = t.releases ++ taken ∷ [] }) arrives).state base
      go true lost arrives = h
      go false lost arrives = rest_holds t base (t.releases ++ taken ∷ []) t.is_end_asked t.registry same h

  released_holds : (r : ℕ) → ReferencesHold (released t r).state base
  unfolding released
  released_holds r = go (takes_releases t) (handler_number t.registry r)
    where
      go : (b : Bool) (o : Option ℕ) →
          ReferencesHold (if b
          then (elim o as (λ z. Step) [ None ↦ silently t | Some handler ↦ release_taken t handler ])
          else silently t).state base
      go true None = h
      go true (Some handler) = taken_holds handler
      go false o = h

  ended_holds : (r : ℕ) → ReferencesHold (termination_asked t r).state base
  unfolding termination_asked termination
  ended_holds r = go (asks_for_end t.mission t.phase t.is_end_asked r) (is_exec t.phase) _
    where
      go : (b u : Bool) (events : List Event) →
          ReferencesHold (if b
          then (if u then reporting (record t { is_end_asked = true; releases = map dropped_release t.releases }) events
          else silently (record t { is_end_asked = true }))
          else silently t).state base
      go true true events = dropped_holds
      go true false events = asked_holds
      go false u events = h

module _ (code : Code) (s : State) (job : Job) (activity : Activity) (is : activity_of s job ≡ Some activity)
    (base : List ℕ) (held : ReferencesHold s base) (f : Frame) (below : List Frame)
    (frames : activity.frames ≡ f ∷ below) (position : Position) where
  abbrev Asked : Effect → Type 0
  Asked e = Asks code s job activity is base held f below frames position e

  abbrev Held : Effect → Type 0
  Held e = Kept code s job activity is base held f below frames position e

  pub releases_hold : (h : Frame) (r : ℕ) → IsSame f h → Asked (AsksRelease h r) → Held (AsksRelease h r)
  unfolding applied
  releases_hold h r same a =
      all_lead base _ (released_holds (with_frame s job activity h below) base
      (plain_holds code s job activity is base held f below frames position h same a) r)

  pub terminations_hold : (h : Frame) (r : ℕ) → IsSame f h → Asked (AsksTermination h r) → Held (AsksTermination h r)
  unfolding applied
  terminations_hold h r same a =
      all_lead base _ (ended_holds (with_frame s job activity h below) base
      (plain_holds code s job activity is base held f below frames position h same a) r)

  pub registrations_hold : (h : Frame) (r : ℕ) → IsSame f h → Asked (AsksRegistration h r) → Held (AsksRegistration h r)
  unfolding applied registered
  registrations_hold h r same a = go (object_at s r)
    where
      plain : ReferencesHold (with_frame s job activity h below) base
      plain = plain_holds code s job activity is base held f below frames position h same a

      one : (b u v : Bool) (rows : List HandlerRow) (events : List Event) →
          ReferencesHold (if b then fault_in s job activity position NotInitializing
          else (if u then silently (with_frame s job activity h below)
          else (if v then fault_in s job activity position TooManyHandlers
          else reporting (record (with_frame s job activity h below) { registry = rows }) events))).state base
      one true u v rows events = faults_hold s base held job activity position NotInitializing
      one false true v rows events = plain
      one false false true rows events = faults_hold s base held job activity position TooManyHandlers
      one false false false rows events = row_holds (with_frame s job activity h below) base plain rows

      go : (o : Option Object) → AllLead base
          (option_map (λ (o : Object). registered code s job activity position r o (with_frame s job activity h below)) o)
      go None = record { gives = λ step e. absurd (cc (e)) }
      go (Some o) =
          all_lead base _
          (one (not (is_init s.phase)) (is_some (handler_number s.registry r))
          (not (nat_lt (length s.registry) most_handlers))
          _ _)

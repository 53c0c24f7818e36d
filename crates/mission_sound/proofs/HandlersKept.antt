-- The next operation of a job that is under way keeps what is known of handlers and releases.
use Rattle.std.specs.Prelude.{Option, Some, None, slice_get, length, ◌++◌, not, nat_lt, is_some, map, ◌+◌, if◌then◌else◌}
use Rattle.std.proofs.Common.{◌≡◌, ℕ, List, [], ◌∷◌, Bool, true, false, refl, sym, ◌∙◌, ap, true≢false}
use Rattle.scj_base.specs.declared.faults.RunFault.{RunFault}
use Rattle.scj_base.specs.declared.faults.RunFault.TheVariants.{NotInitializing, TooManyHandlers}
use Rattle.scj_base.specs.declared.positions.Position.{Position}
use Rattle.scj_base.specs.declared.values.Value.{Value}
use Rattle.scj_rules.specs.Words.{◌>>=◌}
use Rattle.scj_model.specs.declared.events.Event.{Event}
use Rattle.scj_model.specs.declared.events.Event.TheVariants.{Arrive, Lost, Register, Terminate}
use Rattle.scj_model.specs.Code.{Code}
use Rattle.scj_model.specs.State.{Object, Frame, Activity, ReleaseStatus, Waits, Started, Ended, Dropped, Release, Job, TheSequencer, ReleaseAt, State, activity_in, activity_of, is_waiting, is_started, with_activity, with_status, is_exec, is_init}
use Rattle.scj_model.specs.Registry.{handler_number, most_handlers, new_row}
use Rattle.scj_model.specs.Memory.{closed}
use Rattle.scj_model.specs.Steps.{Step, silently, reporting, closed_all, fault_in, job_ended}
use Rattle.scj_model.specs.Apply.{registered, released, release_taken, takes_releases, termination, termination_asked, asks_for_end, report_dropped, dropped_release, releases_of, waiting_of, most_waiting, class_name}
use Rattle.frame_sound.specs.Places.{world_of}
use Rattle.frame_sound.proofs.Keeps.{ObjectsAreKept}
use Rattle.mission_sound.specs.Bases.{Base}
use Rattle.mission_sound.specs.Invariant.{RowFine, HandlersFine}
use Rattle.mission_sound.proofs.Handling.{is_live, handlers_stay, status_changes, release_waits, end_asked, end_kept, row_added}
use Rattle.mission_sound.proofs.Jobs.{not_under_way}
use Rattle.mission_sound.proofs.Rows.{handler_has_row}
use Rattle.mission_sound.proofs.Resting.{takes_none}

module _ (code : Code) (base : Base) where
  abbrev Handlers : State → Type 0
  Handlers s = HandlersFine code s base

  pub objects_same : (s t : State) → t.objects ≡ s.objects → ObjectsAreKept (world_of s) (world_of t)
  objects_same s t e r o there =
      record { object = o; found = ap (λ (os : List Object). slice_get os r) e ∙ there; class = refl; area = refl }

  -- ---- a job goes on, or comes to its end

  started_live : (status : ReleaseStatus) (activity : Activity) → activity_in status ≡ Some activity →
      is_live status ≡ true
  unfolding activity_in is_waiting is_started
  started_live Waits activity e = refl
  started_live (Started a) activity e = refl
  started_live Ended activity e = absurd (cc (e))
  started_live Dropped activity e = absurd (cc (e))

  release_live : (s : State) (n : ℕ) (activity : Activity) → activity_of s (ReleaseAt n) ≡ Some activity →
      (r : Release) → slice_get s.releases n ≡ Some r → is_live r.status ≡ true
  unfolding activity_of
  release_live s n activity is r there =
      started_live r.status activity (sym (ap (λ (o : Option Release). o >>= (λ r. activity_in r.status)) there) ∙ is)

  pub goes_on : (s : State) (job : Job) (activity a : Activity) → activity_of s job ≡ Some activity → Handlers s →
      Handlers (with_activity s job a)
  unfolding with_activity is_waiting
  goes_on s TheSequencer activity a is h =
      handlers_stay code base s (record s { activity = a }) (objects_same s s refl) h
  goes_on s (ReleaseAt n) activity a is h =
      status_changes code base s n (Started a) refl (λ r there alive. release_live s n activity is r there)
      (λ e. absurd (not_under_way s (h.none_started e) n activity is)) h

  ends : (s : State) (n : ℕ) → Handlers s → Handlers (with_status s n Ended)
  unfolding is_waiting is_started
  ends s n h =
      status_changes code base s n Ended refl (λ r there alive. absurd (true≢false (sym alive))) (λ e. refl) h

  pub closes : (s : State) (area : Option ℕ) → Handlers s → Handlers (closed s area)
  unfolding closed
  closes s None h = h
  closes s (Some a) h =
      handlers_stay code base s (closed s (Some a)) (objects_same s (closed s (Some a)) refl) h

  closes_all : (s : State) (frames : List Frame) → Handlers s → Handlers (closed_all s frames)
  unfolding closed_all
  closes_all s [] h = h
  closes_all s (f ∷ frames) h = closes_all (closed s f.opened) frames (closes s f.opened h)

  pub job_is_ended : (s : State) (job : Job) (a : Activity) (value : Option Value) → Handlers s →
      Handlers (job_ended s job a value).state
  unfolding job_ended
  job_is_ended s TheSequencer a value h =
      handlers_stay code base s (job_ended s TheSequencer a value).state (objects_same s s refl) h
  job_is_ended s (ReleaseAt n) a value h = ends s n h

  -- a fault of the sequencer there is outside execution alone
  abbrev pub Outside : Job → State → Type 0
  Outside TheSequencer s = is_exec s.phase ≡ false
  Outside (ReleaseAt n) s = Unit {0}

  pub fault_handled : (s : State) (job : Job) (activity : Activity) (position : Position) (fault : RunFault) → Outside job s →
      Handlers s → Handlers (fault_in s job activity position fault).state
  unfolding fault_in
  fault_handled s TheSequencer activity position fault e h =
      record {
        rows = h.rows;
        handled = h.handled;
        none_started = λ x. h.none_started e;
        none_waits = λ x. h.none_waits (takes_none s e);
      }
  fault_handled s (ReleaseAt n) activity position fault e h =
      ends (closed_all s activity.frames) n (closes_all s activity.frames h)

  -- ---- what is asked of the mission

  pub release_asked : (s : State) (r : ℕ) → Handlers s → Handlers (released s r).state
  unfolding released release_taken is_started
  release_asked s r h = go (takes_releases s) refl
    where
      new : ℕ → Release
      new handler = record { handler = handler; number = length (releases_of s handler) + 1; status = Waits }

      taken : (handler : ℕ) → takes_releases s ≡ true → handler_number s.registry r ≡ Some handler → (b : Bool) →
          Handlers (if b then reporting s (Lost s.unit handler ∷ [])
          else reporting (record s { releases = s.releases ++ new handler ∷ [] })
          (Arrive s.unit handler (length (releases_of s handler) + 1) ∷ [])).state
      taken handler takes is true = h
      taken handler takes is false =
          release_waits code base s (new handler) refl takes (handler_has_row s.registry r handler is) h

      known : takes_releases s ≡ true → (o : Option ℕ) → handler_number s.registry r ≡ o →
          Handlers (elim o as (λ z. Step) [ None ↦ silently s | Some handler ↦ release_taken s handler ]).state
      known takes None is = h
      known takes (Some handler) is =
          taken handler takes is (not (nat_lt (length (waiting_of s handler)) most_waiting))

      go : (b : Bool) → takes_releases s ≡ b →
          Handlers (if b then (elim (handler_number s.registry r) as (λ z. Step) [
            | None ↦ silently s
            | Some handler ↦ release_taken s handler
          ]) else silently s).state
      go true takes = known takes (handler_number s.registry r) refl
      go false takes = h

  pub end_is_asked : (s : State) (r : ℕ) → Handlers s → Handlers (termination_asked s r).state
  unfolding termination_asked termination
  end_is_asked s r h = go (asks_for_end s.mission s.phase s.is_end_asked r)
    where
      asked : (b : Bool) → is_exec s.phase ≡ b → Handlers (if b
          then reporting (record s { is_end_asked = true; releases = map dropped_release s.releases })
          (Terminate s.unit ∷ report_dropped s)
          else silently (record s { is_end_asked = true })).state
      asked true e = end_asked code base s e h
      asked false e = end_kept code base s e h

      go : (b : Bool) → Handlers (if b then termination s else silently s).state
      go true = asked (is_exec s.phase) refl
      go false = h

  -- a job that goes on leaves memory as it is
  pub same_objects : (s : State) (job : Job) (a : Activity) → (with_activity s job a).objects ≡ s.objects
  unfolding with_activity
  same_objects s TheSequencer a = refl
  same_objects s (ReleaseAt n) a = refl

  pub registration_asked : (s : State) (job : Job) (activity : Activity) (position : Position) (r : ℕ) (o : Object)
      (after : State) → Outside job s → Handlers s → Handlers after →
      (is_init s.phase ≡ true → RowFine code.program (world_of after) base (new_row code.program r o)) →
      Handlers (registered code s job activity position r o after).state
  unfolding registered
  registration_asked s job activity position r o after outside h later row = go (is_init s.phase) refl
    where
      event : List Event
      event = Register s.unit (length s.registry + 1) (class_name code o.class) (new_row code.program r o).priority ∷ []

      added : is_init s.phase ≡ true → (b : Bool) → Handlers (if b then fault_in s job activity position TooManyHandlers
          else reporting (record after { registry = after.registry ++ new_row code.program r o ∷ [] }) event).state
      added e true = fault_handled s job activity position TooManyHandlers outside h
      added e false = row_added code base after (new_row code.program r o) (row e) later

      known : is_init s.phase ≡ true → (b : Bool) → Handlers (if b then silently after
          else (if not (nat_lt (length s.registry) most_handlers) then fault_in s job activity position TooManyHandlers
          else reporting (record after { registry = after.registry ++ new_row code.program r o ∷ [] }) event)).state
      known e true = later
      known e false = added e (not (nat_lt (length s.registry) most_handlers))

      go : (b : Bool) → is_init s.phase ≡ b →
          Handlers (if not b then fault_in s job activity position NotInitializing
          else (if is_some (handler_number s.registry r) then silently after
          else (if not (nat_lt (length s.registry) most_handlers) then fault_in s job activity position TooManyHandlers
          else reporting (record after { registry = after.registry ++ new_row code.program r o ∷ [] }) event))).state
      go true e = known e (is_some (handler_number s.registry r))
      go false e = fault_handled s job activity position NotInitializing outside h

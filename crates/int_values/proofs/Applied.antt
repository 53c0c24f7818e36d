-- What an effect does to a state: its numbers have 32 bits where the state's and the effect's have.
use Rattle.std.proofs.Common.{◌≡◌, ℕ, ◌==◌, ◌≤◌, ◌+◌, nat_lt, All, Bool, true, false, not, List, [], ◌∷◌, length, Option, Some, None, if◌then◌else◌, refl}
use Rattle.std.specs.Prelude.{filter, is_some, map, slice_get, unwrap_or}
use Rattle.std.proofs.lemmas.List.Elements.{All-cons, All-head, All-map, All-nil, All-push, All-set, All-tail}
use Rattle.scj_base.specs.declared.faults.RunFault.{RunFault}
use Rattle.scj_base.specs.declared.positions.Position.{Position}
use Rattle.scj_base.specs.declared.values.Value.{Value}
use Rattle.scj_base.specs.declared.values.Value.TheVariants.{At}
use Rattle.scj_rules.specs.Classes.{hidden_fields}
use Rattle.scj_rules.specs.Contexts.{Declarations}
use Rattle.scj_model.specs.declared.events.Event.TheVariants as event
use Rattle.scj_model.specs.Code.{Code}
use Rattle.scj_model.specs.State.{Object, Frame, Activity, Waits, Ended, Dropped, Release, Job, TheSequencer, ReleaseAt, State, activity_in, is_exec, is_init, is_waiting, object_at, with_activity}
use Rattle.scj_model.specs.Registry.{handler_number, most_handlers}
use Rattle.scj_model.specs.Memory.{area_with_scope, closed, has_room, has_store_for, with_area, with_object}
use Rattle.scj_model.specs.Steps.{Step, allocating, closed_all, fault_in, job_ended, opening, silently, reporting}
use Rattle.scj_model.specs.Effects.{Effect, Goes, Prints, Makes, Stores, StoresStatic, SetsHidden, SetsCeiling, Calls, Opens, Leaves, AsksRegistration, AsksRelease, AsksTermination, Faults, Stuck}
use Rattle.scj_model.specs.Apply.{applied, asks_for_end, called, ceiling_entered, dropped_release, frame_left, is_full, is_sequencer, most_waiting, opened_in, registered, release_taken, released, releases_of, returned, takes_releases, report_priority, termination, termination_asked, waiting_of, with_frame, without}
use Rattle.scope_flow.specs.Slots.{array_type}
use Rattle.int_values.specs.Ints.{FitsInt, FrameFits, PrintsInt, ReleaseFits, StateFits, StepFits}
use Rattle.int_values.proofs.Changes.{active_fits, alike, ceiling_is_fit, closed_all_fits, closed_fits, ended, hidden_is_fit, object_fits, opened_fits, slot_fits, status_fits, with_releases, with_statics}
use Rattle.int_values.proofs.Effects.{EffectFits, OptionFits}
use Rattle.int_values.proofs.Steps.{GoodIf, either_good, elim_events, good_if, good_option, if_events, mapped_good, nothing_good, one_event, silent_fits, some_good, then_fits, two_events}

-- the hidden fields that are set are some of the object's, which is no array
abbrev pub SetsItsHidden : Declarations → State → Effect → Type 0
SetsItsHidden p s (SetsHidden f r values) =
    (o : Object) → slice_get s.objects r ≡ Some o →
    (array_type p o.class ≡ None) × (length values ≤ hidden_fields p.classes o.class)
SetsItsHidden p s e = Unit {0}

module _ (p : Declarations) where
  -- ---- what every effect may do

  pub fault_fits : (s : State) (job : Job) (a : Activity) (position : Position) (fault : RunFault) → StateFits p s →
      StepFits p (fault_in s job a position fault)
  unfolding fault_in
  fault_fits s TheSequencer a position fault h =
      record {
        state = alike p s _ h refl refl refl refl refl refl;
        events = two_events p (event.Fault s.unit fault position) (event.Halted s.unit) tt tt;
      }
  fault_fits s (ReleaseAt n) a position fault h =
      record {
        state = status_fits p (closed_all s a.frames) n Ended (closed_all_fits p a.frames s h) (ended p);
        events = All-cons PrintsInt (event.Fault s.unit fault position) _ tt
            (elim_events p (slice_get s.releases n) (λ (r : Release). event.End s.unit r.handler r.number ∷ [])
            (λ r. one_event p (event.End s.unit r.handler r.number) tt));
      }

  ended_fits : (s : State) (job : Job) (a : Activity) (value : Option Value) → StateFits p s → All FrameFits a.frames →
      StepFits p (job_ended s job a value)
  unfolding job_ended
  ended_fits s TheSequencer a value h k =
      record {
        state = record {
          store = h.store;
          areas = h.areas;
          objects = h.objects;
          statics = h.statics;
          sequencer = k;
          releases = h.releases;
        };
        events = All-nil PrintsInt;
      }
  ended_fits s (ReleaseAt n) a value h k =
      record {
        state = status_fits p s n Ended h (ended p);
        events = elim_events p (slice_get s.releases n) (λ (r : Release). event.End s.unit r.handler r.number ∷ [])
            (λ r. one_event p (event.End s.unit r.handler r.number) tt);
      }

  priority_reported : (s : State) (job : Job) (before after : ℕ) → All PrintsInt (report_priority s job before after)
  priority_reported s TheSequencer before after =
      if_events p (before == after) [] [] (All-nil PrintsInt) (All-nil PrintsInt)
  priority_reported s (ReleaseAt n) before after =
      if_events p (before == after) [] _ (All-nil PrintsInt)
      (elim_events p (slice_get s.releases n) (λ (r : Release). event.Prio s.unit r.handler after ∷ [])
      (λ r. one_event p (event.Prio s.unit r.handler after) tt))

  pub opening_fits : (s : State) (job : Job) (a : Activity) (position : Position) (scope : ℕ) (parent : Option ℕ) (bytes : ℕ)
      (next : State → ℕ → Step) → StateFits p s →
      (StateFits p (with_area s scope parent bytes) → StepFits p (next (with_area s scope parent bytes) (length s.areas))) →
      StepFits p (opening s job a position scope parent bytes next)
  unfolding opening
  opening_fits s job a position scope parent bytes next h more =
      good_if (StepFits p) (has_store_for s bytes) _ _ (λ e. more (opened_fits p s scope parent bytes h e))
      (λ e. fault_fits s job a position _ h)

  pub making_fits : (s : State) (job : Job) (a : Activity) (position : Position) (class area : ℕ) (slots : List Value)
      (next : State → ℕ → Step) → StateFits p s → All FitsInt slots →
      (StateFits p (with_object s class area slots) →
      StepFits p (next (with_object s class area slots) (length s.objects))) →
      StepFits p (allocating s job a position class area slots next)
  unfolding allocating
  making_fits s job a position class area slots next h fit more =
      good_if (StepFits p) (has_room s area (length slots)) _ _ (λ e. more (object_fits p s class area slots h e fit))
      (λ e. fault_fits s job a position _ h)

  -- ---- releases

  pub taken_fits : (s : State) (handler : ℕ) → StateFits p s → StepFits p (release_taken s handler)
  unfolding release_taken activity_in
  taken_fits s handler h =
      good_if (StepFits p) (not (nat_lt (length (waiting_of s handler)) most_waiting)) _ _
      (λ e. record { state = h; events = one_event p (event.Lost s.unit handler) tt })
      (λ e. record {
        state = with_releases p s _ h
            (All-push ReleaseFits s.releases
            (record { handler = handler; number = length (releases_of s handler) + 1; status = Waits }) h.releases
            (record { frames = λ a k. absurd (cc (k)) }));
        events = one_event p (event.Arrive s.unit handler (length (releases_of s handler) + 1)) tt;
      })

  released_fits : (s : State) (r : ℕ) → StateFits p s → StepFits p (released s r)
  unfolding released
  released_fits s r h =
      good_if (StepFits p) (takes_releases s) _ _
      (λ e. good_option (StepFits p) (handler_number s.registry r) _ _ (λ f. silent_fits p s h)
      (λ handler f. taken_fits s handler h))
      (λ e. silent_fits p s h)

  dropped_fits : (r : Release) → ReleaseFits r → ReleaseFits (dropped_release r)
  unfolding dropped_release activity_in
  dropped_fits r h = go (is_waiting r.status)
    where
      go : (b : Bool) → ReleaseFits (if b then record r { status = Dropped } else r)
      go true = record { frames = λ a e. absurd (cc (e)) }
      go false = h

  asked_fits : (s : State) (r : ℕ) → StateFits p s → StepFits p (termination_asked s r)
  unfolding termination_asked termination
  asked_fits s r h =
      good_if (StepFits p) (asks_for_end s.mission s.phase s.is_end_asked r) _ _
      (λ e. good_if (StepFits p) (is_exec s.phase) _ _
      (λ f. record {
        state = alike p (record s { releases = map dropped_release s.releases }) _
            (with_releases p s _ h
            (All-map ReleaseFits dropped_release s.releases (λ k d l. dropped_fits _ (h.releases k d l))))
            refl refl refl refl refl refl;
        events = All-cons PrintsInt (event.Terminate s.unit) _ tt
            (All-map PrintsInt (λ (x : Release). event.Drop s.unit x.handler x.number)
            (filter (λ (x : Release). is_waiting x.status) s.releases) (λ k d l. tt));
      })
      (λ f. silent_fits p (record s { is_end_asked = true }) (alike p s _ h refl refl refl refl refl refl)))
      (λ e. silent_fits p s h)

  module _ (code : Code) (s : State) (h : StateFits p s) (job : Job) (a : Activity) (below : List Frame)
      (under : All FrameFits below) (position : Position) where
    frames_fit : (f : Frame) → FrameFits f → All FrameFits (f ∷ below)
    frames_fit f k = All-cons FrameFits f below k under

    frame_goes : (t : State) (f : Frame) → StateFits p t → FrameFits f → StateFits p (with_frame t job a f below)
    frame_goes t f g k = active_fits p t job (record a { frames = f ∷ below }) g (frames_fit f k)

    goes_fits : (t : State) (f : Frame) → StateFits p t → FrameFits f → StepFits p (silently (with_frame t job a f below))
    goes_fits t f g k = silent_fits p _ (frame_goes t f g k)

    -- ---- calls and leaving

    called_fits : (f g : Frame) → FrameFits f → FrameFits g → StepFits p (called code s job a (f ∷ below) position g)
    unfolding called
    called_fits f g k l =
        good_if (StepFits p) (is_full (f ∷ below)) _ _ (λ e. fault_fits s job a position _ h)
        (λ e. good_option (StepFits p) (ceiling_entered code s g) _ _
        (λ i. silent_fits p _
        (active_fits p s job (record a { frames = g ∷ (f ∷ below) }) h
        (All-cons FrameFits g (f ∷ below) l (frames_fit f k))))
        (λ ceiling i. good_if (StepFits p) (nat_lt ceiling a.priority) _ _ (λ n. fault_fits s job a position _ h)
        (λ n. record {
          state = active_fits p s job _ h
              (All-cons FrameFits (record g { saved = Some a.priority }) (f ∷ below)
              (record { locals = l.locals; operands = l.operands }) (frames_fit f k));
          events = priority_reported s job a.priority ceiling;
        })))

    opens_fits : (f g : Frame) (scope bytes : ℕ) → FrameFits f → FrameFits g →
        StepFits p (opened_in s job a (f ∷ below) position g scope bytes)
    unfolding opened_in
    opens_fits f g scope bytes k l =
        good_if (StepFits p) (is_some (area_with_scope s scope a.areas)) _ _ (λ e. fault_fits s job a position _ h)
        (λ e. good_if (StepFits p) (is_full (f ∷ below)) _ _ (λ i. fault_fits s job a position _ h)
        (λ i. opening_fits s job a position scope (Some g.area) bytes _ h
        (λ t. silent_fits p _
        (active_fits p (with_area s scope (Some g.area) bytes) job _ t
        (All-cons FrameFits (record g { area = length s.areas; opened = Some (length s.areas) }) (f ∷ below)
        (record { locals = l.locals; operands = l.operands }) (frames_fit f k))))))

    returned_fits : (value : Option Value) (fs : List Frame) → OptionFits value → All FrameFits fs →
        All FrameFits (returned value fs)
    unfolding returned
    returned_fits None fs k l = l
    returned_fits (Some value) [] k l = l
    returned_fits (Some value) (f ∷ fs) k l =
        let one : FrameFits f = All-head FrameFits f fs l in
        All-cons FrameFits (record f { operands = value ∷ f.operands }) fs
        (record { locals = one.locals; operands = All-cons FitsInt value f.operands k one.operands })
        (All-tail FrameFits f fs l)

    left_fits : (f : Frame) (value : Option Value) → OptionFits value → StepFits p (frame_left s job a f below value)
    unfolding frame_left
    left_fits f value k =
        then_fits p (reporting (closed s f.opened) (report_priority s job a.priority (unwrap_or f.saved a.priority)))
        (λ t. elim below as (λ _. Step) [
          | [] ↦ job_ended t job after value
          | g ∷ gs ↦ silently (with_activity t job after)
        ])
        (record {
          state = closed_fits p s f.opened h;
          events = priority_reported s job a.priority (unwrap_or f.saved a.priority);
        })
        (go below)
      where
        after : Activity
        after =
            record a {
              frames = returned value below;
              areas = without f.opened a.areas;
              priority = unwrap_or f.saved a.priority;
            }

        back : All FrameFits (returned value below)
        back = returned_fits value below k under

        go : (fs : List Frame) →
            StepFits p
            (elim fs as (λ _. Step) [
              | [] ↦ job_ended (closed s f.opened) job after value
              | g ∷ gs ↦ silently (with_activity (closed s f.opened) job after)
            ])
        go [] = ended_fits (closed s f.opened) job after value (closed_fits p s f.opened h) back
        go (g ∷ gs) = silent_fits p _ (active_fits p (closed s f.opened) job after (closed_fits p s f.opened h) back)

    -- ---- registration

    registered_fits : (f : Frame) (r : ℕ) (o : Object) → FrameFits f →
        StepFits p (registered code s job a position r o (with_frame s job a f below))
    unfolding registered
    registered_fits f r o k =
        good_if (StepFits p) (not (is_init s.phase)) _ _ (λ e. fault_fits s job a position _ h)
        (λ e. good_if (StepFits p) (is_some (handler_number s.registry r)) _ _ (λ i. goes_fits s f h k)
        (λ i. good_if (StepFits p) (not (nat_lt (length s.registry) most_handlers)) _ _
        (λ l. fault_fits s job a position _ h)
        (λ l. record {
          state = alike p (with_frame s job a f below) _ (frame_goes s f h k) refl refl refl refl refl refl;
          events = one_event p _ tt;
        })))

    -- ---- all effects

    pub applied_fits : (e : Effect) → EffectFits e → SetsItsHidden p s e →
        GoodIf (StepFits p) (applied code s job a below position e)
    unfolding applied
    applied_fits (Goes f) k l = some_good (StepFits p) _ (goes_fits s f h k)
    applied_fits (Prints f text value) k l =
        some_good (StepFits p) _
        (record { state = frame_goes s f h k.0; events = one_event p (event.Print s.unit text value) k.1 })
    applied_fits (Makes f class slots) k l =
        some_good (StepFits p) _
        (making_fits s job a position class f.area slots _ h k.1
        (λ t. goes_fits (with_object s class f.area slots) (record f { operands = At (length s.objects) ∷ f.operands }) t
        (record {
          locals = k.0.locals;
          operands = All-cons FitsInt (At (length s.objects)) f.operands tt k.0.operands;
        })))
    applied_fits (Stores f r slot value) k l =
        some_good (StepFits p) _ (goes_fits _ f (slot_fits p s r slot value h k.1) k.0)
    applied_fits (StoresStatic f n value) k l =
        some_good (StepFits p) _
        (goes_fits _ f (with_statics p s _ h (All-set FitsInt s.statics n value k.1 h.statics)) k.0)
    applied_fits (SetsHidden f r values) k l =
        some_good (StepFits p) _ (goes_fits _ f (hidden_is_fit p s r values h l) k)
    applied_fits (SetsCeiling f r ceiling) k l =
        either_good (StepFits p) (is_sequencer job) _ _
        (λ e. some_good (StepFits p) _ (goes_fits _ f (ceiling_is_fit p s r ceiling h) k))
        (λ e. some_good (StepFits p) _ (fault_fits s job a position _ h))
    applied_fits (Calls f g) k l = some_good (StepFits p) _ (called_fits f g k.0 k.1)
    applied_fits (Opens f g scope bytes) k l = some_good (StepFits p) _ (opens_fits f g scope bytes k.0 k.1)
    applied_fits (Leaves f value) k l = some_good (StepFits p) _ (left_fits f value k)
    applied_fits (AsksRegistration f r) k l =
        mapped_good (StepFits p) (object_at s r) _ (λ o e. registered_fits f r o k)
    applied_fits (AsksRelease f r) k l =
        some_good (StepFits p) _ (released_fits (with_frame s job a f below) r (frame_goes s f h k))
    applied_fits (AsksTermination f r) k l =
        some_good (StepFits p) _ (asked_fits (with_frame s job a f below) r (frame_goes s f h k))
    applied_fits (Faults fault) k l = some_good (StepFits p) _ (fault_fits s job a position fault h)
    applied_fits Stuck k l = nothing_good (StepFits p)

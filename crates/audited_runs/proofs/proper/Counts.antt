-- How many lines an effect tells, and how many releases it leaves, by how many there were.
use Rattle.std.proofs.Common.{◌≡◌, ℕ, suc, ◌+◌, ◌≤◌, ◌==◌, nat_lt, Bool, true, false, not, List, [], ◌∷◌, ◌++◌, length, map, Option, Some, None, if◌then◌else◌, sym, subst, arith}
use Rattle.std.specs.Prelude.{filter, is_some, slice_get, unwrap_or}
use Rattle.std.proofs.lemmas.List.{length-append, length_push}
use Rattle.accepted_laws.proofs.Positions.{length_map}
use Rattle.scj_base.specs.declared.positions.Position.{Position}
use Rattle.scj_base.specs.declared.faults.RunFault.{RunFault}
use Rattle.scj_base.specs.declared.values.Value.{Value}
use Rattle.scj_model.specs.declared.events.Event.{Event}
use Rattle.scj_model.specs.declared.events.Event.TheVariants as event
use Rattle.scj_model.specs.Code.{Code}
use Rattle.scj_model.specs.State.{Object, Frame, Activity, ReleaseStatus, Waits, Started, Ended, Release, Job, TheSequencer, ReleaseAt, State, with_activity, with_status, object_at, is_exec, is_init, is_waiting}
use Rattle.scj_model.specs.Registry.{handler_number, most_handlers}
use Rattle.scj_model.specs.Memory.{area_with_scope, closed, has_room, has_store_for, with_area, with_object}
use Rattle.scj_model.specs.Steps.{Step, allocating, closed_all, fault_in, job_ended, opening, silently, reporting, then_do}
use Rattle.scj_model.specs.Effects.{Effect, Goes, Prints, Makes, Stores, StoresStatic, SetsHidden, SetsCeiling, Calls, Opens, Leaves, AsksRegistration, AsksRelease, AsksTermination, Faults, Stuck}
use Rattle.scj_model.specs.Apply.{applied, asks_for_end, called, ceiling_entered, dropped_release, frame_left, is_full, is_sequencer, most_waiting, opened_in, registered, release_taken, released, releases_of, returned, takes_releases, report_priority, termination, termination_asked, waiting_of, with_frame, without}
use Rattle.audited_runs.proofs.Changes.{length_changed}
use Rattle.audited_runs.proofs.proper.Steps.{GoodIf, either_good, good_if, good_option, mapped_good, nothing_good, some_good}

pub record Short (most lines : ℕ) (x : Step) : Type 0 where
  pub reported : length x.events ≤ lines
  pub more : length x.state.releases ≤ most

-- ---- lists

one_if : {A : Type 0} (o : Option A) (report : A → Event) →
    length (elim o as (λ _. List Event) [ None ↦ [] | Some a ↦ report a ∷ [] ]) ≤ 1
one_if None report = omega arith
one_if (Some a) report = omega arith

filter_shorter : {A : Type 0} (test : A → Bool) (xs : List A) → length (filter test xs) ≤ length xs
filter_shorter test [] = omega arith
filter_shorter test (x ∷ xs) = go (test x) (filter_shorter test xs)
  where
    go : (b : Bool) → length (filter test xs) ≤ length xs →
        length (if b then x ∷ filter test xs else filter test xs) ≤ suc (length xs)
    go true h = omega (arith, h)
    go false h = omega (arith, h)

-- ---- states

many_as : (n : ℕ) (rs xs : List Release) → length xs ≡ length rs → length rs ≤ n → length xs ≤ n
many_as n rs xs e h = subst (λ m. m ≤ n) (sym e) h

many_status : (n : ℕ) (s : State) (p : ℕ) (status : ReleaseStatus) → length s.releases ≤ n →
    length (with_status s p status).releases ≤ n
many_status n s p status h =
    many_as n s.releases (with_status s p status).releases
    (length_changed (λ (r : Release). record r { status = status }) p s.releases) h

pub many_with : (n : ℕ) (s : State) (job : Job) (a : Activity) → length s.releases ≤ n →
    length (with_activity s job a).releases ≤ n
unfolding with_activity
many_with n s TheSequencer a h = h
many_with n s (ReleaseAt p) a h = many_status n s p (Started a) h

pub many_closed : (n : ℕ) (s : State) (o : Option ℕ) → length s.releases ≤ n → length (closed s o).releases ≤ n
unfolding closed
many_closed n s None h = h
many_closed n s (Some a) h = h

many_closed_all : (n : ℕ) (fs : List Frame) (s : State) → length s.releases ≤ n →
    length (closed_all s fs).releases ≤ n
unfolding closed_all
many_closed_all n [] s h = h
many_closed_all n (f ∷ fs) s h = many_closed_all n fs (closed s f.opened) (many_closed n s f.opened h)

-- ---- what every effect may do, from a state with at most so many releases

pub short_taken : (n : ℕ) (s : State) (handler : ℕ) → length s.releases ≤ n →
    Short (n + 1) 1 (release_taken s handler)
unfolding release_taken
short_taken n s handler h =
    good_if (Short (n + 1) 1) (not (nat_lt (length (waiting_of s handler)) most_waiting)) _ _
    (λ e. record { reported = omega arith; more = omega (arith, h) })
    (λ e. record { reported = omega arith; more = longer (record { handler = handler; number = length (releases_of s handler) + 1; status = Waits }) })
  where
    longer : (r : Release) → length (s.releases ++ r ∷ []) ≤ n + 1
    longer r = let e = length_push s.releases r in omega (arith, e, h)

module _ (n : ℕ) where
  abbrev pub S : Step → Type 0
  S = Short (n + 1) (n + 2)

  pub silent : (s : State) → length s.releases ≤ n → S (silently s)
  silent s h = record { reported = omega arith; more = omega (arith, h) }

  two_lines : (s : State) (es : List Event) → length es ≤ 2 → length s.releases ≤ n → S (reporting s es)
  two_lines s es l h = record { reported = omega (arith, l); more = omega (arith, h) }

  short_fault : (s : State) (job : Job) (a : Activity) (position : Position) (fault : RunFault) → length s.releases ≤ n →
      S (fault_in s job a position fault)
  unfolding fault_in
  short_fault s TheSequencer a position fault h = two_lines (record s { phase = _; operation = _; outcome = _ }) _ (omega arith) h
  short_fault s (ReleaseAt p) a position fault h =
      two_lines (with_status (closed_all s a.frames) p Ended) _
      (let l = one_if (slice_get s.releases p) (λ (r : Release). event.End s.unit r.handler r.number) in omega (arith, l))
      (many_status n (closed_all s a.frames) p Ended (many_closed_all n a.frames s h))

  ended : (s : State) (job : Job) (a : Activity) (value : Option Value) → length s.releases ≤ n →
      Short n 1 (job_ended s job a value)
  unfolding job_ended
  ended s TheSequencer a value h = record { reported = omega arith; more = h }
  ended s (ReleaseAt p) a value h =
      record {
        reported = one_if (slice_get s.releases p) (λ (r : Release). event.End s.unit r.handler r.number);
        more = many_status n s p Ended h;
      }

  one_prio : (s : State) (job : Job) (before after : ℕ) → length (report_priority s job before after) ≤ 1
  one_prio s TheSequencer before after = go (before == after)
    where
      go : (b : Bool) → length {A = Event} (if b then [] else []) ≤ 1
      go true = omega arith
      go false = omega arith
  one_prio s (ReleaseAt p) before after =
      go (before == after) (one_if (slice_get s.releases p) (λ (r : Release). event.Prio s.unit r.handler after))
    where
      go : (b : Bool) →
          length (elim (slice_get s.releases p) as (λ _. List Event) [
            | None ↦ []
            | Some r ↦ event.Prio s.unit r.handler after ∷ []
          ]) ≤ 1 →
          length (if b then [] else (elim (slice_get s.releases p) as (λ _. List Event) [
            | None ↦ []
            | Some r ↦ event.Prio s.unit r.handler after ∷ []
          ])) ≤ 1
      go true h = omega arith
      go false h = h

  pub short_opening : (s : State) (job : Job) (a : Activity) (position : Position) (scope : ℕ) (parent : Option ℕ) (bytes : ℕ)
      (next : State → ℕ → Step) → length s.releases ≤ n →
      ((t : State) (k : ℕ) → length t.releases ≤ n → S (next t k)) →
      S (opening s job a position scope parent bytes next)
  unfolding opening
  short_opening s job a position scope parent bytes next h more =
      good_if S (has_store_for s bytes) _ _ (λ e. more (with_area s scope parent bytes) (length s.areas) h)
      (λ e. short_fault s job a position _ h)

  pub short_made : (s : State) (job : Job) (a : Activity) (position : Position) (class area : ℕ) (slots : List Value)
      (next : State → ℕ → Step) → length s.releases ≤ n →
      ((t : State) (k : ℕ) → length t.releases ≤ n → S (next t k)) →
      S (allocating s job a position class area slots next)
  unfolding allocating
  short_made s job a position class area slots next h more =
      good_if S (has_room s area (length slots)) _ _
      (λ e. more (with_object s class area slots) (length s.objects) h) (λ e. short_fault s job a position _ h)

  short_released : (s : State) (r : ℕ) → length s.releases ≤ n → S (released s r)
  unfolding released
  short_released s r h =
      good_if S (takes_releases s) _ _
      (λ e. good_option S (handler_number s.registry r) _ _ (λ f. silent s h)
      (λ handler f. weak (short_taken n s handler h)))
      (λ e. silent s h)
    where
      weak : {x : Step} → Short (n + 1) 1 x → S x
      weak k = record { reported = let l = k.reported in omega (arith, l); more = k.more }

  short_asked : (s : State) (r : ℕ) → length s.releases ≤ n → S (termination_asked s r)
  unfolding termination_asked termination
  short_asked s r h =
      good_if S (asks_for_end s.mission s.phase s.is_end_asked r) _ _
      (λ e. good_if S (is_exec s.phase) _ _
      (λ f. record { reported = drops; more = kept })
      (λ f. record { reported = omega arith; more = omega (arith, h) }))
      (λ e. silent s h)
    where
      waiting : List Release
      waiting = filter (λ (x : Release). is_waiting x.status) s.releases

      drops : suc (length (map (λ (x : Release). event.Drop s.unit x.handler x.number) waiting)) ≤ n + 2
      drops =
          let l = filter_shorter (λ (x : Release). is_waiting x.status) s.releases in
          let e = length_map (λ (x : Release). event.Drop s.unit x.handler x.number) waiting in omega (arith, l, e, h)

      kept : length (map dropped_release s.releases) ≤ n + 1
      kept = let e = length_map dropped_release s.releases in omega (arith, e, h)

  module _ (code : Code) (s : State) (h : length s.releases ≤ n) (job : Job) (a : Activity) (below : List Frame)
      (position : Position) where
    framed : (t : State) (f : Frame) → length t.releases ≤ n → S (silently (with_frame t job a f below))
    framed t f k = silent _ (many_with n t job (record a { frames = f ∷ below }) k)

    short_called : (frames : List Frame) (g : Frame) → S (called code s job a frames position g)
    unfolding called
    short_called frames g =
        good_if S (is_full frames) _ _ (λ e. short_fault s job a position _ h)
        (λ e. good_option S (ceiling_entered code s g) _ _
        (λ f. silent _ (many_with n s job (record a { frames = g ∷ frames }) h))
        (λ ceiling f. good_if S (nat_lt ceiling a.priority) _ _ (λ k. short_fault s job a position _ h)
        (λ k. two_lines _ _ (let l = one_prio s job a.priority ceiling in omega (arith, l)) (many_with n s job _ h))))

    short_opens : (frames : List Frame) (g : Frame) (scope bytes : ℕ) →
        S (opened_in s job a frames position g scope bytes)
    unfolding opened_in
    short_opens frames g scope bytes =
        good_if S (is_some (area_with_scope s scope a.areas)) _ _ (λ e. short_fault s job a position _ h)
        (λ e. good_if S (is_full frames) _ _ (λ f. short_fault s job a position _ h)
        (λ f. short_opening s job a position scope (Some g.area) bytes _ h
        (λ t k m. silent _ (many_with n t job _ m))))

    short_left : (f : Frame) (value : Option Value) → S (frame_left s job a f below value)
    unfolding frame_left
    short_left f value = go below
      where
        after : Activity
        after =
            record a {
              frames = returned value below;
              areas = without f.opened a.areas;
              priority = unwrap_or f.saved a.priority;
            }

        first : List Event
        first = report_priority s job a.priority (unwrap_or f.saved a.priority)

        both : (x : Step) → Short n 1 x → S (reporting x.state (first ++ x.events))
        both x k =
            record {
              reported =
                  let e = length-append first x.events in
                  let l = one_prio s job a.priority (unwrap_or f.saved a.priority) in
                  let m = k.reported in omega (arith, e, l, m);
              more = let m = k.more in omega (arith, m);
            }

        go : (fs : List Frame) →
            S (then_do (reporting (closed s f.opened) first) (λ t. elim fs as (λ _. Step) [
              | [] ↦ job_ended t job after value
              | g ∷ gs ↦ silently (with_activity t job after)
            ]))
        go [] =
            both (job_ended (closed s f.opened) job after value)
            (ended (closed s f.opened) job after value (many_closed n s f.opened h))
        go (g ∷ gs) =
            both (silently (with_activity (closed s f.opened) job after))
            (record {
              reported = omega arith;
              more = many_with n (closed s f.opened) job after (many_closed n s f.opened h);
            })

    short_registered : (f : Frame) (r : ℕ) (o : Object) →
        S (registered code s job a position r o (with_frame s job a f below))
    unfolding registered
    short_registered f r o =
        good_if S (not (is_init s.phase)) _ _ (λ e. short_fault s job a position _ h)
        (λ e. good_if S (is_some (handler_number s.registry r)) _ _ (λ k. framed s f h)
        (λ k. good_if S (not (nat_lt (length s.registry) most_handlers)) _ _ (λ l. short_fault s job a position _ h)
        (λ l. two_lines (record (with_frame s job a f below) { registry = _ }) _ (omega arith) (many_with n s job (record a { frames = f ∷ below }) h))))

    pub short_applied : (e : Effect) → GoodIf S (applied code s job a below position e)
    unfolding applied
    short_applied (Goes f) = some_good S _ (framed s f h)
    short_applied (Prints f text value) =
        some_good S _ (two_lines _ _ (omega arith) (many_with n s job (record a { frames = f ∷ below }) h))
    short_applied (Makes f class slots) =
        some_good S _ (short_made s job a position class f.area slots _ h (λ t k m. framed t _ m))
    short_applied (Stores f r slot value) = some_good S _ (framed (record s { objects = _ }) f h)
    short_applied (StoresStatic f k value) = some_good S _ (framed (record s { statics = _ }) f h)
    short_applied (SetsHidden f r values) = some_good S _ (framed (record s { objects = _ }) f h)
    short_applied (SetsCeiling f r ceiling) =
        either_good S (is_sequencer job) _ _ (λ e. some_good S _ (framed (record s { objects = _ }) f h))
        (λ e. some_good S _ (short_fault s job a position _ h))
    short_applied (Calls f g) = some_good S _ (short_called (f ∷ below) g)
    short_applied (Opens f g scope bytes) = some_good S _ (short_opens (f ∷ below) g scope bytes)
    short_applied (Leaves f value) = some_good S _ (short_left f value)
    short_applied (AsksRegistration f r) = mapped_good S (object_at s r) _ (λ o e. short_registered f r o)
    short_applied (AsksRelease f r) =
        some_good S _
        (short_released (with_frame s job a f below) r (many_with n s job (record a { frames = f ∷ below }) h))
    short_applied (AsksTermination f r) =
        some_good S _
        (short_asked (with_frame s job a f below) r (many_with n s job (record a { frames = f ∷ below }) h))
    short_applied (Faults fault) = some_good S _ (short_fault s job a position fault h)
    short_applied Stuck = nothing_good S

-- What a job asks of its mission keeps the invariant for the job: that a handler is registered or released, or that the
-- mission ends.
use Rattle.std.specs.Prelude.{Option, Some, None, slice_get, ◌+◌, ◌++◌, if◌then◌else◌, not, nat_lt, is_some, map, option_map}
use Rattle.std.proofs.Common.{◌≡◌, ℕ, zero, suc, List, [], ◌∷◌, length, Bool, true, false, refl, sym, ◌∙◌, ap, inl, inr, subst}
use Rattle.scj_base.specs.declared.faults.RunFault.{RunFault}
use Rattle.scj_base.specs.declared.faults.RunFault.TheVariants.{NotInitializing, TooManyHandlers}
use Rattle.scj_base.specs.declared.positions.Position.{Position}
use Rattle.scj_rules.specs.ScopeRules.{is_handler}
use Rattle.scj_rules.specs.Words.{is_among, ◌>>=◌}
use Rattle.accepted_laws.proofs.Lists.{get_left}
use Rattle.accepted_laws.proofs.Tools.{some_inj}
use Rattle.scj_model.specs.declared.events.Event.{Event}
use Rattle.scj_model.specs.declared.events.Event.TheVariants.{Register, Arrive, Lost, Terminate}
use Rattle.scj_model.specs.Code.{Code}
use Rattle.scj_model.specs.State.{MemoryArea, Object, Frame, Activity, ReleaseStatus, Waits, Started, Ended, Dropped, Release, Job, TheSequencer, ReleaseAt, State, activity_in, activity_of, is_exec, is_init, is_waiting, object_at}
use Rattle.scj_model.specs.Registry.{handler_number, most_handlers, new_row}
use Rattle.scj_model.specs.Steps.{Step, fault_in, silently, reporting}
use Rattle.scj_model.specs.Effects.{Effect, AsksRegistration, AsksRelease, AsksTermination}
use Rattle.scj_model.specs.Apply.{applied, asks_for_end, class_name, dropped_release, most_waiting, registered, release_taken, released, releases_of, takes_releases, report_dropped, termination, termination_asked, waiting_of, with_frame}
use Rattle.scope_flow.specs.Facts.{Facts}
use Rattle.scope_flow.specs.Signatures.{Signature}
use Rattle.frame_sound.specs.Fine.{list_of}
use Rattle.frame_sound.specs.EffectsFine.{EffectFine, GoesOn, RegistrationFine}
use Rattle.frame_sound.specs.OwnJob.{JobGoesOn, KeepsItsJob, RegistryIsKept}
use Rattle.frame_sound.proofs.Changes.{look}
use Rattle.frame_sound.proofs.Kept.{ActsHere, goes_keeps}
use Rattle.frame_sound.proofs.OwnEnds.{stands_still, under_way}
use Rattle.frame_sound.proofs.OwnJobs.{operation_then, faults_so, registry_stays, stands_with}

-- ---- a job stays under way

-- what is under way stays, where each release that is started has its activity as before
abbrev ReleasesStay : State → State → Type 0
ReleasesStay t u =
    (index : ℕ) (r : Release) (a : Activity) → slice_get t.releases index ≡ Some r → activity_in r.status ≡ Some a →
    slice_get u.releases index ≡ Some r

activity_kept : (t u : State) (job : Job) (a : Activity) → u.activity ≡ t.activity → ReleasesStay t u →
    activity_of t job ≡ Some a → activity_of u job ≡ Some a
unfolding activity_of
activity_kept t u TheSequencer a e stay is = ap (λ x. Some x) e ∙ is
activity_kept t u (ReleaseAt index) a e stay is =
    let w = under_way t index a is in
    ap (λ (o : Option Release). o >>= (λ r. activity_in r.status)) (stay index w.release a w.is w.has) ∙ w.has

-- a state in which at most releases, handlers and the wish to end are others
abbrev pub DiffersInRequests : State → State → Type 0
DiffersInRequests t u = u ≡ record t { releases = u.releases; registry = u.registry; is_end_asked = u.is_end_asked }

pub goes_still : (code : Code) (s t u : State) (job : Job) (base : List ℕ) (f : Frame) (below : List Frame) →
    DiffersInRequests t u → ((a : Activity) → activity_of t job ≡ Some a → activity_of u job ≡ Some a) →
    JobGoesOn code s job base f below t → JobGoesOn code s job base f below u
goes_still code s t u job base f below only act g =
    let q = g.stands in
    let k = g.areas in
    let areas : u.areas ≡ t.areas = ap (λ (v : State). v.areas) only in
    record {
      stands = record {
        activity = q.activity;
        is = act q.activity q.is;
        is_list = q.is_list;
        stands =
            stands_still code t.areas u.areas t.objects u.objects t.statics u.statics base q.activity.frames areas
            (ap (λ (v : State). v.objects) only) (ap (λ (v : State). v.statics) only) q.stands;
      };
      top = g.top;
      others = g.others;
      are = g.are;
      same = g.same;
      operation = operation_then s t u g.operation
          (record { phase = ap (λ (v : State). v.phase) only; operation = ap (λ (v : State). v.operation) only });
      outcome = ap (λ (v : State). v.outcome) only ∙ g.outcome;
      areas = record {
        has = k.has;
        lost = λ a x on there. k.lost a x on (sym (ap (λ (xs : List MemoryArea). slice_get xs a) areas) ∙ there);
        new = λ a x none there. k.new a x none (sym (ap (λ (xs : List MemoryArea). slice_get xs a) areas) ∙ there);
      };
    }

-- ---- waiting releases that are dropped, and a new one

pub get_mapped : {A B : Type 0} (f : A → B) (xs : List A) (k : ℕ) →
    slice_get (map f xs) k ≡ option_map f (slice_get xs k)
get_mapped f [] k = refl
get_mapped f (x ∷ xs) zero = refl
get_mapped f (x ∷ xs) (suc k) = get_mapped f xs k

not_waiting : (p : ReleaseStatus) (a : Activity) → activity_in p ≡ Some a → is_waiting p ≡ false
unfolding activity_in is_waiting
not_waiting Waits a e = absurd (cc (e))
not_waiting (Started b) a e = refl
not_waiting Ended a e = absurd (cc (e))
not_waiting Dropped a e = absurd (cc (e))

started_stays : (r : Release) (a : Activity) → activity_in r.status ≡ Some a → dropped_release r ≡ r
unfolding dropped_release
started_stays r a e =
    ap (λ (t : Bool). if t then record r { status = Dropped } else r) (not_waiting r.status a e)

module _ (code : Code) (facts : Facts code) (s : State) (job : Job) (activity : Activity)
    (is : activity_of s job ≡ Some activity) (base : List ℕ) (f : Frame) (below : List Frame)
    (is_list : activity.areas ≡ list_of base (f ∷ below)) (c : ℕ) (sig : Signature)
    (m : ActsHere code s.areas s.objects s.statics base f below c sig) (position : Position) where
  abbrev Result : Option Step → Type 0
  Result o = KeepsItsJob code s job activity base f below o

  abbrev Asks : Effect → Type 0
  Asks e = EffectFine code (look (λ a. slice_get s.areas a) s.objects) (list_of base (f ∷ below)) c sig f e

  abbrev Kept : Effect → Type 0
  Kept e = Result (applied code s job activity below position e)

  faults : (fault : RunFault) → Result (Some (fault_in s job activity position fault))
  faults fault = faults_so code facts s job activity is base f below is_list c sig m position fault

  module _ (h : Frame)
      (goes : GoesOn code (look (λ a. slice_get s.areas a) s.objects) (list_of base (f ∷ below)) c sig f h None) where
    -- the state in which the frame has gone on
    abbrev t : State
    t = with_frame s job activity h below

    goes_on : JobGoesOn code s job base f below t
    goes_on =
        stands_with code facts s job activity is base f below is_list c sig m position s refl h goes.same
        (goes_keeps code facts s.areas s.objects s.statics base f below c sig m h goes)

    registry_is : t.registry ≡ s.registry
    registry_is = registry_stays s job (record activity { frames = h ∷ below })

    -- and a state that differs in nothing that the job has
    result : (u : State) → DiffersInRequests t u →
        ((a : Activity) → activity_of t job ≡ Some a → activity_of u job ≡ Some a) →
        RegistryIsKept code s (list_of base (f ∷ below)) u →
        (events : List Event) → Result (Some (reporting u events))
    result u only act registry events =
        record {
          step = _;
          is = refl;
          either = inl (goes_still code s t u job base f below only act goes_on);
          registry = registry;
        }

    so : (events : List Event) → Result (Some (reporting t events))
    so events = result t refl (λ a e. e) (inl registry_is) events

    pub registration_kept : (r : ℕ) → RegistrationFine code.program (look (λ a. slice_get s.areas a) s.objects)
        (list_of base (f ∷ below)) r →
        Kept (AsksRegistration h r)
    unfolding applied registered
    registration_kept r x = go (object_at s r) refl
      where
        by_state : (o : Object) → object_at s r ≡ Some o → (a b d : Bool) → Result (Some
            (if a then fault_in s job activity position NotInitializing
            else (if b then silently t
            else (if d then fault_in s job activity position TooManyHandlers
            else (let row = new_row code.program r o in
            reporting (record t { registry = t.registry ++ row ∷ [] })
            (Register s.unit (length s.registry + 1) (class_name code o.class) row.priority ∷ []))))))
        by_state o found true b d = faults NotInitializing
        by_state o found false true d = so []
        by_state o found false false true = faults TooManyHandlers
        by_state o found false false false =
            let same : x.there.object ≡ o = some_inj x.there.object o (sym x.there.found ∙ found) in
            result (record t { registry = t.registry ++ new_row code.program r o ∷ [] }) refl
            (λ a e. activity_kept t _ job a refl (λ n q b there has. there) e)
            (inr (record {
              r = r;
              fine = record {
                there = record {
                  object = o;
                  found = found;
                  on_list =
                      subst (λ (q : Object). is_among q.area (list_of base (f ∷ below)) ≡ true) same x.there.on_list;
                };
                is_handler = ap (λ (q : Object). is_handler code.program q.class) (sym same) ∙ x.is_handler;
              };
              is = ap (λ rows. rows ++ new_row code.program r o ∷ []) registry_is;
            })) _

        go : (o : Option Object) → object_at s r ≡ o →
            Result (option_map (λ (o : Object). registered code s job activity position r o t) o)
        go None e = absurd (let z = x.there.found in cc (e, z))
        go (Some o) e =
            by_state o e (not (is_init s.phase)) (is_some (handler_number s.registry r))
            (not (nat_lt (length s.registry) most_handlers))

    pub release_kept : (r : ℕ) → Kept (AsksRelease h r)
    unfolding applied released release_taken
    release_kept r = by_state (takes_releases t) (handler_number t.registry r)
      where
        taken : (release : Release) (events : List Event) →
            Result (Some (reporting (record t { releases = t.releases ++ release ∷ [] }) events))
        taken release events =
            result (record t { releases = t.releases ++ release ∷ [] }) refl
            (λ a e. activity_kept t _ job a refl (λ n q b there has. get_left t.releases (release ∷ []) n q there) e)
            (inl registry_is) events

        by_room : (handler : ℕ) (full : Bool) → Result (Some
            (if full then reporting t (Lost t.unit handler ∷ [])
            else (let number = length (releases_of t handler) + 1 in
            let taken : Release = record { handler = handler; number = number; status = Waits } in
            reporting (record t { releases = t.releases ++ taken ∷ [] }) (Arrive t.unit handler number ∷ []))))
        by_room handler true = so (Lost t.unit handler ∷ [])
        by_room handler false =
            taken (record { handler = handler; number = length (releases_of t handler) + 1; status = Waits })
            (Arrive t.unit handler (length (releases_of t handler) + 1) ∷ [])

        by_state : (b : Bool) (o : Option ℕ) → Result (Some
            (if b then (elim o [ None ↦ silently t | Some handler ↦ release_taken t handler ]) else silently t))
        by_state false o = so []
        by_state true None = so []
        by_state true (Some handler) = by_room handler (not (nat_lt (length (waiting_of t handler)) most_waiting))

    pub termination_kept : (r : ℕ) → Kept (AsksTermination h r)
    unfolding applied termination_asked termination
    termination_kept r = by_state (asks_for_end t.mission t.phase t.is_end_asked r) (is_exec t.phase)
      where
        by_state : (b d : Bool) → Result (Some
            (if b then (if d then reporting (record t { is_end_asked = true; releases = map dropped_release t.releases })
            (Terminate t.unit ∷ report_dropped t)
            else silently (record t { is_end_asked = true })) else silently t))
        by_state false d = so []
        by_state true false =
            result (record t { is_end_asked = true }) refl
            (λ a e. activity_kept t _ job a refl (λ n q b there has. there) e) (inl registry_is) []
        by_state true true =
            result (record t { is_end_asked = true; releases = map dropped_release t.releases }) refl
            (λ a e. activity_kept t _ job a refl (λ n q b there has.
            get_mapped dropped_release t.releases n
            ∙ (ap (option_map dropped_release) there ∙ ap (λ z. Some z) (started_stays q b has))) e)
            (inl registry_is) (Terminate t.unit ∷ report_dropped t)

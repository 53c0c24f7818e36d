-- The areas of a run, by the scopes for which they were opened, and the store: each step keeps what holds of all of them.
-- as it was.
use Rattle.std.specs.Prelude.{Option, Some, None, slice_get, slice_set, if◌then◌else◌, not, nat_lt, is_some, option_map, map, unwrap_or}
use Rattle.std.proofs.Common.{◌≡◌, inl, inr, ℕ, ◌+◌, List, [], ◌∷◌, ◌++◌, length, Bool, true, false, ◌==◌, refl, sym, ◌∙◌, ap, subst, arith}
use Rattle.std.proofs.lemmas.Bool.Decides.{nat_tests}
use Rattle.scj_base.specs.declared.faults.RunFault.{RunFault}
use Rattle.scj_base.specs.declared.faults.RunFault.TheVariants.{MemoryFull, StoreFull, DepthFull, CeilingViolation, ScopedCycle, NotInitializing, TooManyHandlers}
use Rattle.scj_base.specs.declared.positions.Position.{Position}
use Rattle.scj_base.specs.declared.values.Value.{Value}
use Rattle.scj_base.specs.declared.values.Value.TheVariants.{At}
use Rattle.accepted_laws.proofs.Lists.{get_either}
use Rattle.accepted_laws.proofs.Tools.{some_inj}
use Rattle.scj_model.specs.declared.events.Event.TheVariants.{Register, Arrive, Lost, Terminate}
use Rattle.scj_model.specs.Code.{Code}
use Rattle.scj_model.specs.State.{MemoryArea, Object, Frame, Activity, Release, Waits, Job, TheSequencer, ReleaseAt, Ended, is_exec, is_init, object_at, State, area_at, changed, with_activity, with_status}
use Rattle.scj_model.specs.Memory.{has_room, has_store_for, with_object, with_area, with_slot, closed, area_with_scope}
use Rattle.scj_model.specs.Steps.{Step, reporting, silently, fault_in, closed_all, allocating, opening, job_ended, then_do}
use Rattle.scj_model.specs.Effects.{Effect, Goes, Prints, Makes, Stores, StoresStatic, SetsHidden, SetsCeiling, Calls, Opens, Leaves, AsksRegistration, AsksRelease, AsksTermination, Faults, Stuck}
use Rattle.scj_model.specs.Registry.{handler_number, most_handlers, new_row}
use Rattle.scj_model.specs.Apply.{applied, called, opened_in, frame_left, returned, is_full, ceiling_entered, report_priority, class_name, registered, with_frame, with_first, with_ceiling, without, released, release_taken, releases_of, waiting_of, most_waiting, takes_releases, termination, termination_asked, asks_for_end, dropped_release, report_dropped, is_sequencer}
use Rattle.frame_sound.proofs.Changes.{changed_at, changed_off}

-- the store is so large, and this holds of the scope and the bytes of each area
module _ (Q : ℕ → ℕ → Type 0) (store : ℕ) where
  pub record Has (s : State) : Type 0 where
    pub is_store : s.store ≡ store
    pub areas : (a : ℕ) (x : MemoryArea) → area_at s a ≡ Some x → Q x.scope x.bytes

  pub still : (s t : State) → t.areas ≡ s.areas → t.store ≡ s.store → Has s → Has t
  still s t areas same h = record {
    is_store = same ∙ h.is_store;
    areas = λ a x there. h.areas a x (sym (ap (λ (xs : List MemoryArea). slice_get xs a) areas) ∙ there);
  }

  pub acts_on : (s : State) (job : Job) (a : Activity) → Has s → Has (with_activity s job a)
  unfolding with_activity
  acts_on s TheSequencer a h = still s (record s { activity = a }) refl refl h
  acts_on s (ReleaseAt index) a h = still s (with_activity s (ReleaseAt index) a) refl refl h

  -- one more area
  last_is : (xs : List MemoryArea) (x : MemoryArea) → ((a : ℕ) (y : MemoryArea) → slice_get xs a ≡ Some y → Q y.scope y.bytes) →
      Q x.scope x.bytes → (a : ℕ) (y : MemoryArea) → slice_get (xs ++ x ∷ []) a ≡ Some y → Q y.scope y.bytes
  last_is xs x h q a y there =
      elim (get_either xs x a y there) as (λ z. Q y.scope y.bytes) [
        | inl old ↦ h a y old
        | inr same ↦ subst (λ (z : MemoryArea). Q z.scope z.bytes) same q
      ]

  pub opened_more : (s : State) (scope : ℕ) (parent : Option ℕ) (bytes : ℕ) → Q scope bytes → Has s →
      Has (with_area s scope parent bytes)
  opened_more s scope parent bytes q h = record {
    is_store = h.is_store;
    areas = last_is s.areas (record { scope = scope; parent = parent; bytes = bytes; is_open = true }) h.areas q;
  }

  -- ---- areas that are closed

  shut_at : (n : ℕ) (xs : List MemoryArea) → ((a : ℕ) (y : MemoryArea) → slice_get xs a ≡ Some y → Q y.scope y.bytes) →
      (a : ℕ) (y : MemoryArea) → slice_get (changed (λ (z : MemoryArea). record z { is_open = false }) n xs) a ≡ Some y →
      Q y.scope y.bytes
  shut_at n xs h a y there = of (n == a) refl
    where
      of : (c : Bool) → (n == a) ≡ c → Q y.scope y.bytes
      of false e =
          (let other : n ≡ a → ⊥ = grind (arith, nat_tests) in
          h a y (sym (changed_off (λ (z : MemoryArea). record z { is_open = false }) n xs a other) ∙ there))
      of true e = (let same : n ≡ a = grind (arith, nat_tests) in here same (slice_get xs n) refl)
        where
          here : n ≡ a → (o : Option MemoryArea) → slice_get xs n ≡ o → Q y.scope y.bytes
          here same None none =
              h a y
              (sym (ap (λ (zs : List MemoryArea). slice_get zs a) (ap (λ (o : Option MemoryArea).
              elim o as (λ z. List MemoryArea) [ None ↦ xs | Some z ↦ slice_set xs n (record z { is_open = false }) ]) none))
              ∙ there)
          here same (Some x) found =
              (let is : record x { is_open = false } ≡ y =
              some_inj (record x { is_open = false }) y
              (sym (changed_at (λ (z : MemoryArea). record z { is_open = false }) n xs x found)
              ∙ (ap (λ k. slice_get (changed (λ (z : MemoryArea). record z { is_open = false }) n xs) k) same ∙ there)) in
              subst (λ (z : MemoryArea). Q z.scope z.bytes) is (h n x found))

  pub one_closed : (s : State) (o : Option ℕ) → Has s → Has (closed s o)
  unfolding closed
  one_closed s None h = h
  one_closed s (Some n) h = record { is_store = h.is_store; areas = shut_at n s.areas h.areas }

  pub all_closed : (frames : List Frame) (s : State) → Has s → Has (closed_all s frames)
  unfolding closed_all
  all_closed [] s h = h
  all_closed (f ∷ fs) s h = all_closed fs (closed s f.opened) (one_closed s f.opened h)

  pub faulted : (s : State) (job : Job) (activity : Activity) (pos : Position) (fault : RunFault) → Has s →
      Has (fault_in s job activity pos fault).state
  unfolding fault_in
  faulted s TheSequencer activity pos fault h =
      still s (fault_in s TheSequencer activity pos fault).state refl refl h
  faulted s (ReleaseAt n) activity pos fault h =
      still (closed_all s activity.frames) (with_status (closed_all s activity.frames) n Ended) refl refl
      (all_closed activity.frames s h)

  job_left : (s : State) (job : Job) (activity : Activity) (value : Option Value) → Has s →
      Has (job_ended s job activity value).state
  unfolding job_ended
  job_left s TheSequencer activity value h = still s (job_ended s TheSequencer activity value).state refl refl h
  job_left s (ReleaseAt n) activity value h = still s (with_status s n Ended) refl refl h

  pub taken : (u : State) (handler : ℕ) → Has u → Has (release_taken u handler).state
  unfolding release_taken
  taken u handler h = of (not (nat_lt (length (waiting_of u handler)) most_waiting))
    where
      new : Release
      new = record { handler = handler; number = length (releases_of u handler) + 1; status = Waits }

      of : (c : Bool) → Has (if c then reporting u (Lost u.unit handler ∷ [])
          else (let number = length (releases_of u handler) + 1 in
          let new : Release = record { handler = handler; number = number; status = Waits } in
          reporting (record u { releases = u.releases ++ new ∷ [] }) (Arrive u.unit handler number ∷ []))).state
      of true = h
      of false = still u (record u { releases = u.releases ++ new ∷ [] }) refl refl h

  releases : (u : State) (r : ℕ) → Has u → Has (released u r).state
  unfolding released
  releases u r h = of (takes_releases u) (handler_number u.registry r)
    where
      of : (c : Bool) (o : Option ℕ) → Has
          (if c then (elim o [ None ↦ silently u | Some handler ↦ release_taken u handler ]) else silently u).state
      of true None = h
      of true (Some handler) = taken u handler h
      of false o = h

  terminates : (u : State) (r : ℕ) → Has u → Has (termination_asked u r).state
  unfolding termination_asked termination
  terminates u r h = of (asks_for_end u.mission u.phase u.is_end_asked r) (is_exec u.phase)
    where
      of : (c d : Bool) → Has
          (if c then (if d then reporting (record u { is_end_asked = true; releases = map dropped_release u.releases })
          (Terminate u.unit ∷ report_dropped u)
          else silently (record u { is_end_asked = true })) else silently u).state
      of true true = still u (record u { is_end_asked = true; releases = map dropped_release u.releases }) refl refl h
      of true false = still u (record u { is_end_asked = true }) refl refl h
      of false d = h

  module _ (code : Code) (s : State) (job : Job) (activity : Activity) (pos : Position) (below : List Frame) (held : Has s)
    where
      abbrev Spared : Step → Type 0
      Spared step = Has step.state

      framed : (t : State) (h : Frame) → Has t → Has (with_frame t job activity h below)
      framed t h a = acts_on t job (record activity { frames = h ∷ below }) a

      plain : (h : Frame) → Has (with_frame s job activity h below)
      plain h = framed s h held

      fails : (fault : RunFault) → Spared (fault_in s job activity pos fault)
      fails fault = faulted s job activity pos fault held

      made : (h : Frame) (class : ℕ) (slots : List Value) →
          Spared (allocating s job activity pos class h.area slots (λ t r.
          silently (with_frame t job activity (record h { operands = At r ∷ h.operands }) below)))
      unfolding allocating
      made h class slots = of (has_room s h.area (length slots))
        where
          of : (c : Bool) → Spared (if c then silently (with_frame (with_object s class h.area slots) job activity
              (record h { operands = At (length s.objects) ∷ h.operands }) below)
              else fault_in s job activity pos MemoryFull)
          of true =
              framed (with_object s class h.area slots) (record h { operands = At (length s.objects) ∷ h.operands })
              (still s (with_object s class h.area slots) refl refl held)
          of false = fails MemoryFull

      calls : (h g : Frame) → Spared (called code s job activity (h ∷ below) pos g)
      unfolding called
      calls h g = full (is_full (h ∷ below))
        where
          lower : (ceiling : ℕ) (t : Bool) → Spared
              (if t then fault_in s job activity pos CeilingViolation
              else reporting
              (with_activity s job (record activity {
                frames = record g { saved = Some activity.priority } ∷ (h ∷ below);
                priority = ceiling;
              }))
              (report_priority s job activity.priority ceiling))
          lower ceiling true = fails CeilingViolation
          lower ceiling false =
              acts_on s job (record activity {
                frames = record g { saved = Some activity.priority } ∷ (h ∷ below);
                priority = ceiling;
              }) held

          inside : (o : Option ℕ) → Spared (elim o [
            | None ↦ silently (with_activity s job (record activity { frames = g ∷ (h ∷ below) }))
            | Some ceiling ↦
                if nat_lt ceiling activity.priority then fault_in s job activity pos CeilingViolation
                else reporting
                (with_activity s job (record activity {
                  frames = record g { saved = Some activity.priority } ∷ (h ∷ below);
                  priority = ceiling;
                }))
                (report_priority s job activity.priority ceiling)
          ])
          inside None = acts_on s job (record activity { frames = g ∷ (h ∷ below) }) held
          inside (Some ceiling) = lower ceiling (nat_lt ceiling activity.priority)

          full : (t : Bool) → Spared
              (if t then fault_in s job activity pos DepthFull
              else (elim (ceiling_entered code s g) [
                | None ↦ silently (with_activity s job (record activity { frames = g ∷ (h ∷ below) }))
                | Some ceiling ↦
                    if nat_lt ceiling activity.priority then fault_in s job activity pos CeilingViolation
                    else reporting
                    (with_activity s job (record activity {
                      frames = record g { saved = Some activity.priority } ∷ (h ∷ below);
                      priority = ceiling;
                    }))
                    (report_priority s job activity.priority ceiling)
              ]))
          full true = fails DepthFull
          full false = inside (ceiling_entered code s g)

      opens : (h g : Frame) (scope bytes : ℕ) → Q scope bytes → Spared (opened_in s job activity (h ∷ below) pos g scope bytes)
      unfolding opened_in opening
      opens h g scope bytes q = cycle (is_some (area_with_scope s scope activity.areas))
        where
          t : State
          t = with_area s scope (Some g.area) bytes

          next : Activity
          next = record activity {
            frames = record g { area = length s.areas; opened = Some (length s.areas) } ∷ (h ∷ below);
            areas = length s.areas ∷ activity.areas;
          }

          stored : (c : Bool) → Spared (if c then silently (with_activity t job next) else fault_in s job activity pos StoreFull)
          stored true = acts_on t job next (opened_more s scope (Some g.area) bytes q held)
          stored false = fails StoreFull

          full : (c : Bool) → Spared
              (if c then fault_in s job activity pos DepthFull
              else (if has_store_for s bytes then silently (with_activity t job next)
              else fault_in s job activity pos StoreFull))
          full true = fails DepthFull
          full false = stored (has_store_for s bytes)

          cycle : (c : Bool) → Spared
              (if c then fault_in s job activity pos ScopedCycle
              else (if is_full (h ∷ below) then fault_in s job activity pos DepthFull
              else (if has_store_for s bytes then silently (with_activity t job next)
              else fault_in s job activity pos StoreFull)))
          cycle true = fails ScopedCycle
          cycle false = full (is_full (h ∷ below))

      leaves : (h : Frame) (value : Option Value) → Spared (frame_left s job activity h below value)
      unfolding frame_left
      leaves h value = of below
        where
          t : State
          t = closed s h.opened

          after : Activity
          after = record activity {
            frames = returned value below;
            areas = without h.opened activity.areas;
            priority = unwrap_or h.saved activity.priority;
          }

          shut : Has t
          shut = one_closed s h.opened held

          of : (fs : List Frame) → Spared
              (then_do (reporting t (report_priority s job activity.priority (unwrap_or h.saved activity.priority)))
              (λ u. elim fs [ [] ↦ job_ended u job after value | g ∷ gs ↦ silently (with_activity u job after) ]))
          of [] = job_left t job after value shut
          of (g ∷ gs) = acts_on t job after shut

      -- ---- requests

      registers : (h : Frame) (r : ℕ) (o : Object) →
          Spared (registered code s job activity pos r o (with_frame s job activity h below))
      unfolding registered
      registers h r o = of (not (is_init s.phase)) (is_some (handler_number s.registry r))
          (not (nat_lt (length s.registry) most_handlers))
        where
          after : State
          after = with_frame s job activity h below

          of : (a b c : Bool) → Spared
              (if a then fault_in s job activity pos NotInitializing
              else (if b then silently after
              else (if c then fault_in s job activity pos TooManyHandlers
              else (let row = new_row code.program r o in
              reporting (record after { registry = after.registry ++ row ∷ [] })
              (Register s.unit (length s.registry + 1) (class_name code o.class) row.priority ∷ [])))))
          of true b c = fails NotInitializing
          of false true c = plain h
          of false false true = fails TooManyHandlers
          of false false false =
              still after (record after { registry = after.registry ++ new_row code.program r o ∷ [] }) refl refl (plain h)

      -- ---- all of them

      pub effect_has : (e : Effect) → ((h g : Frame) (scope bytes : ℕ) → e ≡ Opens h g scope bytes → Q scope bytes) →
          (step : Step) → applied code s job activity below pos e ≡ Some step → Has step.state
      unfolding applied
      effect_has (Goes h) k step q = subst Spared (some_inj _ step q) (plain h)
      effect_has (Prints h label value) k step q = subst Spared (some_inj _ step q) (plain h)
      effect_has (Makes h class slots) k step q = subst Spared (some_inj _ step q) (made h class slots)
      effect_has (Stores h r slot v) k step q =
          subst Spared (some_inj _ step q) (framed (with_slot s r slot v) h (still s (with_slot s r slot v) refl refl held))
      effect_has (StoresStatic h n v) k step q =
          subst Spared (some_inj _ step q)
          (framed (record s { statics = slice_set s.statics n v }) h
          (still s (record s { statics = slice_set s.statics n v }) refl refl held))
      effect_has (SetsHidden h r values) k step q =
          subst Spared (some_inj _ step q)
          (framed (record s { objects = changed (with_first values) r s.objects }) h
          (still s (record s { objects = changed (with_first values) r s.objects }) refl refl held))
      effect_has (SetsCeiling h r ceiling) k step q = of (is_sequencer job) q
        where
          t : State
          t = record s { objects = changed (with_ceiling ceiling) r s.objects }

          of : (b : Bool) → (if b then Some (silently (with_frame t job activity h below))
              else Some (fault_in s job activity pos NotInitializing)) ≡ Some step → Spared step
          of true e =
              subst Spared (some_inj (silently (with_frame t job activity h below)) step e)
              (framed t h (still s t refl refl held))
          of false e = subst Spared (some_inj (fault_in s job activity pos NotInitializing) step e) (fails NotInitializing)
      effect_has (Calls h g) k step q = subst Spared (some_inj _ step q) (calls h g)
      effect_has (Opens h g scope bytes) k step q =
          subst Spared (some_inj _ step q) (opens h g scope bytes (k h g scope bytes refl))
      effect_has (Leaves h v) k step q = subst Spared (some_inj _ step q) (leaves h v)
      effect_has (AsksRegistration h r) k step q = of (object_at s r) q
        where
          of : (o : Option Object) → option_map
              (λ (x : Object). registered code s job activity pos r x (with_frame s job activity h below)) o ≡ Some step →
              Spared step
          of None e = absurd (cc (e))
          of (Some x) e = subst Spared (some_inj _ step e) (registers h r x)
      effect_has (AsksRelease h r) k step q =
          subst Spared (some_inj _ step q) (releases (with_frame s job activity h below) r (plain h))
      effect_has (AsksTermination h r) k step q =
          subst Spared (some_inj _ step q) (terminates (with_frame s job activity h below) r (plain h))
      effect_has (Faults fault) k step q = subst Spared (some_inj _ step q) (fails fault)
      effect_has Stuck k step q = absurd (cc (q))

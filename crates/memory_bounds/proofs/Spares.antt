-- What an operation of any job does to memory: only into the area of its frame objects are put, and each area is as large
-- as it was.
use Rattle.std.specs.Prelude.{Option, Some, None, slice_get, slice_set, if◌then◌else◌, not, nat_lt, is_some, drop, option_map, map, unwrap_or}
use Rattle.std.proofs.Common.{◌≡◌, ℕ, ◌+◌, ◌≤◌, List, [], ◌∷◌, ◌++◌, length, Bool, true, false, ◌==◌, refl, sym, ◌∙◌, ap, subst, arith}
use Rattle.std.proofs.lemmas.Bool.Decides.{nat_tests}
use Rattle.std.proofs.lemmas.List.{length-append, length-drop}
use Rattle.scj_base.specs.declared.faults.RunFault.{RunFault}
use Rattle.scj_base.specs.declared.faults.RunFault.TheVariants.{MemoryFull, StoreFull, DepthFull, CeilingViolation, ScopedCycle, NotInitializing, TooManyHandlers}
use Rattle.scj_base.specs.declared.positions.Position.{Position}
use Rattle.scj_base.specs.declared.values.Value.{Value}
use Rattle.scj_base.specs.declared.values.Value.TheVariants.{At}
use Rattle.scj_rules.specs.Layout.{size_with_slots}
use Rattle.accepted_laws.proofs.Lists.{get_left, length_set}
use Rattle.accepted_laws.proofs.Tools.{some_inj}
use Rattle.scj_model.specs.declared.events.Event.TheVariants.{Register, Arrive, Lost, Terminate}
use Rattle.scj_model.specs.Code.{Code}
use Rattle.scj_model.specs.State.{MemoryArea, Object, Frame, Activity, Release, Waits, Job, TheSequencer, ReleaseAt, Ended, is_exec, is_init, object_at, State, area_at, changed, with_activity, with_status}
use Rattle.scj_model.specs.Memory.{used, has_room, has_store_for, with_object, with_area, with_slot, closed, area_with_scope}
use Rattle.scj_model.specs.Steps.{Step, reporting, silently, fault_in, closed_all, allocating, opening, job_ended, then_do}
use Rattle.scj_model.specs.Effects.{Effect, Goes, Prints, Makes, Stores, StoresStatic, SetsHidden, SetsCeiling, Calls, Opens, Leaves, AsksRegistration, AsksRelease, AsksTermination, Faults, Stuck}
use Rattle.scj_model.specs.Registry.{handler_number, most_handlers, new_row}
use Rattle.scj_model.specs.Apply.{applied, called, opened_in, frame_left, returned, is_full, ceiling_entered, report_priority, class_name, registered, with_frame, with_first, with_ceiling, without, released, release_taken, releases_of, waiting_of, most_waiting, takes_releases, termination, termination_asked, asks_for_end, dropped_release, report_dropped, is_sequencer}
use Rattle.frame_sound.proofs.Changes.{changed_at, changed_off}
use Rattle.memory_needs.specs.Need.{Table}
use Rattle.memory_bounds.proofs.Applied.{used_of, one_more}
use Rattle.memory_bounds.proofs.Others.{used_changed}

-- away from the area `now` nothing more is in use, and areas are as large as before
pub record Spares (s t : State) (now : ℕ) : Type 0 where
  pub in_use : (a : ℕ) → (a ≡ now → ⊥) → used t a ≤ used s a
  pub areas : (a : ℕ) (x : MemoryArea) → area_at s a ≡ Some x →
      (y : MemoryArea) × (area_at t a ≡ Some y) × (y.bytes ≡ x.bytes)

pub still : (s t : State) (now : ℕ) → t.objects ≡ s.objects → t.areas ≡ s.areas → Spares s t now
unfolding used
still s t now objects areas =
    record {
      in_use = λ a h. (let e : used t a ≡ used s a = ap (λ (xs : List Object). used_of xs a) objects in omega (arith, e));
      areas = λ a x there. (x, ap (λ (xs : List MemoryArea). slice_get xs a) areas ∙ there, refl);
    }

pub then_spares : (s t u : State) (now : ℕ) → Spares s t now → Spares t u now → Spares s u now
then_spares s t u now a b =
    record {
      in_use = λ n h. (let x = a.in_use n h in let y = b.in_use n h in omega (arith, x, y));
      areas = λ n x there. (let y = a.areas n x there in
          let z = b.areas n y.0 y.1 in
          (z.0, z.1, z.2 ∙ y.2));
    }

pub acts_on : (s : State) (job : Job) (a : Activity) (now : ℕ) → Spares s (with_activity s job a) now
unfolding with_activity
acts_on s TheSequencer a now = still s (record s { activity = a }) now refl refl
acts_on s (ReleaseAt index) a now = still s (with_activity s (ReleaseAt index) a) now refl refl

-- other objects at their places, of the same size
objects_changed : (s : State) (f : Object → Object) (r now : ℕ) →
    ((x : Object) → slice_get s.objects r ≡ Some x → ((f x).area ≡ x.area) × (length (f x).slots ≡ length x.slots)) →
    Spares s (record s { objects = changed f r s.objects }) now
unfolding used
objects_changed s f r now keeps =
    record {
      in_use = λ a h. (let e = used_changed f r s.objects a keeps in omega (arith, e));
      areas = λ a x there. (x, there, refl);
    }

-- ---- areas that are closed

area_closed : (s : State) (o : Option ℕ) (a : ℕ) (y : MemoryArea) → area_at s a ≡ Some y →
    (z : MemoryArea) × (area_at (closed s o) a ≡ Some z) × (z.bytes ≡ y.bytes)
unfolding closed
area_closed s None a y there = (y, there, refl)
area_closed s (Some n) a y there = of (n == a) refl
  where
    of : (c : Bool) → (n == a) ≡ c →
        (z : MemoryArea) × (slice_get (changed (λ (z : MemoryArea). record z { is_open = false }) n s.areas) a ≡ Some z)
        × (z.bytes ≡ y.bytes)
    of true e =
        let same : n ≡ a = grind (arith, nat_tests) in (
          record y { is_open = false },
          subst (λ (k : ℕ). slice_get (changed (λ (z : MemoryArea). record z { is_open = false }) n s.areas) k
              ≡ Some (record y { is_open = false })) same
              (changed_at (λ (z : MemoryArea). record z { is_open = false }) n s.areas y
              (subst (λ (k : ℕ). area_at s k ≡ Some y) (sym same) there)),
          refl,
        )
    of false e =
        let other : n ≡ a → ⊥ = grind (arith, nat_tests) in
        (y, changed_off (λ (z : MemoryArea). record z { is_open = false }) n s.areas a other ∙ there, refl)

objects_closed : (s : State) (o : Option ℕ) → (closed s o).objects ≡ s.objects
unfolding closed
objects_closed s None = refl
objects_closed s (Some n) = refl

pub one_closed : (s : State) (o : Option ℕ) (now : ℕ) → Spares s (closed s o) now
unfolding used
one_closed s o now =
    record {
      in_use = λ a h. (let e : used (closed s o) a ≡ used s a =
          ap (λ (xs : List Object). used_of xs a) (objects_closed s o) in omega (arith, e));
      areas = area_closed s o;
    }

pub all_closed : (frames : List Frame) (s : State) (now : ℕ) → Spares s (closed_all s frames) now
unfolding closed_all
all_closed [] s now = still s s now refl refl
all_closed (f ∷ fs) s now =
    then_spares s (closed s f.opened) (closed_all (closed s f.opened) fs) now (one_closed s f.opened now)
    (all_closed fs (closed s f.opened) now)

pub faulted : (s : State) (job : Job) (activity : Activity) (pos : Position) (fault : RunFault) (now : ℕ) →
    Spares s (fault_in s job activity pos fault).state now
unfolding fault_in
faulted s TheSequencer activity pos fault now = still s (fault_in s TheSequencer activity pos fault).state now refl refl
faulted s (ReleaseAt n) activity pos fault now =
    then_spares s (closed_all s activity.frames) (with_status (closed_all s activity.frames) n Ended) now
    (all_closed activity.frames s now)
    (still (closed_all s activity.frames) (with_status (closed_all s activity.frames) n Ended) now refl refl)

job_left : (s : State) (job : Job) (activity : Activity) (value : Option Value) (now : ℕ) →
    Spares s (job_ended s job activity value).state now
unfolding job_ended
job_left s TheSequencer activity value now = still s (job_ended s TheSequencer activity value).state now refl refl
job_left s (ReleaseAt n) activity value now = still s (with_status s n Ended) now refl refl

-- ---- all effects

-- a new object is put into the area, and hidden fields that are set are there
pub record PutsInto (s : State) (now : ℕ) (e : Effect) : Type 0 where
  pub makes : (h : Frame) (class : ℕ) (values : List Value) → e ≡ Makes h class values → h.area ≡ now
  pub hidden : (h : Frame) (r : ℕ) (values : List Value) → e ≡ SetsHidden h r values → (o : Object) →
      slice_get s.objects r ≡ Some o → length values ≤ length o.slots

module _ (code : Code) (table : Table) (s : State) (job : Job) (activity : Activity) (pos : Position) (below : List Frame)
    (now : ℕ) where
  abbrev Spared : Step → Type 0
  Spared step = Spares s step.state now

  framed : (t : State) (h : Frame) → Spares s t now → Spares s (with_frame t job activity h below) now
  framed t h a =
      then_spares s t (with_frame t job activity h below) now a
      (acts_on t job (record activity { frames = h ∷ below }) now)

  plain : (h : Frame) → Spares s (with_frame s job activity h below) now
  plain h = framed s h (still s s now refl refl)

  fails : (fault : RunFault) → Spared (fault_in s job activity pos fault)
  fails fault = faulted s job activity pos fault now

  made : (h : Frame) (class : ℕ) (slots : List Value) → h.area ≡ now →
      Spared (allocating s job activity pos class h.area slots (λ t r.
      silently (with_frame t job activity (record h { operands = At r ∷ h.operands }) below)))
  unfolding allocating
  made h class slots here = of (has_room s h.area (length slots))
    where
      t : State
      t = with_object s class h.area slots

      away : (a : ℕ) → (a ≡ now → ⊥) → used t a ≤ used s a
      away a other =
          let e : (h.area == a) ≡ false = apart (h.area == a) refl in
          let m = subst (λ (b : Bool). used t a ≤ used s a + (if b then size_with_slots (length slots) else 0)) e
          (one_more code table s class h.area slots a) in
          omega (arith, m)
        where
          apart : (b : Bool) → (h.area == a) ≡ b → (h.area == a) ≡ false
          apart true e = absurd (let same : h.area ≡ a = grind (arith, nat_tests) in other (sym same ∙ here))
          apart false e = e

      of : (c : Bool) → Spared (if c then silently (with_frame t job activity
          (record h { operands = At (length s.objects) ∷ h.operands }) below)
          else fault_in s job activity pos MemoryFull)
      of true =
          framed t (record h { operands = At (length s.objects) ∷ h.operands })
          (record { in_use = away; areas = λ a x there. (x, there, refl) })
      of false = fails MemoryFull

  calls : (h g : Frame) → Spared (called code s job activity (h ∷ below) pos g)
  unfolding called
  calls h g = full (is_full (h ∷ below))
    where
      lower : (ceiling : ℕ) (t : Bool) → Spared
          (if t then fault_in s job activity pos CeilingViolation
          else reporting
          (with_activity s job (record activity {
            frames = record g { saved = Some activity.priority } ∷ (h ∷ below);
            priority = ceiling;
          }))
          (report_priority s job activity.priority ceiling))
      lower ceiling true = fails CeilingViolation
      lower ceiling false =
          acts_on s job (record activity {
            frames = record g { saved = Some activity.priority } ∷ (h ∷ below);
            priority = ceiling;
          }) now

      inside : (o : Option ℕ) → Spared (elim o [
        | None ↦ silently (with_activity s job (record activity { frames = g ∷ (h ∷ below) }))
        | Some ceiling ↦
            if nat_lt ceiling activity.priority then fault_in s job activity pos CeilingViolation
            else reporting
            (with_activity s job (record activity {
              frames = record g { saved = Some activity.priority } ∷ (h ∷ below);
              priority = ceiling;
            }))
            (report_priority s job activity.priority ceiling)
      ])
      inside None = acts_on s job (record activity { frames = g ∷ (h ∷ below) }) now
      inside (Some ceiling) = lower ceiling (nat_lt ceiling activity.priority)

      full : (t : Bool) → Spared
          (if t then fault_in s job activity pos DepthFull
          else (elim (ceiling_entered code s g) [
            | None ↦ silently (with_activity s job (record activity { frames = g ∷ (h ∷ below) }))
            | Some ceiling ↦
                if nat_lt ceiling activity.priority then fault_in s job activity pos CeilingViolation
                else reporting
                (with_activity s job (record activity {
                  frames = record g { saved = Some activity.priority } ∷ (h ∷ below);
                  priority = ceiling;
                }))
                (report_priority s job activity.priority ceiling)
          ]))
      full true = fails DepthFull
      full false = inside (ceiling_entered code s g)

  opens : (h g : Frame) (scope bytes : ℕ) → Spared (opened_in s job activity (h ∷ below) pos g scope bytes)
  unfolding opened_in opening used
  opens h g scope bytes = cycle (is_some (area_with_scope s scope activity.areas))
    where
      t : State
      t = with_area s scope (Some g.area) bytes

      x : MemoryArea
      x = record { scope = scope; parent = Some g.area; bytes = bytes; is_open = true }

      next : Activity
      next = record activity {
        frames = record g { area = length s.areas; opened = Some (length s.areas) } ∷ (h ∷ below);
        areas = length s.areas ∷ activity.areas;
      }

      more : Spares s t now
      more = record {
        in_use = λ a other. omega arith;
        areas = λ a y there. (y, get_left s.areas (x ∷ []) a y there, refl);
      }

      stored : (c : Bool) → Spared (if c then silently (with_activity t job next) else fault_in s job activity pos StoreFull)
      stored true = then_spares s t (with_activity t job next) now more (acts_on t job next now)
      stored false = fails StoreFull

      full : (c : Bool) → Spared
          (if c then fault_in s job activity pos DepthFull
          else (if has_store_for s bytes then silently (with_activity t job next)
          else fault_in s job activity pos StoreFull))
      full true = fails DepthFull
      full false = stored (has_store_for s bytes)

      cycle : (c : Bool) → Spared
          (if c then fault_in s job activity pos ScopedCycle
          else (if is_full (h ∷ below) then fault_in s job activity pos DepthFull
          else (if has_store_for s bytes then silently (with_activity t job next)
          else fault_in s job activity pos StoreFull)))
      cycle true = fails ScopedCycle
      cycle false = full (is_full (h ∷ below))

  leaves : (h : Frame) (value : Option Value) → Spared (frame_left s job activity h below value)
  unfolding frame_left
  leaves h value = of below
    where
      t : State
      t = closed s h.opened

      after : Activity
      after = record activity {
        frames = returned value below;
        areas = without h.opened activity.areas;
        priority = unwrap_or h.saved activity.priority;
      }

      shut : Spares s t now
      shut = one_closed s h.opened now

      of : (fs : List Frame) → Spared
          (then_do (reporting t (report_priority s job activity.priority (unwrap_or h.saved activity.priority)))
          (λ u. elim fs [ [] ↦ job_ended u job after value | g ∷ gs ↦ silently (with_activity u job after) ]))
      of [] = then_spares s t (job_ended t job after value).state now shut (job_left t job after value now)
      of (g ∷ gs) = then_spares s t (with_activity t job after) now shut (acts_on t job after now)

  -- ---- requests

  registers : (h : Frame) (r : ℕ) (o : Object) →
      Spared (registered code s job activity pos r o (with_frame s job activity h below))
  unfolding registered
  registers h r o = of (not (is_init s.phase)) (is_some (handler_number s.registry r))
      (not (nat_lt (length s.registry) most_handlers))
    where
      after : State
      after = with_frame s job activity h below

      of : (a b c : Bool) → Spared
          (if a then fault_in s job activity pos NotInitializing
          else (if b then silently after
          else (if c then fault_in s job activity pos TooManyHandlers
          else (let row = new_row code.program r o in
          reporting (record after { registry = after.registry ++ row ∷ [] })
          (Register s.unit (length s.registry + 1) (class_name code o.class) row.priority ∷ [])))))
      of true b c = fails NotInitializing
      of false true c = plain h
      of false false true = fails TooManyHandlers
      of false false false =
          then_spares s after (record after { registry = after.registry ++ new_row code.program r o ∷ [] }) now (plain h)
          (still after (record after { registry = after.registry ++ new_row code.program r o ∷ [] }) now refl refl)

  taken : (u : State) (handler : ℕ) → Spares u (release_taken u handler).state now
  unfolding release_taken
  taken u handler = of (not (nat_lt (length (waiting_of u handler)) most_waiting))
    where
      new : Release
      new = record { handler = handler; number = length (releases_of u handler) + 1; status = Waits }

      of : (c : Bool) → Spares u (if c then reporting u (Lost u.unit handler ∷ [])
          else (let number = length (releases_of u handler) + 1 in
          let new : Release = record { handler = handler; number = number; status = Waits } in
          reporting (record u { releases = u.releases ++ new ∷ [] }) (Arrive u.unit handler number ∷ []))).state now
      of true = still u u now refl refl
      of false = still u (record u { releases = u.releases ++ new ∷ [] }) now refl refl

  releases : (u : State) (r : ℕ) → Spares u (released u r).state now
  unfolding released
  releases u r = of (takes_releases u) (handler_number u.registry r)
    where
      of : (c : Bool) (o : Option ℕ) → Spares u
          (if c then (elim o [ None ↦ silently u | Some handler ↦ release_taken u handler ]) else silently u).state now
      of true None = still u u now refl refl
      of true (Some handler) = taken u handler
      of false o = still u u now refl refl

  terminates : (u : State) (r : ℕ) → Spares u (termination_asked u r).state now
  unfolding termination_asked termination
  terminates u r = of (asks_for_end u.mission u.phase u.is_end_asked r) (is_exec u.phase)
    where
      of : (c d : Bool) → Spares u
          (if c then (if d then reporting (record u { is_end_asked = true; releases = map dropped_release u.releases })
          (Terminate u.unit ∷ report_dropped u)
          else silently (record u { is_end_asked = true })) else silently u).state now
      of true true = still u (record u { is_end_asked = true; releases = map dropped_release u.releases }) now refl refl
      of true false = still u (record u { is_end_asked = true }) now refl refl
      of false d = still u u now refl refl

  -- ---- all of them

  pub effect_spares : (e : Effect) → PutsInto s now e → (step : Step) →
      applied code s job activity below pos e ≡ Some step → Spares s step.state now
  unfolding applied
  effect_spares (Goes h) k step q = subst Spared (some_inj _ step q) (plain h)
  effect_spares (Prints h label value) k step q = subst Spared (some_inj _ step q) (plain h)
  effect_spares (Makes h class slots) k step q =
      subst Spared (some_inj _ step q) (made h class slots (k.makes h class slots refl))
  effect_spares (Stores h r slot v) k step q =
      subst Spared (some_inj _ step q)
      (framed (with_slot s r slot v) h
      (objects_changed s (λ o. record o { slots = slice_set o.slots slot v }) r now
      (λ x there. (refl, length_set x.slots slot v))))
  effect_spares (StoresStatic h n v) k step q =
      subst Spared (some_inj _ step q)
      (framed (record s { statics = slice_set s.statics n v }) h
      (still s (record s { statics = slice_set s.statics n v }) now refl refl))
  effect_spares (SetsHidden h r values) k step q =
      subst Spared (some_inj _ step q)
      (framed (record s { objects = changed (with_first values) r s.objects }) h
      (objects_changed s (with_first values) r now
      (λ x there. (
        refl,
        (let l = k.hidden h r values refl x there in
            omega (arith, l, length-append values (drop (length values) x.slots), length-drop (length values) x.slots)),
      ))))
  effect_spares (SetsCeiling h r ceiling) k step q = of (is_sequencer job) q
    where
      t : State
      t = record s { objects = changed (with_ceiling ceiling) r s.objects }

      of : (b : Bool) → (if b then Some (silently (with_frame t job activity h below))
          else Some (fault_in s job activity pos NotInitializing)) ≡ Some step → Spared step
      of true e =
          subst Spared (some_inj (silently (with_frame t job activity h below)) step e)
          (framed t h (objects_changed s (with_ceiling ceiling) r now (λ x there. (refl, refl))))
      of false e = subst Spared (some_inj (fault_in s job activity pos NotInitializing) step e) (fails NotInitializing)
  effect_spares (Calls h g) k step q = subst Spared (some_inj _ step q) (calls h g)
  effect_spares (Opens h g scope bytes) k step q = subst Spared (some_inj _ step q) (opens h g scope bytes)
  effect_spares (Leaves h v) k step q = subst Spared (some_inj _ step q) (leaves h v)
  effect_spares (AsksRegistration h r) k step q = of (object_at s r) q
    where
      of : (o : Option Object) → option_map
          (λ (x : Object). registered code s job activity pos r x (with_frame s job activity h below)) o ≡ Some step →
          Spared step
      of None e = absurd (cc (e))
      of (Some x) e = subst Spared (some_inj _ step e) (registers h r x)
  effect_spares (AsksRelease h r) k step q =
      subst Spared (some_inj _ step q)
      (then_spares s (with_frame s job activity h below) (released (with_frame s job activity h below) r).state now
      (plain h) (releases (with_frame s job activity h below) r))
  effect_spares (AsksTermination h r) k step q =
      subst Spared (some_inj _ step q)
      (then_spares s (with_frame s job activity h below) (termination_asked (with_frame s job activity h below) r).state
      now (plain h) (terminates (with_frame s job activity h below) r))
  effect_spares (Faults fault) k step q = subst Spared (some_inj _ step q) (fails fault)
  effect_spares Stuck k step q = absurd (cc (q))

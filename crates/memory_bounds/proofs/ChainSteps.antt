-- An operation of a release leaves its frames a chain.
use Rattle.std.specs.Prelude.{Option, Some, None, Contains, slice_get, slice_set, if◌then◌else◌, not, map, nat_lt, is_some, unwrap_or, length, option_map}
use Rattle.std.proofs.Common.{◌≡◌, ℕ, ◌+◌, List, [], ◌∷◌, ◌++◌, Bool, true, false, ◌==◌, inl, inr, refl, sym, ◌∙◌, ap, subst, arith}
use Rattle.std.proofs.lemmas.Bool.Decides.{nat_tests}
use Rattle.std.proofs.lemmas.Option.{slice_get-map}
use Rattle.scj_base.specs.declared.faults.RunFault.{RunFault}
use Rattle.scj_base.specs.declared.faults.RunFault.TheVariants.{MemoryFull, DepthFull, CeilingViolation, ScopedCycle, StoreFull, NotInitializing}
use Rattle.scj_base.specs.declared.positions.Position.{Position}
use Rattle.scj_base.specs.declared.values.Value.{Value}
use Rattle.scj_base.specs.declared.values.Value.TheVariants.{At}
use Rattle.scj_tree.specs.declared.nodes.Node.{Node}
use Rattle.scj_rules.specs.declared.views.Body.{Body}
use Rattle.scj_rules.specs.Bodies.{number_literal}
use Rattle.scj_rules.specs.Definitions.{read}
use Rattle.scj_rules.specs.Words.{◌>>=◌}
use Rattle.accepted_laws.proofs.Lists.{get_left, get_last}
use Rattle.accepted_laws.proofs.Tools.{some_inj}
use Rattle.scj_model.specs.declared.events.Event.{Event}
use Rattle.scj_model.specs.declared.events.Event.TheVariants.{Arrive, Lost, Terminate, Print}
use Rattle.scj_model.specs.declared.handlers.HandlerRow.{HandlerRow}
use Rattle.scj_model.specs.Code.{Code, binding}
use Rattle.scj_model.specs.State.{MemoryArea, Object, Frame, Activity, Release, ReleaseStatus, Waits, Started, Dropped, ReleaseAt, Ended, State, area_at, activity_in, activity_of, changed, is_exec, is_init, is_waiting, object_at, with_activity, with_status}
use Rattle.scj_model.specs.Memory.{has_room, has_store_for, rounded_up, with_object, with_slot, with_area, closed, area_with_scope}
use Rattle.scj_model.specs.Registry.{handler_number}
use Rattle.scj_model.specs.Steps.{Step, reporting, silently, fault_in, closed_all, allocating, opening, job_ended, then_do}
use Rattle.scj_model.specs.Effects.{Effect, Goes, Prints, Makes, Stores, StoresStatic, SetsHidden, SetsCeiling, Calls, Opens, Leaves, AsksRegistration, AsksRelease, AsksTermination, Faults, Stuck}
use Rattle.scj_model.specs.Apply.{applied, called, opened_in, frame_left, returned, is_full, ceiling_entered, report_priority, with_frame, with_first, without, registered, released, release_taken, waiting_of, most_waiting, releases_of, takes_releases, termination, termination_asked, asks_for_end, dropped_release, report_dropped}
use Rattle.frame_sound.specs.EffectsFine.{IsSame}
use Rattle.frame_sound.proofs.OwnJobs.{set_activity}
use Rattle.frame_sound.proofs.Changes.{changed_at, changed_off}
use Rattle.memory_needs.specs.Reach.{IsInBody}
use Rattle.memory_needs.specs.Room.{entered_with}
use Rattle.memory_needs.specs.Targets.{targets}
use Rattle.memory_bounds.proofs.Chains.{AreasStay, Chain, Link, Takes, chain_goes, chain_returned, chain_runs, chain_stays}

-- ---- what is known of an effect

-- a node in the body may run another one
pub record RunsIn (code : Code) (body target : Body) : Type 0 where
  pub id : ℕ
  pub node : Node
  pub is_in : IsInBody code id body
  pub is : slice_get code.program.nodes id ≡ Some node
  pub is_target : Contains (targets code id) target

-- and does so in a private memory of so many bytes, which stand there
pub record EntersIn (code : Code) (body target : Body) (bytes : ℕ) : Type 0 where
  pub runs : RunsIn code body target
  pub size : ℕ
  pub asked : entered_with (binding code runs.id) runs.node ≡ Some size
  pub sized : (n : ℕ) → read code.program.nodes number_literal size ≡ Some n → bytes ≡ n

abbrev pub EffectLinks : Code → Frame → Effect → Type 0
EffectLinks code f (Goes h) = IsSame f h
EffectLinks code f (Prints h label value) = IsSame f h
EffectLinks code f (Makes h class values) = IsSame f h
EffectLinks code f (Stores h r slot v) = IsSame f h
EffectLinks code f (StoresStatic h index v) = IsSame f h
EffectLinks code f (SetsHidden h r values) = IsSame f h
EffectLinks code f (SetsCeiling h r ceiling) = IsSame f h
EffectLinks code f (Calls h g) = IsSame f h × (g.opened ≡ None) × RunsIn code f.body g.body
EffectLinks code f (Opens h g scope bytes) = IsSame f h × EntersIn code f.body g.body bytes
EffectLinks code f (Leaves h v) = Unit {0}
EffectLinks code f (AsksRegistration h r) = IsSame f h
EffectLinks code f (AsksRelease h r) = IsSame f h
EffectLinks code f (AsksTermination h r) = IsSame f h
EffectLinks code f (Faults fault) = Unit {0}
EffectLinks code f Stuck = Unit {0}

pub same_areas : (s t : State) → t.areas ≡ s.areas → AreasStay s t
same_areas s t e a x there = (x, ap (λ (xs : List MemoryArea). slice_get xs a) e ∙ there, refl)

module _ (code : Code) (row : HandlerRow) (index : ℕ) where
  -- if the release is still under way, its frames are a chain
  pub record After (step : Step) : Type 0 where
    pub is : (left : Activity) → activity_of step.state (ReleaseAt index) ≡ Some left →
        Chain code step.state row left.frames

  goes_with : (t : State) (activity a : Activity) (events : List Event) →
      activity_of t (ReleaseAt index) ≡ Some activity → Chain code t row a.frames →
      After (reporting (with_activity t (ReleaseAt index) a) events)
  unfolding with_activity
  goes_with t activity a events is chain = record {
    is = λ left e.
        (let same : a ≡ left = some_inj a left (sym (set_activity t (ReleaseAt index) activity a is) ∙ e) in
        subst (λ (x : Activity). Chain code (with_activity t (ReleaseAt index) a) row x.frames) same
        (chain_stays code t (with_activity t (ReleaseAt index) a) (same_areas t (with_activity t (ReleaseAt index) a) refl)
        row a.frames chain));
  }

  ends_with : (t : State) (events : List Event) → After (reporting (with_status t index Ended) events)
  unfolding activity_of activity_in
  ends_with t events = record { is = λ left e. absurd (of left e (slice_get t.releases index) refl) }
    where
      of : (left : Activity) → activity_of (with_status t index Ended) (ReleaseAt index) ≡ Some left →
          (o : Option Release) → slice_get t.releases index ≡ o → ⊥
      of left e None there =
          let same : changed (λ (r : Release). record r { status = Ended }) index t.releases ≡ t.releases =
          ap (λ (x : Option Release). elim x as (λ z. List Release) [
            | None ↦ t.releases
            | Some y ↦ slice_set t.releases index (record y { status = Ended })
          ]) there in
          let none = ap (λ (rs : List Release). slice_get rs index) same ∙ there in
          let gone = ap (λ (o : Option Release). o >>= (λ x. activity_in x.status)) none in
          cc (gone, e)
      of left e (Some r) there =
          let is = changed_at (λ (x : Release). record x { status = Ended }) index t.releases r there in
          cc (ap (λ (o : Option Release). o >>= (λ x. activity_in x.status)) is, e)

  pub faults_with : (t : State) (activity : Activity) (pos : Position) (fault : RunFault) →
      After (fault_in t (ReleaseAt index) activity pos fault)
  unfolding fault_in
  faults_with t activity pos fault = ends_with (closed_all t activity.frames) _

  then_same : (u v : State) (events : List Event) → After (silently u) →
      activity_of v (ReleaseAt index) ≡ activity_of u (ReleaseAt index) → v.areas ≡ u.areas → After (reporting v events)
  then_same u v events b same areas = record {
    is = λ left e. chain_stays code u v (same_areas u v areas) row left.frames (b.is left (sym same ∙ e));
  }

  joined : (u : State) (activity : Activity) (more : List Release) → activity_of u (ReleaseAt index) ≡ Some activity →
      activity_of (record u { releases = u.releases ++ more }) (ReleaseAt index) ≡ activity_of u (ReleaseAt index)
  unfolding activity_of
  joined u activity more is = of (slice_get u.releases index) refl
    where
      of : (o : Option Release) → slice_get u.releases index ≡ o →
          slice_get (u.releases ++ more) index >>= (λ r. activity_in r.status)
          ≡ slice_get u.releases index >>= (λ r. activity_in r.status)
      of None e = absurd (let n = ap (λ (o : Option Release). o >>= (λ r. activity_in r.status)) e in cc (n, is))
      of (Some r) e = ap (λ (o : Option Release). o >>= (λ r. activity_in r.status))
          (get_left u.releases more index r e ∙ sym e)

  released_after : (u : State) (activity : Activity) (r : ℕ) → activity_of u (ReleaseAt index) ≡ Some activity →
      After (silently u) → After (released u r)
  unfolding released release_taken
  released_after u activity r is b = taken (takes_releases u) (handler_number u.registry r)
    where
      waits : (handler : ℕ) (c : Bool) → After
          (if c then reporting u (Lost u.unit handler ∷ [])
          else (let number = length (releases_of u handler) + 1 in
          let new : Release = record { handler = handler; number = number; status = Waits } in
          reporting (record u { releases = u.releases ++ new ∷ [] }) (Arrive u.unit handler number ∷ [])))
      waits handler true = then_same u u _ b refl refl
      waits handler false =
          let new : Release = record { handler = handler; number = length (releases_of u handler) + 1; status = Waits } in
          then_same u (record u { releases = u.releases ++ new ∷ [] }) _ b (joined u activity (new ∷ []) is) refl

      taken : (c : Bool) (o : Option ℕ) → After
          (if c then (elim o [ None ↦ silently u | Some handler ↦ release_taken u handler ]) else silently u)
      taken true None = b
      taken true (Some handler) = waits handler (not (nat_lt (length (waiting_of u handler)) most_waiting))
      taken false o = b

  dropped_same : (x : Release) → activity_in (dropped_release x).status ≡ activity_in x.status
  unfolding dropped_release activity_in is_waiting
  dropped_same x = of x.status refl
    where
      of : (t : ReleaseStatus) → x.status ≡ t → activity_in (dropped_release x).status ≡ activity_in x.status
      of Waits e = rw e refl
      of (Started a) e = rw e refl
      of Ended e = rw e refl
      of Dropped e = rw e refl

  termination_after : (u : State) (r : ℕ) → After (silently u) → After (termination_asked u r)
  unfolding termination_asked termination activity_of
  termination_after u r b = asked (asks_for_end u.mission u.phase u.is_end_asked r) (is_exec u.phase)
    where
      mapped : slice_get (map dropped_release u.releases) index >>= (λ x. activity_in x.status)
          ≡ slice_get u.releases index >>= (λ x. activity_in x.status)
      mapped = of (slice_get u.releases index) refl
        where
          of : (o : Option Release) → slice_get u.releases index ≡ o →
              slice_get (map dropped_release u.releases) index >>= (λ x. activity_in x.status)
              ≡ slice_get u.releases index >>= (λ x. activity_in x.status)
          of None e = rw (slice_get-map dropped_release u.releases index, e) refl
          of (Some x) e = rw (slice_get-map dropped_release u.releases index, e) (dropped_same x)

      asked : (c d : Bool) → After
          (if c then (if d then reporting (record u { is_end_asked = true; releases = map dropped_release u.releases })
          (Terminate u.unit ∷ report_dropped u)
          else silently (record u { is_end_asked = true })) else silently u)
      asked true true =
          then_same u (record u { is_end_asked = true; releases = map dropped_release u.releases }) _ b mapped refl
      asked true false = then_same u (record u { is_end_asked = true }) [] b refl refl
      asked false d = b

  -- ---- one operation

  module _ (s : State) (activity : Activity) (is : activity_of s (ReleaseAt index) ≡ Some activity) (pos : Position)
      (f : Frame) (below : List Frame) (chain : Chain code s row (f ∷ below)) where
    -- with other objects or static fields
    goes_to : (t : State) (h : Frame) (events : List Event) → activity_of t (ReleaseAt index) ≡ Some activity →
        t.areas ≡ s.areas → IsSame f h → After (reporting (with_frame t (ReleaseAt index) activity h below) events)
    goes_to t h events there areas same =
        goes_with t activity (record activity { frames = h ∷ below }) events there
        (chain_stays code s t (same_areas s t areas) row (h ∷ below) (chain_goes code s row f h below same chain))

    made : (h : Frame) (class : ℕ) (values : List Value) → IsSame f h →
        After (allocating s (ReleaseAt index) activity pos class h.area values (λ t r.
        silently (with_frame t (ReleaseAt index) activity (record h { operands = At r ∷ h.operands }) below)))
    unfolding allocating activity_of
    made h class values same = of (has_room s h.area (length values))
      where
        more : IsSame f (record h { operands = At (length s.objects) ∷ h.operands })
        more = record {
          body = same.body;
          called_at = same.called_at;
          this = same.this;
          area = same.area;
          saved = same.saved;
          opened = same.opened;
        }

        of : (c : Bool) → After
            (if c then silently (with_frame (with_object s class h.area values) (ReleaseAt index) activity
            (record h { operands = At (length s.objects) ∷ h.operands }) below)
            else fault_in s (ReleaseAt index) activity pos MemoryFull)
        of true =
            goes_to (with_object s class h.area values) (record h { operands = At (length s.objects) ∷ h.operands }) [] is
            refl more
        of false = faults_with s activity pos MemoryFull

    call_after : (h g : Frame) → IsSame f h → g.opened ≡ None → RunsIn code f.body g.body →
        After (called code s (ReleaseAt index) activity (h ∷ below) pos g)
    unfolding called
    call_after h g same unopened runs = full (is_full (h ∷ below)) (ceiling_entered code s g)
      where
        link : Link code s f.body g.body g.opened
        link = record {
          id = runs.id;
          node = runs.node;
          is_in = runs.is_in;
          is = runs.is;
          is_target = runs.is_target;
          opens = inl unopened;
        }

        with_saved : (saved : Option ℕ) → Chain code s row (record g { saved = saved } ∷ h ∷ below)
        with_saved saved = chain_runs code s row f h (record g { saved = saved }) below same link chain

        lower : (ceiling : ℕ) (t : Bool) → After
            (if t then fault_in s (ReleaseAt index) activity pos CeilingViolation
            else reporting
            (with_activity s (ReleaseAt index) (record activity {
              frames = record g { saved = Some activity.priority } ∷ (h ∷ below);
              priority = ceiling;
            }))
            (report_priority s (ReleaseAt index) activity.priority ceiling))
        lower ceiling true = faults_with s activity pos CeilingViolation
        lower ceiling false = goes_with s activity _ _ is (with_saved (Some activity.priority))

        full : (t : Bool) (o : Option ℕ) → After
            (if t then fault_in s (ReleaseAt index) activity pos DepthFull
            else (elim o [
              | None ↦ silently (with_activity s (ReleaseAt index) (record activity { frames = g ∷ (h ∷ below) }))
              | Some ceiling ↦
                  if nat_lt ceiling activity.priority then fault_in s (ReleaseAt index) activity pos CeilingViolation
                  else reporting
                  (with_activity s (ReleaseAt index) (record activity {
                    frames = record g { saved = Some activity.priority } ∷ (h ∷ below);
                    priority = ceiling;
                  }))
                  (report_priority s (ReleaseAt index) activity.priority ceiling)
            ]))
        full true o = faults_with s activity pos DepthFull
        full false None = goes_with s activity _ _ is (chain_runs code s row f h g below same link chain)
        full false (Some ceiling) = lower ceiling (nat_lt ceiling activity.priority)

    open_after : (h g : Frame) (scope bytes : ℕ) → IsSame f h → EntersIn code f.body g.body bytes →
        After (opened_in s (ReleaseAt index) activity (h ∷ below) pos g scope bytes)
    unfolding opened_in opening activity_of
    open_after h g scope bytes same enters =
        cycle (is_some (area_with_scope s scope activity.areas)) (is_full (h ∷ below)) (has_store_for s bytes)
      where
        x : MemoryArea
        x = record { scope = scope; parent = Some g.area; bytes = bytes; is_open = true }

        t : State
        t = with_area s scope (Some g.area) bytes

        new : Frame
        new = record g { area = length s.areas; opened = Some (length s.areas) }

        stay : AreasStay s t
        stay a y there = (y, get_left s.areas (x ∷ []) a y there, refl)

        takes : (n : ℕ) → read code.program.nodes number_literal enters.size ≡ Some n →
            Takes t (Some (length s.areas)) (rounded_up n)
        takes n e = record {
          each = λ a q.
              (let same_number : length s.areas ≡ a = some_inj (length s.areas) a q in
              let there : area_at t a ≡ Some x =
              ap (λ (k : ℕ). area_at t k) (sym same_number) ∙ get_last s.areas x in
              let size = ap (λ k. rounded_up k) (enters.sized n e) in
              (x, there, omega (arith, size)));
        }

        link : Link code t f.body g.body (Some (length s.areas))
        link = record {
          id = enters.runs.id;
          node = enters.runs.node;
          is_in = enters.runs.is_in;
          is = enters.runs.is;
          is_target = enters.runs.is_target;
          opens = inr (record { size = enters.size; asked = enters.asked; takes = takes });
        }

        next : After (silently (with_activity t (ReleaseAt index) (record activity {
          frames = new ∷ (h ∷ below);
          areas = length s.areas ∷ activity.areas;
        })))
        next =
            goes_with t activity _ [] is
            (chain_runs code t row f h new below same link (chain_stays code s t stay row (f ∷ below) chain))

        cycle : (c d e : Bool) → After
            (if c then fault_in s (ReleaseAt index) activity pos ScopedCycle
            else (if d then fault_in s (ReleaseAt index) activity pos DepthFull
            else (if e then silently (with_activity t (ReleaseAt index) (record activity {
              frames = new ∷ (h ∷ below);
              areas = length s.areas ∷ activity.areas;
            })) else fault_in s (ReleaseAt index) activity pos StoreFull)))
        cycle true d e = faults_with s activity pos ScopedCycle
        cycle false true e = faults_with s activity pos DepthFull
        cycle false false true = next
        cycle false false false = faults_with s activity pos StoreFull

    shut : (o : Option ℕ) → AreasStay s (closed s o)
    unfolding closed
    shut None a y there = (y, there, refl)
    shut (Some n) a y there = of (n == a) refl
      where
        of : (c : Bool) → (n == a) ≡ c →
            (z : MemoryArea) × (slice_get (changed (λ (z : MemoryArea). record z { is_open = false }) n s.areas) a ≡ Some z)
            × (z.bytes ≡ y.bytes)
        of true e =
            let same : n ≡ a = grind (arith, nat_tests) in (
              record y { is_open = false },
              subst (λ (k : ℕ). slice_get (changed (λ (z : MemoryArea). record z { is_open = false }) n s.areas) k
                  ≡ Some (record y { is_open = false })) same
                  (changed_at (λ (z : MemoryArea). record z { is_open = false }) n s.areas y
                  (subst (λ (k : ℕ). area_at s k ≡ Some y) (sym same) there)),
              refl,
            )
        of false e =
            let other : n ≡ a → ⊥ = grind (arith, nat_tests) in
            (y, changed_off (λ (z : MemoryArea). record z { is_open = false }) n s.areas a other ∙ there, refl)

    shut_releases : (o : Option ℕ) → (closed s o).releases ≡ s.releases
    unfolding closed
    shut_releases None = refl
    shut_releases (Some n) = refl

    left_after : (h : Frame) (value : Option Value) → After (frame_left s (ReleaseAt index) activity h below value)
    unfolding frame_left job_ended activity_of
    left_after h value = of below refl
      where
        t : State
        t = closed s h.opened

        under : activity_of t (ReleaseAt index) ≡ Some activity
        under =
            ap (λ (rs : List Release). slice_get rs index >>= (λ r. activity_in r.status)) (shut_releases h.opened) ∙ is

        kept : Chain code t row (returned value below)
        kept = chain_returned code t row value below (chain_stays code s t (shut h.opened) row below chain.1)

        after : Activity
        after = record activity {
          frames = returned value below;
          areas = without h.opened activity.areas;
          priority = unwrap_or h.saved activity.priority;
        }

        of : (fs : List Frame) → below ≡ fs → After
            (then_do (reporting t (report_priority s (ReleaseAt index) activity.priority (unwrap_or h.saved activity.priority)))
            (λ u. elim fs [
              | [] ↦ job_ended u (ReleaseAt index) after value
              | g ∷ gs ↦ silently (with_activity u (ReleaseAt index) after)
            ]))
        of [] e = ends_with t _
        of (g ∷ gs) e = goes_with t activity after _ under kept

    still_there : (h : Frame) → activity_of (with_frame s (ReleaseAt index) activity h below) (ReleaseAt index)
        ≡ Some (record activity { frames = h ∷ below })
    still_there h = set_activity s (ReleaseAt index) activity (record activity { frames = h ∷ below }) is

    plain : (h : Frame) → IsSame f h → After (silently (with_frame s (ReleaseAt index) activity h below))
    plain h same = goes_to s h [] is refl same

    pub own_step : is_init s.phase ≡ false → (e : Effect) → EffectLinks code f e → (step : Step) →
        applied code s (ReleaseAt index) activity below pos e ≡ Some step → After step
    unfolding applied activity_of registered
    own_step no_init (Goes h) k step q = subst After (some_inj _ step q) (plain h k)
    own_step no_init (Prints h label value) k step q =
        subst After (some_inj _ step q) (then_same (with_frame s (ReleaseAt index) activity h below)
        (with_frame s (ReleaseAt index) activity h below) (Print s.unit label value ∷ []) (plain h k) refl refl)
    own_step no_init (Makes h class values) k step q = subst After (some_inj _ step q) (made h class values k)
    own_step no_init (Stores h r slot v) k step q =
        subst After (some_inj _ step q) (goes_to (with_slot s r slot v) h [] is refl k)
    own_step no_init (StoresStatic h n v) k step q =
        subst After (some_inj _ step q) (goes_to (record s { statics = slice_set s.statics n v }) h [] is refl k)
    own_step no_init (SetsHidden h r values) k step q =
        subst After (some_inj _ step q)
        (goes_to (record s { objects = changed (with_first values) r s.objects }) h [] is refl k)
    own_step no_init (SetsCeiling h r ceiling) k step q =
        subst After (some_inj _ step q) (faults_with s activity pos NotInitializing)
    own_step no_init (Calls h g) k step q = subst After (some_inj _ step q) (call_after h g k.0 k.1 k.2)
    own_step no_init (Opens h g scope bytes) k step q =
        subst After (some_inj _ step q) (open_after h g scope bytes k.0 k.1)
    own_step no_init (Leaves h v) k step q = subst After (some_inj _ step q) (left_after h v)
    own_step no_init (AsksRelease h r) k step q =
        subst After (some_inj _ step q)
        (released_after (with_frame s (ReleaseAt index) activity h below) (record activity { frames = h ∷ below }) r
        (still_there h) (plain h k))
    own_step no_init (AsksTermination h r) k step q =
        subst After (some_inj _ step q)
        (termination_after (with_frame s (ReleaseAt index) activity h below) r (plain h k))
    own_step no_init (Faults fault) k step q = subst After (some_inj _ step q) (faults_with s activity pos fault)
    own_step no_init Stuck k step q = absurd (cc (q))
    own_step no_init (AsksRegistration h r) k step q = of (object_at s r) q
      where
        of : (o : Option Object) → option_map
            (λ (x : Object). registered code s (ReleaseAt index) activity pos r x (with_frame s (ReleaseAt index) activity h below)) o
            ≡ Some step → After step
        of None q = absurd (cc (q))
        of (Some x) q =
            let f : registered code s (ReleaseAt index) activity pos r x (with_frame s (ReleaseAt index) activity h below)
            ≡ fault_in s (ReleaseAt index) activity pos NotInitializing = rw no_init refl in
            subst After (sym f ∙ some_inj _ step q) (faults_with s activity pos NotInitializing)

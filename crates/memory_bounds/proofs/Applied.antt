-- A release that is bounded stays so by its own operations, and meets no full area.
use Rattle.std.specs.Prelude.{Option, Some, None, slice_get, if◌then◌else◌, nat_lt, map, filter, sum, is_some, unwrap_or, slice_set}
use Rattle.scj_rules.specs.Words.{◌>>=◌}
use Rattle.std.proofs.Common.{◌≡◌, ℕ, ◌+◌, ◌≤◌, List, [], ◌∷◌, length, Bool, true, false, ◌==◌, refl, sym, ◌∙◌, ap, subst, arith, inl, inr}
use Rattle.std.proofs.lemmas.List.{map-append}
use Rattle.std.proofs.lemmas.Bool.Decides.{nat_tests}
use Rattle.std.proofs.lemmas.List.Elements.{filter-append}
use Rattle.std.proofs.lemmas.List.Sums.{sum_by-append}
use Rattle.scj_base.specs.declared.faults.RunFault.{RunFault}
use Rattle.scj_base.specs.declared.faults.RunFault.TheVariants.{MemoryFull, DepthFull, CeilingViolation, ScopedCycle, StoreFull}
use Rattle.scj_base.specs.declared.positions.Position.{Position}
use Rattle.scj_base.specs.declared.values.Value.{Value}
use Rattle.scj_base.specs.declared.values.Value.TheVariants.{At}
use Rattle.scj_rules.specs.Layout.{size_with_slots}
use Rattle.accepted_laws.proofs.Lists.{get_left, get_last}
use Rattle.accepted_laws.proofs.Tools.{some_inj}
use Rattle.scj_model.specs.declared.events.Event.{Event}
use Rattle.scj_model.specs.Code.{Code}
use Rattle.scj_model.specs.State.{MemoryArea, Object, Frame, Activity, Release, ReleaseAt, Ended, State, area_at, activity_in, activity_of, changed, with_activity, with_status}
use Rattle.scj_model.specs.Memory.{used, has_room, has_store_for, with_object, with_area, closed, new_object, area_with_scope}
use Rattle.scj_model.specs.Steps.{Step, reporting, silently, fault_in, closed_all, allocating, opening, job_ended, then_do}
use Rattle.scj_model.specs.Effects.{Makes, Calls, Opens}
use Rattle.scj_model.specs.Apply.{called, opened_in, frame_left, returned, is_full, ceiling_entered, report_priority, with_frame, without}
use Rattle.frame_sound.proofs.OwnJobs.{set_activity}
use Rattle.frame_sound.proofs.Changes.{changed_at, changed_off}
use Rattle.memory_needs.specs.Need.{Table}
use Rattle.memory_bounds.specs.Weights.{ops_weight}
use Rattle.memory_bounds.specs.Accounting.{Within, EffectWithin}
use Rattle.memory_bounds.specs.Bounded.{frames_weight, NeedOwnAreas, IsBounded}
use Rattle.memory_bounds.proofs.Kept.{MemoryStays, finds_room, goes_on, makes_one, calls_here, calls_away, leaves, opens_one, others_keep}

pub get_past : {A : Type 0} (xs : List A) → slice_get xs (length xs) ≡ None
get_past [] = refl
get_past (x ∷ xs) = get_past xs

abbrev pub used_of : List Object → ℕ → ℕ
used_of objects area =
    sum (map (λ (o : Object). size_with_slots (length o.slots)) (filter (λ (o : Object). o.area == area) objects))

module _ (code : Code) (table : Table) where
  -- no object more, and areas as large as before
  pub stays : (s t : State) → t.objects ≡ s.objects →
      ((a : ℕ) (x : MemoryArea) → area_at s a ≡ Some x → (y : MemoryArea) × (area_at t a ≡ Some y) × (y.bytes ≡ x.bytes)) →
      MemoryStays code table s t
  unfolding used
  stays s t objects areas =
      record {
        in_use = λ a. (let e : used t a ≡ used s a = ap (λ (xs : List Object). used_of xs a) objects in omega (arith, e));
        areas = areas;
      }

  pub same_areas : (s t : State) → t.areas ≡ s.areas → (a : ℕ) (x : MemoryArea) → area_at s a ≡ Some x →
      (y : MemoryArea) × (area_at t a ≡ Some y) × (y.bytes ≡ x.bytes)
  same_areas s t e a x there = (x, ap (λ (xs : List MemoryArea). slice_get xs a) e ∙ there, refl)

  pub one_more : (s : State) (class area : ℕ) (slots : List Value) (a : ℕ) →
      used (with_object s class area slots) a ≤ used s a + (if area == a then size_with_slots (length slots) else 0)
  unfolding used
  one_more s class area slots a =
      let new : List Object = new_object class area slots ∷ [] in
      let e = filter-append (λ (o : Object). o.area == a) s.objects new in
      let m = map-append (λ (o : Object). size_with_slots (length o.slots)) (filter (λ (o : Object). o.area == a) s.objects)
      (filter (λ (o : Object). o.area == a) new) in
      let q = sum_by-append (λ (x : ℕ). x) (map (λ (o : Object). size_with_slots (length o.slots)) (filter (λ (o : Object). o.area == a) s.objects))
      (map (λ (o : Object). size_with_slots (length o.slots)) (filter (λ (o : Object). o.area == a) new)) in
      let all : used (with_object s class area slots) a
      ≡ used s a + sum (map (λ (o : Object). size_with_slots (length o.slots)) (filter (λ (o : Object). o.area == a) new)) =
      ap (λ (xs : List Object). sum (map (λ (o : Object). size_with_slots (length o.slots)) xs)) e
      ∙ (ap (λ (ns : List ℕ). sum ns) m ∙ q) in
      let last = of (area == a) in
      omega (arith, all, last)
    where
      of : (b : Bool) →
          sum (map (λ (o : Object). size_with_slots (length o.slots))
          (if b then new_object class area slots ∷ [] else []))
          ≤ (if b then size_with_slots (length slots) else 0)
      of true = omega arith
      of false = omega arith

  module _ (index : ℕ) where
    -- if the release is still under way, its frames are bounded
    unfoldable pub BoundedAfter : Step → Type 0
    BoundedAfter step =
        (left : Activity) → activity_of step.state (ReleaseAt index) ≡ Some left →
        IsBounded code table step.state left.frames

    pub goes_with : (t : State) (activity a : Activity) (events : List Event) →
        activity_of t (ReleaseAt index) ≡ Some activity → IsBounded code table t a.frames →
        BoundedAfter (reporting (with_activity t (ReleaseAt index) a) events)
    unfolding BoundedAfter with_activity
    goes_with t activity a events is b left e =
        let same : a ≡ left = some_inj a left (sym (set_activity t (ReleaseAt index) activity a is) ∙ e) in
        subst (λ (x : Activity). IsBounded code table (with_activity t (ReleaseAt index) a) x.frames) same kept
      where
        kept : IsBounded code table (with_activity t (ReleaseAt index) a) a.frames
        kept = others_keep code table t (with_activity t (ReleaseAt index) a) a.frames
            (λ n h. (let m = stays t (with_activity t (ReleaseAt index) a) objects (same_areas t (with_activity t (ReleaseAt index) a) areas) in m.in_use n))
            (same_areas t (with_activity t (ReleaseAt index) a) areas) b
          where
            objects : (with_activity t (ReleaseAt index) a).objects ≡ t.objects
            objects = refl

            areas : (with_activity t (ReleaseAt index) a).areas ≡ t.areas
            areas = refl

    -- a release that has ended has no frames
    pub ends_with : (t : State) (events : List Event) → BoundedAfter (reporting (with_status t index Ended) events)
    unfolding BoundedAfter activity_of activity_in
    ends_with t events left e = absurd (of (slice_get t.releases index) refl)
      where
        of : (o : Option Release) → slice_get t.releases index ≡ o → ⊥
        of None there =
            let same : changed (λ (r : Release). record r { status = Ended }) index t.releases ≡ t.releases =
            ap (λ (x : Option Release). elim x as (λ z. List Release) [
              | None ↦ t.releases
              | Some y ↦ slice_set t.releases index (record y { status = Ended })
            ]) there in
            let none = ap (λ (rs : List Release). slice_get rs index) same ∙ there in
            cc (none, e)
        of (Some r) there =
            let is = changed_at (λ (x : Release). record x { status = Ended }) index t.releases r there in
            cc (ap (λ (o : Option Release). o >>= (λ x. activity_in x.status)) is, e)

    pub faults_with : (t : State) (activity : Activity) (pos : Position) (fault : RunFault) →
        BoundedAfter (fault_in t (ReleaseAt index) activity pos fault)
    unfolding fault_in
    faults_with t activity pos fault = ends_with (closed_all t activity.frames) _

    -- ---- the operations
    module _ (s : State) (activity : Activity) (is : activity_of s (ReleaseAt index) ≡ Some activity) (pos : Position)
        (before : Frame) (below : List Frame) (b : IsBounded code table s (before ∷ below)) where
      nothing_moves : MemoryStays code table s s
      nothing_moves = stays s s refl (same_areas s s refl)

      pub plain_bounded : (h : Frame) → Within code table (ops_weight code table before.rest) before h 0 →
          IsBounded code table s (h ∷ below)
      plain_bounded h w =
          goes_on code table s s before h below nothing_moves w.0 w.1 (omega (arith, w.2)) b

      pub goes_bounded : (h : Frame) → Within code table (ops_weight code table before.rest) before h 0 →
          BoundedAfter (silently (with_frame s (ReleaseAt index) activity h below))
      goes_bounded h w = goes_with s activity (record activity { frames = h ∷ below }) [] is (plain_bounded h w)

      -- a call
      pub calls_bounded : (h g : Frame) → IsBounded code table s (g ∷ h ∷ below) →
          ((saved : Option ℕ) → IsBounded code table s (record g { saved = saved } ∷ h ∷ below)) →
          BoundedAfter (called code s (ReleaseAt index) activity (h ∷ below) pos g)
      unfolding called
      calls_bounded h g plain saved = full (is_full (h ∷ below))
        where
          lower : (ceiling : ℕ) (t : Bool) → BoundedAfter
              (if t then fault_in s (ReleaseAt index) activity pos CeilingViolation
              else reporting
              (with_activity s (ReleaseAt index) (record activity {
                frames = record g { saved = Some activity.priority } ∷ (h ∷ below);
                priority = ceiling;
              }))
              (report_priority s (ReleaseAt index) activity.priority ceiling))
          lower ceiling true = faults_with s activity pos CeilingViolation
          lower ceiling false = goes_with s activity _ _ is (saved (Some activity.priority))

          entered : (o : Option ℕ) → BoundedAfter (elim o [
            | None ↦ silently (with_activity s (ReleaseAt index) (record activity { frames = g ∷ (h ∷ below) }))
            | Some ceiling ↦
                if nat_lt ceiling activity.priority then fault_in s (ReleaseAt index) activity pos CeilingViolation
                else reporting
                (with_activity s (ReleaseAt index) (record activity {
                  frames = record g { saved = Some activity.priority } ∷ (h ∷ below);
                  priority = ceiling;
                }))
                (report_priority s (ReleaseAt index) activity.priority ceiling)
          ])
          entered None = goes_with s activity _ _ is plain
          entered (Some ceiling) = lower ceiling (nat_lt ceiling activity.priority)

          full : (t : Bool) → BoundedAfter
              (if t then fault_in s (ReleaseAt index) activity pos DepthFull
              else (elim (ceiling_entered code s g) [
                | None ↦ silently (with_activity s (ReleaseAt index) (record activity { frames = g ∷ (h ∷ below) }))
                | Some ceiling ↦
                    if nat_lt ceiling activity.priority then fault_in s (ReleaseAt index) activity pos CeilingViolation
                    else reporting
                    (with_activity s (ReleaseAt index) (record activity {
                      frames = record g { saved = Some activity.priority } ∷ (h ∷ below);
                      priority = ceiling;
                    }))
                    (report_priority s (ReleaseAt index) activity.priority ceiling)
              ]))
          full true = faults_with s activity pos DepthFull
          full false = entered (ceiling_entered code s g)

      pub call_bounded : (h g : Frame) →
          EffectWithin code table (ops_weight code table before.rest) before (Calls h g) →
          BoundedAfter (called code s (ReleaseAt index) activity (h ∷ below) pos g)
      call_bounded h g (unopened, inl (here, w)) =
          let c : (x : Option ℕ) → IsBounded code table s (record g { saved = x } ∷ h ∷ below) =
          λ x. calls_here code table s s before h (record g { saved = x }) below nothing_moves w.0 w.1 unopened here w.2 b in
          calls_bounded h g (calls_here code table s s before h g below nothing_moves w.0 w.1 unopened here w.2 b) c
      call_bounded h g (unopened, inr (none, w)) =
          let c : (x : Option ℕ) → IsBounded code table s (record g { saved = x } ∷ h ∷ below) =
          λ x. calls_away code table s s before h (record g { saved = x }) below nothing_moves w.0 w.1 none (omega (arith, w.2)) b in
          calls_bounded h g (calls_away code table s s before h g below nothing_moves w.0 w.1 none (omega (arith, w.2)) b) c

      -- a new object finds room
      pub make_bounded : (h : Frame) (class : ℕ) (slots : List Value) →
          EffectWithin code table (ops_weight code table before.rest) before (Makes h class slots) →
          has_room s h.area (length slots) ≡ true
      make_bounded h class slots w =
          let e = finds_room code table s before below (length slots) b (omega (arith, w.2)) in
          ap (λ (a : ℕ). has_room s a (length slots)) w.0 ∙ e

      pub made_bounded : (h : Frame) (class : ℕ) (slots : List Value) →
          EffectWithin code table (ops_weight code table before.rest) before (Makes h class slots) →
          BoundedAfter (allocating s (ReleaseAt index) activity pos class h.area slots (λ t r.
          silently (with_frame t (ReleaseAt index) activity (record h { operands = At r ∷ h.operands }) below)))
      unfolding allocating activity_of
      made_bounded h class slots w = of (has_room s h.area (length slots))
        where
          t : State
          t = with_object s class h.area slots

          of : (c : Bool) → BoundedAfter
              (if c then silently (with_frame t (ReleaseAt index) activity
              (record h { operands = At (length s.objects) ∷ h.operands }) below)
              else fault_in s (ReleaseAt index) activity pos MemoryFull)
          of true = goes_with t activity _ [] is_there
              (makes_one code table s t before (record h { operands = At (length s.objects) ∷ h.operands }) below
              (size_with_slots (length slots)) w.0 w.1 w.2
              (λ a. subst (λ (n : ℕ). used t a ≤ used s a + (if n == a then size_with_slots (length slots) else 0)) w.0
              (one_more s class h.area slots a))
              (same_areas s t refl) b)
            where
              is_there : activity_of t (ReleaseAt index) ≡ Some activity
              is_there = is
          of false = faults_with s activity pos MemoryFull

      -- ENTER: the body that runs in the new area finds it empty
      pub opened_bounded : (h g : Frame) (scope bytes : ℕ) →
          EffectWithin code table (ops_weight code table before.rest) before (Opens h g scope bytes) →
          used s (length s.areas) ≡ 0 →
          BoundedAfter (opened_in s (ReleaseAt index) activity (h ∷ below) pos g scope bytes)
      unfolding opened_in opening activity_of used
      opened_bounded h g scope bytes w empty = cycle (is_some (area_with_scope s scope activity.areas))
        where
          t : State
          t = with_area s scope (Some g.area) bytes

          new : Frame
          new = record g { area = length s.areas; opened = Some (length s.areas) }

          x : MemoryArea
          x = record { scope = scope; parent = Some g.area; bytes = bytes; is_open = true }

          areas : (a : ℕ) (y : MemoryArea) → area_at s a ≡ Some y →
              (z : MemoryArea) × (area_at t a ≡ Some z) × (z.bytes ≡ y.bytes)
          areas a y there = (y, get_left s.areas (x ∷ []) a y there, refl)

          none : area_at s (length s.areas) ≡ None
          none = get_past s.areas

          next : BoundedAfter (silently (with_activity t (ReleaseAt index) (record activity {
            frames = new ∷ (h ∷ below);
            areas = length s.areas ∷ activity.areas;
          })))
          next = goes_with t activity _ [] is
              (opens_one code table s t new (h ∷ below) (length s.areas) x none (get_last s.areas x) empty
              (stays s t refl areas) refl refl w.1 w.2 (plain_bounded h w.0))

          stored : (c : Bool) → BoundedAfter
              (if c then silently (with_activity t (ReleaseAt index) (record activity {
                frames = new ∷ (h ∷ below);
                areas = length s.areas ∷ activity.areas;
              })) else fault_in s (ReleaseAt index) activity pos StoreFull)
          stored true = next
          stored false = faults_with s activity pos StoreFull

          full : (c : Bool) → BoundedAfter
              (if c then fault_in s (ReleaseAt index) activity pos DepthFull
              else (if has_store_for s bytes then silently (with_activity t (ReleaseAt index) (record activity {
                frames = new ∷ (h ∷ below);
                areas = length s.areas ∷ activity.areas;
              })) else fault_in s (ReleaseAt index) activity pos StoreFull))
          full true = faults_with s activity pos DepthFull
          full false = stored (has_store_for s bytes)

          cycle : (c : Bool) → BoundedAfter
              (if c then fault_in s (ReleaseAt index) activity pos ScopedCycle
              else (if is_full (h ∷ below) then fault_in s (ReleaseAt index) activity pos DepthFull
              else (if has_store_for s bytes then silently (with_activity t (ReleaseAt index) (record activity {
                frames = new ∷ (h ∷ below);
                areas = length s.areas ∷ activity.areas;
              })) else fault_in s (ReleaseAt index) activity pos StoreFull)))
          cycle true = faults_with s activity pos ScopedCycle
          cycle false = full (is_full (h ∷ below))

      -- LEAVE
      same_closed : (o : Option ℕ) → (a : ℕ) (y : MemoryArea) → area_at s a ≡ Some y →
          (z : MemoryArea) × (area_at (closed s o) a ≡ Some z) × (z.bytes ≡ y.bytes)
      unfolding closed
      same_closed None a y there = (y, there, refl)
      same_closed (Some n) a y there = of (n == a) refl
        where
          shut : MemoryArea → MemoryArea
          shut z = record z { is_open = false }

          of : (c : Bool) → (n == a) ≡ c →
              (z : MemoryArea) × (slice_get (changed (λ (z : MemoryArea). record z { is_open = false }) n s.areas) a ≡ Some z)
              × (z.bytes ≡ y.bytes)
          of true e =
              let same : n ≡ a = grind (arith, nat_tests) in (
                record y { is_open = false },
                subst (λ (k : ℕ). slice_get (changed (λ (z : MemoryArea). record z { is_open = false }) n s.areas) k
                    ≡ Some (record y { is_open = false })) same
                    (changed_at (λ (z : MemoryArea). record z { is_open = false }) n s.areas y
                    (subst (λ (k : ℕ). area_at s k ≡ Some y) (sym same) there)),
                refl,
              )
          of false e =
              let other : n ≡ a → ⊥ = grind (arith, nat_tests) in
              (y, changed_off (λ (z : MemoryArea). record z { is_open = false }) n s.areas a other ∙ there, refl)

      closed_objects : (o : Option ℕ) → (closed s o).objects ≡ s.objects
      unfolding closed
      closed_objects None = refl
      closed_objects (Some n) = refl

      closed_releases : (o : Option ℕ) → (closed s o).releases ≡ s.releases
      unfolding closed
      closed_releases None = refl
      closed_releases (Some n) = refl

      returned_weight : (v : Option Value) (fs : List Frame) (a : ℕ) →
          frames_weight code table a (returned v fs) ≡ frames_weight code table a fs
      unfolding returned frames_weight
      returned_weight None fs a = refl
      returned_weight (Some v) [] a = refl
      returned_weight (Some v) (f ∷ fs) a = refl

      returned_own : (v : Option Value) (fs : List Frame) → NeedOwnAreas code table fs →
          NeedOwnAreas code table (returned v fs)
      unfolding returned NeedOwnAreas
      returned_own None fs own = own
      returned_own (Some v) [] own = own
      returned_own (Some v) (f ∷ fs) own = own

      pub left_bounded : (h : Frame) (value : Option Value) →
          BoundedAfter (frame_left s (ReleaseAt index) activity h below value)
      unfolding frame_left job_ended activity_of
      left_bounded h value = of below refl
        where
          t : State
          t = closed s h.opened

          under : activity_of t (ReleaseAt index) ≡ Some activity
          under = ap (λ (rs : List Release). slice_get rs index >>= (λ r. activity_in r.status)) (closed_releases h.opened) ∙ is

          kept : IsBounded code table t (returned value below)
          kept = leaves code table s t before below (returned value below)
              (stays s t (closed_objects h.opened) (same_closed h.opened)) (returned_weight value below)
              (returned_own value below) b

          after : Activity
          after = record activity {
            frames = returned value below;
            areas = without h.opened activity.areas;
            priority = unwrap_or h.saved activity.priority;
          }

          of : (fs : List Frame) → below ≡ fs → BoundedAfter
              (then_do (reporting t (report_priority s (ReleaseAt index) activity.priority (unwrap_or h.saved activity.priority)))
              (λ u. elim fs [ [] ↦ job_ended u (ReleaseAt index) after value | g ∷ gs ↦ silently (with_activity u (ReleaseAt index) after) ]))
          of [] e = ends_with t _
          of (g ∷ gs) e = goes_with t activity after _ under kept

-- The operations of a release that neither make, call, open nor leave: its frames stay bounded.
use Rattle.std.specs.Prelude.{Option, Some, None, slice_get, slice_set, if◌then◌else◌, not, map, filter, sum, nat_lt, drop, option_map}
use Rattle.std.proofs.Common.{◌≡◌, ℕ, zero, suc, ◌+◌, ◌≤◌, List, [], ◌∷◌, ◌++◌, length, Bool, true, false, ◌==◌, refl, sym, ◌∙◌, ap, subst, arith}
use Rattle.std.proofs.lemmas.List.Sums.{sum_by-cons}
use Rattle.scj_base.specs.declared.values.Value.{Value}
use Rattle.scj_rules.specs.Layout.{size_with_slots}
use Rattle.scj_rules.specs.Words.{◌>>=◌}
use Rattle.std.proofs.lemmas.List.{length-append, length-drop}
use Rattle.std.proofs.lemmas.Option.{slice_get-map}
use Rattle.accepted_laws.proofs.Tools.{some_inj}
use Rattle.accepted_laws.proofs.Lists.{get_left, length_set}
use Rattle.scj_model.specs.declared.events.Event.{Event}
use Rattle.scj_model.specs.declared.events.Event.TheVariants.{Arrive, Lost, Terminate, Print}
use Rattle.scj_model.specs.Code.{Code}
use Rattle.scj_model.specs.State.{Object, Frame, Activity, Release, ReleaseAt, ReleaseStatus, Waits, Started, Ended, Dropped, is_exec, is_init, object_at, State, activity_in, activity_of, changed, is_waiting}
use Rattle.scj_model.specs.Memory.{used, with_slot}
use Rattle.scj_model.specs.Steps.{Step, reporting, silently, fault_in}
use Rattle.scj_base.specs.declared.positions.Position.{Position}
use Rattle.scj_base.specs.declared.faults.RunFault.TheVariants.{NotInitializing}
use Rattle.scj_model.specs.Effects.{Effect, Goes, Prints, Makes, Stores, StoresStatic, SetsHidden, SetsCeiling, Calls, Opens, Leaves, AsksRegistration, AsksRelease, AsksTermination, Faults, Stuck}
use Rattle.scj_model.specs.Registry.{handler_number}
use Rattle.scj_model.specs.Apply.{applied, registered, with_frame, with_first, released, release_taken, waiting_of, most_waiting, releases_of, takes_releases, termination, termination_asked, asks_for_end, dropped_release, report_dropped}
use Rattle.memory_needs.specs.Need.{Table}
use Rattle.memory_bounds.specs.Weights.{ops_weight}
use Rattle.memory_bounds.specs.Accounting.{Within, EffectWithin}
use Rattle.memory_bounds.specs.Bounded.{IsBounded}
use Rattle.memory_bounds.proofs.Kept.{goes_on, others_keep}
use Rattle.frame_sound.proofs.OwnJobs.{same_activity, set_activity}
use Rattle.memory_bounds.proofs.Applied.{used_of, stays, same_areas, BoundedAfter, goes_with, faults_with, goes_bounded, call_bounded, made_bounded, opened_bounded, left_bounded}

used_cons : (x : Object) (xs : List Object) (a : ℕ) →
    used_of (x ∷ xs) a ≡ (if x.area == a then size_with_slots (length x.slots) else 0) + used_of xs a
used_cons x xs a = of (x.area == a)
  where
    rest : List Object
    rest = filter (λ (o : Object). o.area == a) xs

    of : (b : Bool) →
        sum (map (λ (o : Object). size_with_slots (length o.slots)) (if b then x ∷ rest else rest))
        ≡ (if b then size_with_slots (length x.slots) else 0) + used_of xs a
    of true = sum_by-cons (λ (n : ℕ). n) (size_with_slots (length x.slots)) (map (λ (o : Object). size_with_slots (length o.slots)) rest)
    of false = omega arith

-- an object with other slots, as many as before
used_set : (xs : List Object) (r : ℕ) (x y : Object) (a : ℕ) → slice_get xs r ≡ Some x → y.area ≡ x.area →
    length y.slots ≡ length x.slots → used_of (slice_set xs r y) a ≡ used_of xs a
used_set [] r x y a there area size = absurd (cc (there))
used_set (z ∷ xs) zero x y a there area size =
    let same : z ≡ x = some_inj z x there in
    used_cons y xs a
    ∙ (ap (λ (n : ℕ). n + used_of xs a)
    (ap (λ (n : ℕ). if n == a then size_with_slots (length y.slots) else 0) (area ∙ ap (λ (o : Object). o.area) (sym same))
    ∙ ap (λ (n : ℕ). if z.area == a then size_with_slots n else 0) (size ∙ ap (λ (o : Object). length o.slots) (sym same)))
    ∙ sym (used_cons z xs a))
used_set (z ∷ xs) (suc r) x y a there area size =
    used_cons z (slice_set xs r y) a
    ∙ (ap (λ (n : ℕ). (if z.area == a then size_with_slots (length z.slots) else 0) + n) (used_set xs r x y a there area size)
    ∙ sym (used_cons z xs a))

pub used_changed : (f : Object → Object) (r : ℕ) (xs : List Object) (a : ℕ) →
    ((x : Object) → slice_get xs r ≡ Some x → ((f x).area ≡ x.area) × (length (f x).slots ≡ length x.slots)) →
    used_of (changed f r xs) a ≡ used_of xs a
used_changed f r xs a keeps = of (slice_get xs r) refl
  where
    of : (o : Option Object) → slice_get xs r ≡ o →
        used_of (elim o as (λ z. List Object) [ None ↦ xs | Some x ↦ slice_set xs r (f x) ]) a ≡ used_of xs a
    of None e = refl
    of (Some x) e = let k = keeps x e in used_set xs r x (f x) a e k.0 k.1

module _ (code : Code) (table : Table) (index : ℕ) (s : State) (activity : Activity)
    (is : activity_of s (ReleaseAt index) ≡ Some activity) (before : Frame) (below : List Frame)
    (b : IsBounded code table s (before ∷ below)) where
  -- objects may have other slots, as many as before
  pub goes_to : (t : State) (h : Frame) (events : List Event) → activity_of t (ReleaseAt index) ≡ Some activity →
      ((a : ℕ) → used t a ≤ used s a) → t.areas ≡ s.areas →
      Within code table (ops_weight code table before.rest) before h 0 →
      BoundedAfter code table index (reporting (with_frame t (ReleaseAt index) activity h below) events)
  goes_to t h events there in_use areas w =
      goes_with code table index t activity (record activity { frames = h ∷ below }) events there
      (goes_on code table s t before h below (record { in_use = in_use; areas = same_areas code table s t areas }) w.0 w.1
      (omega (arith, w.2)) b)

  pub stores_bounded : (h : Frame) (r slot : ℕ) (v : Value) →
      Within code table (ops_weight code table before.rest) before h 0 →
      BoundedAfter code table index (silently (with_frame (with_slot s r slot v) (ReleaseAt index) activity h below))
  unfolding used activity_of
  stores_bounded h r slot v w =
      goes_to (with_slot s r slot v) h [] is
      (λ a. (let e = used_changed (λ o. record o { slots = slice_set o.slots slot v }) r s.objects a
      (λ x there. (refl, length_set x.slots slot v)) in omega (arith, e))) refl w

  -- the hidden fields that are set are there
  pub hidden_bounded : (h : Frame) (r : ℕ) (values : List Value) →
      ((o : Object) → slice_get s.objects r ≡ Some o → length values ≤ length o.slots) →
      Within code table (ops_weight code table before.rest) before h 0 →
      BoundedAfter code table index
      (silently (with_frame (record s { objects = changed (with_first values) r s.objects }) (ReleaseAt index) activity h below))
  unfolding used activity_of
  hidden_bounded h r values hidden w =
      goes_to (record s { objects = changed (with_first values) r s.objects }) h [] is
      (λ a. (let e = used_changed (with_first values) r s.objects a
      (λ x there. (
        refl,
        (let l = hidden x there in
            omega (arith, l, length-append values (drop (length values) x.slots), length-drop (length values) x.slots)),
      )) in
      omega (arith, e))) refl w

-- ---- requests: other releases wait or are dropped
module _ (code : Code) (table : Table) (index : ℕ) where
  then_same : (u v : State) (events : List Event) → BoundedAfter code table index (silently u) →
      activity_of v (ReleaseAt index) ≡ activity_of u (ReleaseAt index) → v.objects ≡ u.objects → v.areas ≡ u.areas →
      BoundedAfter code table index (reporting v events)
  unfolding BoundedAfter
  then_same u v events b same objects areas left e =
      others_keep code table u v left.frames
      (λ a h. (stays code table u v objects (same_areas code table u v areas)).in_use a)
      (same_areas code table u v areas) (b left (sym same ∙ e))

  joined : (u : State) (activity : Activity) (more : List Release) → activity_of u (ReleaseAt index) ≡ Some activity →
      activity_of (record u { releases = u.releases ++ more }) (ReleaseAt index) ≡ activity_of u (ReleaseAt index)
  unfolding activity_of
  joined u activity more is = of (slice_get u.releases index) refl
    where
      of : (o : Option Release) → slice_get u.releases index ≡ o →
          slice_get (u.releases ++ more) index >>= (λ r. activity_in r.status)
          ≡ slice_get u.releases index >>= (λ r. activity_in r.status)
      of None e = absurd (let n = ap (λ (o : Option Release). o >>= (λ r. activity_in r.status)) e in cc (n, is))
      of (Some r) e = ap (λ (o : Option Release). o >>= (λ r. activity_in r.status))
          (get_left u.releases more index r e ∙ sym e)

  pub released_bounded : (u : State) (activity : Activity) (r : ℕ) → activity_of u (ReleaseAt index) ≡ Some activity →
      BoundedAfter code table index (silently u) → BoundedAfter code table index (released u r)
  unfolding released release_taken
  released_bounded u activity r is b = taken (takes_releases u) (handler_number u.registry r)
    where
      waits : (handler : ℕ) (c : Bool) → BoundedAfter code table index
          (if c then reporting u (Lost u.unit handler ∷ [])
          else (let number = length (releases_of u handler) + 1 in
          let new : Release = record { handler = handler; number = number; status = Waits } in
          reporting (record u { releases = u.releases ++ new ∷ [] }) (Arrive u.unit handler number ∷ [])))
      waits handler true = then_same u u _ b refl refl refl
      waits handler false =
          let new : Release = record { handler = handler; number = length (releases_of u handler) + 1; status = Waits } in
          then_same u (record u { releases = u.releases ++ new ∷ [] }) _ b (joined u activity (new ∷ []) is) refl refl

      taken : (c : Bool) (o : Option ℕ) → BoundedAfter code table index
          (if c then (elim o [ None ↦ silently u | Some handler ↦ release_taken u handler ]) else silently u)
      taken true None = b
      taken true (Some handler) = waits handler (not (nat_lt (length (waiting_of u handler)) most_waiting))
      taken false o = b

  dropped_same : (x : Release) → activity_in (dropped_release x).status ≡ activity_in x.status
  unfolding dropped_release activity_in is_waiting
  dropped_same x = of x.status refl
    where
      of : (t : ReleaseStatus) → x.status ≡ t → activity_in (dropped_release x).status ≡ activity_in x.status
      of Waits e = rw e refl
      of (Started a) e = rw e refl
      of Ended e = rw e refl
      of Dropped e = rw e refl

  pub termination_bounded : (u : State) (r : ℕ) → BoundedAfter code table index (silently u) →
      BoundedAfter code table index (termination_asked u r)
  unfolding termination_asked termination activity_of
  termination_bounded u r b = asked (asks_for_end u.mission u.phase u.is_end_asked r) (is_exec u.phase)
    where
      mapped : slice_get (map dropped_release u.releases) index >>= (λ x. activity_in x.status)
          ≡ slice_get u.releases index >>= (λ x. activity_in x.status)
      mapped = of (slice_get u.releases index) refl
        where
          of : (o : Option Release) → slice_get u.releases index ≡ o →
              slice_get (map dropped_release u.releases) index >>= (λ x. activity_in x.status)
              ≡ slice_get u.releases index >>= (λ x. activity_in x.status)
          of None e = rw (slice_get-map dropped_release u.releases index, e) refl
          of (Some x) e = rw (slice_get-map dropped_release u.releases index, e) (dropped_same x)

      asked : (c d : Bool) → BoundedAfter code table index
          (if c then (if d then reporting (record u { is_end_asked = true; releases = map dropped_release u.releases })
          (Terminate u.unit ∷ report_dropped u)
          else silently (record u { is_end_asked = true })) else silently u)
      asked true true =
          then_same u (record u { is_end_asked = true; releases = map dropped_release u.releases }) _ b mapped refl refl
      asked true false = then_same u (record u { is_end_asked = true }) [] b refl refl refl
      asked false d = b

-- ---- all operations of a release that executes
-- what has to be known of the effect besides: ENTER's area is new, and hidden fields that are set are there
pub record Situated (s : State) (e : Effect) : Type 0 where
  pub empty : used s (length s.areas) ≡ 0
  pub hidden : (h : Frame) (r : ℕ) (values : List Value) → e ≡ SetsHidden h r values → (o : Object) →
      slice_get s.objects r ≡ Some o → length values ≤ length o.slots
  pub no_init : is_init s.phase ≡ false

module _ (code : Code) (table : Table) (index : ℕ) (s : State) (activity : Activity)
    (is : activity_of s (ReleaseAt index) ≡ Some activity) (pos : Position) (before : Frame) (below : List Frame)
    (b : IsBounded code table s (before ∷ below)) where
  abbrev n : ℕ
  n = ops_weight code table before.rest

  reported : (u : State) (events : List Event) → BoundedAfter code table index (silently u) →
      BoundedAfter code table index (reporting u events)
  reported u events h = then_same code table index u u events h refl refl refl

  plain : (h : Frame) → Within code table n before h 0 →
      BoundedAfter code table index (silently (with_frame s (ReleaseAt index) activity h below))
  plain h w = goes_bounded code table index s activity is pos before below b h w

  still_there : (h : Frame) → activity_of (with_frame s (ReleaseAt index) activity h below) (ReleaseAt index)
      ≡ Some (record activity { frames = h ∷ below })
  still_there h = set_activity s (ReleaseAt index) activity (record activity { frames = h ∷ below }) is

  -- each step that the release may come to leaves it bounded
  pub own_step : (e : Effect) → Situated s e → EffectWithin code table n before e → (step : Step) →
      applied code s (ReleaseAt index) activity below pos e ≡ Some step → BoundedAfter code table index step
  unfolding applied registered
  own_step (Goes h) k w step q = subst (BoundedAfter code table index) (some_inj _ step q) (plain h w)
  own_step (Prints h label value) k w step q =
      subst (BoundedAfter code table index) (some_inj _ step q)
      (reported (with_frame s (ReleaseAt index) activity h below) (Print s.unit label value ∷ []) (plain h w))
  own_step (Makes h class slots) k w step q =
      subst (BoundedAfter code table index) (some_inj _ step q)
      (made_bounded code table index s activity is pos before below b h class slots w)
  own_step (Stores h r slot v) k w step q =
      subst (BoundedAfter code table index) (some_inj _ step q)
      (stores_bounded code table index s activity is before below b h r slot v w)
  own_step (StoresStatic h place_ v) k w step q =
      subst (BoundedAfter code table index) (some_inj _ step q)
      (goes_to code table index s activity is before below b (record s { statics = slice_set s.statics place_ v }) h []
      (same_activity s (record s { statics = slice_set s.statics place_ v }) (ReleaseAt index) refl refl ∙ is)
      (λ a. (stays code table s (record s { statics = slice_set s.statics place_ v }) refl (same_areas code table s (record s { statics = slice_set s.statics place_ v }) refl)).in_use a)
      refl w)
  own_step (SetsHidden h r values) k w step q =
      subst (BoundedAfter code table index) (some_inj _ step q)
      (hidden_bounded code table index s activity is before below b h r values (k.hidden h r values refl) w)
  own_step (SetsCeiling h r ceiling) k w step q =
      subst (BoundedAfter code table index) (some_inj _ step q)
      (faults_with code table index s activity pos NotInitializing)
  own_step (Calls h g) k w step q =
      subst (BoundedAfter code table index) (some_inj _ step q)
      (call_bounded code table index s activity is pos before below b h g w)
  own_step (Opens h g scope bytes) k w step q =
      subst (BoundedAfter code table index) (some_inj _ step q)
      (opened_bounded code table index s activity is pos before below b h g scope bytes w k.empty)
  own_step (Leaves h v) k w step q =
      subst (BoundedAfter code table index) (some_inj _ step q)
      (left_bounded code table index s activity is pos before below b h v)
  own_step (AsksRelease h r) k w step q =
      subst (BoundedAfter code table index) (some_inj _ step q)
      (released_bounded code table index (with_frame s (ReleaseAt index) activity h below)
      (record activity { frames = h ∷ below }) r (still_there h) (plain h w))
  own_step (AsksTermination h r) k w step q =
      subst (BoundedAfter code table index) (some_inj _ step q)
      (termination_bounded code table index (with_frame s (ReleaseAt index) activity h below) r (plain h w))
  own_step (Faults fault) k w step q =
      subst (BoundedAfter code table index) (some_inj _ step q) (faults_with code table index s activity pos fault)
  own_step Stuck k w step q = absurd (cc (q))
  own_step (AsksRegistration h r) k w step q = of (object_at s r) q
    where
      of : (o : Option Object) → option_map
          (λ (x : Object). registered code s (ReleaseAt index) activity pos r x (with_frame s (ReleaseAt index) activity h below)) o
          ≡ Some step → BoundedAfter code table index step
      of None q = absurd (cc (q))
      of (Some x) q =
          let init : is_init s.phase ≡ false = k.no_init in
          let f : registered code s (ReleaseAt index) activity pos r x (with_frame s (ReleaseAt index) activity h below)
          ≡ fault_in s (ReleaseAt index) activity pos NotInitializing = rw init refl in
          subst (BoundedAfter code table index) (sym f ∙ some_inj _ step q)
          (faults_with code table index s activity pos NotInitializing)

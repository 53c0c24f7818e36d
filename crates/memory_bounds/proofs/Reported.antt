-- What a step of a release tells: no fault of memory that is asked, unless an object finds no room or an area no store.
use Rattle.std.specs.Prelude.{Option, Some, None, slice_get, if◌then◌else◌, map, filter, nat_lt, is_some, unwrap_or, length, Contains}
use Rattle.std.specs.List.{list_any}
use Rattle.std.proofs.Common.{◌≡◌, ◌⊎◌, inl, inr, ℕ, zero, suc, ◌==◌, List, [], ◌∷◌, ◌++◌, Bool, true, false, ◌||◌, not, refl, sym, ◌∙◌, ap, subst, arith}
use Rattle.std.proofs.lemmas.Bool.{true≢false}
use Rattle.scj_base.specs.declared.faults.RunFault.{RunFault}
use Rattle.scj_base.specs.declared.faults.RunFault.TheVariants.{MemoryFull, StoreFull, ScopedCycle, CeilingViolation, NotInitializing, TooManyHandlers, DepthFull}
use Rattle.scj_base.specs.declared.positions.Position.{Position}
use Rattle.scj_base.specs.declared.values.Value.{Value}
use Rattle.scj_rules.specs.declared.views.Body.{Body}
use Rattle.scj_rules.specs.Bodies.{class_position}
use Rattle.accepted_laws.proofs.Tools.{some_inj}
use Rattle.scj_model.specs.declared.events.Event.{Event}
use Rattle.scj_model.specs.declared.events.Event.TheVariants.{Fault, Drop, End, Prio}
use Rattle.scj_model.specs.declared.handlers.HandlerRow.{HandlerRow}
use Rattle.scj_model.specs.Code.{Code}
use Rattle.scj_model.specs.State.{Object, Frame, Activity, Release, Job, ReleaseAt, State, object_at, is_init, is_exec, is_waiting, with_activity}
use Rattle.scj_model.specs.Memory.{has_room, has_store_for, closed, area_with_scope}
use Rattle.scj_model.specs.Registry.{handler_number, most_handlers}
use Rattle.scj_model.specs.Steps.{Step, silently, reporting, of_release, job_ended, fault_in, opening, allocating}
use Rattle.scj_model.specs.Effects.{Effect, Goes, Prints, Makes, Stores, StoresStatic, SetsHidden, SetsCeiling, Calls, Opens, Leaves, AsksRegistration, AsksRelease, AsksTermination, Faults, Stuck}
use Rattle.scj_model.specs.Apply.{applied, called, ceiling_entered, is_full, opened_in, frame_left, returned, without, report_priority, with_frame, registered, released, release_taken, most_waiting, waiting_of, takes_releases, termination, termination_asked, asks_for_end}
use Rattle.scj_model.specs.Run.{started_with, no_activity}
use Rattle.memory_bounds.proofs.Counted.{is_memory_fault}

-- of these faults; those of memory may be among them
module _ (bad : RunFault → Bool) (only : (x : RunFault) → is_memory_fault x ≡ false → bad x ≡ false) where
  -- ---- events

  fills : Event → Bool
  fills (Fault unit fault pos) = bad fault
  fills _ = false

  pub record ReportsNone (step : Step) : Type 0 where
    is : list_any fills step.events ≡ false

  -- an event that is told is one of them
  reported_one : (es : List Event) (e : Event) → Contains es e → fills e ≡ true → list_any fills es ≡ true
  reported_one [] e c f = absurd (omega (arith, c.1))
  reported_one (x ∷ es) e (zero, l, same) f = ap (λ (y : Event). fills y || list_any fills es) same ∙ ap (λ b. b || list_any fills es) f
  reported_one (x ∷ es) e (suc k, l, same) f = later (fills x) (reported_one es e (k, omega (arith, l), same) f)
    where
      later : (b : Bool) → list_any fills es ≡ true → (b || list_any fills es) ≡ true
      later true h = refl
      later false h = h

  pub never_reported : (step : Step) → ReportsNone step → (x : RunFault) → bad x ≡ true → (unit : ℕ) (pos : Position) →
      Contains step.events (Fault unit x pos) → ⊥
  unfolding fills
  never_reported step n x e unit pos c = true≢false (sym (reported_one step.events (Fault unit x pos) c e) ∙ n.is)

  both_none : (xs ys : List Event) → list_any fills xs ≡ false → list_any fills ys ≡ false →
      list_any fills (xs ++ ys) ≡ false
  both_none [] ys h k = k
  both_none (x ∷ xs) ys h k = of (fills x) h (λ e. both_none xs ys e k)
    where
      of : (b : Bool) → (b || list_any fills xs) ≡ false →
          (list_any fills xs ≡ false → list_any fills (xs ++ ys) ≡ false) → (b || list_any fills (xs ++ ys)) ≡ false
      of true h later = h
      of false h later = later h

  -- ---- the ways to make a step

  quiet : (s : State) → ReportsNone (silently s)
  quiet s = record { is = refl }

  either : (b : Bool) (x y : Step) → (b ≡ true → ReportsNone x) → (b ≡ false → ReportsNone y) →
      ReportsNone (if b then x else y)
  either true x y h k = h refl
  either false x y h k = k refl

  -- what is told of a release is its end or its priority
  of_none : (o : Option Release) (report : Release → List Event) → ((r : Release) → list_any fills (report r) ≡ false) →
      list_any fills (elim o as (λ z. List Event) [ None ↦ [] | Some r ↦ report r ]) ≡ false
  of_none None report h = refl
  of_none (Some r) report h = h r

  faulted : (s : State) (index : ℕ) (activity : Activity) (pos : Position) (fault : RunFault) → bad fault ≡ false →
      ReportsNone (fault_in s (ReleaseAt index) activity pos fault)
  unfolding fault_in fills
  faulted s index activity pos fault h = record {
    is = ap (λ b. b || list_any fills (of_release s (ReleaseAt index) (λ r. End s.unit r.handler r.number ∷ []))) h
        ∙ of_none (slice_get s.releases index) (λ r. End s.unit r.handler r.number ∷ []) (λ r. refl);
  }

  priority_none : (s : State) (index before after : ℕ) →
      list_any fills (report_priority s (ReleaseAt index) before after) ≡ false
  unfolding fills
  priority_none s index before after = of (before == after)
    where
      of : (b : Bool) → list_any fills (if b then []
          else of_release s (ReleaseAt index) (λ r. Prio s.unit r.handler after ∷ [])) ≡ false
      of true = refl
      of false = of_none (slice_get s.releases index) (λ r. Prio s.unit r.handler after ∷ []) (λ r. refl)

  drops_none : (unit : ℕ) (rs : List Release) →
      list_any fills (map (λ (r : Release). Drop unit r.handler r.number) rs) ≡ false
  unfolding fills
  drops_none unit [] = refl
  drops_none unit (r ∷ rs) = drops_none unit rs

  -- where a fault of this kind is none of those, or doesn't come
  spared : (x : RunFault) (room : Bool) (s : State) (index : ℕ) (activity : Activity) (pos : Position) →
      (bad x ≡ false) ⊎ (room ≡ true) → room ≡ false → ReportsNone (fault_in s (ReleaseAt index) activity pos x)
  spared x room s index activity pos (inl none) e = faulted s index activity pos x none
  spared x room s index activity pos (inr there) e = absurd (true≢false (sym there ∙ e))

  module _ (code : Code) (s : State) (index : ℕ) (activity : Activity) (below : List Frame) (pos : Position) where
    abbrev job : Job
    job = ReleaseAt index

    called_none : (frames : List Frame) (g : Frame) → ReportsNone (called code s (ReleaseAt index) activity frames pos g)
    unfolding called
    called_none frames g =
        either (is_full frames) _ _ (λ e. faulted s index activity pos DepthFull (only DepthFull refl)) (λ e. by (ceiling_entered code s g))
      where
        by : (o : Option ℕ) → ReportsNone (elim o as (λ z. Step) [
          | None ↦ silently (with_activity s (ReleaseAt index) (record activity { frames = g ∷ frames }))
          | Some ceiling ↦
              if nat_lt ceiling activity.priority then fault_in s (ReleaseAt index) activity pos CeilingViolation
              else reporting
              (with_activity s (ReleaseAt index) (record activity {
                frames = record g { saved = Some activity.priority } ∷ frames;
                priority = ceiling;
              }))
              (report_priority s (ReleaseAt index) activity.priority ceiling)
        ])
        by None = quiet _
        by (Some ceiling) =
            either (nat_lt ceiling activity.priority) _ _ (λ e. faulted s index activity pos CeilingViolation (only CeilingViolation refl))
            (λ e. record { is = priority_none s index activity.priority ceiling })

    opened_none : (frames : List Frame) (g : Frame) (scope bytes : ℕ) →
        (bad StoreFull ≡ false) ⊎ (has_store_for s bytes ≡ true) →
        ReportsNone (opened_in s (ReleaseAt index) activity frames pos g scope bytes)
    unfolding opened_in opening
    opened_none frames g scope bytes room =
        either (is_some (area_with_scope s scope activity.areas)) _ _ (λ e. faulted s index activity pos ScopedCycle (only ScopedCycle refl))
        (λ e. either (is_full frames) _ _ (λ e. faulted s index activity pos DepthFull (only DepthFull refl))
        (λ e. either (has_store_for s bytes) _ _ (λ e. quiet _)
        (λ e. spared StoreFull (has_store_for s bytes) s index activity pos room e)))

    left_none : (f : Frame) (value : Option Value) → ReportsNone (frame_left s (ReleaseAt index) activity f below value)
    unfolding frame_left job_ended fills
    left_none f value = of below
      where
        priority : ℕ
        priority = unwrap_or f.saved activity.priority

        after : Activity
        after = record activity {
          frames = returned value below;
          areas = without f.opened activity.areas;
          priority = unwrap_or f.saved activity.priority;
        }

        t : State
        t = closed s f.opened

        of : (fs : List Frame) → ReportsNone
            (let second = elim fs as (λ z. Step) [
              | [] ↦ job_ended t (ReleaseAt index) after value
              | g ∷ gs ↦ silently (with_activity t (ReleaseAt index) after)
            ] in reporting second.state (report_priority s (ReleaseAt index) activity.priority priority ++ second.events))
        of [] = record {
          is = both_none (report_priority s (ReleaseAt index) activity.priority priority) _
              (priority_none s index activity.priority priority)
              (of_none (slice_get t.releases index) (λ r. End t.unit r.handler r.number ∷ []) (λ r. refl));
        }
        of (g ∷ gs) = record {
          is = both_none (report_priority s (ReleaseAt index) activity.priority priority) []
              (priority_none s index activity.priority priority) refl;
        }

    registered_none : (r : ℕ) (o : Object) (after : State) →
        ReportsNone (registered code s (ReleaseAt index) activity pos r o after)
    unfolding registered fills
    registered_none r o after =
        either (not (is_init s.phase)) _ _ (λ e. faulted s index activity pos NotInitializing (only NotInitializing refl))
        (λ e. either (is_some (handler_number s.registry r)) _ _ (λ e. quiet after)
        (λ e. either (not (nat_lt (length s.registry) most_handlers)) _ _
        (λ e. faulted s index activity pos TooManyHandlers (only TooManyHandlers refl)) (λ e. record { is = refl })))

  taken_none : (t : State) (handler : ℕ) → ReportsNone (release_taken t handler)
  unfolding release_taken fills
  taken_none t handler =
      either (not (nat_lt (length (waiting_of t handler)) most_waiting)) _ _ (λ e. record { is = refl })
      (λ e. record { is = refl })

  released_none : (t : State) (r : ℕ) → ReportsNone (released t r)
  unfolding released
  released_none t r = either (takes_releases t) _ _ (λ e. by (handler_number t.registry r)) (λ e. quiet t)
    where
      by : (o : Option ℕ) → ReportsNone (elim o as (λ z. Step) [ None ↦ silently t | Some handler ↦ release_taken t handler ])
      by None = quiet t
      by (Some handler) = taken_none t handler

  asked_none : (t : State) (r : ℕ) → ReportsNone (termination_asked t r)
  unfolding termination_asked termination fills
  asked_none t r =
      either (asks_for_end t.mission t.phase t.is_end_asked r) _ _
      (λ e. either (is_exec t.phase) _ _
      (λ e. record { is = drops_none t.unit (filter (λ (r : Release). is_waiting r.status) t.releases) }) (λ e. quiet _))
      (λ e. quiet t)

  -- ---- each effect

  module _ (code : Code) (s : State) (index : ℕ) (activity : Activity) (below : List Frame) (pos : Position) where
    -- that a new object finds room and a new area store, as far as that is asked, and that the effect is no such fault of
    -- its own accord
    pub record HasRoom (e : Effect) : Type 0 where
      pub makes : (h : Frame) (class : ℕ) (values : List Value) → e ≡ Makes h class values →
          (bad MemoryFull ≡ false) ⊎ (has_room s h.area (length values) ≡ true)
      pub opens : (h g : Frame) (scope bytes : ℕ) → e ≡ Opens h g scope bytes →
          (bad StoreFull ≡ false) ⊎ (has_store_for s bytes ≡ true)
      pub full : (x : RunFault) → e ≡ Faults x → is_memory_fault x ≡ false

    one : (x step : Step) → ReportsNone x → Some x ≡ Some step → ReportsNone step
    one x step n e = subst ReportsNone (some_inj x step e) n

    pub applied_none : (e : Effect) → HasRoom e → (step : Step) →
        applied code s (ReleaseAt index) activity below pos e ≡ Some step → ReportsNone step
    unfolding applied allocating fills
    applied_none (Goes h) r step q = one _ step (quiet _) q
    applied_none (Prints h label value) r step q = one _ step (record { is = refl }) q
    applied_none (Makes h class values) r step q =
        one _ step (either (has_room s h.area (length values)) _ _ (λ e. quiet _)
        (λ e. spared MemoryFull (has_room s h.area (length values)) s index activity pos (r.makes h class values refl) e)) q
    applied_none (Stores h x slot v) r step q = one _ step (quiet _) q
    applied_none (StoresStatic h n v) r step q = one _ step (quiet _) q
    applied_none (SetsHidden h x values) r step q = one _ step (quiet _) q
    applied_none (SetsCeiling h x ceiling) r step q = one _ step (faulted s index activity pos NotInitializing (only NotInitializing refl)) q
    applied_none (Calls h g) r step q = one _ step (called_none code s index activity below pos (h ∷ below) g) q
    applied_none (Opens h g scope bytes) r step q =
        one _ step (opened_none code s index activity below pos (h ∷ below) g scope bytes (r.opens h g scope bytes refl)) q
    applied_none (Leaves h v) r step q = one _ step (left_none code s index activity below pos h v) q
    applied_none (AsksRelease h x) r step q =
        one _ step (released_none (with_frame s (ReleaseAt index) activity h below) x) q
    applied_none (AsksTermination h x) r step q =
        one _ step (asked_none (with_frame s (ReleaseAt index) activity h below) x) q
    applied_none (Faults fault) r step q = one _ step (faulted s index activity pos fault (only fault (r.full fault refl))) q
    applied_none Stuck r step q = absurd (cc (q))
    applied_none (AsksRegistration h x) r step q = of (object_at s x) q
      where
        of : (o : Option Object) → (elim o as (λ z. Option Step) [
          | None ↦ None
          | Some y ↦ Some (registered code s (ReleaseAt index) activity pos x y
              (with_frame s (ReleaseAt index) activity h below))
        ]) ≡ Some step → ReportsNone step
        of None q = absurd (cc (q))
        of (Some y) q =
            one _ step (registered_none code s index activity below pos x y (with_frame s (ReleaseAt index) activity h below)) q

    pub started_none : (row : HandlerRow) (scope : ℕ) (body : Body) →
        (bad StoreFull ≡ false) ⊎ (has_store_for s row.bytes ≡ true) →
        ReportsNone (started_with code s index row scope body)
    unfolding started_with opening
    started_none row scope body room =
        either (has_store_for s row.bytes) _ _ (λ e. quiet _)
        (λ e. spared StoreFull (has_store_for s row.bytes) s index no_activity (class_position code.program row.class) room e)

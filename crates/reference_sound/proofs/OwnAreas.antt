-- What an effect does keeps the references of the job that acts: calls, an area that is opened, and leaving.
use Rattle.std.specs.Prelude.{Option, Some, None, slice_get, if◌then◌else◌, ◌++◌, nat_lt, is_some, unwrap_or, option_to_list}
use Rattle.std.proofs.Common.{◌≡◌, ℕ, ◌<◌, List, [], ◌∷◌, length, Bool, true, false, refl, sym, ◌∙◌, ap, subst, ◌⊎◌, inl, inr}
use Rattle.scj_base.specs.declared.faults.RunFault.TheVariants.{ScopedCycle, CeilingViolation, DepthFull, StoreFull}
use Rattle.scj_base.specs.declared.positions.Position.{Position}
use Rattle.scj_base.specs.declared.values.Value.{Value}
use Rattle.accepted_laws.proofs.Lists.{get_left, get_within}
use Rattle.accepted_laws.proofs.Tools.{some_inj}
use Rattle.scj_model.specs.declared.events.Event.{Event}
use Rattle.scj_model.specs.Code.{Code}
use Rattle.scj_model.specs.State.{MemoryArea, Frame, Activity, Job, TheSequencer, ReleaseAt, State, activity_of, with_activity}
use Rattle.scj_model.specs.Memory.{has_store_for, with_area, area_with_scope, closed}
use Rattle.scj_model.specs.Steps.{silently, reporting, fault_in, opening, then_do, job_ended}
use Rattle.scj_model.specs.Effects.{Effect, Calls, Opens, Leaves}
use Rattle.scj_model.specs.Apply.{is_full, ceiling_entered, report_priority, called, opened_in, applied, frame_left, returned, without}
use Rattle.frame_sound.specs.Places.{World, world_of}
use Rattle.frame_sound.specs.Fine.{IsOnList, list_of}
use Rattle.frame_sound.specs.EffectsFine.{IsSame}
use Rattle.reference_sound.specs.References.{EachReference, JobHolds, MemoryHolds, ParentsAreEarlier, ReferencesHold}
use Rattle.reference_sound.specs.Objects.{ObjectsStay}
use Rattle.reference_sound.proofs.Plain.{each_weaker}
use Rattle.reference_sound.proofs.Memory.{ParentsStay, memory_same}
use Rattle.reference_sound.proofs.Closing.{one_closes, objects_close, memory_close}
use Rattle.reference_sound.proofs.Held.{AllLead, all_lead, goes_on, release_ends, faults_hold, held_after, jobs_of}
use Rattle.reference_sound.proofs.OwnEffects.{HoldsHere, Asks, Kept, frames_hold, frame_holds}
use Rattle.reference_sound.proofs.Objects.{objects_same, objects_opened, on_list_still, job_holds}
use Rattle.reference_sound.proofs.Lists.{last_or_before}
use Rattle.reference_sound.proofs.Among.{among_later}

-- ---- a new area

-- an area that is opened in an earlier one
pub order_opens : (s : State) (scope : ℕ) (parent : Option ℕ) (bytes : ℕ) →
    ((b : ℕ) → parent ≡ Some b → b < length s.areas) → ParentsAreEarlier (world_of s).areas →
    ParentsAreEarlier (world_of (with_area s scope parent bytes)).areas
order_opens s scope parent bytes inside order =
    record { earlier = λ a b x there up. go a b x up (last_or_before s.areas new a x there) }
  where
    new : MemoryArea
    new = record { scope = scope; parent = parent; bytes = bytes; is_open = true }

    go : (a b : ℕ) (x : MemoryArea) → x.parent ≡ Some b →
        (slice_get s.areas a ≡ Some x) ⊎ ((a ≡ length s.areas) × (new ≡ x)) → b < a
    go a b x up (inl was) = order.earlier a b x was up
    go a b x up (inr last) =
        subst (λ n. b < n) (sym last.0) (inside b (ap (λ (y : MemoryArea). y.parent) last.1 ∙ up))

module _ (s : State) (scope : ℕ) (parent : Option ℕ) (bytes : ℕ) where
  pub parents_open : ParentsStay (world_of s) (world_of (with_area s scope parent bytes))
  parents_open a x e = (x, get_left s.areas _ a x e, refl)

  pub memory_opens : MemoryHolds (world_of s) s.statics →
      MemoryHolds (world_of (with_area s scope parent bytes)) s.statics
  memory_opens h =
      memory_same (world_of s) (world_of (with_area s scope parent bytes)) parents_open
      (objects_opened s scope parent bytes) s.statics refl h

-- what lies on a list lies on a longer one
pub on_longer : (w : World) (more list : List ℕ) (vs : List Value) → EachReference (IsOnList w list) vs →
    EachReference (IsOnList w (more ++ list)) vs
on_longer w more list vs h =
    each_weaker (IsOnList w list) (IsOnList w (more ++ list)) (λ r x. record {
      object = x.object;
      found = x.found;
      on_list = among_later x.object.area more list x.on_list;
    }) vs h

-- the frame below one that left
pub returned_holds : (w : World) (base : List ℕ) (v : Option Value) (fs : List Frame) → JobHolds w base fs →
    JobHolds w base (returned v fs)
unfolding returned
returned_holds w base None [] h = h
returned_holds w base None (f ∷ fs) h = h
returned_holds w base (Some v) [] h = h
returned_holds w base (Some v) (f ∷ fs) h = h

module _ (code : Code) (s : State) (job : Job) (activity : Activity) (is : activity_of s job ≡ Some activity)
    (base : List ℕ) (held : ReferencesHold s base) (f : Frame) (below : List Frame)
    (frames : activity.frames ≡ f ∷ below) (position : Position) where
  -- what the section before has of this frame
  abbrev Here : Frame → Type 0
  Here h = HoldsHere code s job activity is base held f below frames position h

  abbrev Asked : Effect → Type 0
  Asked e = Asks code s job activity is base held f below frames position e

  abbrev Held : Effect → Type 0
  Held e = Kept code s job activity is base held f below frames position e

  -- ---- calls

  module _ (h g : Frame) (same : IsSame f h) (asks : Asked (Calls h g)) (unopened : g.opened ≡ None) where
    callee_holds : (saved : Option ℕ) → JobHolds (world_of s) base (record g { saved = saved } ∷ (h ∷ below))
    callee_holds saved =
        let lower = frame_holds code s job activity is base held f below frames position s
        (objects_same (world_of s)) h h same refl asks.0 in
        let list = list_of base (f ∷ below) in (
          subst
              (λ (o : Option ℕ). EachReference (IsOnList (world_of s) (option_to_list o ++ list_of base (h ∷ below)))
              g.locals)
              (sym unopened)
              (subst
              (λ (o : Option ℕ). EachReference (IsOnList (world_of s) (option_to_list o ++ list_of base below))
              g.locals)
              (sym same.opened) asks.1),
          lower,
        )

    pushed : (saved : Option ℕ) (priority : ℕ) →
        ReferencesHold (with_activity s job (record activity {
          frames = record g { saved = saved } ∷ (h ∷ below);
          priority = priority;
        })) base
    pushed saved priority =
        goes_on s base held job s refl refl
        (record activity { frames = record g { saved = saved } ∷ (h ∷ below); priority = priority }) held.memory
        held.order
        (objects_same (world_of s)) (callee_holds saved)

    pub calls_hold : Held (Calls h g)
    unfolding applied called
    calls_hold = go (is_full (h ∷ below)) (ceiling_entered code s g)
      where
        entered : (ceiling : ℕ) (t : Bool) (events : List Event) → AllLead base (Some (if t
            then fault_in s job activity position CeilingViolation
            else reporting
            (with_activity s job (record activity {
              frames = record g { saved = Some activity.priority } ∷ (h ∷ below);
              priority = ceiling;
            })) events))
        entered ceiling true events =
            all_lead base _ (faults_hold s base held job activity position CeilingViolation)
        entered ceiling false events = all_lead base _ (pushed (Some activity.priority) ceiling)

        go : (t : Bool) (o : Option ℕ) → AllLead base (Some (if t then fault_in s job activity position DepthFull
            else (elim o [
              | None ↦ silently (with_activity s job (record activity { frames = g ∷ (h ∷ below) }))
              | Some ceiling ↦
                  if nat_lt ceiling activity.priority then fault_in s job activity position CeilingViolation
                  else reporting
                  (with_activity s job (record activity {
                    frames = record g { saved = Some activity.priority } ∷ (h ∷ below);
                    priority = ceiling;
                  })) (report_priority s job activity.priority ceiling)
            ])))
        go true o = all_lead base _ (faults_hold s base held job activity position DepthFull)
        go false None = all_lead base _ (pushed g.saved activity.priority)
        go false (Some ceiling) =
            entered ceiling (nat_lt ceiling activity.priority) (report_priority s job activity.priority ceiling)

  -- ---- a call in a new area

  module _ (h g : Frame) (scope bytes : ℕ) (same : IsSame f h) (asks : Asked (Opens h g scope bytes))
      (around : MemoryArea) (is_area : slice_get s.areas g.area ≡ Some around) where
    abbrev opened_state : State
    opened_state = with_area s scope (Some g.area) bytes

    abbrev opened_activity : Activity
    opened_activity =
        record activity {
          frames = record g { area = length s.areas; opened = Some (length s.areas) } ∷ (h ∷ below);
          areas = length s.areas ∷ activity.areas;
        }

    opened : ReferencesHold (with_activity opened_state job opened_activity) base
    opened =
        goes_on s base held job opened_state refl refl opened_activity
        (memory_opens s scope (Some g.area) bytes held.memory)
        (order_opens s scope (Some g.area) bytes inside held.order) stay (top, lower)
      where
        stay : ObjectsStay (world_of s) (world_of (with_area s scope (Some g.area) bytes))
        stay = objects_opened s scope (Some g.area) bytes

        inside : (b : ℕ) → Some g.area ≡ Some b → b < length s.areas
        inside b e = subst (λ n. n < length s.areas) (some_inj g.area b e) (get_within s.areas g.area around is_area)

        lower : JobHolds (world_of (with_area s scope (Some g.area) bytes)) base (h ∷ below)
        lower =
            frame_holds code s job activity is base held f below frames position (with_area s scope (Some g.area) bytes)
            stay
            h h same refl asks.0

        top : EachReference
            (IsOnList (world_of (with_area s scope (Some g.area) bytes)) (length s.areas ∷ list_of base (h ∷ below)))
            g.locals
        top =
            on_longer (world_of (with_area s scope (Some g.area) bytes)) (length s.areas ∷ [])
            (list_of base (h ∷ below))
            g.locals
            (each_weaker (IsOnList (world_of s) (list_of base (h ∷ below)))
            (IsOnList (world_of (with_area s scope (Some g.area) bytes)) (list_of base (h ∷ below)))
            (on_list_still (world_of s) (world_of (with_area s scope (Some g.area) bytes)) stay
            (list_of base (h ∷ below)))
            g.locals
            (subst
            (λ (o : Option ℕ). EachReference (IsOnList (world_of s) (option_to_list o ++ list_of base below))
            g.locals)
            (sym same.opened) asks.1))

    pub opens_hold : Held (Opens h g scope bytes)
    unfolding applied opened_in opening
    opens_hold = go (area_with_scope s scope activity.areas) (is_full (h ∷ below)) (has_store_for s bytes)
      where
        go : (o : Option ℕ) (t u : Bool) →
            AllLead base (Some (if is_some o then fault_in s job activity position ScopedCycle
            else (if t then fault_in s job activity position DepthFull
            else (if u then silently (with_activity (with_area s scope (Some g.area) bytes) job opened_activity)
            else fault_in s job activity position StoreFull))))
        go (Some a) t u = all_lead base _ (faults_hold s base held job activity position ScopedCycle)
        go None true u = all_lead base _ (faults_hold s base held job activity position DepthFull)
        go None false true = all_lead base _ opened
        go None false false = all_lead base _ (faults_hold s base held job activity position StoreFull)

  -- ---- leaving

  module _ (h : Frame) (v : Option Value) where
    abbrev after : Activity
    after =
        record activity {
          frames = returned v below;
          areas = without h.opened activity.areas;
          priority = unwrap_or h.saved activity.priority;
        }

    lower_hold : JobHolds (world_of (closed s h.opened)) base (returned v below)
    lower_hold =
        returned_holds (world_of (closed s h.opened)) base v below
        (job_holds (world_of s) (world_of (closed s h.opened))
        (objects_close s (closed s h.opened) (one_closes s h.opened))
        base below (frames_hold code s job activity is base held f below frames position).1)

    left : ReferencesHold (with_activity (closed s h.opened) job after) base
    left =
        let c = one_closes s h.opened in
        goes_on s base held job (closed s h.opened) c.releases c.activity after
        (memory_close s (closed s h.opened) c held.memory) (c.order held.order) (objects_close s (closed s h.opened) c)
        lower_hold

    ended : (j : Job) → ReferencesHold (job_ended (closed s h.opened) j after v).state base
    unfolding job_ended
    ended TheSequencer =
        let c = one_closes s h.opened in
        let t : State = (job_ended (closed s h.opened) TheSequencer after v).state in
        held_after s t base held (memory_close s (closed s h.opened) c held.memory) (c.order held.order)
        (objects_close s (closed s h.opened) c)
        (jobs_of s t base held c.releases
        (returned_holds (world_of s) base v below
        (frames_hold code s job activity is base held f below frames position).1))
    ended (ReleaseAt n) =
        let c = one_closes s h.opened in
        release_ends s base held n (closed s h.opened) c.releases c.activity
        (memory_close s (closed s h.opened) c held.memory) (c.order held.order)
        (objects_close s (closed s h.opened) c)

    pub leaves_hold : Held (Leaves h v)
    unfolding applied frame_left
    leaves_hold = go below refl
      where
        go : (fs : List Frame) → below ≡ fs →
            AllLead base (Some (then_do
            (reporting (closed s h.opened) (report_priority s job activity.priority (unwrap_or h.saved activity.priority)))
            (λ s. elim fs [
              | [] ↦ job_ended s job after v
              | g ∷ gs ↦ silently (with_activity s job after)
            ])))
        go [] e = all_lead base _ (ended job)
        go (g ∷ gs) e = all_lead base _ left

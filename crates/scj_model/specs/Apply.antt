-- What an effect does to the state, with what the trace tells of it (JSR 302: memory areas, priority ceiling emulation,
-- event handlers, Mission). Where memory, frames, priorities or the registry don't allow an effect, a fault is its
-- result.
use Rattle.std.specs.Prelude.{ℕ, ◌+◌, ◌==◌, nat_lt, Bool, true, false, not, ◌&&◌, List, [], ◌∷◌, ◌++◌, length, map, filter, drop, slice_get, slice_set, Option, Some, None, if◌then◌else◌, is_some, option_map, unwrap_or, ◌||◌}
use Rattle.scj_base.specs.declared.positions.Position.{Position}
use Rattle.scj_base.specs.declared.faults.RunFault.TheVariants.{ScopedCycle, CeilingViolation, NotInitializing, TooManyHandlers, DepthFull}
use Rattle.scj_base.specs.declared.values.Value.{Value}
use Rattle.scj_base.specs.declared.values.Value.TheVariants.{At}
use Rattle.scj_rules.specs.Words.{holds, ◌>>=◌}
use Rattle.scj_model.specs.declared.events.Event.{Event}
use Rattle.scj_model.specs.declared.events.Event.TheVariants.{Register, Arrive, Lost, Prio, Print, Terminate, Drop}
use Rattle.scj_model.specs.declared.phases.Phase.{Phase}
use Rattle.scj_model.specs.Code.{Code}
use Rattle.scj_model.specs.State.{Object, Frame, Activity, Waits, Dropped, Release, Job, TheSequencer, ReleaseAt, State, changed, is_waiting, with_activity, object_at, is_exec, is_init}
use Rattle.scj_model.specs.Registry.{handler_number, most_handlers, new_row}
use Rattle.scj_model.specs.Memory.{with_slot, closed, area_with_scope}
use Rattle.scj_model.specs.Steps.{Step, allocating, fault_in, job_ended, of_release, opening, silently, reporting, then_do}
use Rattle.scj_model.specs.Effects.{Effect, Goes, Prints, Makes, Stores, StoresStatic, SetsHidden, SetsCeiling, Calls, Opens, Leaves, AsksRegistration, AsksRelease, AsksTermination, Faults, Stuck, monitor_of}

-- the name of a class, and that of an object's
abbrev pub class_name : Code → ℕ → List ℕ
class_name code class = elim (slice_get code.program.classes class) [ None ↦ [] | Some row ↦ row.name ]

abbrev pub class_name_at : Code → State → ℕ → List ℕ
class_name_at code s r = elim (object_at s r) [ None ↦ [] | Some o ↦ class_name code o.class ]

-- ---- calls and leaving

-- the active priority of a release is another one than before
abbrev pub report_priority : State → Job → ℕ → ℕ → List Event
report_priority s job before after =
    if before == after then [] else of_release s job (λ r. Prio s.unit r.handler after ∷ [])

abbrev pub most_frames : ℕ
most_frames = 64

abbrev pub is_full : List Frame → Bool
is_full frames = not (nat_lt (length frames) most_frames)

-- the ceiling of the monitor that a frame enters: that of its object
unfoldable pub ceiling_entered : Code → State → Frame → Option ℕ
ceiling_entered code s f = monitor_of code f >>= object_at s >>= (λ o. Some o.ceiling)

-- a call on top of these frames: the active priority becomes the ceiling of the monitor that is entered
unfoldable pub called : Code → State → Job → Activity → List Frame → Position → Frame → Step
called code s job activity frames position g =
    if is_full frames then fault_in s job activity position DepthFull
    else (elim (ceiling_entered code s g) [
      | None ↦ silently (with_activity s job (record activity { frames = g ∷ frames }))
      | Some ceiling ↦
          if nat_lt ceiling activity.priority then fault_in s job activity position CeilingViolation
          else reporting
          (with_activity s job (record activity {
            frames = record g { saved = Some activity.priority } ∷ frames;
            priority = ceiling;
          }))
          (report_priority s job activity.priority ceiling)
    ])

-- a call in a new area inside the caller's
unfoldable pub opened_in : State → Job → Activity → List Frame → Position → Frame → ℕ → ℕ → Step
opened_in s job activity frames position g scope bytes =
    if is_some (area_with_scope s scope activity.areas) then fault_in s job activity position ScopedCycle
    else (if is_full frames then fault_in s job activity position DepthFull
    else opening s job activity position scope (Some g.area) bytes (λ s area.
    silently (with_activity s job (record activity {
      frames = record g { area = area; opened = Some area } ∷ frames;
      areas = area ∷ activity.areas;
    }))))

-- the frame below gets the value that the one above left with
unfoldable pub returned : Option Value → List Frame → List Frame
returned (Some value) (f ∷ fs) = record f { operands = value ∷ f.operands } ∷ fs
returned _ frames = frames

-- the areas without the one that a frame opened
abbrev pub without : Option ℕ → List ℕ → List ℕ
without None areas = areas
without (Some a) areas = filter (λ b. not (b == a)) areas

-- a frame leaves: its area is closed, the priority that it saved comes back, and with the last frame the job ends
unfoldable pub frame_left : State → Job → Activity → Frame → List Frame → Option Value → Step
frame_left s job activity f below value =
    let priority = unwrap_or f.saved activity.priority in
    let areas = without f.opened activity.areas in
    let after = record activity { frames = returned value below; areas = areas; priority = priority } in
    then_do (reporting (closed s f.opened) (report_priority s job activity.priority priority)) (λ s. elim below [
      | [] ↦ job_ended s job after value
      | g ∷ gs ↦ silently (with_activity s job after)
    ])

-- ---- handlers and releases

abbrev pub most_waiting : ℕ
most_waiting = 64

-- releases are taken in while the mission executes and no end was asked
abbrev pub takes_releases : State → Bool
takes_releases s = is_exec s.phase && not s.is_end_asked

-- the releases of a handler in this mission
abbrev pub releases_of : State → ℕ → List Release
releases_of s handler = filter (λ (r : Release). r.handler == handler) (drop s.earlier_releases s.releases)

abbrev pub waiting_of : State → ℕ → List Release
waiting_of s handler = filter (λ (r : Release). is_waiting r.status) (releases_of s handler)

-- one more release of a handler waits, unless as many wait as may
unfoldable pub release_taken : State → ℕ → Step
release_taken s handler =
    if not (nat_lt (length (waiting_of s handler)) most_waiting) then reporting s (Lost s.unit handler ∷ [])
    else (let number = length (releases_of s handler) + 1 in
    let taken : Release = record { handler = handler; number = number; status = Waits } in
    reporting (record s { releases = s.releases ++ taken ∷ [] }) (Arrive s.unit handler number ∷ []))

-- a handler is registered during the mission's initialisation, and once
unfoldable pub registered : Code → State → Job → Activity → Position → ℕ → Object → State → Step
registered code s job activity position r o after =
    if not (is_init s.phase) then fault_in s job activity position NotInitializing
    else (if is_some (handler_number s.registry r) then silently after
    else (if not (nat_lt (length s.registry) most_handlers) then fault_in s job activity position TooManyHandlers
    else (let row = new_row code.program r o in
    reporting (record after { registry = after.registry ++ row ∷ [] })
    (Register s.unit (length s.registry + 1) (class_name code o.class) row.priority ∷ []))))

-- `release` has an effect on a registered handler alone
unfoldable pub released : State → ℕ → Step
released s r =
    if takes_releases s
    then (elim (handler_number s.registry r) [ None ↦ silently s | Some handler ↦ release_taken s handler ])
    else silently s

-- the waiting releases are dropped, in the order in which they arrived
unfoldable pub dropped_release : Release → Release
dropped_release r = if is_waiting r.status then record r { status = Dropped } else r

abbrev pub report_dropped : State → List Event
report_dropped s =
    map (λ (r : Release). Drop s.unit r.handler r.number) (filter (λ (r : Release). is_waiting r.status) s.releases)

-- `requestTermination` has an effect on the current mission alone, in its initialisation and its execution, and once
abbrev pub asks_for_end : Option ℕ → Phase → Bool → ℕ → Bool
asks_for_end mission phase is_end_asked r =
    holds mission (λ m. m == r) && ((is_init phase || is_exec phase) && not is_end_asked)

-- during initialisation it is kept, and during execution it drops the waiting releases
unfoldable pub termination : State → Step
termination s =
    if is_exec s.phase
    then reporting (record s { is_end_asked = true; releases = map dropped_release s.releases })
    (Terminate s.unit ∷ report_dropped s)
    else silently (record s { is_end_asked = true })

unfoldable pub termination_asked : State → ℕ → Step
termination_asked s r = if asks_for_end s.mission s.phase s.is_end_asked r then termination s else silently s

-- an object with other hidden fields, or with another ceiling
abbrev pub with_first : List Value → Object → Object
with_first values o = record o { slots = values ++ drop (length values) o.slots }

abbrev pub with_ceiling : ℕ → Object → Object
with_ceiling ceiling o = record o { ceiling = ceiling }

-- ---- all effects. `below` are the frames under the frame that acts, and `place` is where its operation stands

abbrev pub is_sequencer : Job → Bool
is_sequencer TheSequencer = true
is_sequencer (ReleaseAt index) = false

abbrev pub with_frame : State → Job → Activity → Frame → List Frame → State
with_frame s job activity f below = with_activity s job (record activity { frames = f ∷ below })

unfoldable pub applied : Code → State → Job → Activity → List Frame → Position → Effect → Option Step
applied code s job activity below position (Goes f) = Some (silently (with_frame s job activity f below))
applied code s job activity below position (Prints f label value) =
    Some (reporting (with_frame s job activity f below) (Print s.unit label value ∷ []))
applied code s job activity below position (Makes f class slots) =
    Some (allocating s job activity position class f.area slots (λ s r.
    silently (with_frame s job activity (record f { operands = At r ∷ f.operands }) below)))
applied code s job activity below position (Stores f r slot value) =
    Some (silently (with_frame (with_slot s r slot value) job activity f below))
applied code s job activity below position (StoresStatic f n value) =
    Some (silently (with_frame (record s { statics = slice_set s.statics n value }) job activity f below))
applied code s job activity below position (SetsHidden f r values) =
    Some (silently (with_frame (record s { objects = changed (with_first values) r s.objects }) job activity f below))
applied code s job activity below position (SetsCeiling f r ceiling) =
    if is_sequencer job
    then Some (silently
    (with_frame (record s { objects = changed (with_ceiling ceiling) r s.objects }) job activity f below))
    else Some (fault_in s job activity position NotInitializing)
applied code s job activity below position (Calls f g) = Some (called code s job activity (f ∷ below) position g)
applied code s job activity below position (Opens f g scope bytes) =
    Some (opened_in s job activity (f ∷ below) position g scope bytes)
applied code s job activity below position (Leaves f value) = Some (frame_left s job activity f below value)
applied code s job activity below position (AsksRegistration f r) =
    option_map
    (λ (o : Object). registered code s job activity position r o (with_frame s job activity f below))
    (object_at s r)
applied code s job activity below position (AsksRelease f r) = Some (released (with_frame s job activity f below) r)
applied code s job activity below position (AsksTermination f r) =
    Some (termination_asked (with_frame s job activity f below) r)
applied code s job activity below position (Faults fault) = Some (fault_in s job activity position fault)
applied code s job activity below position Stuck = None

-- Steps: a state and what the trace tells on the way to it; steps one after the other; and the steps of which the
-- others are made: a job ends, a fault, an area that is opened, an object that is made (JSR 302: memory areas,
-- ManagedMemory).
use Rattle.std.specs.Prelude.{ℕ, List, [], ◌∷◌, ◌++◌, length, slice_get, Option, Some, None, if◌then◌else◌, option_map, unwrap_or}
use Rattle.scj_base.specs.declared.positions.Position.{Position}
use Rattle.scj_base.specs.declared.faults.RunFault.{RunFault}
use Rattle.scj_base.specs.declared.faults.RunFault.TheVariants.{MemoryFull, StoreFull}
use Rattle.scj_base.specs.declared.values.Value.{Value}
use Rattle.scj_base.specs.declared.values.Value.TheVariants.{Null}
use Rattle.scj_model.specs.declared.events.Event.{Event}
use Rattle.scj_model.specs.declared.events.Event.TheVariants.{Fault, End, Halted}
use Rattle.scj_model.specs.declared.operations.SeqOp.TheVariants.{Finished}
use Rattle.scj_model.specs.declared.phases.Phase.TheVariants.{Over}
use Rattle.scj_model.specs.State.{Frame, Activity, Ended, Release, Job, TheSequencer, ReleaseAt, State, with_status}
use Rattle.scj_model.specs.Memory.{has_room, has_store_for, with_object, with_area, closed}

pub record Step : Type 0 where
  pub state : State
  pub events : List Event

abbrev pub silently : State → Step
silently s = record { state = s; events = [] }

abbrev pub reporting : State → List Event → Step
reporting s events = record { state = s; events = events }

-- ---- one after the other

abbrev pub then_do : Step → (State → Step) → Step
then_do first next = let second = next first.state in reporting second.state (first.events ++ second.events)

-- a second step that may have no result
abbrev pub then_try : Step → (State → Option Step) → Option Step
then_try first next = option_map (λ second. reporting second.state (first.events ++ second.events)) (next first.state)

-- a step for each element, in order
unfoldable pub for_each : {A : Type 0} → (State → A → Step) → List A → State → Step
for_each step [] s = silently s
for_each step (x ∷ xs) s = then_do (step s x) (for_each step xs)

-- ---- ends and faults

-- what the trace tells of a job that is a release
abbrev pub of_release : State → Job → (Release → List Event) → List Event
of_release s TheSequencer report = []
of_release s (ReleaseAt index) report = elim (slice_get s.releases index) [ None ↦ [] | Some r ↦ report r ]

-- the areas that frames opened are closed
unfoldable pub closed_all : State → List Frame → State
closed_all s [] = s
closed_all s (f ∷ fs) = closed_all (closed s f.opened) fs

-- a job has left its last frame: a release has ended, and the operation of the sequencer is done, with this value or
-- null
unfoldable pub job_ended : State → Job → Activity → Option Value → Step
job_ended s TheSequencer activity value =
    silently (record s { activity = activity; outcome = Some (unwrap_or value Null) })
job_ended s (ReleaseAt index) activity value =
    reporting (with_status s index Ended)
    (of_release s (ReleaseAt index) (λ r. End s.unit r.handler r.number ∷ []))

-- a fault: it ends a release, whose frames are dropped and whose areas are closed, and it halts the run of the
-- sequencer
unfoldable pub fault_in : State → Job → Activity → Position → RunFault → Step
fault_in s TheSequencer activity position fault =
    reporting (record s { phase = Over; operation = Finished; outcome = None })
    (Fault s.unit fault position ∷ Halted s.unit ∷ [])
fault_in s (ReleaseAt n) activity position fault =
    reporting (with_status (closed_all s activity.frames) n Ended)
    (Fault s.unit fault position ∷ of_release s (ReleaseAt n) (λ r. End s.unit r.handler r.number ∷ []))

-- ---- memory

-- an area is opened inside another one, if the store has room for it, and `next` goes on with its number
unfoldable pub opening : State → Job → Activity → Position → ℕ → Option ℕ → ℕ → (State → ℕ → Step) → Step
opening s job activity position scope parent bytes next =
    if has_store_for s bytes then next (with_area s scope parent bytes) (length s.areas)
    else fault_in s job activity position StoreFull

-- an object is made in an area, if that has room for it, and `next` goes on with its reference
unfoldable pub allocating : State → Job → Activity → Position → ℕ → ℕ → List Value → (State → ℕ → Step) → Step
allocating s job activity position class area slots next =
    if has_room s area (length slots) then next (with_object s class area slots) (length s.objects)
    else fault_in s job activity position MemoryFull

-- The mission sequencer: its own operations, and what comes after each (JSR 302: Safelet, MissionSequencer, Mission).
-- It sets up the safelet, asks it for the sequencer object, and asks that one for a mission after the other.
use Rattle.std.specs.Prelude.{ℕ, ◌+◌, Bool, false, not, ◌&&◌, ◌||◌, List, [], ◌∷◌, length, Option, Some, None, if◌then◌else◌, codes, option_map}
use Rattle.std.specs.List.{list_any}
use Rattle.scj_base.specs.declared.positions.Position.{Position}
use Rattle.scj_base.specs.declared.faults.RunFault.TheVariants.{NullPointer}
use Rattle.scj_base.specs.declared.values.Value.{Value}
use Rattle.scj_base.specs.declared.values.Value.TheVariants.{Null, At}
use Rattle.scj_rules.specs.declared.views.Body.{Body}
use Rattle.scj_rules.specs.Words.{◌>>=◌}
use Rattle.scj_rules.specs.Views.{nowhere}
use Rattle.scj_rules.specs.ScopeRules.{immortal_scope, defined_by_chain}
use Rattle.scj_rules.specs.Classes.{is_empty}
use Rattle.scj_rules.specs.Bodies.{body_named, constructor_body, size_of, safelet_class, class_position}
use Rattle.scj_model.specs.declared.events.Event.TheVariants.{Mission, Exec as ExecEvent, Cleanup as CleanupEvent, Done}
use Rattle.scj_model.specs.declared.operations.SeqOp.{SeqOp}
use Rattle.scj_model.specs.declared.operations.SeqOp.TheVariants.{OpenImmortal, AllocSafelet, ConstructSafelet, InitializeApplication, GetSequencer, GetNextMission, OpenMission, Initialize, CleanUp, Execute, Finished}
use Rattle.scj_model.specs.declared.phases.Phase.{Phase}
use Rattle.scj_model.specs.declared.phases.Phase.TheVariants.{Boot, Next, Init, Exec, Cleanup, Over}
use Rattle.scj_model.specs.Code.{Code}
use Rattle.scj_model.specs.State.{Release, TheSequencer, State, is_started, object_at, is_exec}
use Rattle.scj_model.specs.Memory.{new_slots, closed}
use Rattle.scj_model.specs.Steps.{Step, silently, reporting, fault_in, allocating, opening}
use Rattle.scj_model.specs.Effects.{new_frame}
use Rattle.scj_model.specs.Apply.{class_name_at}

-- the area that was opened last, and the areas that were open before
unfoldable pub innermost : List ℕ → Option ℕ
innermost [] = None
innermost (a ∷ areas) = Some a

unfoldable pub without_innermost : List ℕ → List ℕ
without_innermost [] = []
without_innermost (a ∷ areas) = areas

-- ---- the sequencer's own operations

-- an operation without a body is done at once, with this value
abbrev pub done : State → Value → State
done s value = record s { outcome = Some value }

-- an area is opened inside the innermost one of the sequencer's; the sequencer has it from now on
unfoldable pub area_opened : State → Position → ℕ → ℕ → Step
area_opened s position scope bytes =
    opening s TheSequencer s.activity position scope (innermost s.activity.areas) bytes (λ t area.
    silently (done (record t { activity = record s.activity { areas = area ∷ s.activity.areas } }) Null))

-- the safelet is made in immortal memory; its reference is the value
unfoldable pub safelet_made : Code → State → Position → ℕ → ℕ → Step
safelet_made code s position class area =
    allocating s TheSequencer s.activity position class area (new_slots code.program class) (λ t r.
    silently (done t (At r)))

-- the sequencer calls a body on an object, in the innermost of its areas. What the framework calls is never
-- synchronized, and is the sequencer's only frame
unfoldable pub body_called : Code → State → ℕ → Body → Option Step
body_called code s r body =
    innermost s.activity.areas >>= (λ area.
    let frame = new_frame code body None (Some r) area [] in
    Some (silently (record s { activity = record s.activity { frames = frame ∷ [] } })))

-- the method of this name that the object has
abbrev pub method_called : Code → State → ℕ → List ℕ → Option Step
method_called code s r name =
    object_at s r >>= (λ o. body_named code.program o.class name >>= body_called code s r)

-- the place of an operation on an object: where its class is named
abbrev pub position_of_object : Code → State → ℕ → Position
position_of_object code s r = elim (object_at s r) [ None ↦ nowhere | Some o ↦ class_position code.program o.class ]

unfoldable pub sequencer_op : Code → State → SeqOp → Option Step
sequencer_op code s OpenImmortal =
    safelet_class code.program >>= (λ class. size_of code.program class >>= (λ bytes.
    Some (area_opened s (class_position code.program class) immortal_scope bytes)))
sequencer_op code s AllocSafelet =
    safelet_class code.program >>= (λ class. innermost s.activity.areas >>= (λ area.
    Some (safelet_made code s (class_position code.program class) class area)))
sequencer_op code s (ConstructSafelet r) =
    object_at s r >>= (λ o. constructor_body code.program o.class >>= body_called code s r)
sequencer_op code s (InitializeApplication r) = method_called code s r (codes "initializeApplication")
sequencer_op code s (GetSequencer r) = method_called code s r (codes "getSequencer")
sequencer_op code s (GetNextMission r) = method_called code s r (codes "getNextMission")
sequencer_op code s (OpenMission r) =
    object_at s r >>= (λ o. defined_by_chain code.program o.class >>= (λ scope.
    size_of code.program o.class >>= (λ bytes. Some (area_opened s (class_position code.program o.class) scope bytes))))
sequencer_op code s (Initialize r) = method_called code s r (codes "initialize")
sequencer_op code s (CleanUp r) = method_called code s r (codes "cleanUp")
sequencer_op code s Execute = None
sequencer_op code s Finished = None

-- ---- what follows an operation that is done, as a transition; and what a transition does to the state

-- what a transition brings about besides the next phase and operation
pub data SeqEffect : Type 0 where
  Continues : SeqEffect
  -- this object is the safelet, the sequencer or the mission from now on
  TakesSafelet : (r : ℕ) → SeqEffect
  TakesSequencer : (r : ℕ) → SeqEffect
  TakesMission : (r : ℕ) → SeqEffect
  -- the safelet has no sequencer, the sequencer no further mission
  LacksSequencer : (safelet : ℕ) → SeqEffect
  LacksMission : SeqEffect
  -- the memory of this mission is open
  BeginsMission : (r : ℕ) → SeqEffect
  -- execution begins with the next unit, is passed over, is over
  BeginsExecution : SeqEffect
  SkipsExecution : SeqEffect
  EndsExecution : SeqEffect
  -- the memory of the mission is closed
  ClosesMission : SeqEffect

pub record Transition : Type 0 where
  pub phase : Phase
  pub operation : SeqOp
  pub effect : SeqEffect

abbrev pub goes_to : Phase → SeqOp → SeqEffect → Option Transition
goes_to phase operation effect = Some (record { phase = phase; operation = operation; effect = effect })

-- `initialize` has left; `skips` says that there is nothing to execute, or that an end was asked
abbrev pub after_initialize : Bool → ℕ → Option Transition
after_initialize skips mission =
    if skips then goes_to Cleanup (CleanUp mission) SkipsExecution else goes_to Exec Execute BeginsExecution

-- the operation is done with this value. `known` is the sequencer object, and `skips` is as above
unfoldable pub transition : Option ℕ → Bool → SeqOp → Value → Option Transition
transition known skips OpenImmortal value = goes_to Boot AllocSafelet Continues
transition known skips AllocSafelet (At r) = goes_to Boot (ConstructSafelet r) (TakesSafelet r)
transition known skips AllocSafelet _ = None
transition known skips (ConstructSafelet r) value = goes_to Boot (InitializeApplication r) Continues
transition known skips (InitializeApplication r) value = goes_to Boot (GetSequencer r) Continues
transition known skips (GetSequencer r) (At q) = goes_to Next (GetNextMission q) (TakesSequencer q)
transition known skips (GetSequencer r) _ = goes_to Over Finished (LacksSequencer r)
transition known skips (GetNextMission r) (At m) = goes_to Next (OpenMission m) (TakesMission m)
transition known skips (GetNextMission r) _ = goes_to Over Finished LacksMission
transition known skips (OpenMission r) value = goes_to Init (Initialize r) (BeginsMission r)
transition known skips (Initialize r) value = after_initialize skips r
transition known skips (CleanUp r) value = known >>= (λ q. goes_to Next (GetNextMission q) ClosesMission)
transition known skips Execute value = None
transition known skips Finished value = None

-- the state in the next phase and before the next operation
abbrev pub gone_to : State → Transition → State
gone_to s t = record s { phase = t.phase; operation = t.operation; outcome = None }

-- the mission leaves neither memory nor handlers
abbrev pub mission_closed : State → State
mission_closed s =
    record (closed s (innermost s.activity.areas)) {
      activity = record s.activity { areas = without_innermost s.activity.areas };
      registry = [];
      mission = None;
    }

-- what an effect does to the state that has gone on
unfoldable pub seq_applied : Code → State → SeqEffect → Step
seq_applied code s Continues = silently s
seq_applied code s (TakesSafelet r) = silently (record s { safelet = Some r })
seq_applied code s (TakesSequencer r) = silently (record s { mission_sequencer = Some r })
seq_applied code s (TakesMission r) =
    silently (record s { mission = Some r; is_end_asked = false; earlier_releases = length s.releases })
seq_applied code s (LacksSequencer safelet) =
    fault_in s TheSequencer s.activity (position_of_object code s safelet) NullPointer
seq_applied code s LacksMission = reporting s (Done s.unit ∷ [])
seq_applied code s (BeginsMission r) = reporting s (Mission s.unit (class_name_at code s r) ∷ [])
seq_applied code s BeginsExecution =
    reporting (record s { origin = s.unit + 1; last_choice = None }) (ExecEvent s.unit ∷ [])
seq_applied code s SkipsExecution = reporting s (ExecEvent s.unit ∷ CleanupEvent s.unit ∷ [])
seq_applied code s EndsExecution = reporting s (CleanupEvent s.unit ∷ [])
seq_applied code s ClosesMission = silently (mission_closed s)

abbrev pub transition_done : Code → State → Transition → Step
transition_done code s t = seq_applied code (gone_to s t) t.effect

-- ---- Phase

-- the operation of the sequencer is done, with this value
abbrev pub after_operation : Code → State → Value → Option Step
after_operation code s value =
    option_map (transition_done code s)
    (transition s.mission_sequencer (is_empty s.registry || s.is_end_asked) s.operation value)

-- some release is started
abbrev pub has_started : State → Bool
has_started s = list_any (λ (r : Release). is_started r.status) s.releases

-- execution is over once an end was asked and no release is started
abbrev pub after_execution : Code → State → Option Step
after_execution code s =
    if s.is_end_asked && not (has_started s)
    then option_map (transition_done code s)
    (s.mission >>= (λ r. goes_to Cleanup (CleanUp r) EndsExecution))
    else Some (silently s)

-- what follows the operation of a unit. Nothing does while a body is under way, and after the end of the run
unfoldable pub phase_after : Code → State → Option Step
phase_after code s =
    if is_exec s.phase then after_execution code s
    else (elim s.outcome [ None ↦ Some (silently s) | Some value ↦ after_operation code s value ])

-- A run, unit by unit: arrivals, the choice, one operation, and what follows in the sequencer. One unit is one
-- operation of one job (this project's profile; JSR 302 leaves the execution of threads to the implementation).
use Rattle.std.specs.Prelude.{◌≡◌, ℕ, zero, suc, ◌+◌, ◌==◌, Bool, true, false, ◌||◌, List, [], ◌∷◌, ◌++◌, map, slice_get, Option, Some, None, if◌then◌else◌, codes}
use Rattle.scj_base.specs.declared.positions.Position.{Position}
use Rattle.scj_base.specs.declared.values.Value.{Value}
use Rattle.scj_rules.specs.declared.views.Body.{Body}
use Rattle.scj_rules.specs.declared.views.Declared.{Declared}
use Rattle.scj_rules.specs.Definitions.{read}
use Rattle.scj_rules.specs.Words.{◌>>=◌, holds}
use Rattle.scj_rules.specs.Views.{nowhere}
use Rattle.scj_rules.specs.ScopeRules.{defined_by_chain}
use Rattle.scj_rules.specs.Layout.{kind_of_type, field_literal, static_fields}
use Rattle.scj_rules.specs.Bodies.{body_named, class_position}
use Rattle.scj_model.specs.declared.events.Event.{Event}
use Rattle.scj_model.specs.declared.events.Event.TheVariants.{Run as RunEvent, Idle as IdleEvent, Stopped}
use Rattle.scj_model.specs.declared.handlers.HandlerRow.{HandlerRow}
use Rattle.scj_model.specs.declared.operations.Op.{Op}
use Rattle.scj_model.specs.declared.operations.SeqOp.TheVariants.{OpenImmortal}
use Rattle.scj_model.specs.declared.phases.Phase.TheVariants.{Boot}
use Rattle.scj_model.specs.declared.plans.ReadingRow.{ReadingRow}
use Rattle.scj_model.specs.Code.{Code, position_of_node}
use Rattle.scj_model.specs.Reading.{reading}
use Rattle.scj_model.specs.Plan.{Plan}
use Rattle.scj_model.specs.State.{Frame, Activity, Waits, Started, Ended, Dropped, Release, Job, TheSequencer, ReleaseAt, State, with_activity, object_at, is_exec, Turn, IdleTurn, TurnOf, is_over}
use Rattle.scj_model.specs.Registry.{handler_row}
use Rattle.scj_model.specs.Memory.{literal_value, default_value}
use Rattle.scj_model.specs.Steps.{Step, silently, reporting, opening, then_try}
use Rattle.scj_model.specs.Ops.{node_of}
use Rattle.scj_model.specs.Effects.{Effect, new_frame}
use Rattle.scj_model.specs.Operations.{Environment, effect_of}
use Rattle.scj_model.specs.Apply.{applied}
use Rattle.scj_model.specs.Sequencer.{innermost, sequencer_op, phase_after}
use Rattle.scj_model.specs.Arrivals.{arrivals}
use Rattle.scj_model.specs.Choice.{Policy, by_priority}

-- ---- one operation of a job

abbrev pub environment : List ReadingRow → State → Environment
environment rows s =
    record { object_at = (λ r. object_at s r); statics = s.statics; reading = (λ port. reading rows port s.unit) }

-- where an operation stands; LEAVE has no place, and no fault
abbrev pub position_of_op : Code → Op → Position
position_of_op code op = elim (node_of op) [ None ↦ nowhere | Some node ↦ position_of_node code node ]

-- what the first operation that a frame has left does
abbrev pub effect_at : Code → List ReadingRow → State → Frame → Op → List Op → Effect
effect_at code rows s f op rest = effect_of code (environment rows s) (record f { rest = rest }) op

-- the next operation of the highest frame
unfoldable pub frame_op : Code → List ReadingRow → State → Job → Activity → Option Step
frame_op code rows s job activity =
    elim activity.frames [
      | [] ↦ None
      | f ∷ below ↦ elim f.rest [
        | [] ↦ None
        | op ∷ rest ↦ applied code s job activity below (position_of_op code op) (effect_at code rows s f op rest)
      ]
    ]

-- without frames and areas: what a release has before its first operation, and the sequencer at the beginning
abbrev pub no_activity : Activity
no_activity = record { frames = []; areas = []; priority = 0 }

-- START: the first operation of a release. It opens the release's private memory inside the mission's, and calls
-- `handleAsyncEvent`; it stands where the handler's class is named
unfoldable pub started_with : Code → State → ℕ → HandlerRow → ℕ → Body → Step
started_with code s index row scope body =
    let at : Position = class_position code.program row.class in
    opening s (ReleaseAt index) no_activity at scope (innermost s.activity.areas) row.bytes (λ t area.
    silently (with_activity t (ReleaseAt index) (record {
      frames = record (new_frame code body None (Some row.at) area []) { opened = Some area } ∷ [];
      areas = area ∷ s.activity.areas;
      priority = row.priority;
    })))

unfoldable pub start_op : Code → State → ℕ → Release → Option Step
start_op code s index r =
    handler_row s.registry r.handler >>= (λ row. defined_by_chain code.program row.class >>= (λ scope.
    body_named code.program row.class (codes "handleAsyncEvent") >>= (λ body.
    Some (started_with code s index row scope body))))

unfoldable pub release_op_of : Code → List ReadingRow → State → ℕ → Release → Option Step
release_op_of code rows s index r =
    elim r.status [
      | Waits ↦ start_op code s index r
      | Started activity ↦ frame_op code rows s (ReleaseAt index) activity
      | Ended ↦ None
      | Dropped ↦ None
    ]

-- the sequencer's own operation, or the next one of the body that it called
unfoldable pub sequencer_turn : Code → List ReadingRow → State → Option Step
sequencer_turn code rows s =
    elim s.activity.frames [
      | [] ↦ sequencer_op code s s.operation
      | f ∷ fs ↦ frame_op code rows s TheSequencer s.activity
    ]

-- RefOp: one operation of a job; none where the job is stuck
unfoldable pub ref_op : Code → List ReadingRow → State → Job → Option Step
ref_op code rows s TheSequencer = sequencer_turn code rows s
ref_op code rows s (ReleaseAt index) = slice_get s.releases index >>= release_op_of code rows s index

-- as a relation: the operation of the job leads to this state, and the trace tells these events
abbrev pub RefOp : Code → List ReadingRow → State → Job → State → List Event → Type 0
RefOp code rows s job after events = ref_op code rows s job ≡ Some (reporting after events)

-- ---- one unit

unfoldable pub is_same_turn : Turn → Turn → Bool
is_same_turn IdleTurn IdleTurn = true
is_same_turn (TurnOf n) (TurnOf index) = n == index
is_same_turn _ _ = false

unfoldable pub report_turn : State → Turn → List Event
report_turn s IdleTurn = IdleEvent s.unit ∷ []
report_turn s (TurnOf index) =
    elim (slice_get s.releases index) [ None ↦ [] | Some r ↦ RunEvent s.unit r.handler r.number ∷ [] ]

-- the state in which this turn was the last one
abbrev pub with_turn : State → Turn → State
with_turn s turn = record s { last_choice = Some turn }

-- a turn is told where the last one was another
unfoldable pub turn_taken : State → Turn → Step
turn_taken s turn =
    reporting (with_turn s turn)
    (if holds s.last_choice (is_same_turn turn) then [] else report_turn s turn)

-- the chosen release acts, if one is chosen
unfoldable pub turn_acts : Code → List ReadingRow → Turn → State → Option Step
turn_acts code rows IdleTurn s = Some (silently s)
turn_acts code rows (TurnOf index) s = ref_op code rows s (ReleaseAt index)

-- the choice and the operation: in execution a release acts or the unit is idle, else the sequencer acts
unfoldable pub acts : Code → List ReadingRow → Policy → State → Option Step
acts code rows policy s =
    if is_exec s.phase then policy s >>= (λ turn. then_try (turn_taken s turn) (turn_acts code rows turn))
    else sequencer_turn code rows s

abbrev pub next_unit : State → State
next_unit s = record s { unit = s.unit + 1 }

-- Unit: arrivals, choice, one operation, phase
unfoldable pub one_unit : Code → Plan → Policy → State → Option Step
one_unit code plan policy s =
    then_try (arrivals code plan s) (acts code plan.readings policy)
    >>= (λ result. then_try result (phase_after code))
    >>= (λ result. Some (reporting (next_unit result.state) result.events))

-- as relations: what follows in this state, and a unit from it, lead to another one, and the trace tells these events
abbrev pub PhaseLeadsTo : Code → State → State → List Event → Type 0
PhaseLeadsTo code s after events = phase_after code s ≡ Some (reporting after events)

abbrev pub UnitLeadsTo : Code → Plan → Policy → State → State → List Event → Type 0
UnitLeadsTo code plan policy s after events = one_unit code plan policy s ≡ Some (reporting after events)

-- ---- a run

-- the value of a static field before the run: that of its literal, else the default of its type
unfoldable pub first_static : Code → Declared → Value
first_static code f =
    elim (field_literal code.program f >>= read code.program.nodes literal_value) [
      | Some value ↦ value
      | None ↦ default_value (kind_of_type f.declared_type)
    ]

unfoldable pub empty_state : Code → Plan → State
empty_state code plan =
    record {
      store = plan.store;
      unit = 0;
      phase = Boot;
      operation = OpenImmortal;
      outcome = None;
      safelet = None;
      mission_sequencer = None;
      mission = None;
      is_end_asked = false;
      origin = 0;
      earlier_releases = 0;
      last_choice = None;
      statics = map (first_static code) (static_fields code.program);
      objects = [];
      areas = [];
      releases = [];
      registry = [];
      activity = no_activity;
    }

-- a run so far: the state, what the trace tells, and whether a unit had no result
pub record RunSoFar : Type 0 where
  pub state : State
  pub events : List Event
  pub is_stuck : Bool

-- the run has ended, by its last line or because it is stuck
abbrev pub has_ended : RunSoFar → Bool
has_ended so_far = is_over so_far.state.phase || so_far.is_stuck

unfoldable pub continued : RunSoFar → Option Step → RunSoFar
continued so_far None = record so_far { is_stuck = true }
continued so_far (Some result) =
    record { state = result.state; events = so_far.events ++ result.events; is_stuck = false }

unfoldable pub one_more_unit : Code → Plan → Policy → RunSoFar → RunSoFar
one_more_unit code plan policy so_far =
    if has_ended so_far then so_far else continued so_far (one_unit code plan policy so_far.state)

-- Run: after so many units
unfoldable pub run : Code → Plan → Policy → ℕ → RunSoFar
run code plan policy zero = record { state = empty_state code plan; events = []; is_stuck = false }
run code plan policy (suc n) = one_more_unit code plan policy (run code plan policy n)

-- Trace: what the run tells, and that it is stopped where it hasn't ended
abbrev pub last_line : ℕ → RunSoFar → List Event
last_line n so_far = if has_ended so_far then [] else Stopped n ∷ []

abbrev pub reported_by : ℕ → RunSoFar → List Event
reported_by n so_far = so_far.events ++ last_line n so_far

unfoldable pub trace : Code → Plan → ℕ → List Event
trace code plan n = reported_by n (run code plan by_priority n)

-- What it means that a program is safe. Whichever job is chosen, no job is ever stuck, no reference that can be used leads
-- into a closed area, and each store keeps references from outliving their objects. Under the machine's own choice
-- monitors exclude one another, and areas are closed in the order of a stack (JSR 302: the rules of assignment between
-- memory areas; priority ceiling emulation).
use Rattle.std.specs.Prelude.{◌≡◌, ℕ, ◌<◌, ◌≤◌, ◌==◌, Bool, true, not, ◌&&◌, List, [], ◌∷◌, ◌++◌, length, map, filter, filter_map, flat_map, Contains, IsTrue, IsFalse, IsSome, Option, Some, None, option_to_list}
use Rattle.scj_base.specs.declared.values.Value.{Value}
use Rattle.scj_base.specs.declared.values.Value.TheVariants.{At}
use Rattle.scj_rules.specs.Words.{holds, is_among}
use Rattle.scj_rules.specs.ScopeRules.{immortal_scope}
use Rattle.scj_model.specs.declared.handlers.HandlerRow.{HandlerRow}
use Rattle.scj_model.specs.declared.plans.ReadingRow.{ReadingRow}
use Rattle.scj_model.specs.Code.{Code}
use Rattle.scj_model.specs.Plan.{Plan}
use Rattle.scj_model.specs.State.{Object, Frame, Activity, Release, Job, TheSequencer, ReleaseAt, State, activity_in, activity_of, object_at, area_at, is_open_area, is_exec, is_over}
use Rattle.scj_model.specs.Memory.{lies_in}
use Rattle.scj_model.specs.Steps.{Step}
use Rattle.scj_model.specs.Effects.{Effect, Stores, StoresStatic, monitor_of}
use Rattle.scj_model.specs.Sequencer.{phase_after}
use Rattle.scj_model.specs.Choice.{by_priority, by_list, may_act}
use Rattle.scj_model.specs.Run.{effect_at, ref_op, acts}
use Rattle.scj_model.specs.Reached.{Arrived, Moment, Operated, Reached}

-- ---- Live: the references that can be used

unfoldable pub reference_in : Value → Option ℕ
reference_in (At r) = Some r
reference_in _ = None

abbrev pub references : List Value → List ℕ
references values = filter_map reference_in values

unfoldable pub references_of_frame : Frame → List ℕ
references_of_frame f = option_to_list f.this ++ (references f.locals ++ references f.operands)

abbrev pub references_of_job : Activity → List ℕ
references_of_job activity = flat_map references_of_frame activity.frames

-- the frames, areas and priorities of the started releases
unfoldable pub started_activities : State → List Activity
started_activities s = filter_map (λ (r : Release). activity_in r.status) s.releases

-- the objects of open areas
abbrev pub open_objects : State → List Object
open_objects s = filter (λ (o : Object). is_open_area s o.area) s.objects

-- what a job can come to: from its frames, the static fields and the handlers, from the safelet, its sequencer and the
-- mission, and from the objects whose memory is still there
unfoldable pub live : State → List ℕ
live s =
    references_of_job s.activity
    ++ (flat_map references_of_job (started_activities s)
    ++ (references s.statics
    ++ (map (λ (row : HandlerRow). row.at) s.registry
    ++ (option_to_list s.safelet ++ (option_to_list s.mission_sequencer ++ (option_to_list s.mission
    ++ flat_map (λ (o : Object). references o.slots) (open_objects s)))))))

-- the object of the reference lies in an open area
abbrev pub is_of_open_area : State → ℕ → Bool
is_of_open_area s r = holds (object_at s r) (λ o. is_open_area s o.area)

-- the object of the reference lies in an area of this list
abbrev pub is_on_list : State → List ℕ → ℕ → Bool
is_on_list s areas r = holds (object_at s r) (λ o. is_among o.area areas)

-- the references of a job's frames lead into areas of the job's own list
abbrev pub IsRightlyHeld : State → Activity → Type 0
IsRightlyHeld s activity =
    (r : ℕ) → Contains (references_of_job activity) r → IsTrue (is_on_list s activity.areas r)

-- NoDangling
pub record NoDangling (s : State) : Type 0 where
  pub are_open : (r : ℕ) → Contains (live s) r → IsTrue (is_of_open_area s r)
  pub are_on_lists : (job : Job) (activity : Activity) → activity_of s job ≡ Some activity → IsRightlyHeld s activity

-- ---- Passes: what an operation stores

-- an object of this area may hold the value: null, a plain value, or a reference to an object whose area is the same
-- one or one around it
unfoldable pub may_hold : State → ℕ → Value → Bool
may_hold s area (At r) = holds (object_at s r) (λ o. lies_in s area o.area)
may_hold s area _ = true

-- a static field may hold the value: a reference is to an object in immortal memory
unfoldable pub static_may_hold : State → Value → Bool
static_may_hold s (At r) = holds (object_at s r) (λ o. holds (area_at s o.area) (λ x. x.scope == immortal_scope))
static_may_hold s _ = true

unfoldable pub effect_passes : State → Effect → Bool
effect_passes s (Stores f r slot value) = holds (object_at s r) (λ o. may_hold s o.area value)
effect_passes s (StoresStatic f index value) = static_may_hold s value
effect_passes s _ = true

-- what the next operation of a job stores may be stored; what has no frame yet stores nothing
unfoldable pub frame_passes : Code → List ReadingRow → State → Activity → Bool
frame_passes code rows s activity =
    elim activity.frames [
      | [] ↦ true
      | f ∷ below ↦ elim f.rest [ [] ↦ true | op ∷ rest ↦ effect_passes s (effect_at code rows s f op rest) ]
    ]

unfoldable pub passes : Code → List ReadingRow → State → Job → Bool
passes code rows s job = elim (activity_of s job) [ None ↦ true | Some activity ↦ frame_passes code rows s activity ]

-- ---- Exclusive: monitors

abbrev pub held_by : Code → Activity → List ℕ
held_by code activity = filter_map (monitor_of code) activity.frames

abbrev pub IsHeldBy : Code → State → Job → ℕ → Type 0
IsHeldBy code s job r = (activity : Activity) × (activity_of s job ≡ Some activity) × Contains (held_by code activity) r

-- no two jobs hold one object, so none enters a synchronized method on an object that another one holds
abbrev pub Exclusive : Code → State → Type 0
Exclusive code s = (job other : Job) (r : ℕ) → IsHeldBy code s job r → IsHeldBy code s other r → job ≡ other

-- ---- Lifo: areas are closed as a stack is emptied. Of what a step closes, nothing that was opened after it stays
-- open

abbrev pub Lifo : State → State → Type 0
Lifo before after =
    (a b : ℕ) → IsTrue (is_open_area before a) → IsFalse (is_open_area after a) → a < b → IsFalse (is_open_area after b)

-- ---- Safe

abbrev pub most_started : ℕ
most_started = 28

abbrev pub started_count : State → ℕ
started_count s = length (started_activities s)

-- the job may act in this state: outside execution the sequencer, in execution each waiting or started release
unfoldable pub job_may_act : State → Job → Bool
job_may_act s TheSequencer = not (is_exec s.phase) && not (is_over s.phase)
job_may_act s (ReleaseAt index) = is_exec s.phase && may_act s index

-- whatever the plan is, and whichever release is named in each unit: no reference that can be used is left without its
-- object; a job that may act isn't stuck, and stores nothing that may not be stored; and the sequencer goes on
pub record IsSafeInAnyOrder (code : Code) : Type 0 where
  pub none_dangles : (plan : Plan) (choices : List ℕ) (moment : Moment) (s : State) →
      Reached code plan (by_list choices) moment s → NoDangling s
  pub none_is_stuck : (plan : Plan) (choices : List ℕ) (s : State) (job : Job) →
      Reached code plan (by_list choices) Arrived s → IsTrue (job_may_act s job) →
      IsSome (ref_op code plan.readings s job)
  pub stores_pass : (plan : Plan) (choices : List ℕ) (s : State) (job : Job) →
      Reached code plan (by_list choices) Arrived s → IsTrue (job_may_act s job) →
      IsTrue (passes code plan.readings s job)
  pub goes_on : (plan : Plan) (choices : List ℕ) (s : State) →
      Reached code plan (by_list choices) Operated s → IsSome (phase_after code s)

-- under the machine's own choice: monitors exclude one another, few releases are started at a time, and both the
-- operation of a unit and what follows it close areas in order
pub record IsSafeByPriority (code : Code) : Type 0 where
  pub excludes : (plan : Plan) (moment : Moment) (s : State) → Reached code plan by_priority moment s → Exclusive code s
  pub few_are_started : (plan : Plan) (moment : Moment) (s : State) →
      Reached code plan by_priority moment s → started_count s ≤ most_started
  pub operation_closes_in_order : (plan : Plan) (s : State) (step : Step) → Reached code plan by_priority Arrived s →
      acts code plan.readings by_priority s ≡ Some step → Lifo s step.state
  pub phase_closes_in_order : (plan : Plan) (s : State) (step : Step) → Reached code plan by_priority Operated s →
      phase_after code s ≡ Some step → Lifo s step.state

-- Safe
pub record IsSafe (code : Code) : Type 0 where
  pub in_any_order : IsSafeInAnyOrder code
  pub under_priorities : IsSafeByPriority code

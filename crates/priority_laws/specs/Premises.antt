-- What the laws on monitors and on the number of started releases ask of a program. Programs that break no rule of
-- types and of synchronized methods have it (`scope_sound`); of others nothing is known.
use Rattle.std.specs.Prelude.{◌≡◌, ◌<◌, length, true, ℕ, Bool, false, List, ◌∷◌, IsTrue, IsFalse, IsSome, Some, None, codes, slice_get}
use Rattle.scj_base.specs.declared.values.Value.{Value}
use Rattle.scj_rules.specs.declared.views.Body.{Body}
use Rattle.scj_rules.specs.declared.views.Body.TheVariants.{Written, Empty}
use Rattle.scj_rules.specs.Bodies.{body_named, constructor_body, is_synchronized_body}
use Rattle.scj_rules.specs.Contexts.{Declarations}
use Rattle.scj_rules.specs.ScopeRules.{is_runnable}
use Rattle.scj_rules.specs.Layout.{element_kind}
use Rattle.scj_model.specs.declared.handlers.HandlerRow.{HandlerRow}
use Rattle.scj_model.specs.declared.operations.Op.{Op}
use Rattle.scj_model.specs.declared.operations.Op.TheVariants.{PutElem as PUTELEM}
use Rattle.scj_model.specs.declared.plans.ReadingRow.{ReadingRow}
use Rattle.scj_model.specs.Code.{Code}
use Rattle.scj_model.specs.Plan.{Plan}
use Rattle.scj_model.specs.State.{Object, Frame, Activity, Waits, Release, Job, ReleaseAt, State, activity_of, object_at}
use Rattle.scj_model.specs.Registry.{handler_row}
use Rattle.scj_model.specs.Effects.{Effect, Stores, Opens, AsksRegistration, monitor_of}
use Rattle.scj_model.specs.Choice.{by_priority}
use Rattle.scj_model.specs.Run.{effect_at}
use Rattle.scj_model.specs.Reached.{Arrived, Reached}
use Rattle.scj_model.specs.Safety.{job_may_act}
use Rattle.priority_laws.specs.Handlers.{IsHandlerClass}

-- a job may act, and its next operation has this effect
pub record Does (code : Code) (rows : List ReadingRow) (s : State) (job : Job) (op : Op)
    (effect : Effect) : Type 0 where
  pub may : IsTrue (job_may_act s job)
  pub activity : Activity
  pub is_activity : activity_of s job ≡ Some activity
  pub frame : Frame
  pub below : List Frame
  pub frames : activity.frames ≡ frame ∷ below
  pub rest : List Op
  pub ops : frame.rest ≡ op ∷ rest
  pub is_effect : effect_at code rows s frame op rest ≡ effect

-- a body is a synchronized method's
abbrev pub is_synchronized : Code → Body → Bool
is_synchronized code body = elim body [ Written node ↦ is_synchronized_body code.program node | Empty ↦ false ]

-- a constructor is no synchronized method (JLS 8.8.3)
pub record ConstructorsEnterNothing (code : Code) : Type 0 where
  pub is : (class : ℕ) (body : Body) → constructor_body code.program class ≡ Some body →
      is_synchronized code body ≡ false

-- a release enters each monitor that a frame of its stands for: neither constructors are synchronized, nor what the
-- framework calls, be it `run` in an area that is opened or `handleAsyncEvent`
pub record EntersItsMonitors (code : Code) : Type 0 where
  pub constructors : ConstructorsEnterNothing code
  pub opens : (plan : Plan) (s : State) (index : ℕ) (op : Op) (f g : Frame) (scope bytes : ℕ) →
      Reached code plan by_priority Arrived s → Does code plan.readings s (ReleaseAt index) op (Opens f g scope bytes) →
      monitor_of code g ≡ None
  pub starts : (plan : Plan) (s : State) (index : ℕ) (r : Release) (row : HandlerRow) (body : Body) →
      Reached code plan by_priority Arrived s → slice_get s.releases index ≡ Some r → r.status ≡ Waits →
      handler_row s.registry r.handler ≡ Some row →
      body_named code.program row.class (codes "handleAsyncEvent") ≡ Some body → IsFalse (is_synchronized code body)

-- no program writes over the priority of a handler: what has elements assigned is an array, and what is registered is a
-- handler
pub record SparesPriorities (code : Code) : Type 0 where
  pub elements : (plan : Plan) (s : State) (job : Job) (id : ℕ) (f : Frame) (r slot : ℕ) (value : Value) (o : Object) →
      Reached code plan by_priority Arrived s → Does code plan.readings s job (PUTELEM id) (Stores f r slot value) →
      object_at s r ≡ Some o → IsSome (element_kind code.program o.class)
  pub registrations : (plan : Plan) (s : State) (job : Job) (op : Op) (f : Frame) (r : ℕ) (o : Object) →
      Reached code plan by_priority Arrived s → Does code plan.readings s job op (AsksRegistration f r) →
      object_at s r ≡ Some o → IsHandlerClass code.program o.class

-- a class that is a Runnable
pub record IsRunnableClass (p : Declarations) (class : ℕ) : Type 0 where
  pub is_class : class < length p.classes
  pub is_runnable : is_runnable p class ≡ true

-- the framework's methods are called on what their types say: besides, what runs in an area that is opened is a
-- Runnable
pub record CallsFrameworkByTypes (code : Code) : Type 0 where
  pub spares : SparesPriorities code
  pub opens : (plan : Plan) (s : State) (index : ℕ) (op : Op) (f g : Frame) (scope bytes r : ℕ) (o : Object) →
      Reached code plan by_priority Arrived s → Does code plan.readings s (ReleaseAt index) op (Opens f g scope bytes) →
      g.this ≡ Some r → object_at s r ≡ Some o → IsRunnableClass code.program o.class

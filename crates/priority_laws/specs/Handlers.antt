-- Priorities are numbers from 1 to 28: those that handler objects have in their first hidden field, those with which
-- handlers are registered, and ceilings (JSR 302: PriorityParameters, PriorityScheduler).
use Rattle.std.specs.Prelude.{◌≡◌, ◌<◌, length, ℕ, ◌≤◌, true, List, slice_get, pos, Some, None}
use Rattle.scj_base.specs.declared.values.Value.{Value}
use Rattle.scj_base.specs.declared.values.Value.TheVariants.{Int}
use Rattle.scj_rules.specs.Contexts.{Declarations}
use Rattle.scj_rules.specs.Layout.{priority_slot, element_kind}
use Rattle.scj_rules.specs.ScopeRules.{is_handler}
use Rattle.scj_model.specs.declared.handlers.HandlerRow.{HandlerRow}
use Rattle.scj_model.specs.Code.{Code}
use Rattle.scj_model.specs.State.{Object, State}
use Rattle.scj_model.specs.Memory.{highest_priority}
use Rattle.priority_laws.specs.Started.{StartedRelease, started_at}

abbrev pub IsPriority : ℕ → Type 0
IsPriority n = (1 ≤ n) × (n ≤ highest_priority)

-- the class of an object that is a handler, and no array
pub record IsHandlerClass (p : Declarations) (class : ℕ) : Type 0 where
  pub is_class : class < length p.classes
  pub is_handler : is_handler p class ≡ true
  pub is_no_array : element_kind p class ≡ None

-- the first of these values is a priority
pub record BeginWithPriority (values : List Value) : Type 0 where
  pub priority : ℕ
  pub is_priority : IsPriority priority
  pub is_first : slice_get values priority_slot ≡ Some (Int (pos priority))

pub record HandlersHavePriorities (p : Declarations) (objects : List Object) : Type 0 where
  pub is : (r : ℕ) (o : Object) → slice_get objects r ≡ Some o → IsHandlerClass p o.class → BeginWithPriority o.slots

pub record RowsHavePriorities (registry : List HandlerRow) : Type 0 where
  pub is : (k : ℕ) (row : HandlerRow) → slice_get registry k ≡ Some row → IsPriority row.priority

pub record RowsAreOfHandlers (p : Declarations) (registry : List HandlerRow) : Type 0 where
  pub is : (k : ℕ) (row : HandlerRow) → slice_get registry k ≡ Some row → IsHandlerClass p row.class

pub record CeilingsArePriorities (objects : List Object) : Type 0 where
  pub is : (r : ℕ) (o : Object) → slice_get objects r ≡ Some o → IsPriority o.ceiling

-- the active priority of each started release is at most the highest one
pub record ActiveAreAtMostHighest (s : State) : Type 0 where
  pub is : (p : ℕ) (w : StartedRelease) → started_at s.releases p ≡ Some w → w.activity.priority ≤ highest_priority

-- all priorities of a state
pub record PrioritiesAreRight (code : Code) (s : State) : Type 0 where
  pub handlers : HandlersHavePriorities code.program s.objects
  pub rows : RowsHavePriorities s.registry
  pub classes : RowsAreOfHandlers code.program s.registry
  pub ceilings : CeilingsArePriorities s.objects

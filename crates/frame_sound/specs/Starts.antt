-- What START finds, and what it leads to: the first frame of a release, in a private memory inside the mission's (JSR
-- 302: ManagedEventHandler, private memory).
use Rattle.std.specs.Prelude.{◌≡◌, ℕ, true, ◌⊎◌, List, [], ◌∷◌, ◌++◌, length, Option, Some, None, codes}
use Rattle.scj_rules.specs.declared.typing.Scope.TheVariants.{Caller, In}
use Rattle.scj_rules.specs.declared.views.Body.{Body}
use Rattle.scj_rules.specs.Classes.{is_sub}
use Rattle.scj_rules.specs.Contexts.{Declarations}
use Rattle.scj_rules.specs.ScopeRules.{parent_scope, defined_by_chain}
use Rattle.scj_rules.specs.Bodies.{body_named}
use Rattle.scj_model.specs.declared.handlers.HandlerRow.{HandlerRow}
use Rattle.scj_model.specs.Code.{Code}
use Rattle.scj_model.specs.State.{MemoryArea, Frame, ReleaseAt, State}
use Rattle.scj_model.specs.Steps.{Step}
use Rattle.scj_model.specs.Sequencer.{innermost}
use Rattle.scj_model.specs.Run.{no_activity}
use Rattle.scope_flow.specs.Signatures.{Signature, Runs, IsConcrete}
use Rattle.frame_sound.specs.Places.{world_of, area_named}
use Rattle.frame_sound.specs.Fine.{ListFine, IsOnList}
use Rattle.frame_sound.specs.OwnJob.{JobStands, HasFaulted}

-- ---- what it finds

-- an object of the class has `handleAsyncEvent`, from its class or one above it. It takes nothing, and runs in the
-- private memory of the scope that the class defines
pub record IsHandled (p : Declarations) (class scope : ℕ) : Type 0 where
  pub defines : defined_by_chain p class ≡ Some scope
  pub body : Body
  pub is : body_named p class (codes "handleAsyncEvent") ≡ Some body
  pub on : ℕ
  pub above : is_sub p.classes class on ≡ true
  pub sig : Signature
  pub runs : Runs p body on sig
  pub takes : sig.takes ≡ []
  pub runs_in : (sig.runs_in ≡ Caller) ⊎ (sig.runs_in ≡ In scope)

-- an area of the scope may be opened inside the innermost area of a list
pub record MayOpen (p : Declarations) (areas : ℕ → Option MemoryArea) (list : List ℕ) (scope : ℕ) : Type 0 where
  pub fine : ListFine areas list
  pub inner : ℕ
  pub is_inner : innermost list ≡ Some inner
  pub area : MemoryArea
  pub is_area : areas inner ≡ Some area
  pub is_parent : parent_scope p scope ≡ Some area.scope
  pub unnamed : area_named areas scope list ≡ None

-- a handler whose releases may start: its object lies in a memory of the sequencer's
pub record HandlerFine (code : Code) (s : State) (row : HandlerRow) : Type 0 where
  pub on_list : IsOnList (world_of s) s.activity.areas row.at
  pub is_class : on_list.object.class ≡ row.class
  pub concrete : IsConcrete code.program row.class
  pub scope : ℕ
  pub handled : IsHandled code.program row.class scope
  pub may_open : MayOpen code.program (world_of s).areas s.activity.areas scope

-- ---- what it leads to

-- the release has one frame, which has opened the new area, over the memories of the sequencer
pub record HasStarted (code : Code) (s : State) (index : ℕ) (row : HandlerRow) (scope inner : ℕ)
    (after : State) : Type 0 where
  pub stands : JobStands code after (ReleaseAt index) s.activity.areas
  pub frame : Frame
  pub are : stands.activity.frames ≡ frame ∷ []
  pub opened : frame.opened ≡ Some (length s.areas)
  pub priority : stands.activity.priority ≡ row.priority
  pub areas : after.areas
      ≡ s.areas ++ record { scope = scope; parent = Some inner; bytes = row.bytes; is_open = true } ∷ []

-- there is a result: the release has started, or a fault has ended it
pub record Starts (code : Code) (s : State) (index : ℕ) (row : HandlerRow) (handler : HandlerFine code s row)
    (o : Option Step) : Type 0 where
  pub step : Step
  pub is : o ≡ Some step
  pub either : HasStarted code s index row handler.scope handler.may_open.inner step.state
      ⊎ HasFaulted code s (ReleaseAt index) no_activity step
  pub registry : step.state.registry ≡ s.registry

-- What is claimed: no release of a handler class with Yes meets a full area, whichever release acts in each unit; and
-- under the machine's own choice no release lacks store, where the plan's is as large as what is needed.
use Rattle.std.specs.Prelude.{◌≡◌, ◌≤◌, ◌<◌, ℕ, true, List, Contains, slice_get, Option, Some, codes}
use Rattle.scj_base.specs.declared.positions.Position.{Position}
use Rattle.scj_base.specs.declared.faults.RunFault.TheVariants.{MemoryFull, StoreFull}
use Rattle.scj_rules.specs.declared.views.Body.{Body}
use Rattle.scj_rules.specs.Bodies.{body_named}
use Rattle.scj_model.specs.declared.events.Event.TheVariants.{Fault}
use Rattle.scj_model.specs.declared.handlers.HandlerRow.{HandlerRow}
use Rattle.scj_model.specs.Code.{Code}
use Rattle.scj_model.specs.Plan.{Plan}
use Rattle.scj_model.specs.State.{ReleaseAt, Release, State, TurnOf, is_exec}
use Rattle.scj_model.specs.Registry.{handler_row}
use Rattle.scj_model.specs.Steps.{Step}
use Rattle.scj_model.specs.Choice.{by_list, by_priority}
use Rattle.scj_model.specs.Run.{ref_op}
use Rattle.scj_model.specs.Reached.{Reached, Arrived}
use Rattle.scj_model.specs.Safety.{job_may_act}
use Rattle.priority_laws.specs.Started.{StartedRelease, started_at}
use Rattle.memory_needs.specs.declared.answers.BoundAnswer.TheVariants.{Yes}
use Rattle.memory_needs.specs.declared.answers.BoundRow.{BoundRow}
use Rattle.memory_needs.specs.Need.{Table, too_much}
use Rattle.memory_bounds.specs.Weights.{IsBound}
use Rattle.memory_bounds.specs.Bounded.{IsBounded}

-- the storage that the form of a class's chain has, where it is a number
abbrev pub Storage : Type 0
Storage = ℕ → Option ℕ

-- Yes: by some table, handleAsyncEvent needs no more than the storage
pub record IsYes (code : Code) (storage : Storage) (table : Table) (class : ℕ) : Type 0 where
  pub bound : IsBound code table
  pub body : Body
  pub is_body : body_named code.program class (codes "handleAsyncEvent") ≡ Some body
  pub bytes : ℕ
  pub is_storage : storage class ≡ Some bytes
  pub fits : table body ≤ bytes
  pub small : bytes < too_much

pub record IsReleaseOf (s : State) (index : ℕ) (row : HandlerRow) : Type 0 where
  pub release : Release
  pub is : slice_get s.releases index ≡ Some release
  pub is_row : handler_row s.registry release.handler ≡ Some row

-- memory bounds, first part
abbrev pub NeverFull : Code → Storage → Type 0
NeverFull code storage =
    (plan : Plan) (choices : List ℕ) (s : State) (index : ℕ) (row : HandlerRow) (table : Table) (step : Step) →
    Reached code plan (by_list choices) Arrived s → job_may_act s (ReleaseAt index) ≡ true →
    IsReleaseOf s index row → IsYes code storage table row.class →
    ref_op code plan.readings s (ReleaseAt index) ≡ Some step →
    (unit : ℕ) (pos : Position) → Contains step.events (Fault unit MemoryFull pos) → ⊥

-- no release of this class finds its memory full
abbrev pub NeverFillsMemory : Code → ℕ → Type 0
NeverFillsMemory code class =
    (plan : Plan) (choices : List ℕ) (s : State) (index : ℕ) (row : HandlerRow) (step : Step) →
    Reached code plan (by_list choices) Arrived s → job_may_act s (ReleaseAt index) ≡ true →
    IsReleaseOf s index row → row.class ≡ class →
    ref_op code plan.readings s (ReleaseAt index) ≡ Some step →
    (unit : ℕ) (pos : Position) → Contains step.events (Fault unit MemoryFull pos) → ⊥

-- none of a class whose row is Yes does
abbrev pub YesNeverFull : Code → List BoundRow → Type 0
YesNeverFull code rows =
    (row : BoundRow) (bytes : ℕ) → Contains rows row → row.answer ≡ Yes bytes → NeverFillsMemory code row.handler

-- memory bounds, second part: of releases alone, and of the one that the machine chooses
abbrev pub NeverLacksStore : Code → ℕ → Type 0
NeverLacksStore code weight =
    (plan : Plan) (s : State) (index : ℕ) (step : Step) → weight ≤ plan.store →
    Reached code plan by_priority Arrived s → is_exec s.phase ≡ true → by_priority s ≡ Some (TurnOf index) →
    ref_op code plan.readings s (ReleaseAt index) ≡ Some step →
    (unit : ℕ) (pos : Position) → Contains step.events (Fault unit StoreFull pos) → ⊥

-- the store that is needed, where it is found, is one that no release finds too small
abbrev pub NeedSuffices : Code → Option ℕ → Type 0
NeedSuffices code need = (bytes : ℕ) → need ≡ Some bytes → NeverLacksStore code bytes

-- the invariant: each started release of a class with Yes is bounded
pub record AreBounded (code : Code) (storage : Storage) (table : Table) (s : State) : Type 0 where
  pub is : (q : ℕ) (w : StartedRelease) (row : HandlerRow) → started_at s.releases q ≡ Some w →
      handler_row s.registry w.handler ≡ Some row → IsYes code storage table row.class →
      IsBounded code table s w.activity.frames

-- the storage that the row of a handler has is the one of the form
abbrev pub RowsReport : Storage → State → Type 0
RowsReport storage s =
    (handler : ℕ) (row : HandlerRow) (bytes : ℕ) → handler_row s.registry handler ≡ Some row →
    storage row.class ≡ Some bytes → row.bytes ≡ bytes

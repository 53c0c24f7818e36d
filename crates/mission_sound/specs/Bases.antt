-- The memories that the mission sequencer has besides those that its frames opened, by its operation (JSR 302:
-- ImmortalMemory, mission memory).
use Rattle.std.specs.Prelude.{◌≡◌, ℕ, List, [], ◌∷◌, Option, Some, None}
use Rattle.scj_base.specs.declared.values.Value.{Value}
use Rattle.scj_rules.specs.Contexts.{Declarations}
use Rattle.scj_rules.specs.ScopeRules.{defined_by_chain}
use Rattle.scj_model.specs.declared.operations.SeqOp.{SeqOp}
use Rattle.scj_model.specs.declared.operations.SeqOp.TheVariants.{OpenImmortal, OpenMission, Initialize, CleanUp, Execute, Finished}
use Rattle.scj_model.specs.Code.{Code}
use Rattle.scj_model.specs.State.{MemoryArea, Object, State}
use Rattle.frame_sound.specs.Places.{World, world_of}
use Rattle.frame_sound.specs.Fine.{ListFine}

-- none is open yet; immortal memory is; the memory of the mission is open in it
pub data Base : Type 0 where
  unopened : Base
  in_immortal : Base
  in_mission : (memory : ℕ) → Base

-- the sequencer's list without frames. Immortal memory is the first area of all
abbrev pub areas_of : Base → List ℕ
areas_of unopened = []
areas_of in_immortal = 0 ∷ []
areas_of (in_mission memory) = memory ∷ (0 ∷ [])

-- ---- by the operation of the sequencer

abbrev pub IsInMission : Base → Type 0
IsInMission base = (memory : ℕ) × (base ≡ in_mission memory)

-- before the operation, and while the body that it calls is under way. Once the run is over any may be left
abbrev pub BaseBefore : SeqOp → Base → Type 0
BaseBefore OpenImmortal base = base ≡ unopened
BaseBefore (Initialize r) base = IsInMission base
BaseBefore Execute base = IsInMission base
BaseBefore (CleanUp r) base = IsInMission base
BaseBefore Finished base = Unit {0}
BaseBefore _ base = base ≡ in_immortal

-- once the operation is done
abbrev pub BaseAfter : SeqOp → Base → Type 0
BaseAfter OpenImmortal base = base ≡ in_immortal
BaseAfter (OpenMission r) base = IsInMission base
BaseAfter operation base = BaseBefore operation base

-- an operation that is done has an outcome
abbrev pub BaseSuits : SeqOp → Option Value → Base → Type 0
BaseSuits operation None base = BaseBefore operation base
BaseSuits operation (Some value) base = BaseAfter operation base

-- ---- the areas themselves

-- the memory of the current mission lies in immortal memory, and has the scope that the mission's class defines
pub record IsMissionMemory (p : Declarations) (w : World) (mission : Option ℕ) (memory : ℕ) : Type 0 where
  pub area : MemoryArea
  pub is_there : w.areas memory ≡ Some area
  pub inside : area.parent ≡ Some 0
  pub r : ℕ
  pub is : mission ≡ Some r
  pub object : Object
  pub found : w.objects r ≡ Some object
  pub defines : defined_by_chain p object.class ≡ Some area.scope

-- before immortal memory is open there is neither an area nor an object
abbrev pub BaseFine : Code → State → Base → Type 0
BaseFine code s unopened = (s.areas ≡ []) × (s.objects ≡ [])
BaseFine code s in_immortal = ListFine (world_of s).areas (0 ∷ [])
BaseFine code s (in_mission memory) =
    ListFine (world_of s).areas (0 ∷ []) × ListFine (world_of s).areas (memory ∷ (0 ∷ []))
    × IsMissionMemory code.program (world_of s) s.mission memory

-- What a job may count on in the areas of a state: which of them are open, in which order they are closed, and how many
-- are open.
use Rattle.std.specs.Prelude.{◌≡◌, ℕ, ◌<◌, true, List, [], ◌∷◌, Option, Some, None, filter, length}
use Rattle.scj_rules.specs.Words.{is_among}
use Rattle.scj_model.specs.declared.operations.SeqOp.{SeqOp}
use Rattle.scj_model.specs.declared.operations.SeqOp.TheVariants.{ConstructSafelet, InitializeApplication, GetSequencer, GetNextMission, OpenMission, Initialize, CleanUp}
use Rattle.scj_model.specs.State.{Activity, Frame, MemoryArea, State, is_open_area}
use Rattle.scj_model.specs.Memory.{closed}
use Rattle.scj_model.specs.Effects.{AsksRegistration, Calls, Effect, Makes}
use Rattle.scj_model.specs.Safety.{is_of_open_area}

-- the areas on the job's list are open, and so is the one in which its highest frame makes objects
pub record StandsInOpenAreas (s : State) (activity : Activity) : Type 0 where
  pub listed : (a : ℕ) → is_among a activity.areas ≡ true → is_open_area s a ≡ true
  pub current : (f : Frame) (below : List Frame) → activity.frames ≡ f ∷ below → is_open_area s f.area ≡ true

-- the area is open, and none that was opened after it
pub record IsLastOpen (s : State) (a : ℕ) : Type 0 where
  pub is_open : is_open_area s a ≡ true
  pub last : (b : ℕ) → a < b → is_open_area s b ≡ true → ⊥

-- what is closed, if anything is, is the last open area
abbrev pub ClosesLast : State → Option ℕ → Type 0
ClosesLast s None = Unit {0}
ClosesLast s (Some a) = IsLastOpen s a

-- the areas that frames opened are closed one by one, each as the last open one
abbrev pub CloseInOrder : State → List Frame → Type 0
CloseInOrder s [] = Unit {0}
CloseInOrder s (f ∷ fs) = ClosesLast s f.opened × CloseInOrder (closed s f.opened) fs

abbrev pub open_count : State → ℕ
open_count s = length (filter (λ (x : MemoryArea). x.is_open) s.areas)

-- the object on which the sequencer's operation is
abbrev pub operand_of : SeqOp → Option ℕ
operand_of (ConstructSafelet r) = Some r
operand_of (InitializeApplication r) = Some r
operand_of (GetSequencer r) = Some r
operand_of (GetNextMission r) = Some r
operand_of (OpenMission r) = Some r
operand_of (Initialize r) = Some r
operand_of (CleanUp r) = Some r
operand_of _ = None

-- an effect names no object of a closed area: that on which a method is called, and the handler that is to be
-- registered; and what it makes lies in an open one
abbrev pub NamesLiveObjects : State → Effect → Type 0
NamesLiveObjects s (Calls h g) = (r : ℕ) → g.this ≡ Some r → is_of_open_area s r ≡ true
NamesLiveObjects s (Makes h class slots) = is_open_area s h.area ≡ true
NamesLiveObjects s (AsksRegistration h r) = is_of_open_area s r ≡ true
NamesLiveObjects s _ = Unit {0}

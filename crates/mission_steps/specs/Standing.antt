-- What the sequencer's operations, and what follows them, may count on in the memory of a run.
use Rattle.std.specs.Prelude.{ℕ, List}
use Rattle.scj_model.specs.declared.operations.SeqOp.{SeqOp}
use Rattle.scj_model.specs.declared.operations.SeqOp.TheVariants.{ConstructSafelet, InitializeApplication, GetSequencer, GetNextMission, OpenMission, Initialize, CleanUp}
use Rattle.scj_model.specs.Sequencer.{SeqEffect, LacksSequencer, BeginsMission, ClosesMission, innermost}
use Rattle.region_heap.specs.Contents.{Contents}
use Rattle.run_state.specs.Standing.{ClosesLast, IsLive}

-- the object on which an operation is lies in an open area
abbrev pub IsOnLive : Contents → SeqOp → Type 0
IsOnLive m (ConstructSafelet r) = IsLive m r
IsOnLive m (InitializeApplication r) = IsLive m r
IsOnLive m (GetSequencer r) = IsLive m r
IsOnLive m (GetNextMission r) = IsLive m r
IsOnLive m (OpenMission r) = IsLive m r
IsOnLive m (Initialize r) = IsLive m r
IsOnLive m (CleanUp r) = IsLive m r
IsOnLive m _ = Unit {0}

-- the object whose class an effect names lies in an open area, and the memory that it closes is the last open area. The
-- areas are those of the sequencer, the innermost first
abbrev pub CanFollow : Contents → List ℕ → SeqEffect → Type 0
CanFollow m areas (LacksSequencer r) = IsLive m r
CanFollow m areas (BeginsMission r) = IsLive m r
CanFollow m areas ClosesMission = ClosesLast m (innermost areas)
CanFollow m areas _ = Unit {0}

-- What frames end as, where their highest one is lent.
use Rattle.std.specs.Prelude.{◌∷◌, List, Option}
use Rattle.std.specs.Borrow.{LendsIf, Fml, MutBor}
use Rattle.job_frames.specs.Frames.{StoredFrame, below}
use Rattle.job_frames.specs.contracts.frames.Frame.{the_row as frame_row}
use Rattle.job_frames.specs.contracts.frame_stacks.FrameStack.{the_row}

-- once the borrow r ends, the highest frame is the last value written through r; without frames they stay as they are
abbrev pub LendsTop : MutBor (List StoredFrame) → Option (MutBor StoredFrame) → Fml
LendsTop s r = LendsIf the_row frame_row s r (λ f. f ∷ below s.now) s.now

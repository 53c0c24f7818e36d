use Rattle.std.proofs.Common.{◌≡◌, length}
use Rattle.op_list.specs.Listed.{Listing}
use Rattle.run_state.specs.Seen.{state_of}
use Rattle.unit_steps.proofs.Firing.{fired_all}
use Rattle.unit_steps.proofs.UnderWay.{IsUnderWay}
use Rattle.unit_steps.proofs.arrivals.fires_in_order.Given as goal

-- the fires before the rest have come
abbrev pub invariant-loop-rest : goal.invariant-loop-rest
invariant-loop-rest l =
    (code : Listing) → code.program ≡ l.classes →
    IsUnderWay code
    (fired_all code l.origin l.unit l.fires (state_of code l.initial.state))
    (fired_all code l.origin l.unit l.rest) l.state l.initial.reported.items l.reported.items

abbrev pub decreases-loop-rest : goal.decreases-loop-rest
decreases-loop-rest l = length l.rest

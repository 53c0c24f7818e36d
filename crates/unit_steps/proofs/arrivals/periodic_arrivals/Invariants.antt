use Rattle.op_list.specs.Listed.{Listing}
use Rattle.unit_steps.proofs.Arriving.{AreArriving}
use Rattle.unit_steps.proofs.arrivals.periodic_arrivals.Given as goal

-- the handlers before the place are released if they were due
abbrev pub invariant-loop-index : goal.invariant-loop-index
invariant-loop-index l =
    (code : Listing) →
    AreArriving code l.initial.state l.state l.index l.initial.reported.items l.reported.items

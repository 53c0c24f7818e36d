-- The open areas of a run are those of the memory that stands where the run stands.
use Rattle.std.proofs.Common.{◌≡◌, ap}
use Rattle.scj_model.specs.Plan.{Plan}
use Rattle.op_list.specs.Listed.{Listing}
use Rattle.region_heap.specs.OpenAreas.{open_areas}
use Rattle.run_state.specs.Seen.{state_of}
use Rattle.plain_machine.specs.Machines.{areas_in}
use Rattle.plain_machine.specs.UnderWay.{IsBetween, run_at}
use Rattle.plain_machine.specs.declared.under_way.UnderWay.{UnderWay}

pub areas_seen : (code : Listing) (plan : Plan) (at : UnderWay) → IsBetween code plan at →
    areas_in (run_at code.program plan at.state.unit).state ≡ open_areas at.state.memory.objects 0 at.state.memory.areas
unfolding state_of
areas_seen code plan at between = ap areas_in between.state

use Rattle.scj_model.specs.Code.{code_of}
use Rattle.memory_needs.proofs.RoomLemmas.{IsRooming}
use Rattle.memory_needs.proofs.rooms.rooms.Given as goal

abbrev pub invariant-loop-index : goal.invariant-loop-index
invariant-loop-index l = IsRooming (code_of l.code) l.order l.index l.rows.items

use Rattle.scj_model.specs.Code.{code_of}
use Rattle.memory_needs.proofs.RoomLemmas.{rooms_more}
use Rattle.memory_needs.proofs.rooms.rooms.Goals as goal

pub loop-index-preserved : goal.loop-index-preserved
loop-index-preserved c =
    rooms_more (code_of c.args.code.now) c.args.order.now c.loop-index.index c.loop-index.rows.items
    c.set_room.new.rows.items c.loop-index.invariant c.loop-index-test.true c.in_ok-set_room.ensures

use Rattle.std.proofs.Common.{◌<◌, ◌≤◌, arith, refl}
use Rattle.region_heap.specs.Words.{count_in}
use Rattle.region_heap.proofs.Slots.{no_slot_read, slot_read}
use Rattle.region_heap.proofs.reads.number_at.Goals as goal

pub returns-then-slot-count_in : goal.returns-then-slot-count_in
returns-then-slot-count_in c =
    let behind : count_in c.read.result ≤ c.args.slot = omega (arith, c.count_in.ensures, c.if-slot-count_in.true) in
    rw (no_slot_read _ _ _ _ c.read.ensures behind) refl

pub returns : goal.returns
returns c =
    let within : c.args.slot < count_in c.read.result = omega (arith, c.count_in.ensures, c.if-slot-count_in.false) in
    rw (slot_read _ _ _ _ _ c.read.ensures within c.read-2.ensures) c.number_of.ensures

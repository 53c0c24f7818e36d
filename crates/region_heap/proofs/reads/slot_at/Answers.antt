use Rattle.std.proofs.Common.{◌∙◌, ◌<◌, ◌≤◌, ap, arith, sym, Some}
use Rattle.region_heap.specs.Words.{count_in}
use Rattle.region_heap.proofs.Slots.{no_slot_read, slot_read}
use Rattle.region_heap.proofs.reads.slot_at.Goals as goal

pub returns-then-slot-count_in-clause-value : goal.returns-then-slot-count_in-clause-value
returns-then-slot-count_in-clause-value c =
    let behind : count_in c.read.result ≤ c.args.slot = omega (arith, c.count_in.ensures, c.if-slot-count_in.true) in
    sym (no_slot_read _ _ _ _ c.read.ensures behind)

pub returns-in-Ok-clause-value : goal.returns-in-Ok-clause-value
returns-in-Ok-clause-value c =
    let within : c.args.slot < count_in c.read.result = omega (arith, c.count_in.ensures, c.if-slot-count_in.false) in
    ap Some c.in-Ok.ensures.value ∙ sym (slot_read _ _ _ _ _ c.read.ensures within c.read-2.ensures)

pub returns-in-Err-clause-wide : goal.returns-in-Err-clause-wide
returns-in-Err-clause-wide c =
    let within : c.args.slot < count_in c.read.result = omega (arith, c.count_in.ensures, c.if-slot-count_in.false) in
    rw (slot_read _ _ _ _ _ c.read.ensures within c.read-2.ensures) c.in-Err.ensures.wide

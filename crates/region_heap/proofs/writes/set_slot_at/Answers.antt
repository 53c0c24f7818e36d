use Rattle.std.proofs.Common.{◌<◌, ◌≤◌, ◌+◌, length, arith, sym}
use Rattle.region_heap.specs.Words.{count_in, object_in, word}
use Rattle.region_heap.proofs.Changing.{no_slot_changed, slot_changed}
use Rattle.region_heap.proofs.Slots.{object_count}
use Rattle.region_heap.proofs.writes.set_slot_at.Goals as goal

pub overflow_add-first-then-slot-count_at : goal.overflow_add-first-then-slot-count_at
overflow_add-first-then-slot-count_at c =
    record {
      fits = omega (
        arith,
        c.requires.within,
        c.requires.most,
        c.count_at.ensures,
        c.if-slot-count_at.true,
        object_count c.args.words.now c.args.first,
      );
    }

pub write-requires : goal.write-requires
write-requires c =
    omega (
      arith,
      c.requires.within,
      c.count_at.ensures,
      c.if-slot-count_at.true,
      object_count c.args.words.now c.args.first,
    )

pub returns-then-slot-count_at : goal.returns-then-slot-count_at
returns-then-slot-count_at c =
    let lt : c.args.slot < count_in (word c.args.words.now (c.args.first + 1)) =
    omega (arith, c.count_at.ensures, c.if-slot-count_at.true, object_count c.args.words.now c.args.first) in
    rw (c.write.ensures, sym c.word_of.ensures)
    (slot_changed c.args.words.now c.args.first c.args.slot c.word_of.result c.requires.within lt)

pub returns-else-slot-count_at : goal.returns-else-slot-count_at
returns-else-slot-count_at c =
    let h : length (object_in c.args.words.now c.args.first).slots ≤ c.args.slot =
    omega (arith, c.count_at.ensures, c.if-slot-count_at.false) in
    no_slot_changed c.args.words.now c.args.first c.args.slot c.args.value h

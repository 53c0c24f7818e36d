use Rattle.std.specs.Prelude.{Some, replicate, slice_get}
use Rattle.std.proofs.Common.{◌≡◌, ◌∙◌, length, ap, arith, sym}
use Rattle.std.proofs.lemmas.List.{length-replicate}
use Rattle.region_heap.specs.Words.{value_in}
use Rattle.region_heap.proofs.Laying.{all_slots, one_more_slot, replicated}
use Rattle.region_heap.proofs.writes.lay_array.Goals as goal

pub loop-i-init : goal.loop-i-init
loop-i-init c =
    c.lay_header.ensures (replicate c.args.count c.args.value) (length-replicate c.args.count c.args.value)

pub write-requires : goal.write-requires
write-requires c = omega (arith, c.requires.room, c.loop-i.invariant.within.long, c.loop-i-test.true)

pub loop-i-preserved : goal.loop-i-preserved
loop-i-preserved c =
    let long : length (replicate c.args.count c.args.value) ≡ c.args.count =
    length-replicate c.args.count c.args.value in
    let slot : slice_get (replicate c.args.count c.args.value) c.loop-i.i ≡ Some (value_in c.word_of-word.result) =
    replicated c.args.count c.loop-i.i c.args.value c.loop-i-test.true ∙ ap Some (sym c.word_of-word.ensures) in
    rw c.write.ensures
    (one_more_slot c.args.words.now c.loop-i.words c.args.first c.args.class c.args.area c.loop-i.i
    c.word_of-word.result (replicate c.args.count c.args.value) (omega (arith, c.requires.room, long))
    c.loop-i.invariant (omega (arith, long, c.loop-i-test.true)) slot)

pub returns : goal.returns
returns c =
    let long : length (replicate c.args.count c.args.value) ≡ c.args.count =
    length-replicate c.args.count c.args.value in
    all_slots c.args.words.now c.loop-i.words c.args.first c.args.class c.args.area c.loop-i.i
    (replicate c.args.count c.args.value) (omega (arith, c.requires.room, long)) c.loop-i.invariant
    (omega (arith, long, c.loop-i-test.false))

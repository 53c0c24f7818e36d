use Rattle.std.specs.Prelude.{Some, slice_get}
use Rattle.std.proofs.Common.{◌≡◌, ◌∙◌, ◌<◌, length, ap, arith, refl, sym}
use Rattle.std.proofs.lemmas.Option.{slice_get_read}
use Rattle.region_heap.specs.Words.{value_in}
use Rattle.region_heap.proofs.Laying.{all_slots, one_more_slot}
use Rattle.region_heap.proofs.writes.lay_object.Goals as goal

pub loop-i-init : goal.loop-i-init
loop-i-init c = c.lay_header.ensures c.args.slots.now refl

pub write-requires : goal.write-requires
write-requires c =
    omega (arith, c.requires.room, c.loop-i.invariant.within.long, c.loop-i-test.true)

pub loop-i-preserved : goal.loop-i-preserved
loop-i-preserved c =
    let lt : c.loop-i.i < length c.args.slots.now = omega (arith, c.loop-i-test.true) in
    let slot : slice_get c.args.slots.now c.loop-i.i ≡ Some (value_in c.word_of.result) =
    slice_get_read _ _ _ _ refl lt c.index-slots-i.is
    ∙ ap Some (sym c.word_of.ensures) in
    rw c.write.ensures
    (one_more_slot c.args.words.now c.loop-i.words c.args.first c.args.class c.args.area c.loop-i.i c.word_of.result
    c.args.slots.now c.requires.room c.loop-i.invariant lt slot)

pub returns : goal.returns
returns c =
    all_slots c.args.words.now c.loop-i.words c.args.first c.args.class c.args.area c.loop-i.i c.args.slots.now
    c.requires.room c.loop-i.invariant (omega (arith, c.loop-i-test.false))

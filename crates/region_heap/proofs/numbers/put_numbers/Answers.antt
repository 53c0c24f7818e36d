use Rattle.std.proofs.Common.{◌<◌, get_or, length, arith}
use Rattle.std.proofs.lemmas.Option.{slice_get-get_or}
use Rattle.region_heap.proofs.HiddenFields.{all_hidden, hidden_written, none_hidden}
use Rattle.region_heap.proofs.numbers.put_numbers.Goals as goal

pub loop-i-init : goal.loop-i-init
loop-i-init c = none_hidden c.args.words.now c.args.first c.args.hidden.now

pub word_of_number-requires : goal.word_of_number-requires
word_of_number-requires c =
    let lt : c.loop-i.i < length c.args.hidden.now = omega (arith, c.loop-i-test.true) in
    c.requires.small c.loop-i.i (get_or c.args.hidden.now c.loop-i.i 0)
    (slice_get-get_or c.args.hidden.now c.loop-i.i 0 lt)

pub write-requires : goal.write-requires
write-requires c =
    omega (arith, c.requires.count, c.requires.object.within, c.loop-i.invariant.within.long, c.loop-i-test.true)

pub loop-i-preserved : goal.loop-i-preserved
loop-i-preserved c =
    let lt : c.loop-i.i < length c.args.hidden.now = omega (arith, c.loop-i-test.true) in
    rw c.write.ensures
    (hidden_written c.args.words.now c.loop-i.words c.args.first c.loop-i.i (get_or c.args.hidden.now c.loop-i.i 0)
    c.word_of_number.result c.args.hidden.now c.requires.object c.requires.count c.loop-i.invariant
    (slice_get-get_or c.args.hidden.now c.loop-i.i 0 lt) lt c.word_of_number.ensures)

pub returns : goal.returns
returns c =
    all_hidden c.args.words.now c.loop-i.words c.args.first c.loop-i.i c.args.hidden.now c.loop-i.invariant
    (omega (arith, c.loop-i-test.false))

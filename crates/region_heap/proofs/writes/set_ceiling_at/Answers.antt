use Rattle.std.proofs.Common.{◌∙◌, arith}
use Rattle.region_heap.proofs.Changing.{ceiling_changed}
use Rattle.region_heap.proofs.Slots.{object_count}
use Rattle.region_heap.proofs.writes.set_ceiling_at.Goals as goal

pub second_word-requires : goal.second_word-requires
second_word-requires c =
    omega (arith, c.requires.within, c.requires.most, c.count_at-count.ensures, object_count c.args.words.now c.args.first)

pub returns : goal.returns
returns c =
    rw c.write.ensures
    (ceiling_changed c.args.words.now c.args.first c.args.ceiling c.second_word.result c.requires.within
    (c.second_word.ensures.count ∙ (c.count_at-count.ensures ∙ object_count c.args.words.now c.args.first))
    c.second_word.ensures.ceiling)

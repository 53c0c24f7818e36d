use Rattle.std.specs.Prelude.{Some, slice_get}
use Rattle.std.proofs.Common.{◌≡◌, ◌∙◌, ◌<◌, length, arith, refl}
use Rattle.std.proofs.lemmas.Option.{slice_get_read}
use Rattle.region_heap.proofs.Compacting.{all_moved, move_none, move_one, pass_one}
use Rattle.region_heap.proofs.compactions.keep_below.Goals as goal
use Rattle.region_heap.proofs.compactions.keep_below.Goals.{then-row-start, else-row-start}

pub loop-i-init : goal.loop-i-init
loop-i-init c = record {
  moved = move_none c.args.start c.args.objects.now.items c.args.base c.requires.within c.requires.below;
  capacity = refl;
}

pub loop-i-preserved : goal.loop-i-preserved
loop-i-preserved c =
    let lt : c.loop-i.i < length c.loop-i.objects.items =
    omega (arith, c.len-count.ensures, c.loop-i-test.true, c.loop-i.invariant.moved.long, c.args.objects.now.ok.0) in
    let row : slice_get c.loop-i.objects.items c.loop-i.i ≡ Some c.index-row.result.now =
    slice_get_read _ _ _ _ refl lt c.index-row.ensures in
    elim c.if-row-start.branch [
      | then-row-start w ↦ rw (w.objects-is, w.kept-is) (record {
        moved = move_one c.args.start c.args.objects.now.items c.loop-i.objects.items c.loop-i.i c.loop-i.kept
            c.index-row.result.now c.loop-i.invariant.moved row w.if-row-start.true;
        capacity = c.loop-i.invariant.capacity;
      })
      | else-row-start w ↦ rw (w.objects-is, w.kept-is) (record {
        moved = pass_one c.args.start c.args.objects.now.items c.loop-i.objects.items c.loop-i.i c.loop-i.kept
            c.index-row.result.now c.loop-i.invariant.moved row w.if-row-start.false;
        capacity = c.loop-i.invariant.capacity;
      })
    ]

pub returns-clause-kept : goal.returns-clause-kept
returns-clause-kept c =
    c.truncate.ensures.items
    ∙ all_moved c.args.start c.args.objects.now.items c.loop-i.objects.items c.loop-i.i c.loop-i.kept
    c.loop-i.invariant.moved (omega (arith, c.len-count.ensures, c.loop-i-test.false, c.args.objects.now.ok.0))

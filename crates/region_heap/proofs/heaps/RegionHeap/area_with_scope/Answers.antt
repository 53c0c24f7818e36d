use Rattle.std.proofs.Common.{◌∙◌, refl}
use Rattle.std.proofs.lemmas.Option.{slice_get_read}
use Rattle.scj_model.specs.Memory.{area_with_scope}
use Rattle.region_heap.specs.Contents.{with_memory}
use Rattle.region_heap.proofs.Nearest.{nearest_more}
use Rattle.region_heap.proofs.heaps.RegionHeap.area_with_scope.Goals as goal

pub loop-area-init : goal.loop-area-init
unfolding area_with_scope
loop-area-init c = λ s. refl

pub nearer-found-requires : goal.nearer-found-requires
nearer-found-requires c =
    c.requires c.loop-area.area-index c.area-item.result
    (slice_get_read _ _ _ _ refl c.loop-area-test.true c.area-item.is)

pub loop-area-preserved : goal.loop-area-preserved
loop-area-preserved c = λ s.
    c.nearer-found.ensures
    ∙ nearest_more (with_memory s c.args.self.now) c.args.scope c.args.opened.now c.loop-area.area-index
    c.area-item.result c.loop-area.found c.loop-area-test.true c.area-item.is (c.loop-area.invariant s)

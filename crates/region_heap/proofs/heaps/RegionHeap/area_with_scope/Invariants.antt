use Rattle.std.specs.Prelude.{◌≡◌, reverse, take}
use Rattle.scj_model.specs.State.{State}
use Rattle.scj_model.specs.Memory.{area_with_scope}
use Rattle.region_heap.specs.Contents.{with_memory}
use Rattle.region_heap.proofs.heaps.RegionHeap.area_with_scope.Given as goal

abbrev pub invariant-loop-area : goal.invariant-loop-area
invariant-loop-area l = (s : State) → l.found ≡ area_with_scope (with_memory s l.self) l.scope
    (reverse (take l.area-index l.opened))

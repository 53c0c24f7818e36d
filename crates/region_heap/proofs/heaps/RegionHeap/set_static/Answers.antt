use Rattle.std.proofs.Common.{ap}
use Rattle.region_heap.specs.Contents.{Contents, setting_static}
use Rattle.region_heap.proofs.HeapLemmas.{after_static, counted_static, static_kept}
use Rattle.region_heap.proofs.heaps.RegionHeap.set_static.Goals as goal

pub invariant_of-self : goal.invariant_of-self
invariant_of-self c =
    rw (c.then-self-inside.ensures, c.set_value.ensures, after_static) (
      static_kept _ _ _ _ c.args.index c.args.value c.self.invariant.0,
      counted_static _ _ _ _ _ _ c.args.index c.args.value c.self.invariant.1,
      c.self.invariant.2,
      c.self.invariant.3,
    )

pub returns : goal.returns
returns c =
    rw (c.then-self-inside.ensures, after_static)
    (ap (λ (m : Contents). setting_static m c.args.index c.args.value) c.self.view_is)

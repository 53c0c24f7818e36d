use Rattle.region_heap.specs.Rows.{IsListed, IsNotListed}
use Rattle.region_heap.proofs.HeapLemmas.{few_words}
use Rattle.region_heap.proofs.Live.{found_is, in_order, object_at_first, unfound_is}
use Rattle.region_heap.proofs.heaps.RegionHeap.object.Goals as goal

pub find-requires : goal.find-requires
find-requires c = rw c.deref.ensures.value (in_order _ _ _ _ c.self.invariant.0)

pub at-requires : goal.at-requires
at-requires c =
    let l : IsListed c.self.inside.objects.items c.args.r c.in-Some.first =
    rw c.deref.ensures.value at c.in-Some.ensures.found in
    object_at_first _ _ _ _ c.self.invariant.0 _ _ l (few_words _ _ _ _ _ _ c.self.invariant.1)

pub returns-in-Some : goal.returns-in-Some
returns-in-Some c =
    let l : IsListed c.self.inside.objects.items c.args.r c.in-Some.first =
    rw c.deref.ensures.value at c.in-Some.ensures.found in
    rw (c.at.ensures, ← c.self.view_is) (found_is _ _ _ _ c.self.invariant.0 _ _ l)

pub returns-in-None : goal.returns-in-None
returns-in-None c =
    let l : IsNotListed c.self.inside.objects.items c.args.r = rw c.deref.ensures.value at c.in-None.ensures.none in
    rw (← c.self.view_is) (unfound_is _ _ _ _ c.self.invariant.0 _ l)

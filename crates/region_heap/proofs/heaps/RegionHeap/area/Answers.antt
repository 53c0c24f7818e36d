use Rattle.std.proofs.Common.{◌≡◌, ◌≤◌, Some, arith, sym}
use Rattle.std.specs.Prelude.{None, slice_get}
use Rattle.region_heap.proofs.AreaLemmas.{are_marked}
use Rattle.region_heap.proofs.AreasInOrder.{area_is, no_area}
use Rattle.region_heap.proofs.HeapLemmas.{few_words}
use Rattle.region_heap.proofs.heaps.RegionHeap.area.Goals as goal

pub overflow_sub-result : goal.overflow_sub-result
overflow_sub-result c =
    let is : slice_get c.self.inside.areas.items c.args.i ≡ Some c.in-Some.row =
    sym (rw c.deref.ensures.value at c.in-Some.ensures) in
    (are_marked _ _ _ _ c.self.invariant.0 (few_words _ _ _ _ _ _ c.self.invariant.1) c.args.i c.in-Some.row is).0

pub overflow_mul-result : goal.overflow_mul-result
overflow_mul-result c =
    let is : slice_get c.self.inside.areas.items c.args.i ≡ Some c.in-Some.row =
    sym (rw c.deref.ensures.value at c.in-Some.ensures) in
    let m : (c.in-Some.row.start ≤ c.in-Some.row.mark) × (c.in-Some.row.mark ≤ c.in-Some.row.end)
    × (c.in-Some.row.end ≤ 8388608) =
    are_marked _ _ _ _ c.self.invariant.0 (few_words _ _ _ _ _ _ c.self.invariant.1) c.args.i c.in-Some.row is in
    record { fits = omega (arith, m.1, m.2) }

pub returns-in-Some : goal.returns-in-Some
returns-in-Some c =
    let is : slice_get c.self.inside.areas.items c.args.i ≡ Some c.in-Some.row =
    sym (rw c.deref.ensures.value at c.in-Some.ensures) in
    rw (← c.self.view_is) (sym (area_is _ _ _ _ c.self.invariant.0 c.args.i c.in-Some.row is))

pub returns-in-None : goal.returns-in-None
returns-in-None c =
    let none : slice_get c.self.inside.areas.items c.args.i ≡ None =
    sym (rw c.deref.ensures.value at c.in-None.ensures) in
    rw (← c.self.view_is) (sym (no_area _ _ _ _ c.self.invariant.0 c.args.i none))

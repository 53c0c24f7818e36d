use Rattle.region_heap.specs.Spaces.{HasRoomAt, IsFull}
use Rattle.region_heap.proofs.AreaLemmas.{are_marked, no_room_is, room_is}
use Rattle.region_heap.proofs.HeapLemmas.{few_words}
use Rattle.region_heap.proofs.heaps.RegionHeap.has_room.Goals as goal

pub room_in-requires-clause-row : goal.room_in-requires-clause-row
room_in-requires-clause-row c =
    rw c.deref.ensures.value (c.self.invariant.0.has_row c.args.area (rw c.self.view_is c.requires))

pub room_in-requires-clause-marks : goal.room_in-requires-clause-marks
room_in-requires-clause-marks c =
    rw c.deref.ensures.value
    (are_marked _ _ _ _ c.self.invariant.0 (few_words _ _ _ _ _ _ c.self.invariant.1))

pub returns-in-Ok : goal.returns-in-Ok
returns-in-Ok c =
    let h : HasRoomAt c.self.inside.areas.items c.args.area c.args.count c.in-Ok._index =
    rw c.deref.ensures.value at c.in-Ok.ensures.room in
    λ s. rw (← c.self.view_is)
    (room_is _ _ _ _ _ _ _ _ c.self.invariant.0 c.self.invariant.1 s c.args.area c.args.count _ h)

pub returns-in-Err : goal.returns-in-Err
returns-in-Err c =
    let h : IsFull c.self.inside.areas.items c.args.area c.args.count c.in-Err._full.used c.in-Err._full.asked =
    rw c.deref.ensures.value at c.in-Err.ensures.full in
    λ s. rw (← c.self.view_is)
    (no_room_is _ _ _ _ _ _ _ _ c.self.invariant.0 c.self.invariant.1 s c.args.area c.args.count _ _ h)

use Rattle.std.proofs.Common.{◌∙◌, ◌≤◌, arith, refl, sym}
use Rattle.region_heap.proofs.Lists.{get_within}
use Rattle.region_heap.proofs.Rooms.{marks_there, no_room_there, room_there}
use Rattle.region_heap.proofs.spaces.room_at.Goals as goal

pub bounds-areas-k : goal.bounds-areas-k
bounds-areas-k c = get_within c.args.areas.now c.args.k c.requires.row.row c.requires.row.is

pub overflow_sub-used : goal.overflow_sub-used
overflow_sub-used c =
    (marks_there c.args.areas.now c.args.area c.args.k c.index-areas-k.result c.requires.row c.index-areas-k.is
    c.requires.marks).0

pub overflow_mul-used : goal.overflow_mul-used
overflow_mul-used c =
    let m : (c.index-areas-k.result.start ≤ c.index-areas-k.result.mark)
    × (c.index-areas-k.result.mark ≤ c.index-areas-k.result.end)
    × (c.index-areas-k.result.end ≤ 8388608) =
    marks_there c.args.areas.now c.args.area c.args.k c.index-areas-k.result c.requires.row c.index-areas-k.is
    c.requires.marks in
    record { fits = omega (arith, m.1, m.2) }

pub returns-then-object_fits-clause-room : goal.returns-then-object_fits-clause-room
returns-then-object_fits-clause-room c =
    room_there c.args.areas.now c.args.area c.args.count c.args.k c.index-areas-k.result _ c.requires.row
    c.index-areas-k.is c.requires.marks refl (sym c.object_fits.ensures ∙ c.if-object_fits.true)

pub returns-else-object_fits-clause-full : goal.returns-else-object_fits-clause-full
returns-else-object_fits-clause-full c =
    no_room_there c.args.areas.now c.args.area c.args.count c.args.k c.index-areas-k.result _ c.requires.row
    c.index-areas-k.is c.requires.marks refl _ (sym c.object_fits.ensures ∙ c.if-object_fits.false)
    c.object_bytes.ensures

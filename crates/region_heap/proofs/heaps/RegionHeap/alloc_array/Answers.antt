use Rattle.std.specs.Prelude.{replicate}
use Rattle.std.proofs.Common.{◌∙◌, ap, arith}
use Rattle.std.proofs.lemmas.List.{length-replicate}
use Rattle.std.proofs.lemmas.Result.{err_from_is_err_and}
use Rattle.region_heap.specs.Contents.{Contents, making_object}
use Rattle.region_heap.specs.Spaces.{HasRoomAt, IsMarkAt}
use Rattle.region_heap.proofs.AreaLemmas.{are_marked, no_room_is, room_is, taken_used}
use Rattle.region_heap.proofs.HeapLemmas.{few_words}
use Rattle.region_heap.proofs.MadeAll.{after_array, counted_made, made_all, place_within, row_room, words_at, words_from}
use Rattle.region_heap.proofs.heaps.RegionHeap.alloc_array.Goals as goal

pub room_in-requires-clause-row : goal.room_in-requires-clause-row
room_in-requires-clause-row c =
    rw c.deref.ensures.value (c.self.invariant.0.has_row c.args.area (rw c.self.view_is c.requires.open))

pub room_in-requires-clause-marks : goal.room_in-requires-clause-marks
room_in-requires-clause-marks c =
    rw c.deref.ensures.value
    (are_marked _ _ _ _ c.self.invariant.0 (few_words _ _ _ _ _ _ c.self.invariant.1))

pub mark_at-first-requires : goal.mark_at-first-requires
mark_at-first-requires c =
    let room : HasRoomAt c.self.inside.areas.items c.args.area c.args.count c.in_ok-k.k =
    rw c.deref.ensures.value at c.in_ok-k.ensures.room in
    rw c.deref-2.ensures.value (place_within _ _ _ _ c.self.invariant.0 _ _ _ room)

pub lay_array-requires-clause-room : goal.lay_array-requires-clause-room
lay_array-requires-clause-room c =
    let room : HasRoomAt c.self.inside.areas.items c.args.area c.args.count c.in_ok-k.k =
    rw c.deref.ensures.value at c.in_ok-k.ensures.room in
    let mark : IsMarkAt c.self.inside.areas.items c.in_ok-k.k c.mark_at-first.result =
    rw c.deref-2.ensures.value at c.mark_at-first.ensures in
    words_from _ _ _ _ c.self.invariant.0 _ _ _ room _ mark

pub lay_array-requires-clause-most : goal.lay_array-requires-clause-most
lay_array-requires-clause-most c = few_words _ _ _ _ _ _ c.self.invariant.1

pub note_object-requires-clause-there : goal.note_object-requires-clause-there
note_object-requires-clause-there c =
    let room : HasRoomAt c.self.inside.areas.items c.args.area c.args.count c.in_ok-k.k =
    rw c.deref.ensures.value at c.in_ok-k.ensures.room in
    place_within _ _ _ _ c.self.invariant.0 _ _ _ room

pub note_object-requires-clause-words : goal.note_object-requires-clause-words
note_object-requires-clause-words c =
    let room : HasRoomAt c.self.inside.areas.items c.args.area c.args.count c.in_ok-k.k =
    rw c.deref.ensures.value at c.in_ok-k.ensures.room in
    words_at _ _ _ _ c.self.invariant.0 _ _ _ room (few_words _ _ _ _ _ _ c.self.invariant.1)

pub note_object-requires-clause-room : goal.note_object-requires-clause-room
note_object-requires-clause-room c =
    let room : HasRoomAt c.self.inside.areas.items c.args.area c.args.count c.in_ok-k.k =
    rw c.deref.ensures.value at c.in_ok-k.ensures.room in
    let mark : IsMarkAt c.self.inside.areas.items c.in_ok-k.k c.mark_at-first.result =
    rw c.deref-2.ensures.value at c.mark_at-first.ensures in
    omega (
      arith,
      c.self.inside.objects.ok.0,
      row_room _ _ _ _ _ _ _ _ _ c.self.invariant.0 c.self.invariant.1
          c.args.class c.args.area c.args.count _ _ (replicate c.args.count c.args.value) (length-replicate c.args.count c.args.value) room mark c.lay_array.ensures _ c.self.invariant.3,
    )

pub invariant_of-self : goal.invariant_of-self
invariant_of-self c =
    let room : HasRoomAt c.self.inside.areas.items c.args.area c.args.count c.in_ok-k.k =
    rw c.deref.ensures.value at c.in_ok-k.ensures.room in
    let mark : IsMarkAt c.self.inside.areas.items c.in_ok-k.k c.mark_at-first.result =
    rw c.deref-2.ensures.value at c.mark_at-first.ensures in
    rw (c.then-self-inside.ensures, after_array) (
      made_all _ _ _ _ _ _ _ _ _ c.self.invariant.0 c.self.invariant.1 c.args.class c.args.area c.args.count _ _
          (replicate c.args.count c.args.value) (length-replicate c.args.count c.args.value) room mark c.lay_array.ensures _ _ c.note_object.ensures.noted,
      counted_made _ _ _ _ _ _ _ _ _ c.self.invariant.0 c.self.invariant.1 c.args.class c.args.area c.args.count _ _
          (replicate c.args.count c.args.value) (length-replicate c.args.count c.args.value) room mark c.lay_array.ensures,
      c.note_object.ensures.areas ∙ c.self.invariant.2,
      c.note_object.ensures.objects ∙ c.self.invariant.3,
    )

pub returns-clause-made : goal.returns-clause-made
returns-clause-made c =
    rw (c.then-self-inside.ensures, after_array)
    (ap (λ (m : Contents). making_object m c.args.class c.args.area (replicate c.args.count c.args.value)) c.self.view_is)

pub returns-clause-room : goal.returns-clause-room
returns-clause-room c =
    let room : HasRoomAt c.self.inside.areas.items c.args.area c.args.count c.in_ok-k.k =
    rw c.deref.ensures.value at c.in_ok-k.ensures.room in
    λ s. rw (← c.self.view_is)
    (room_is _ _ _ _ _ _ _ _ c.self.invariant.0 c.self.invariant.1 s c.args.area c.args.count _ room)

pub returns-in_err-k-clause-room : goal.returns-in_err-k-clause-room
returns-in_err-k-clause-room c =
    let p = err_from_is_err_and c.from_residual.result c.from_residual.ensures.1 in
    let full = rw c.deref.ensures.value at c.in_err-k.ensures.full in
    λ s. rw (p.1, ← c.self.view_is)
    (no_room_is _ _ _ _ _ _ _ _ c.self.invariant.0 c.self.invariant.1 s c.args.area c.args.count _ _ full)

pub returns-in_err-k-clause-used : goal.returns-in_err-k-clause-used
returns-in_err-k-clause-used c =
    let p = err_from_is_err_and c.from_residual.result c.from_residual.ensures.1 in
    let full = rw c.deref.ensures.value at c.in_err-k.ensures.full in
    rw (p.1, p.2) (λ s. rw (← c.self.view_is)
    (taken_used _ _ _ _ _ _ _ _ c.self.invariant.0 c.self.invariant.1 s c.args.area c.args.count _ _ full))

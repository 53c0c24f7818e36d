use Rattle.std.proofs.Common.{◌≡◌, ◌∙◌, ◌+◌, ◌*◌, ◌<◌, ◌≤◌, length, ap, arith, sym}
use Rattle.scj_model.specs.Memory.{rounded_up}
use Rattle.region_heap.specs.Contents.{Contents, open_count, opening_area}
use Rattle.region_heap.specs.Rows.{end_after}
use Rattle.region_heap.specs.Spaces.{IsPushed}
use Rattle.region_heap.proofs.AreaLemmas.{after_opened, counted_opened, end_few, opened_all, reserved_all, store_is}
use Rattle.region_heap.proofs.Rooms.{fits_is}
use Rattle.region_heap.proofs.heaps.RegionHeap.open_area.Goals as goal

pub reserved_of-reserved-requires : goal.reserved_of-reserved-requires
reserved_of-reserved-requires c =
    rw c.deref.ensures.value (end_few _ _ _ _ _ _ _ _ c.self.invariant.0 c.self.invariant.1)

pub push_area-requires-clause-room : goal.push_area-requires-clause-room
push_area-requires-clause-room c =
    let few : open_count c.self.inside.history.past.contents < 1794 = rw c.self.view_is c.requires.few in
    omega (arith, c.self.inside.areas.ok.0, c.self.invariant.0.open_rows, few, c.self.invariant.2)

pub push_area-requires-clause-words : goal.push_area-requires-clause-words
push_area-requires-clause-words c =
    let taken : c.reserved_of-reserved.result ≡ 8 * end_after 0 c.self.inside.areas.items =
    rw c.deref.ensures.value at c.reserved_of-reserved.ensures in
    let fits : c.reserved_of-reserved.result + rounded_up c.args.bytes ≤ c.self.inside.store =
    fits_is c.self.inside.store (c.reserved_of-reserved.result + rounded_up c.args.bytes)
    (sym c.store_fits.ensures ∙ c.if-not-store_fits.false) in
    omega (arith, taken, fits, c.self.invariant.1.most)

pub returns-then-not-store_fits-clause-full : goal.returns-then-not-store_fits-clause-full
returns-then-not-store_fits-clause-full c =
    let taken : c.reserved_of-reserved.result ≡ 8 * end_after 0 c.self.inside.areas.items =
    rw c.deref.ensures.value at c.reserved_of-reserved.ensures in
    λ s. rw (← c.self.view_is)
    (sym c.if-not-store_fits.true ∙ (c.store_fits.ensures
    ∙ store_is _ _ _ _ _ _ _ _ c.self.invariant.0 c.self.invariant.1 s c.args.bytes c.reserved_of-reserved.result
    taken))

pub returns-then-not-store_fits-clause-reserved : goal.returns-then-not-store_fits-clause-reserved
returns-then-not-store_fits-clause-reserved c =
    let taken : c.reserved_of-reserved.result ≡ 8 * end_after 0 c.self.inside.areas.items =
    rw c.deref.ensures.value at c.reserved_of-reserved.ensures in
    λ s. rw (← c.self.view_is)
    (reserved_all _ _ _ _ _ _ _ _ c.self.invariant.0 c.self.invariant.1 s c.reserved_of-reserved.result taken)

pub invariant_of-self : goal.invariant_of-self
invariant_of-self c =
    let taken : c.reserved_of-reserved.result ≡ 8 * end_after 0 c.self.inside.areas.items =
    rw c.deref.ensures.value at c.reserved_of-reserved.ensures in
    let room : c.reserved_of-reserved.result + rounded_up c.args.bytes ≤ c.self.inside.store =
    fits_is c.self.inside.store (c.reserved_of-reserved.result + rounded_up c.args.bytes)
    (sym c.store_fits.ensures ∙ c.if-not-store_fits.false) in
    let base : c.len-base.result ≡ length c.self.inside.objects.items =
    c.len-base.ensures ∙ c.self.inside.objects.ok.0 in
    let pushed : IsPushed c.self.inside.areas.items c.self.inside.area_count c.args.scope c.args.bytes
    (length c.self.inside.objects.items) c.push_area.new.areas.items =
    rw (c.at.ensures, base) at c.push_area.ensures.pushed in
    rw (c.then-self-inside.ensures, after_opened) (
      opened_all _ _ _ _ _ _ _ _ c.self.invariant.0 c.self.invariant.1 c.args.scope c.args.parent c.args.bytes _ pushed
          (omega (arith, taken, room)),
      counted_opened _ _ _ _ _ _ _ _ c.self.invariant.0 c.self.invariant.1 c.args.scope c.args.parent c.args.bytes,
      c.push_area.ensures.capacity ∙ c.self.invariant.2,
      c.self.invariant.3,
    )

pub returns-clause-opened : goal.returns-clause-opened
returns-clause-opened c =
    rw (c.then-self-inside.ensures, after_opened)
    (ap (λ (m : Contents). opening_area m c.args.scope c.args.parent c.args.bytes) c.self.view_is)

pub returns-clause-full : goal.returns-clause-full
returns-clause-full c =
    let taken : c.reserved_of-reserved.result ≡ 8 * end_after 0 c.self.inside.areas.items =
    rw c.deref.ensures.value at c.reserved_of-reserved.ensures in
    λ s. rw (← c.self.view_is)
    (sym c.if-not-store_fits.false ∙ (c.store_fits.ensures
    ∙ store_is _ _ _ _ _ _ _ _ c.self.invariant.0 c.self.invariant.1 s c.args.bytes c.reserved_of-reserved.result
    taken))

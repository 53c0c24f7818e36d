use Rattle.std.proofs.Common.{ap}
use Rattle.region_heap.specs.Contents.{with_value}
use Rattle.region_heap.specs.Contents.{Contents, changing_object}
use Rattle.region_heap.specs.Written.{IsChangedIn}
use Rattle.region_heap.proofs.HeapLemmas.{after_slot, changed_words, counted_changed, few_words, slot_kept}
use Rattle.region_heap.proofs.Live.{are_objects, in_order}
use Rattle.region_heap.proofs.heaps.RegionHeap.set_slot.Goals as goal

pub set_slot_in-requires-clause-order : goal.set_slot_in-requires-clause-order
set_slot_in-requires-clause-order c = rw c.deref.ensures.value (in_order _ _ _ _ c.self.invariant.0)

pub set_slot_in-requires-clause-objects : goal.set_slot_in-requires-clause-objects
set_slot_in-requires-clause-objects c =
    rw c.deref.ensures.value (are_objects _ _ _ _ c.self.invariant.0 (few_words _ _ _ _ _ _ c.self.invariant.1))

pub invariant_of-self : goal.invariant_of-self
invariant_of-self c =
    let done : IsChangedIn c.self.inside.words c.self.inside.objects.items c.args.r (with_value c.args.slot
    c.args.value)
    c.set_slot_in.new.words = rw c.deref.ensures.value at c.set_slot_in.ensures in
    rw (c.then-self-inside.ensures, after_slot) (
      slot_kept _ _ _ _ _ _ _ _ c.self.invariant.0 done,
      counted_changed _ _ _ _ _ _ _ c.self.invariant.1 c.args.r (with_value c.args.slot c.args.value)
          (changed_words _ _ _ _ _ done),
      c.self.invariant.2,
      c.self.invariant.3,
    )

pub returns : goal.returns
returns c =
    rw (c.then-self-inside.ensures, after_slot)
    (ap (λ (m : Contents). changing_object m c.args.r (with_value c.args.slot c.args.value)) c.self.view_is)

use Rattle.std.proofs.Common.{◌≡◌, ◌∙◌, ◌/◌, length, refl, ap}
use Rattle.std.proofs.lemmas.List.{length-replicate}
use Rattle.std.specs.Prelude.{None}
use Rattle.region_heap.proofs.HeapLemmas.{after_begun, counted_nothing, nothing_kept}
use Rattle.region_heap.proofs.heaps.RegionHeap.make.Goals as goal

pub invariant_of-result : goal.invariant_of-result
invariant_of-result c =
    let long : length c.in_ok-words.words ≡ c.args.store / 8 =
    ap length c.in_ok-words.ensures ∙ length-replicate (c.args.store / 8) None in
    rw (
      c.then-history.ensures,
      c.in_ok-areas.ensures.items,
      c.in_ok-objects.ensures.items,
      after_begun,
      c.as_slice.ensures.value,
    ) (
      nothing_kept c.in_ok-words.words c.args.store c.args.statics.items,
      counted_nothing c.args.store c.args.statics.items c.in_ok-words.words c.requires long,
      c.in_ok-areas.ensures.exact,
      c.in_ok-objects.ensures.exact,
    )

pub returns : goal.returns
returns c = rw (c.then-history.ensures, after_begun, c.as_slice.ensures.value) refl

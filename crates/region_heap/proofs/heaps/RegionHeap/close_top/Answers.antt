use Rattle.std.proofs.Common.{◌∙◌, ap, arith}
use Rattle.region_heap.specs.Contents.{Contents, IsLastOpen, closing_area}
use Rattle.raw_words.proofs.Forgotten.{length_forgotten}
use Rattle.region_heap.proofs.AreaLemmas.{after_closed, based_last, closed_all, counted_closed, some_row}
use Rattle.region_heap.proofs.heaps.RegionHeap.close_top.Goals as goal

pub pop_area-row-requires : goal.pop_area-row-requires
pop_area-row-requires c =
    let l : IsLastOpen c.self.inside.history.past.contents c.args.area = rw c.self.view_is c.requires in
    omega (arith, c.self.inside.areas.ok.0, some_row _ _ _ _ c.self.invariant.0 c.args.area l)

pub keep_below-requires-clause-within : goal.keep_below-requires-clause-within
keep_below-requires-clause-within c =
    (based_last _ _ _ c.pop_area-row.result _ _ c.pop_area-row.ensures.popped c.self.invariant.0).within

pub keep_below-requires-clause-below : goal.keep_below-requires-clause-below
keep_below-requires-clause-below c =
    (based_last _ _ _ c.pop_area-row.result _ _ c.pop_area-row.ensures.popped c.self.invariant.0).below

pub invariant_of-self : goal.invariant_of-self
invariant_of-self c =
    let l : IsLastOpen c.self.inside.history.past.contents c.args.area = rw c.self.view_is c.requires in
    rw (c.then-self-inside.ensures, after_closed, c.forget_from.ensures) (
      closed_all _ _ _ c.pop_area-row.result _ _ c.pop_area-row.ensures.popped c.self.invariant.0 c.args.area _ l
          c.keep_below.ensures.kept,
      counted_closed _ _ _ _ _ _ _ _ c.self.invariant.0 c.self.invariant.1 _ c.args.area (length_forgotten _ _),
      c.pop_area-row.ensures.capacity ∙ c.self.invariant.2,
      c.keep_below.ensures.capacity ∙ c.self.invariant.3,
    )

pub returns : goal.returns
returns c =
    rw (c.then-self-inside.ensures, after_closed)
    (ap (λ (m : Contents). closing_area m c.args.area) c.self.view_is)

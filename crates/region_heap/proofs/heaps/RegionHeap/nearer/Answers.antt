use Rattle.std.proofs.Common.{◌≡◌, true, false, refl, sym}
use Rattle.std.specs.Prelude.{◌==◌, slice_get}
use Rattle.scj_rules.specs.Words.{holds}
use Rattle.region_heap.specs.Rows.{IsRowOf}
use Rattle.region_heap.proofs.Nearest.{scope_is}
use Rattle.region_heap.proofs.heaps.RegionHeap.nearer.Goals as goal

pub returns-then-eq : goal.returns-then-eq
returns-then-eq c =
    let r : IsRowOf c.self.inside.areas.items c.args.area c.in-Some.k =
    rw c.deref.ensures.value at c.in-Some.ensures.found in
    let e : holds (slice_get c.self.inside.history.past.contents.areas c.args.area) (λ x. x.scope == c.args.scope)
    ≡ (c.index.result.now.scope == c.args.scope) =
    scope_is _ _ _ c.args.scope _ _ r c.index.ensures c.self.invariant.0.rows in
    let t : (c.index.result.now.scope == c.args.scope) ≡ true = sym c.if-eq.ensures in
    rw (← c.self.view_is, e, t) refl

pub returns-else-eq : goal.returns-else-eq
returns-else-eq c =
    let r : IsRowOf c.self.inside.areas.items c.args.area c.in-Some.k =
    rw c.deref.ensures.value at c.in-Some.ensures.found in
    let e : holds (slice_get c.self.inside.history.past.contents.areas c.args.area) (λ x. x.scope == c.args.scope)
    ≡ (c.index.result.now.scope == c.args.scope) =
    scope_is _ _ _ c.args.scope _ _ r c.index.ensures c.self.invariant.0.rows in
    let t : (c.index.result.now.scope == c.args.scope) ≡ false = sym c.if-eq.ensures in
    rw (← c.self.view_is, e, t) refl

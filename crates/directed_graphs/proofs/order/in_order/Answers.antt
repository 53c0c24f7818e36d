use Rattle.std.proofs.Common.{arith}
use Rattle.directed_graphs.specs.Graphs.{rows_of}
use Rattle.directed_graphs.specs.Walks.{walk_of}
use Rattle.directed_graphs.proofs.Walking.{visits_none, visits_more, visits_all}
use Rattle.directed_graphs.proofs.order.in_order.Goals as goal

pub loop-root-init : goal.loop-root-init
loop-root-init c =
    visits_none c.args.rows.now
    (walk_of (record {
      marks = c.in_ok-vec.field-0;
      path = c.new.result;
      edges = c.new-2.result;
      groups = c.new-3.result;
      order = c.new-4.result;
      loops = c.in_ok-vec-2.field-0;
    }))
    (c.in_ok-vec.ensures.items_if_clones_equal (λ y h. h)) c.new.ensures.items c.new-2.ensures.items
    c.new-3.ensures.items c.new-4.ensures.items (c.in_ok-vec-2.ensures.items_if_clones_equal (λ y h. h))

pub overflow_cast-root : goal.overflow_cast-root
overflow_cast-root c =
    let a = c.loop-root-test.true in let b = c.requires.few in omega (arith, a, b)

pub visit-requires-clause-walk : goal.visit-requires-clause-walk
visit-requires-clause-walk c = c.loop-root.invariant.walk

pub visit-requires-clause-none : goal.visit-requires-clause-none
visit-requires-clause-none c = c.loop-root.invariant.none

pub visit-requires-clause-stay : goal.visit-requires-clause-stay
visit-requires-clause-stay c = c.requires.stay

pub loop-root-preserved : goal.loop-root-preserved
loop-root-preserved c =
    visits_more (rows_of c.args.rows.now) (walk_of c.loop-root.search) (walk_of c.visit.new.search) c.loop-root.root
    c.loop-root.invariant c.in_ok-visit.ensures.ends c.in_ok-visit.ensures.seen

pub returns : goal.returns
returns c =
    visits_all c.args.rows.now (walk_of c.loop-root.search) c.loop-root.root c.loop-root.invariant
    c.loop-root-test.false

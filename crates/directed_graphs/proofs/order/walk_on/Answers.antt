use Rattle.directed_graphs.specs.Walks.{walk_of}
use Rattle.directed_graphs.proofs.Walking.{sees_none, sees_then}
use Rattle.directed_graphs.proofs.order.walk_on.Goals as goal

pub loop-search-init : goal.loop-search-init
loop-search-init c = record { walk = c.requires.walk; sees = sees_none (walk_of c.args.search.now) }

pub step-requires-clause-walk : goal.step-requires-clause-walk
step-requires-clause-walk c = c.loop-search.invariant.walk

pub step-requires-clause-stay : goal.step-requires-clause-stay
step-requires-clause-stay c = c.requires.stay

pub loop-search-smaller : goal.loop-search-smaller
loop-search-smaller c = c.in_ok-step.ensures.fewer

pub loop-search-preserved : goal.loop-search-preserved
loop-search-preserved c = record {
  walk = c.in_ok-step.ensures.walk;
  sees = sees_then (walk_of c.args.search.now) (walk_of c.loop-search.search) (walk_of c.step.new.search)
      c.loop-search.invariant.sees c.in_ok-step.ensures.sees;
}

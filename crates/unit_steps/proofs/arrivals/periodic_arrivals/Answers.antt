use Rattle.std.proofs.Common.{◌∙◌, ap, arith, length, sym}
use Rattle.unit_steps.proofs.Arriving.{all_arrived, next_arrived, nobody_arrives, none_arrived, registry_seen}
use Rattle.unit_steps.proofs.arrivals.periodic_arrivals.Goals as goal

pub returns-then-not-takes_releases : goal.returns-then-not-takes_releases
returns-then-not-takes_releases c = λ code.
    nobody_arrives code c.args.state.now c.args.reported.now.items
    (sym (c.takes_releases.ensures code) ∙ c.if-not-takes_releases.true)

pub loop-index-init : goal.loop-index-init
loop-index-init c = λ code. none_arrived code c.args.state.now c.args.reported.now.items

pub loop-index-preserved : goal.loop-index-preserved
loop-index-preserved c = λ code.
    next_arrived code c.args.state.now c.loop-index.state c.arrive_if_due.new.state c.loop-index.index
    c.args.reported.now.items c.loop-index.reported.items c.arrive_if_due.new.reported.items
    (omega (arith, c.loop-index-test.true, c.len-index-end.ensures, ap length (registry_seen code c.args.state.now)))
    (c.loop-index.invariant code)
    (c.in_ok-arrive_if_due.ensures code)

pub returns : goal.returns
returns c = λ code.
    all_arrived code c.args.state.now c.loop-index.state c.loop-index.index c.args.reported.now.items
    c.loop-index.reported.items (sym (c.takes_releases.ensures code) ∙ c.if-not-takes_releases.false)
    (omega (arith, c.loop-index-test.false, c.len-index-end.ensures, ap length (registry_seen code c.args.state.now)))
    (c.loop-index.invariant code)

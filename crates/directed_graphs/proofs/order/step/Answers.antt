use Rattle.std.proofs.Common.{true≢false, is_some, ◌<◌, ◌-◌, length, take, sym, ◌∙◌, ap, arith}
use Rattle.directed_graphs.specs.Graphs.{rows_of}
use Rattle.directed_graphs.specs.Walks.{walk_of, IsClosed, GoesOn, Advances}
use Rattle.directed_graphs.proofs.Walking.{on_ok, last_group, last_popped, taking, taking_steps, begins, closing, path_within}
use Rattle.directed_graphs.proofs.order.step.Goals as goal

pub close-requires-clause-begins : goal.close-requires-clause-begins
close-requires-clause-begins c = begins (rows_of c.args.rows.now) (walk_of c.args.search.now) c.requires.walk
    (take (length c.args.search.now.groups.items - 1) c.args.search.now.groups.items) c.index-group.result.now
    (last_group c.args.search.now.groups.items c.args.search.now.groups.len c.len.result c.index-group.result.now
    c.args.search.now.groups.ok.0 c.len.ensures c.requires.some c.index-group.ensures)

pub close-requires-clause-marks : goal.close-requires-clause-marks
close-requires-clause-marks c = path_within (rows_of c.args.rows.now) (walk_of c.args.search.now) c.requires.walk

pub close-requires-clause-loops : goal.close-requires-clause-loops
close-requires-clause-loops c = c.requires.walk.done.whole ∙ sym c.requires.walk.marks.marked

pub returns-then-len-group : goal.returns-then-len-group
returns-then-len-group c =
    let split = last_popped c.args.search.now.groups.items c.args.search.now.groups.len c.len.result
    c.index-group.result.now c.pop.new.self.items c.args.search.now.groups.ok.0 c.len.ensures c.requires.some
    c.index-group.ensures c.pop.ensures.rest in
    on_ok c.close.result
    (IsClosed c.index-group.result.now (record (walk_of c.args.search.now) { groups = c.pop.new.self.items })
    (walk_of c.close.new.search))
    (Advances (rows_of c.args.rows.now) (walk_of c.args.search.now) (walk_of c.close.new.search))
    (closing (rows_of c.args.rows.now) (walk_of c.args.search.now) c.requires.walk c.pop.new.self.items
    c.index-group.result.now split
    (let a = c.if-len-group.true in let b = c.len-2.ensures in
    let d = c.args.search.now.edges.ok.0 in omega (arith, a, b, d)) (walk_of c.close.new.search)) c.close.ensures

pub follow-requires-clause-following : goal.follow-requires-clause-following
follow-requires-clause-following c =
    taking (rows_of c.args.rows.now) (walk_of c.args.search.now) c.requires.walk
    (take (length c.args.search.now.groups.items - 1) c.args.search.now.groups.items) c.index-group.result.now
    (last_group c.args.search.now.groups.items c.args.search.now.groups.len c.len.result c.index-group.result.now
    c.args.search.now.groups.ok.0 c.len.ensures c.requires.some c.index-group.ensures) c.pop-2.new.self.items
    c.in-Some.vertex c.in-Some.ensures.items
    (let a = c.if-len-group.false in let b = c.len-2.ensures in
    let d = c.args.search.now.edges.ok.0 in omega (arith, a, b, d))

pub follow-requires-clause-stay : goal.follow-requires-clause-stay
follow-requires-clause-stay c = c.requires.stay

pub returns-in-Some : goal.returns-in-Some
returns-in-Some c =
    on_ok c.follow.result
    (GoesOn (rows_of c.args.rows.now) (record (walk_of c.args.search.now) { edges = c.pop-2.new.self.items })
    (walk_of c.follow.new.search))
    (Advances (rows_of c.args.rows.now) (walk_of c.args.search.now) (walk_of c.follow.new.search))
    (taking_steps (rows_of c.args.rows.now) (walk_of c.args.search.now) c.requires.walk
    (take (length c.args.search.now.groups.items - 1) c.args.search.now.groups.items) c.index-group.result.now
    (last_group c.args.search.now.groups.items c.args.search.now.groups.len c.len.result c.index-group.result.now
    c.args.search.now.groups.ok.0 c.len.ensures c.requires.some c.index-group.ensures) c.pop-2.new.self.items
    c.in-Some.vertex c.in-Some.ensures.items (walk_of c.follow.new.search)) c.follow.ensures

pub returns-in-None : goal.returns-in-None
returns-in-None c =
    let some : 0 < c.args.search.now.edges.len =
    (let a = c.if-len-group.false in let b = c.len-2.ensures in omega (arith, a, b)) in
    absurd (true≢false (sym (c.pop-2.ensures.variant.1 some) ∙ ap is_some c.in-None.is))

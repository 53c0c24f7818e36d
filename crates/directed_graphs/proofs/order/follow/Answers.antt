use Rattle.std.proofs.Common.{◌≡◌, rules, arith}
use Rattle.directed_graphs.specs.Graphs.{rows_of}
use Rattle.directed_graphs.specs.Walks.{walk_of, entered, GoesOn}
use Rattle.directed_graphs.proofs.Rows.{as_many}
use Rattle.directed_graphs.proofs.Walking.{on_ok, mark_is, to_vertex, to_mark, follow_enters, on_group, follow_merges, follow_skips}
use Rattle.directed_graphs.proofs.order.follow.Goals as goal

pub index-requires : goal.index-requires
index-requires c =
    let l = to_mark (rows_of c.args.rows.now) (walk_of c.args.search.now) c.args.vertex c.requires.following c.requires.stay in
    search (rules, l)

pub enter-requires-clause-vertex : goal.enter-requires-clause-vertex
enter-requires-clause-vertex c =
    let l = to_vertex (rows_of c.args.rows.now) (walk_of c.args.search.now) c.args.vertex c.requires.following c.requires.stay in
    let e = as_many c.args.rows.now in omega (arith, l, e)

pub enter-requires-clause-whole : goal.enter-requires-clause-whole
enter-requires-clause-whole c =
    let a = c.requires.following.walk.marks.marked in let e = as_many c.args.rows.now in omega (arith, a, e)

pub merge-requires : goal.merge-requires
merge-requires c =
    on_group (rows_of c.args.rows.now) (walk_of c.args.search.now) c.args.vertex c.requires.following c.requires.stay
    c.in-OnPath.index
    (mark_is (walk_of c.args.search.now) c.args.vertex c.index.result.now _
    (to_mark (rows_of c.args.rows.now) (walk_of c.args.search.now) c.args.vertex c.requires.following c.requires.stay)
    c.index.ensures c.in-OnPath.is)

pub returns-in-Unseen : goal.returns-in-Unseen
returns-in-Unseen c =
    on_ok c.enter.result
    (walk_of c.enter.new.search ≡ entered (rows_of c.args.rows.now) (walk_of c.args.search.now) c.args.vertex)
    (GoesOn (rows_of c.args.rows.now) (walk_of c.args.search.now) (walk_of c.enter.new.search))
    (follow_enters (rows_of c.args.rows.now) (walk_of c.args.search.now) c.args.vertex c.requires.following
    c.requires.stay
    (mark_is (walk_of c.args.search.now) c.args.vertex c.index.result.now _
    (to_mark (rows_of c.args.rows.now) (walk_of c.args.search.now) c.args.vertex c.requires.following c.requires.stay)
    c.index.ensures c.in-Unseen.is) (walk_of c.enter.new.search)) c.enter.ensures

pub returns-in-OnPath : goal.returns-in-OnPath
returns-in-OnPath c =
    follow_merges (rows_of c.args.rows.now) (walk_of c.args.search.now) c.args.vertex c.requires.following
    c.requires.stay c.in-OnPath.index
    (mark_is (walk_of c.args.search.now) c.args.vertex c.index.result.now _
    (to_mark (rows_of c.args.rows.now) (walk_of c.args.search.now) c.args.vertex c.requires.following c.requires.stay)
    c.index.ensures c.in-OnPath.is) (walk_of c.merge.new.search) c.merge.ensures

pub returns-in-Done : goal.returns-in-Done
returns-in-Done c =
    follow_skips (rows_of c.args.rows.now) (walk_of c.args.search.now) c.args.vertex c.requires.following
    c.requires.stay
    (mark_is (walk_of c.args.search.now) c.args.vertex c.index.result.now _
    (to_mark (rows_of c.args.rows.now) (walk_of c.args.search.now) c.args.vertex c.requires.following c.requires.stay)
    c.index.ensures c.in-Done.is)

use Rattle.std.proofs.Common.{◌<◌, List, ℕ, length, ap, arith}
use Rattle.directed_graphs.specs.Walks.{walk_of}
use Rattle.directed_graphs.proofs.Emptying.{emptying_none, emptying_more, emptied_at, emptied_vertex, emptied_reported, emptying_all}
use Rattle.directed_graphs.proofs.order.close.Goals as goal

pub loop-index-init : goal.loop-index-init
loop-index-init c = emptying_none c.args.group (walk_of c.args.search.now)

pub index-vertex-requires : goal.index-vertex-requires
index-vertex-requires c =
    let a = c.loop-index-test.true in
    let b = c.len-index-end.ensures in
    let d = c.args.search.now.path.ok.0 in
    let e = ap (λ (xs : List ℕ). length xs) c.loop-index.invariant.path in
    let f = c.loop-index.search.path.ok.0 in omega (arith, a, b, d, e, f)

pub index_mut-requires : goal.index_mut-requires
index_mut-requires c =
    let l : c.loop-index.index < length c.args.search.now.path.items =
    (let a = c.loop-index-test.true in
    let b = c.len-index-end.ensures in
    let d = c.args.search.now.path.ok.0 in omega (arith, a, b, d)) in
    let v = emptied_vertex c.args.group (walk_of c.args.search.now) (walk_of c.loop-index.search) c.loop-index.index
    c.index-vertex.result.now c.loop-index.invariant c.requires.marks l c.index-vertex.ensures in
    let f = c.loop-index.search.marks.ok.0 in omega (arith, v, f)

pub index_mut-requires-in-loop-index : goal.index_mut-requires-in-loop-index
index_mut-requires-in-loop-index c =
    let l : c.loop-index.index < length c.args.search.now.path.items =
    (let a = c.loop-index-test.true in
    let b = c.len-index-end.ensures in
    let d = c.args.search.now.path.ok.0 in omega (arith, a, b, d)) in
    let v = emptied_vertex c.args.group (walk_of c.args.search.now) (walk_of c.loop-index.search) c.loop-index.index
    c.index-vertex.result.now c.loop-index.invariant c.requires.marks l c.index-vertex.ensures in
    let w = emptied_reported c.args.group (walk_of c.args.search.now) (walk_of c.loop-index.search) c.loop-index.index
    c.index-vertex.result.now c.loop-index.invariant c.requires.loops v in
    let f = c.loop-index.search.loops.ok.0 in omega (arith, w, f)

pub loop-index-preserved : goal.loop-index-preserved
loop-index-preserved c =
    let l : c.loop-index.index < length c.args.search.now.path.items =
    (let a = c.loop-index-test.true in
    let b = c.len-index-end.ensures in
    let d = c.args.search.now.path.ok.0 in omega (arith, a, b, d)) in
    let v = emptied_vertex c.args.group (walk_of c.args.search.now) (walk_of c.loop-index.search) c.loop-index.index
    c.index-vertex.result.now c.loop-index.invariant c.requires.marks l c.index-vertex.ensures in
    emptying_more c.args.group (walk_of c.args.search.now) (walk_of c.loop-index.search) c.loop-index.index
    c.index-vertex.result.now c.loop-index.invariant l
    (emptied_at c.args.group (walk_of c.args.search.now) (walk_of c.loop-index.search) c.loop-index.index
    c.index-vertex.result.now c.loop-index.invariant l c.index-vertex.ensures) v
    (emptied_reported c.args.group (walk_of c.args.search.now) (walk_of c.loop-index.search) c.loop-index.index
    c.index-vertex.result.now c.loop-index.invariant c.requires.loops v) c.push.new.self.items
    c.in_ok-push.ensures.items

pub returns : goal.returns
returns c =
    emptying_all c.args.group (walk_of c.args.search.now) (walk_of c.loop-index.search) c.loop-index.index
    c.loop-index.invariant
    (let a = c.loop-index-test.false in
    let b = c.len-index-end.ensures in
    let d = c.args.search.now.path.ok.0 in omega (arith, a, b, d)) c.requires.begins c.truncate.new.self.items
    c.truncate.ensures.items

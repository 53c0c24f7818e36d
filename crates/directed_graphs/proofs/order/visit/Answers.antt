use Rattle.std.proofs.Common.{◌≡◌, ◌<◌, length, sym, subst, arith}
use Rattle.directed_graphs.specs.declared.order.Mark.TheVariants.{Unseen}
use Rattle.directed_graphs.specs.Graphs.{rows_of}
use Rattle.directed_graphs.specs.Walks.{Walk, walk_of, mark_of, IsWalk, Ends}
use Rattle.directed_graphs.proofs.Rows.{as_many}
use Rattle.directed_graphs.proofs.Walking.{on_ok, is_mark, mark_is, visit_enters, visit_ends, visit_sees, ends_at_once}
use Rattle.directed_graphs.proofs.order.visit.Goals as goal

pub index-requires : goal.index-requires
index-requires c =
    let a = c.requires.walk.marks.marked in
    let b = as_many c.args.rows.now in
    let d = c.requires.there in
    let e = c.args.search.now.marks.ok.0 in omega (arith, a, b, d, e)

pub enter-requires-clause-vertex : goal.enter-requires-clause-vertex
enter-requires-clause-vertex c = c.requires.there

pub enter-requires-clause-whole : goal.enter-requires-clause-whole
enter-requires-clause-whole c =
    let a = c.requires.walk.marks.marked in let b = as_many c.args.rows.now in omega (arith, a, b)

pub walk_on-requires-clause-walk : goal.walk_on-requires-clause-walk
walk_on-requires-clause-walk c =
    let l : c.args.root < length (rows_of c.args.rows.now) =
    (let b = as_many c.args.rows.now in let d = c.requires.there in omega (arith, b, d)) in
    let m : c.args.root < length c.args.search.now.marks.items =
    (let a = c.requires.walk.marks.marked in omega (arith, a, l)) in
    subst (λ (w : Walk). IsWalk (rows_of c.args.rows.now) w) (sym c.in_ok-enter-in-Unseen.ensures)
    (visit_enters (rows_of c.args.rows.now) (walk_of c.args.search.now) c.requires.walk c.requires.none c.args.root l
    (mark_is (walk_of c.args.search.now) c.args.root c.index.result.now _ m c.index.ensures c.in-Unseen.is))

pub walk_on-requires-clause-stay : goal.walk_on-requires-clause-stay
walk_on-requires-clause-stay c = c.requires.stay

pub returns-in_ok-enter-in-Unseen-clause-ends : goal.returns-in_ok-enter-in-Unseen-clause-ends
returns-in_ok-enter-in-Unseen-clause-ends c =
    let l : c.args.root < length (rows_of c.args.rows.now) =
    (let b = as_many c.args.rows.now in let d = c.requires.there in omega (arith, b, d)) in
    on_ok c.walk_on.result
    (Ends (rows_of c.args.rows.now) (walk_of c.enter.new.search) (walk_of c.walk_on.new.search))
    (Ends (rows_of c.args.rows.now) (walk_of c.args.search.now) (walk_of c.walk_on.new.search))
    (λ h. visit_ends (rows_of c.args.rows.now) (walk_of c.args.search.now) c.requires.walk c.requires.none c.args.root l
    (walk_of c.walk_on.new.search)
    (subst (λ (w : Walk). Ends (rows_of c.args.rows.now) w (walk_of c.walk_on.new.search)) c.in_ok-enter-in-Unseen.ensures h))
    c.walk_on.ensures

pub returns-in_ok-enter-in-Unseen-clause-seen : goal.returns-in_ok-enter-in-Unseen-clause-seen
returns-in_ok-enter-in-Unseen-clause-seen c =
    let l : c.args.root < length (rows_of c.args.rows.now) =
    (let b = as_many c.args.rows.now in let d = c.requires.there in omega (arith, b, d)) in
    on_ok c.walk_on.result
    (Ends (rows_of c.args.rows.now) (walk_of c.enter.new.search) (walk_of c.walk_on.new.search))
    (mark_of (walk_of c.walk_on.new.search) c.args.root ≡ Unseen → ⊥)
    (λ h. visit_sees (rows_of c.args.rows.now) (walk_of c.args.search.now) c.requires.walk c.requires.none c.args.root l
    (walk_of c.walk_on.new.search)
    (subst (λ (w : Walk). Ends (rows_of c.args.rows.now) w (walk_of c.walk_on.new.search)) c.in_ok-enter-in-Unseen.ensures h))
    c.walk_on.ensures

pub returns-in_default : goal.returns-in_default
returns-in_default c =
    let m : c.args.root < length c.args.search.now.marks.items =
    (let a = c.requires.walk.marks.marked in let b = as_many c.args.rows.now in
    let d = c.requires.there in omega (arith, a, b, d)) in
    record {
      ends = ends_at_once (rows_of c.args.rows.now) (walk_of c.args.search.now) c.requires.walk c.requires.none;
      seen = λ e. c.in_default.not-Unseen
          (is_mark (walk_of c.args.search.now) c.args.root c.index.result.now Unseen m c.index.ensures e);
    }

-- What a node is found to show, by the rows of all nodes, is what it shows.
use Rattle.std.specs.Prelude.{Option, Some, None, slice_get}
use Rattle.std.proofs.Common.{◌≡◌, ℕ, List, [], sym, ◌∙◌, ap, subst}
use Rattle.scj_base.specs.declared.positions.Position.{Position}
use Rattle.scj_tree.specs.declared.nodes.Node.{Node}
use Rattle.scj_tree.specs.Heights.{highest}
use Rattle.scj_tree.specs.Recursion.{lookup}
use Rattle.scj_model.specs.Code.{Code}
use Rattle.memory_needs.specs.declared.answers.NoBound.{NoBound}
use Rattle.memory_needs.specs.declared.shown.Shown.{Shown}
use Rattle.memory_needs.specs.Targets.{targets_entered}
use Rattle.memory_needs.specs.Need.{greatest}
use Rattle.memory_needs.specs.Solved.{reported_by}
use Rattle.memory_needs.specs.Edges.{runs_entered, written_nodes}
use Rattle.memory_needs.specs.Shown.{IsShown, ShowsOne, node_shown, shown_at}
use Rattle.memory_needs.proofs.NeedLemmas.{highest_written}
use Rattle.memory_needs.proofs.Showing.{shows_one}

-- a number of no node shows nothing
pub none_there : (code : Code) (rows : List ℕ) (id : ℕ) → slice_get code.program.nodes id ≡ None →
    shown_at code rows id ≡ None
unfolding shown_at
none_there code rows id e =
    ap (λ (o : Option Node). elim o [
      | None ↦ None
      | Some n ↦ node_shown code (lookup 0 rows) (highest (lookup 0 rows) (runs_entered code id)) id n
    ]) e

-- a node that is there shows what it is found to show
entered_are : (code : Code) (id : ℕ) (node : Node) → slice_get code.program.nodes id ≡ Some node →
    runs_entered code id ≡ written_nodes (targets_entered code id node)
unfolding runs_entered
entered_are code id node e =
    ap (λ (o : Option Node). elim o [ None ↦ [] | Some n ↦ written_nodes (targets_entered code id n) ]) e

entered_most : (code : Code) (rows : List ℕ) (id : ℕ) (node : Node) → slice_get code.program.nodes id ≡ Some node →
    greatest (reported_by rows) (targets_entered code id node) ≡ highest (lookup 0 rows) (runs_entered code id)
entered_most code rows id node e =
    sym (ap (highest (lookup 0 rows)) (entered_are code id node e) ∙ highest_written rows (targets_entered code id node))

shown_one : (code : Code) (rows : List ℕ) (id : ℕ) (node : Node) → slice_get code.program.nodes id ≡ Some node →
    ShowsOne code (reported_by rows) (lookup 0 rows) id node (shown_at code rows id)
unfolding shown_at
shown_one code rows id node there = of (slice_get code.program.nodes id) there
  where
    of : (o : Option Node) → o ≡ Some node →
        ShowsOne code (reported_by rows) (lookup 0 rows) id node
        (elim o [
          | None ↦ None
          | Some n ↦ node_shown code (lookup 0 rows) (highest (lookup 0 rows) (runs_entered code id)) id n
        ])
    of None e = absurd (cc (e))
    of (Some n) e =
        let same : node ≡ n = cc (e) in
        subst (λ (m : Node). ShowsOne code (reported_by rows) (lookup 0 rows) id node
        (node_shown code (lookup 0 rows) (highest (lookup 0 rows) (runs_entered code id)) id m)) same
        (subst (λ k. ShowsOne code (reported_by rows) (lookup 0 rows) id node (node_shown code (lookup 0 rows) k id node))
        (entered_most code rows id node there)
        (shows_one code (reported_by rows) (lookup 0 rows) id node))

pub shown_is : (code : Code) (rows : List ℕ) (id : ℕ) (node : Node) → slice_get code.program.nodes id ≡ Some node →
    (s : Shown) → shown_at code rows id ≡ Some s → IsShown code (reported_by rows) (lookup 0 rows) id node s.cause s.at
shown_is code rows id node there s e =
    of (shown_at code rows id) e (shown_one code rows id node there)
  where
    of : (o : Option Shown) → o ≡ Some s → ShowsOne code (reported_by rows) (lookup 0 rows) id node o →
        IsShown code (reported_by rows) (lookup 0 rows) id node s.cause s.at
    of None e h = absurd (cc (e))
    of (Some t) e h =
        let same : t ≡ s = cc (e) in
        subst (λ (u : Shown). IsShown code (reported_by rows) (lookup 0 rows) id node u.cause u.at) same h.that

pub is_shown : (code : Code) (rows : List ℕ) (id : ℕ) (node : Node) → slice_get code.program.nodes id ≡ Some node →
    (cause : NoBound) (at : Position) → IsShown code (reported_by rows) (lookup 0 rows) id node cause at →
    shown_at code rows id ≡ Some (record { cause = cause; at = at })
is_shown code rows id node there cause at k = of (shown_at code rows id) (shown_one code rows id node there)
  where
    of : (o : Option Shown) → ShowsOne code (reported_by rows) (lookup 0 rows) id node o →
        o ≡ Some (record { cause = cause; at = at })
    of None h = absurd (h.nothing cause at k)
    of (Some t) h =
        let a = h.alone cause at k in
        let first : record { cause = cause; at = at } ≡ (let u : Shown = record { cause = t.cause; at = at } in u) =
        ap (λ c. (let u : Shown = record { cause = c; at = at } in u)) a.0 in
        let second = ap (λ p. (let u : Shown = record { cause = t.cause; at = p } in u)) a.1 in
        ap (λ (u : Shown). Some u) (sym (first ∙ second))

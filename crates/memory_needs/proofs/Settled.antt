-- Where the rows of all that a node stands on are Needs, its next row is the Need of what runs from the node on.
use Rattle.std.specs.Prelude.{Option, Some, None, slice_get, slice_index_or, Contains, nat_lt}
use Rattle.std.proofs.Common.{◌≡◌, ℕ, zero, suc, ◌<◌, ◌≤◌, List, [], ◌∷◌, ◌++◌, length, Bool, true, false, refl, sym, ◌∙◌, ap, subst, arith}
use Rattle.std.proofs.lemmas.Bool.Decides.{nat_tests}
use Rattle.scj_tree.specs.declared.nodes.Node.{Node}
use Rattle.scj_tree.specs.Forest.{ChildrenFirst}
use Rattle.scj_tree.specs.Recursion.{lookup, below}
use Rattle.scj_tree.proofs.RecursionLemmas.{by_smaller-is}
use Rattle.scj_rules.proofs.ReportLemmas.{none_contained}
use Rattle.scj_rules.specs.declared.views.Body.{Body}
use Rattle.scj_rules.specs.declared.views.Body.TheVariants.{Written, Empty}
use Rattle.scj_model.specs.Code.{Code}
use Rattle.memory_needs.specs.Targets.{targets_here, targets_entered, targets}
use Rattle.memory_needs.specs.Reach.{run_parts, IsIn, itself, in_part, IsInBody, MayRun}
use Rattle.memory_needs.specs.Need.{node_need, next_need, need, body_need, RunsHere, HasNeed, by_targets}
use Rattle.memory_needs.specs.Solved.{reported_by, need_by}
use Rattle.memory_needs.proofs.Agree.{below_lt, part_is_smaller, node_agrees, need_agrees, need_is_one}

-- ---- nodes in nodes

-- a node in a part is in the whole
pub in_whole : (nodes : List Node) (whole part id : ℕ) (node : Node) → slice_get nodes whole ≡ Some node →
    Contains (run_parts node) part → IsIn nodes part id → IsIn nodes whole id
in_whole nodes whole part _ node is c itself = in_part whole part node itself is c
in_whole nodes whole part id node is c (in_part between _ n h there d) =
    in_part between id n (in_whole nodes whole part between node is c h) there d

pub in_then : (nodes : List Node) (whole between id : ℕ) → IsIn nodes whole between → IsIn nodes between id →
    IsIn nodes whole id
in_then nodes whole between _ a itself = a
in_then nodes whole between id a (in_part x _ node h there c) = in_part x id node (in_then nodes whole between x a h) there c

-- nothing is in a number that no node has
pub alone_there : (nodes : List Node) (whole id : ℕ) → slice_get nodes whole ≡ None → IsIn nodes whole id → id ≡ whole
alone_there nodes whole _ none itself = refl
alone_there nodes whole id none (in_part between _ n h there d) =
    absurd (let e = alone_there nodes whole between none h in
    let a : slice_get nodes between ≡ None = ap (slice_get nodes) e ∙ none in cc (a, there))

-- what a number stands for that no node has runs nothing
pub runs_none : (code : Code) (whole : ℕ) (target : Body) → slice_get code.program.nodes whole ≡ None →
    MayRun code (Written whole) target → ⊥
unfolding targets IsInBody
runs_none code whole target none r =
    let e = alone_there code.program.nodes whole r.id none r.is_in in
    let a : slice_get code.program.nodes r.id ≡ None = ap (slice_get code.program.nodes) e ∙ none in
    none_contained target
    (subst (λ (o : Option Node). Contains
    (elim o [ None ↦ [] | Some node ↦ targets_here code r.id node ++ targets_entered code r.id node ]) target) a
    r.is_target)

pub no_node : (nodes : List Node) (id : ℕ) → length nodes ≤ id → slice_get nodes id ≡ None
no_node [] id l = refl
no_node (x ∷ nodes) zero l = absurd (omega (arith, l))
no_node (x ∷ nodes) (suc id) l = no_node nodes id (omega (arith, l))

no_row : (rows : List ℕ) (id : ℕ) → length rows ≤ id → slice_index_or rows id 0 ≡ 0
no_row [] id l = refl
no_row (x ∷ rows) zero l = absurd (omega (arith, l))
no_row (x ∷ rows) (suc id) l = no_row rows id (omega (arith, l))

-- ---- rows

module _ (code : Code) (first : ChildrenFirst 0 code.program.nodes) (rows : List ℕ)
    (whole : length rows ≡ length code.program.nodes) where
  -- the row of a node is the Need of what runs from it on
  abbrev pub IsSettled : ℕ → Type 0
  IsSettled id = HasNeed code (Written id) (lookup 0 rows id)

  needs_none : (id : ℕ) → length code.program.nodes ≤ id → HasNeed code (Written id) 0
  unfolding body_need need IsInBody next_need
  needs_none id l =
      let none = no_node code.program.nodes id l in
      by_targets (reported_by rows)
      (by_smaller-is 0 (next_need code (reported_by rows)) id ∙ of (slice_get code.program.nodes id) none)
      (λ target r. absurd (let e = alone_there code.program.nodes id r.id none r.is_in in
      let a : slice_get code.program.nodes r.id ≡ None = ap (slice_get code.program.nodes) e ∙ none in
      let b = r.is in cc (a, b)))
    where
      of : (o : Option Node) → o ≡ None →
          (elim o as (λ z. ℕ) [
            | None ↦ 0
            | Some node ↦ node_need code (reported_by rows) (below 0 id (need code (reported_by rows))) id node
          ]) ≡ 0
      of None e = refl
      of (Some node) e = absurd (cc (e))

  pub empty_needs_none : HasNeed code Empty 0
  unfolding body_need IsInBody
  empty_needs_none = by_targets (reported_by rows) refl (λ target r. absurd r.is_in)

  -- what is told of a body is its Need, if it is settled
  pub reported_is : (body : Body) → ((id : ℕ) → id < length code.program.nodes → body ≡ Written id → IsSettled id) →
      HasNeed code body (reported_by rows body)
  unfolding reported_by
  reported_is Empty h = empty_needs_none
  reported_is (Written id) h = of (nat_lt id (length code.program.nodes)) refl
    where
      of : (b : Bool) → nat_lt id (length code.program.nodes) ≡ b → HasNeed code (Written id) (lookup 0 rows id)
      of true e = h id (grind (arith, nat_tests)) refl
      of false e =
          let l : length code.program.nodes ≤ id = grind (arith, nat_tests) in
          subst (HasNeed code (Written id)) (sym (no_row rows id (omega (arith, l, whole)))) (needs_none id l)

  module _ (id : ℕ) (node : Node) (is : slice_get code.program.nodes id ≡ Some node)
      (parts : (x : ℕ) → Contains (run_parts node) x → IsSettled x)
      (runs : (target : Body) → RunsHere code (Written id) target → HasNeed code target (reported_by rows target)) where
    -- what a part runs the whole runs
    of_part : (x : ℕ) → Contains (run_parts node) x → (target : Body) → RunsHere code (Written x) target →
        RunsHere code (Written id) target
    unfolding IsInBody
    of_part x c target r = record {
      id = r.id;
      node = r.node;
      is_in = in_whole code.program.nodes id x r.id node is c r.is_in;
      is = r.is;
      is_target = r.is_target;
    }

    part_is : (x : ℕ) → Contains (run_parts node) x → need code (reported_by rows) x ≡ lookup 0 rows x
    unfolding body_need IsInBody
    part_is x c = of (lookup 0 rows x) (parts x c)
      where
        of : (n : ℕ) → HasNeed code (Written x) n → need code (reported_by rows) x ≡ n
        of n (by_targets t e h) =
            need_agrees code first (reported_by rows) t (Written x)
            (λ target r. need_is_one code first target (reported_by rows target) (t target)
            (runs target (of_part x c target r)) (h target r)) x itself
            ∙ e

    next_is : need code (reported_by rows) id ≡ need_by code rows id
    unfolding need next_need
    next_is =
        by_smaller-is 0 (next_need code (reported_by rows)) id ∙ of (slice_get code.program.nodes id) is
      where
        of : (o : Option Node) → o ≡ Some node →
            (elim o as (λ z. ℕ) [
              | None ↦ 0
              | Some n ↦ node_need code (reported_by rows) (below 0 id (need code (reported_by rows))) id n
            ])
            ≡ (elim o as (λ z. ℕ) [
              | None ↦ 0
              | Some n ↦ node_need code (reported_by rows) (lookup 0 rows) id n
            ])
        of None e = absurd (cc (e))
        of (Some n) e =
            let same : n ≡ node = cc (e) in
            node_agrees code (reported_by rows) (reported_by rows) (below 0 id (need code (reported_by rows))) (lookup 0 rows) id n
            (λ x c.
            (let d = subst (λ (m : Node). Contains (run_parts m) x) same c in
            let l = part_is_smaller code.program.nodes first id x node is d in
            below_lt 0 id (need code (reported_by rows)) x l ∙ part_is x d))
            (λ b c. refl)

    pub settles : HasNeed code (Written id) (need_by code rows id)
    unfolding body_need
    settles = by_targets (reported_by rows) next_is runs

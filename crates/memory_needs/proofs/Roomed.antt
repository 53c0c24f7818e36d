-- Where the rows of all that a node stands on are Rooms, its next row is the Room of what runs from the node on.
use Rattle.std.specs.Prelude.{Option, Some, None, slice_get, Contains, nat_lt, max}
use Rattle.std.proofs.Common.{◌≡◌, ℕ, ◌<◌, ◌≤◌, List, length, Bool, true, false, refl, sym, ◌∙◌, ap, subst, arith}
use Rattle.std.proofs.lemmas.Bool.Decides.{nat_tests}
use Rattle.scj_tree.specs.declared.nodes.Node.{Node}
use Rattle.scj_tree.specs.Forest.{ChildrenFirst}
use Rattle.scj_tree.specs.Heights.{highest}
use Rattle.scj_tree.specs.Recursion.{lookup, below}
use Rattle.scj_tree.proofs.RecursionLemmas.{by_smaller-is, lookup-behind}
use Rattle.scj_rules.specs.declared.views.Body.{Body}
use Rattle.scj_rules.specs.declared.views.Body.TheVariants.{Written, Empty}
use Rattle.scj_model.specs.Code.{Code}
use Rattle.memory_needs.specs.Reach.{run_parts, IsInBody, MayRun}
use Rattle.memory_needs.specs.Room.{target_room, next_room, room, body_room, HasRoom, by_rooms}
use Rattle.memory_needs.specs.Solved.{reported_by, room_by}
use Rattle.memory_needs.proofs.Agree.{below_lt, highest_same, part_is_smaller, body_room_agrees, room_is_one}
use Rattle.memory_needs.proofs.Settled.{in_whole, no_node, runs_none}

module _ (code : Code) (first : ChildrenFirst 0 code.program.nodes) (rows : List ℕ)
    (whole : length rows ≡ length code.program.nodes) where
  rooms_none : (id : ℕ) → length code.program.nodes ≤ id → HasRoom code (Written id) 0
  unfolding body_room room next_room
  rooms_none id l =
      let none = no_node code.program.nodes id l in
      by_rooms (reported_by rows)
      (by_smaller-is 0 (next_room code (reported_by rows)) id ∙ of (slice_get code.program.nodes id) none)
      (λ target r. absurd (runs_none code id target none r))
    where
      of : (o : Option Node) → o ≡ None →
          (elim o as (λ z. ℕ) [
            | None ↦ 0
            | Some node ↦ max (target_room code (reported_by rows) id node)
                (highest (below 0 id (room code (reported_by rows))) (run_parts node))
          ]) ≡ 0
      of None e = refl
      of (Some node) e = absurd (cc (e))

  empty_has_none : HasRoom code Empty 0
  unfolding body_room IsInBody
  empty_has_none = by_rooms (reported_by rows) refl (λ target r. absurd r.is_in)

  -- what is told of a body is its Room, if the row of its node is
  pub reported_room : (body : Body) →
      ((id : ℕ) → id < length code.program.nodes → body ≡ Written id → HasRoom code (Written id) (lookup 0 rows id)) →
      HasRoom code body (reported_by rows body)
  unfolding reported_by
  reported_room Empty h = empty_has_none
  reported_room (Written id) h = of (nat_lt id (length code.program.nodes)) refl
    where
      of : (b : Bool) → nat_lt id (length code.program.nodes) ≡ b → HasRoom code (Written id) (lookup 0 rows id)
      of true e = h id (grind (arith, nat_tests)) refl
      of false e =
          let l : length code.program.nodes ≤ id = grind (arith, nat_tests) in
          subst (HasRoom code (Written id)) (sym (lookup-behind 0 rows id (omega (arith, l, whole)))) (rooms_none id l)

  module _ (id : ℕ) (node : Node) (is : slice_get code.program.nodes id ≡ Some node)
      (parts : (x : ℕ) → Contains (run_parts node) x → HasRoom code (Written x) (lookup 0 rows x))
      (runs : (target : Body) → MayRun code (Written id) target → HasRoom code target (reported_by rows target)) where
    -- what a part runs the whole runs
    of_part : (x : ℕ) → Contains (run_parts node) x → (target : Body) → MayRun code (Written x) target →
        MayRun code (Written id) target
    unfolding IsInBody
    of_part x c target r = record {
      id = r.id;
      is_in = in_whole code.program.nodes id x r.id node is c r.is_in;
      is_target = r.is_target;
    }

    part_is : (x : ℕ) → Contains (run_parts node) x → room code (reported_by rows) x ≡ lookup 0 rows x
    unfolding body_room
    part_is x c = of (lookup 0 rows x) (parts x c)
      where
        of : (n : ℕ) → HasRoom code (Written x) n → room code (reported_by rows) x ≡ n
        of n (by_rooms t e h) =
            body_room_agrees code first (reported_by rows) t (Written x)
            (λ target r. room_is_one code first target (reported_by rows target) (t target)
            (runs target (of_part x c target r)) (h target r))
            ∙ e

    next_is : room code (reported_by rows) id ≡ room_by code rows id
    unfolding room next_room
    next_is =
        by_smaller-is 0 (next_room code (reported_by rows)) id ∙ of (slice_get code.program.nodes id) is
      where
        of : (o : Option Node) → o ≡ Some node →
            (elim o as (λ z. ℕ) [
              | None ↦ 0
              | Some n ↦ max (target_room code (reported_by rows) id n)
                  (highest (below 0 id (room code (reported_by rows))) (run_parts n))
            ])
            ≡ (elim o as (λ z. ℕ) [
              | None ↦ 0
              | Some n ↦ max (target_room code (reported_by rows) id n) (highest (lookup 0 rows) (run_parts n))
            ])
        of None e = absurd (cc (e))
        of (Some n) e =
            let same : n ≡ node = cc (e) in
            ap (max (target_room code (reported_by rows) id n))
            (highest_same (below 0 id (room code (reported_by rows))) (lookup 0 rows) (run_parts n)
            (λ x c.
            (let d = subst (λ (m : Node). Contains (run_parts m) x) same c in
            let l = part_is_smaller code.program.nodes first id x node is d in
            below_lt 0 id (room code (reported_by rows)) x l ∙ part_is x d)))

    pub room_settles : HasRoom code (Written id) (room_by code rows id)
    unfolding body_room
    room_settles = by_rooms (reported_by rows) next_is runs

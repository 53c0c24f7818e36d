-- The Room of a body has room for each body that it may run, in what it opens for that one.
use Rattle.std.specs.Prelude.{Option, Some, None, Contains, max, slice_get}
use Rattle.std.proofs.Common.{◌≡◌, ℕ, ◌+◌, ◌≤◌, List, [], ◌∷◌, inl, inr, ◌∙◌, ap, arith}
use Rattle.scj_tree.specs.declared.nodes.Node.{Node}
use Rattle.scj_tree.specs.Forest.{ChildrenFirst}
use Rattle.scj_tree.specs.Heights.{highest}
use Rattle.scj_tree.specs.Recursion.{below}
use Rattle.scj_tree.proofs.RecursionLemmas.{by_smaller-is}
use Rattle.scj_rules.specs.declared.views.Body.{Body}
use Rattle.scj_rules.specs.declared.views.Body.TheVariants.{Written, Empty}
use Rattle.scj_rules.proofs.ReportLemmas.{Contains-cases, none_contained}
use Rattle.scj_model.specs.Code.{Code}
use Rattle.memory_needs.specs.Targets.{targets}
use Rattle.memory_needs.specs.Reach.{run_parts, IsIn, itself, in_part, IsInBody}
use Rattle.memory_needs.specs.Need.{Table, greatest}
use Rattle.memory_needs.specs.Room.{own_room, target_room, next_room, room, body_room, HasRoom, by_rooms}
use Rattle.memory_needs.proofs.Agree.{part_is_smaller, below_lt}
use Rattle.memory_bounds.proofs.HandlerClasses.{one_of_highest}

one_of_greatest : (t : Table) (bodies : List Body) (b : Body) → Contains bodies b → t b ≤ greatest t bodies
unfolding greatest
one_of_greatest t [] b c = absurd (none_contained b c)
one_of_greatest t (x ∷ xs) b c =
    elim (Contains-cases x xs b c) as (λ z. t b ≤ max (t x) (greatest t xs)) [
      | inl same ↦ (let e : t x ≡ t b = ap t same in omega (arith, e))
      | inr more ↦ (let h = one_of_greatest t xs b more in omega (arith, h))
    ]

module _ (code : Code) (first : ChildrenFirst 0 code.program.nodes) (t : Table) where
  room_is : (id : ℕ) (node : Node) → slice_get code.program.nodes id ≡ Some node →
      room code t id ≡ max (target_room code t id node) (highest (below 0 id (room code t)) (run_parts node))
  unfolding room next_room
  room_is id node is =
      by_smaller-is 0 (next_room code t) id
      ∙ ap (λ (o : Option Node). elim o as (λ z. ℕ) [
        | None ↦ 0
        | Some n ↦ max (target_room code t id n) (highest (below 0 id (room code t)) (run_parts n))
      ]) is

  -- a node in another one has no more
  room_inside : (whole id : ℕ) → IsIn code.program.nodes whole id → room code t id ≤ room code t whole
  room_inside whole _ itself = omega arith
  room_inside whole id (in_part between _ node h there c) =
      let a = room_inside whole between h in
      let e = room_is between node there in
      let l = part_is_smaller code.program.nodes first between id node there c in
      let same = below_lt 0 between (room code t) id l in
      let k = one_of_highest (below 0 between (room code t)) (run_parts node) id c in
      omega (arith, a, e, same, k)

  target_within : (id : ℕ) (node : Node) (target : Body) → slice_get code.program.nodes id ≡ Some node →
      Contains (targets code id) target → own_room code id node + t target ≤ room code t id
  target_within id node target is c =
      let e = room_is id node is in
      let k = one_of_greatest (λ body. t body + own_room code id node) (targets code id) target c in
      omega (arith, e, k)

-- what is left of the Room where a node in the body runs another one
pub record RoomLeft (code : Code) (target : Body) (bytes n : ℕ) : Type 0 where
  pub room : ℕ
  pub is : HasRoom code target room
  pub fits : bytes + room ≤ n

pub room_left : (code : Code) → ChildrenFirst 0 code.program.nodes → (body target : Body) (n id : ℕ) (node : Node) →
    HasRoom code body n → IsInBody code id body → slice_get code.program.nodes id ≡ Some node →
    Contains (targets code id) target → RoomLeft code target (own_room code id node) n
unfolding body_room IsInBody
room_left code first (Written whole) target n id node (by_rooms t e h) inside is c =
    let a = room_inside code first t whole id inside in
    let b = target_within code first t id node target is c in
    record {
      room = t target;
      is = h target (record { id = id; is_in = inside; is_target = c });
      fits = omega (arith, a, b, e);
    }
room_left code first Empty target n id node r inside is c = absurd inside

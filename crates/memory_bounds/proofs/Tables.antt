-- A table that tells less of each body tells less of each node; so each round of `needs` bounds each body.
use Rattle.std.specs.Prelude.{Option, Some, None, slice_get, min, nat_lt, not, ◌&&◌, if◌then◌else◌}
use Rattle.std.proofs.Common.{◌≡◌, ℕ, zero, suc, ◌+◌, ◌<◌, ◌≤◌, List, [], ◌∷◌, Bool, true, false, ◌==◌, refl, arith}
use Rattle.std.proofs.lemmas.Bool.Decides.{nat_tests}
use Rattle.scj_builtins.specs.Framework.{managed_memory_enter_private_memory, managed_memory_execute_in_area_of}
use Rattle.scj_tree.specs.declared.nodes.Node.{Node}
use Rattle.scj_tree.specs.declared.nodes.Node.TheVariants.{Class, Method as MethodNode, Constructor, SuperCall, Local as LocalNode, LocalWithValue, If, Call, New, NewArray, While, For}
use Rattle.scj_tree.specs.Forest.{ChildrenFirst}
use Rattle.scj_tree.specs.Recursion.{below}
use Rattle.scj_tree.specs.Shape.{children, optional}
use Rattle.scj_tree.proofs.RecursionLemmas.{by_smaller-is}
use Rattle.scj_rules.specs.declared.typing.Binding.{Binding}
use Rattle.scj_rules.specs.declared.typing.Binding.TheVariants.{Class as ClassNamed, Method, StaticMethod, Builtin}
use Rattle.scj_rules.specs.declared.views.Body.{Body}
use Rattle.scj_rules.specs.declared.views.Body.TheVariants.{Written, Empty}
use Rattle.scj_rules.specs.Words.{◌>>=◌}
use Rattle.scj_rules.specs.Classes.{is_user_class}
use Rattle.scj_rules.specs.Bodies.{class_node, class_of_body, number_literal}
use Rattle.scj_model.specs.Code.{Code, binding, part}
use Rattle.scj_model.specs.Ops.{body_ops}
use Rattle.memory_needs.specs.Targets.{entered_targets, call_targets, constructor_targets}
use Rattle.memory_needs.specs.Need.{Table, greatest, sum_of, too_much}
use Rattle.memory_bounds.specs.Weights.{IsBound, only_if, entered_weight, executed_weight, size_node, call_weight, new_weight, super_weight, unwritten_super_weight, loop_weight, node_weight, next_weight, weight, weights, ops_weight, op_weight}
use Rattle.memory_bounds.proofs.NodeWeights.{ops_covered}

module _ (code : Code) (t u : Table) (le : (body : Body) → t body ≤ u body) where
  greatest_le : (bodies : List Body) → greatest t bodies ≤ greatest u bodies
  unfolding greatest
  greatest_le [] = omega arith
  greatest_le (b ∷ bs) = let a = le b in let c = greatest_le bs in omega (arith, a, c)

  entered_le : (id : ℕ) → entered_weight code t id ≤ entered_weight code u id
  unfolding entered_weight
  entered_le id = of (part code size_node id >>= part code number_literal)
    where
      bodies : List Body
      bodies = entered_targets code.program (binding code id)

      of : (o : Option ℕ) →
          (elim o [ None ↦ too_much | Some size ↦ only_if (nat_lt size too_much && not (nat_lt size (greatest t bodies))) 0 ])
          ≤ (elim o [ None ↦ too_much | Some size ↦ only_if (nat_lt size too_much && not (nat_lt size (greatest u bodies))) 0 ])
      of None = omega arith
      of (Some size) = test (nat_lt size too_much) (nat_lt size (greatest t bodies)) (nat_lt size (greatest u bodies)) refl refl
        where
          test : (a b c : Bool) → nat_lt size (greatest t bodies) ≡ b → nat_lt size (greatest u bodies) ≡ c →
              only_if (a && not b) 0 ≤ only_if (a && not c) 0
          test false b c p q = omega arith
          test true false c p q = omega arith
          test true true true p q = omega arith
          test true true false p q =
              let g = greatest_le bodies in
              let l : size < greatest t bodies = grind (arith, nat_tests) in
              let m : greatest u bodies ≤ size = grind (arith, nat_tests) in
              absurd (omega (arith, g, l, m))

  loop_le : (m n : ℕ) → m ≤ n → loop_weight m ≤ loop_weight n
  loop_le m n l = of (m == 0) (n == 0) refl refl
    where
      of : (a b : Bool) → (m == 0) ≡ a → (n == 0) ≡ b → only_if a 0 ≤ only_if b 0
      of true b p q = omega arith
      of false false p q = omega arith
      of false true p q =
          let z : n ≡ 0 = grind (arith, nat_tests) in
          let y : m ≡ 0 → ⊥ = grind (arith, nat_tests) in
          absurd (y (omega (arith, z, l)))

  executed_le : (id : ℕ) → executed_weight code t id ≤ executed_weight code u id
  unfolding executed_weight
  executed_le id =
      loop_le (greatest t (entered_targets code.program (binding code id)))
      (greatest u (entered_targets code.program (binding code id))) (greatest_le (entered_targets code.program (binding code id)))

  call_le : (id : ℕ) (b : Binding) → call_weight code t id b ≤ call_weight code u id b
  unfolding call_weight
  call_le id (Method x) = greatest_le (call_targets code.program (Method x))
  call_le id (StaticMethod x) = greatest_le (call_targets code.program (StaticMethod x))
  call_le id (Builtin x) =
      of (x.id == managed_memory_enter_private_memory) (x.id == managed_memory_execute_in_area_of)
    where
      of : (a b : Bool) →
          (if a then entered_weight code t id else (if b then executed_weight code t id else 0))
          ≤ (if a then entered_weight code u id else (if b then executed_weight code u id else 0))
      of true b = entered_le id
      of false true = executed_le id
      of false false = omega arith
  call_le id _ = omega arith

  new_le : (b : Binding) → new_weight code t b ≤ new_weight code u b
  unfolding new_weight
  new_le (ClassNamed class) =
      let a = greatest_le (constructor_targets code.program (ClassNamed class)) in omega (arith, a)
  new_le _ = omega arith

  super_le : (b : Binding) → super_weight code t b ≤ super_weight code u b
  unfolding super_weight
  super_le (ClassNamed class) = of (is_user_class class)
    where
      of : (b : Bool) → (if b then greatest t (constructor_targets code.program (ClassNamed class)) else 0)
          ≤ (if b then greatest u (constructor_targets code.program (ClassNamed class)) else 0)
      of true = greatest_le (constructor_targets code.program (ClassNamed class))
      of false = omega arith
  super_le _ = omega arith

  unwritten_le : (body : ℕ) → unwritten_super_weight code t body ≤ unwritten_super_weight code u body
  unfolding unwritten_super_weight
  unwritten_le body = of (class_of_body code.program body >>= class_node code.program)
    where
      of : (o : Option ℕ) → (elim o [ None ↦ 0 | Some node ↦ super_weight code t (binding code node) ])
          ≤ (elim o [ None ↦ 0 | Some node ↦ super_weight code u (binding code node) ])
      of None = omega arith
      of (Some node) = super_le (binding code node)

  module _ (f g : ℕ → ℕ) (sub : (x : ℕ) → f x ≤ g x) (id : ℕ) where
    all_le : (xs : List ℕ) → sum_of f xs ≤ sum_of g xs
    unfolding sum_of
    all_le [] = omega arith
    all_le (x ∷ xs) = let a = sub x in let b = all_le xs in omega (arith, a, b)

    node_le : (n : Node) → node_weight code t f id n ≤ node_weight code u g id n
    unfolding node_weight
    node_le (If position condition then_part else_part) =
        let a = sub condition in let b = sub then_part in let c = all_le (optional else_part) in omega (arith, a, b, c)
    node_le (While position condition body) =
        let a = sub condition in
        let b = sub body in
        let c = loop_le (f condition + f body) (g condition + g body) (omega (arith, a, b)) in
        omega (arith, a, c)
    node_le (For position begins condition step body) =
        let z = sub begins in
        let a = sub condition in
        let b = sub body in
        let d = sub step in
        let c = loop_le (f condition + (f step + f body)) (g condition + (g step + g body)) (omega (arith, a, b, d)) in
        omega (arith, z, a, c)
    node_le (New position name_position name xs) =
        let a = all_le xs in let b = new_le (binding code id) in omega (arith, a, b)
    node_le (NewArray position element count) = let a = sub count in omega (arith, a)
    node_le (Call position name object xs) =
        let a = all_le (optional object) in
        let b = all_le xs in
        let c = call_le id (binding code id) in
        omega (arith, a, b, c)
    node_le (SuperCall position xs) = let a = all_le xs in let b = super_le (binding code id) in omega (arith, a, b)
    node_le (MethodNode position name flags result_type parameters body) = all_le (optional body)
    node_le (Constructor position name flags parameters None body) =
        let a = unwritten_le id in let b = sub body in omega (arith, a, b)
    node_le (Constructor position name flags parameters (Some call) body) =
        let a = sub call in let b = sub body in omega (arith, a, b)
    node_le (Class position name flags header members) = unwritten_le id
    node_le (LocalNode position name flags declared_type) = omega arith
    node_le (LocalWithValue position name_position name flags declared_type value) = sub value
    node_le n = all_le (children n)

  weight_step : (id : ℕ) → ((x : ℕ) → x < id → weight code t x ≤ weight code u x) → weight code t id ≤ weight code u id
  unfolding weight next_weight
  weight_step id hyp =
      let a = by_smaller-is 0 (next_weight code t) id in
      let b = by_smaller-is 0 (next_weight code u) id in
      let c = of (slice_get code.program.nodes id) in
      omega (arith, a, b, c)
    where
      under : (x : ℕ) → below 0 id (weight code t) x ≤ below 0 id (weight code u) x
      under x = test (nat_lt x id) refl
        where
          test : (b : Bool) → nat_lt x id ≡ b → (if b then weight code t x else 0) ≤ (if b then weight code u x else 0)
          test true e = hyp x (grind (arith, nat_tests))
          test false e = omega arith

      of : (o : Option Node) →
          (elim o [ None ↦ 0 | Some node ↦ node_weight code t (below 0 id (weight code t)) id node ])
          ≤ (elim o [ None ↦ 0 | Some node ↦ node_weight code u (below 0 id (weight code u)) id node ])
      of None = omega arith
      of (Some node) = node_le (below 0 id (weight code t)) (below 0 id (weight code u)) under id node

  weight_up_to : (bound id : ℕ) → id < bound → weight code t id ≤ weight code u id
  weight_up_to zero id l = absurd (omega (arith, l))
  weight_up_to (suc bound) id l = weight_step id (λ x m. weight_up_to bound x (omega (arith, l, m)))

  pub weight_le : (id : ℕ) → weight code t id ≤ weight code u id
  weight_le id = weight_up_to (suc id) id (omega arith)

-- each round tells no more than the one before
pub rounds_fall : (code : Code) (rounds : ℕ) (body : Body) → weights code (suc rounds) body ≤ weights code rounds body
unfolding weights
rounds_fall code zero (Written node) = omega arith
rounds_fall code zero Empty = omega arith
rounds_fall code (suc rounds) (Written node) =
    let a = weight_le code (weights code (suc rounds)) (weights code rounds) (λ b. rounds_fall code rounds b) node in
    omega (arith, a)
rounds_fall code (suc rounds) Empty = omega arith

-- so each bounds each body
pub rounds_bound : (code : Code) → ChildrenFirst 0 code.program.nodes → (rounds : ℕ) → IsBound code (weights code rounds)
unfolding weights body_ops ops_weight op_weight
rounds_bound code first rounds = record { bodies = bodies }
  where
    bodies : (body : Body) → min too_much (ops_weight code (weights code rounds) (body_ops code body)) ≤ weights code rounds body
    bodies (Written node) =
        let a = ops_covered code (weights code rounds) first node in
        let b : min too_much (weight code (weights code rounds) node) ≤ weights code rounds (Written node) =
        rounds_fall code rounds (Written node) in
        omega (arith, a, b)
    bodies Empty = omega arith

-- Where no cause is shown of a class, the weights of what it reaches are no more than the Needs: so the Needs bound each
-- body that it reaches, and its storage suffices.
use Rattle.std.specs.Prelude.{Option, Some, None, slice_get, min, nat_lt, not, ◌&&◌, if◌then◌else◌, Contains}
use Rattle.std.proofs.Common.{◌≡◌, ℕ, zero, suc, ◌+◌, ◌<◌, ◌≤◌, List, [], ◌∷◌, ◌++◌, length, Bool, true, false, ◌==◌, refl, sym, ◌∙◌, ap, subst, arith}
use Rattle.std.proofs.lemmas.Bool.Decides.{nat_tests}
use Rattle.std.proofs.lemmas.List.Elements.{Contains-append_left, Contains-append_right}
use Rattle.scj_base.specs.declared.positions.Position.{Position}
use Rattle.scj_builtins.specs.Framework.{managed_memory_enter_private_memory, managed_memory_execute_in_area_of}
use Rattle.scj_tree.specs.declared.nodes.Node.{Node}
use Rattle.scj_tree.specs.declared.nodes.Node.TheVariants.{Class, Method as MethodNode, Constructor, SuperCall, Local as LocalNode, LocalWithValue, If, Call, New, NewArray, While, For}
use Rattle.scj_tree.specs.Forest.{ChildrenFirst}
use Rattle.scj_tree.specs.Recursion.{below}
use Rattle.scj_tree.specs.Shape.{children, optional}
use Rattle.scj_tree.proofs.RecursionLemmas.{by_smaller-is}
use Rattle.scj_rules.specs.declared.typing.Binding.{Binding}
use Rattle.scj_rules.specs.declared.typing.Binding.TheVariants.{Class as ClassNamed, Method, StaticMethod, Builtin}
use Rattle.scj_rules.specs.declared.typing.Target.{Target}
use Rattle.scj_rules.specs.declared.views.Body.{Body}
use Rattle.scj_rules.specs.declared.views.Body.TheVariants.{Written, Empty}
use Rattle.scj_rules.specs.Contexts.{Declarations}
use Rattle.scj_rules.specs.Definitions.{read}
use Rattle.scj_rules.specs.Words.{◌>>=◌}
use Rattle.scj_rules.specs.Classes.{is_user_class}
use Rattle.scj_rules.specs.Layout.{size_with_slots}
use Rattle.scj_rules.specs.Bodies.{class_node, class_of_body, number_literal, class_position}
use Rattle.scj_rules.proofs.ReportLemmas.{Contains-head, Contains-tail}
use Rattle.scj_model.specs.Code.{Code, binding, part, position_of_node}
use Rattle.scj_model.specs.Ops.{body_ops}
use Rattle.memory_needs.specs.declared.answers.NoBound.{NoBound}
use Rattle.memory_needs.specs.declared.answers.NoBound.TheVariants.{NotLiteral, OuterArea, NewInLoop, TooSmall}
use Rattle.memory_needs.specs.Targets.{call_targets, constructor_targets, super_targets, unwritten_super_targets, entered_targets, memory_targets, enters_memory, targets_here, targets_entered, targets}
use Rattle.memory_needs.specs.Reach.{run_parts, itself, IsInBody, MayRun, handler_body, Reaches, ReachesNode}
use Rattle.memory_needs.specs.Need.{Table, greatest, sum_of, object_bytes, array_bytes, own_bytes, node_need, next_need, need, body_need, AreNeeds, too_much}
use Rattle.memory_needs.specs.Room.{entered_with, size_entered}
use Rattle.memory_needs.specs.Causes.{number_asked, is_loop, executes_in_area, of_form, of_node, entered, stored, storage_node, storage, Shows, IsNowhere}
use Rattle.memory_needs.specs.Rows.{Suffices}
use Rattle.memory_bounds.specs.Theorem.{IsYes}
use Rattle.memory_bounds.specs.Weights.{only_if, length_node, size_node, array_weight, entered_weight, executed_weight, call_weight, new_weight, super_weight, unwritten_super_weight, loop_weight, node_weight, next_weight, weight, op_weight, ops_weight, IsBound}
use Rattle.memory_bounds.proofs.NodeWeights.{ops_covered}
use Rattle.memory_needs.proofs.Agree.{part_is_smaller, part_inside, needs_solve, below_lt}
use Rattle.memory_needs.proofs.Settled.{no_node}

-- ---- sums and greatest numbers

sum_append : (f : ℕ → ℕ) (xs ys : List ℕ) → sum_of f (xs ++ ys) ≡ sum_of f xs + sum_of f ys
unfolding sum_of
sum_append f [] ys = omega arith
sum_append f (x ∷ xs) ys = let e = sum_append f xs ys in omega (arith, e)

sum_le : (f g : ℕ → ℕ) (xs : List ℕ) → ((x : ℕ) → Contains xs x → f x ≤ g x) → sum_of f xs ≤ sum_of g xs
unfolding sum_of
sum_le f g [] h = omega arith
sum_le f g (x ∷ xs) h =
    let a = h x (Contains-head x xs) in
    let b = sum_le f g xs (λ y c. h y (Contains-tail x xs y c)) in
    omega (arith, a, b)

pub greatest_le : (t u : Table) (bodies : List Body) → ((b : Body) → Contains bodies b → t b ≤ u b) →
    greatest t bodies ≤ greatest u bodies
unfolding greatest
greatest_le t u [] h = omega arith
greatest_le t u (b ∷ bs) h =
    let a = h b (Contains-head b bs) in
    let c = greatest_le t u bs (λ x k. h x (Contains-tail b bs x k)) in
    omega (arith, a, c)

pub greatest_below : (t : Table) (n : ℕ) (bodies : List Body) → ((b : Body) → Contains bodies b → t b ≤ n) →
    greatest t bodies ≤ n
unfolding greatest
greatest_below t n [] h = omega arith
greatest_below t n (b ∷ bs) h =
    let a = h b (Contains-head b bs) in
    let c = greatest_below t n bs (λ x k. h x (Contains-tail b bs x k)) in
    omega (arith, a, c)

-- ---- one node, by its parts

-- what is known of a node that is reached: `t` is the table by which weights are told
pub record IsHarmless (code : Code) (t u : Table) (id : ℕ) (node : Node) : Type 0 where
  pub is : slice_get code.program.nodes id ≡ Some node
  -- its targets weigh no more than they need
  pub here : (b : Body) → Contains (targets_here code id node) b → t b ≤ u b
  -- what is asked to be a number is one
  pub number : (m : ℕ) → number_asked code id node ≡ Some m →
      (n : ℕ) × (read code.program.nodes number_literal m ≡ Some n) × (n < too_much)
  -- what is entered has a size, and room for what is run there
  pub fits : (n : ℕ) → size_entered code id node ≡ Some n → (b : Body) → Contains (targets_entered code id node) b →
      t b ≤ n
  -- no private memory is entered without a size
  pub sized : (position : Position) (name : List ℕ) (object : Option ℕ) (x : Target) → node ≡ Call position name object [] →
      binding code id ≡ Builtin x → (x.id == managed_memory_enter_private_memory) ≡ true → ⊥
  -- nothing is put into the area of another object
  pub none : executes_in_area (binding code id) ≡ true → (b : Body) → Contains (targets_entered code id node) b → t b ≡ 0

module _ (code : Code) (t u : Table) (id : ℕ) where
  loop_free : (n : ℕ) → n ≡ 0 → loop_weight n ≡ 0
  loop_free n e = let z : (n == 0) ≡ true = grind (arith, nat_tests) in rw z refl

  array_le : (count : ℕ) → part code length_node id ≡ Some count →
      (n : ℕ) → read code.program.nodes number_literal count ≡ Some n →
      array_weight code id ≤ array_bytes code.program.nodes count
  unfolding array_weight array_bytes
  array_le count e n q =
      let w : part code length_node id >>= part code number_literal ≡ Some n =
      ap (λ (o : Option ℕ). o >>= part code number_literal) e ∙ q in
      let a : array_weight code id ≡ size_with_slots n =
      ap (λ (o : Option ℕ). elim o [ None ↦ too_much | Some k ↦ size_with_slots k ]) w in
      let b : array_bytes code.program.nodes count ≡ size_with_slots n =
      ap (λ (o : Option ℕ). elim o [ None ↦ size_with_slots 0 | Some k ↦ size_with_slots k ]) q in
      omega (arith, a, b)

  new_le : (b : Binding) → ((x : Body) → Contains (constructor_targets code.program b) x → t x ≤ u x) →
      new_weight code t b ≤ object_bytes code.program b + greatest u (constructor_targets code.program b)
  unfolding new_weight
  new_le (ClassNamed class) h =
      let a = greatest_le t u (constructor_targets code.program (ClassNamed class)) h in omega (arith, a)
  new_le _ h = omega arith

  super_le : (b : Binding) → ((x : Body) → Contains (super_targets code.program b) x → t x ≤ u x) →
      super_weight code t b ≤ greatest u (super_targets code.program b)
  unfolding super_weight super_targets
  super_le (ClassNamed class) h = of (is_user_class class) h
    where
      of : (c : Bool) →
          ((x : Body) → Contains (if c then constructor_targets code.program (ClassNamed class) else []) x → t x ≤ u x) →
          (if c then greatest t (constructor_targets code.program (ClassNamed class)) else 0)
          ≤ greatest u (if c then constructor_targets code.program (ClassNamed class) else [])
      of true h = greatest_le t u (constructor_targets code.program (ClassNamed class)) h
      of false h = omega arith
  super_le _ h = omega arith

  unwritten_le : (body : ℕ) → ((x : Body) → Contains (unwritten_super_targets code body) x → t x ≤ u x) →
      unwritten_super_weight code t body ≤ greatest u (unwritten_super_targets code body)
  unfolding unwritten_super_weight unwritten_super_targets
  unwritten_le body h = of (class_of_body code.program body >>= class_node code.program) h
    where
      of : (o : Option ℕ) →
          ((x : Body) → Contains (elim o [ None ↦ [] | Some node ↦ super_targets code.program (binding code node) ]) x →
          t x ≤ u x) →
          (elim o [ None ↦ 0 | Some node ↦ super_weight code t (binding code node) ])
          ≤ greatest u (elim o [ None ↦ [] | Some node ↦ super_targets code.program (binding code node) ])
      of None h = omega arith
      of (Some node) h = super_le (binding code node) h

  -- a memory that is entered, with the number that is written
  entered_free : (size n : ℕ) → part code size_node id ≡ Some size →
      read code.program.nodes number_literal size ≡ Some n → n < too_much →
      greatest t (entered_targets code.program (binding code id)) ≤ n → entered_weight code t id ≡ 0
  unfolding entered_weight
  entered_free size n e q small fits =
      let a : nat_lt n too_much ≡ true = grind (arith, nat_tests) in
      let b : nat_lt n (greatest t (entered_targets code.program (binding code id))) ≡ false = grind (arith, nat_tests) in
      let most : ℕ = greatest t (entered_targets code.program (binding code id)) in
      let w : part code size_node id >>= part code number_literal ≡ Some n =
      ap (λ (o : Option ℕ). o >>= part code number_literal) e ∙ q in
      let test : (nat_lt n too_much && not (nat_lt n most)) ≡ true = rw (a, b) refl in
      ap (λ (o : Option ℕ). elim o [
        | None ↦ too_much
        | Some k ↦ only_if (nat_lt k too_much && not (nat_lt k most)) 0
      ]) w ∙ ap (λ c. only_if c 0) test

  executed_free : greatest t (entered_targets code.program (binding code id)) ≡ 0 → executed_weight code t id ≡ 0
  unfolding executed_weight
  executed_free e = loop_free (greatest t (entered_targets code.program (binding code id))) e

-- ---- a call, by what it is bound to

record HasSize (position : Position) (name : List ℕ) (object : Option ℕ) (arguments : List ℕ) (x : Target) : Type 0 where
  size : ℕ
  is : size_node (Call position name object arguments) ≡ Some size
  asked : entered_with (Builtin x) (Call position name object arguments) ≡ Some size

has_size : (position : Position) (name : List ℕ) (object : Option ℕ) (arguments : List ℕ) (x : Target) →
    (x.id == managed_memory_enter_private_memory) ≡ true → (arguments ≡ [] → ⊥) →
    HasSize position name object arguments x
unfolding size_node entered_with
has_size position name object [] x p some = absurd (some refl)
has_size position name object (a ∷ more) x p some = record { size = a; is = refl; asked = rw p refl }

memory_is : (p : Declarations) (b : Binding) (x : Target) → b ≡ Builtin x → enters_memory x.id ≡ true →
    memory_targets p b ≡ entered_targets p b
unfolding memory_targets
memory_is p b x e q = rw (e, q) refl

module _ (code : Code) (t u : Table) (id : ℕ) (position : Position) (name : List ℕ) (object : Option ℕ) (arguments : List ℕ)
    (k : IsHarmless code t u id (Call position name object arguments)) where
  abbrev call : Node
  call = Call position name object arguments

  entered_le : (x : Target) → binding code id ≡ Builtin x → (x.id == managed_memory_enter_private_memory) ≡ true →
      entered_weight code t id ≡ 0
  unfolding number_asked targets_entered
  entered_le x e p =
      let m =
      has_size position name object arguments x p
      (λ none. k.sized position name object x (ap (λ xs. Call position name object xs) none) e p) in
      let there : part code size_node id ≡ Some m.size =
      ap (λ (o : Option Node). elim o [ None ↦ None | Some y ↦ size_node y ]) k.is ∙ m.is in
      let w : entered_with (binding code id) call ≡ Some m.size =
      ap (λ (z : Binding). entered_with z call) e ∙ m.asked in
      let n = k.number m.size w in
      let enters : enters_memory x.id ≡ true = rw p refl in
      let same : memory_targets code.program (binding code id) ≡ entered_targets code.program (binding code id) =
      memory_is code.program (binding code id) x e enters in
      let written : entered_with (binding code id) call >>= read code.program.nodes number_literal ≡ Some n.0 =
      ap (λ (o : Option ℕ). o >>= read code.program.nodes number_literal) w ∙ n.1 in
      let fit : greatest t (entered_targets code.program (binding code id)) ≤ n.0 =
      greatest_below t n.0 (entered_targets code.program (binding code id)) (λ b c.
      k.fits n.0 written b (subst (λ (bs : List Body). Contains bs b) (sym same) c)) in
      entered_free code t u id m.size n.0 there n.1 n.2 fit

  executed_le : (x : Target) → binding code id ≡ Builtin x → (x.id == managed_memory_enter_private_memory) ≡ false →
      (x.id == managed_memory_execute_in_area_of) ≡ true → executed_weight code t id ≡ 0
  unfolding targets_entered executes_in_area
  executed_le x e p q =
      let enters : enters_memory x.id ≡ true = rw (p, q) refl in
      let same : memory_targets code.program (binding code id) ≡ entered_targets code.program (binding code id) =
      memory_is code.program (binding code id) x e enters in
      let executes : executes_in_area (binding code id) ≡ true = ap executes_in_area e ∙ q in
      let none : greatest t (entered_targets code.program (binding code id)) ≤ 0 =
      greatest_below t 0 (entered_targets code.program (binding code id)) (λ b c.
      (let z = k.none executes b (subst (λ (bs : List Body). Contains bs b) (sym same) c) in omega (arith, z))) in
      executed_free code t u id (omega (arith, none))

  called : (b : Binding) → binding code id ≡ b →
      call_weight code t id b ≤ greatest u (call_targets code.program b)
  unfolding call_weight targets_here
  called (Method x) e =
      subst (λ (z : Binding). greatest t (call_targets code.program z) ≤ greatest u (call_targets code.program z)) e
      (greatest_le t u (call_targets code.program (binding code id)) k.here)
  called (StaticMethod x) e =
      subst (λ (z : Binding). greatest t (call_targets code.program z) ≤ greatest u (call_targets code.program z)) e
      (greatest_le t u (call_targets code.program (binding code id)) k.here)
  called (Builtin x) e =
      of (x.id == managed_memory_enter_private_memory) (x.id == managed_memory_execute_in_area_of) refl refl
    where
      of : (a c : Bool) → (x.id == managed_memory_enter_private_memory) ≡ a →
          (x.id == managed_memory_execute_in_area_of) ≡ c →
          (if a then entered_weight code t id else (if c then executed_weight code t id else 0))
          ≤ greatest u (call_targets code.program (Builtin x))
      of true c p q = let z = entered_le x e p in omega (arith, z)
      of false true p q = let z = executed_le x e p q in omega (arith, z)
      of false false p q = omega arith
  called _ e = omega arith

-- ---- all kinds of node

last_of : (g : ℕ → ℕ) (xs ys : List ℕ) → sum_of g ys ≤ sum_of g (xs ++ ys)
last_of g xs ys = let e = sum_append g xs ys in omega (arith, e)

module _ (code : Code) (t u : Table) (f g : ℕ → ℕ) (id : ℕ) where
  node_le : (node : Node) → IsHarmless code t u id node → ((x : ℕ) → Contains (run_parts node) x → f x ≤ g x) →
      (is_loop node ≡ true → node_need code u g id node ≡ 0) →
      node_weight code t f id node ≤ node_need code u g id node
  unfolding node_weight node_need run_parts children own_bytes targets_here number_asked is_loop sum_of greatest length_node
  node_le (If position condition then_part else_part) k h still =
      let a = h condition (0, omega arith, refl) in
      let b = h then_part (1, omega arith, refl) in
      let c = sum_le f g (optional else_part) (λ x m.
      h x (Contains-tail condition (then_part ∷ optional else_part) x (Contains-tail then_part (optional else_part) x m))) in
      omega (arith, a, b, c)
  node_le (While position condition body) k h still =
      let a = h condition (0, omega arith, refl) in
      let b = h body (1, omega arith, refl) in
      let s : (g condition + (g body + 0)) + (0 + 0) ≡ 0 = still refl in
      let z = loop_free code t u id (f condition + f body) (omega (arith, a, b, s)) in
      omega (arith, a, z)
  node_le (For position begins condition step body) k h still =
      let y = h begins (0, omega arith, refl) in
      let a = h condition (1, omega arith, refl) in
      let d = h step (2, omega arith, refl) in
      let b = h body (3, omega arith, refl) in
      let s : (g begins + (g condition + (g step + (g body + 0)))) + (0 + 0) ≡ 0 = still refl in
      let z = loop_free code t u id (f condition + (f step + f body)) (omega (arith, a, b, d, s)) in
      omega (arith, y, a, z)
  node_le (New position name_position name xs) k h still =
      let a = sum_le f g xs h in
      let b = new_le code t u id (binding code id) k.here in
      omega (arith, a, b)
  node_le (NewArray position element count) k h still =
      let a = h count (1, omega arith, refl) in
      let n = k.number count refl in
      let e : part code length_node id ≡ Some count =
      ap (λ (o : Option Node). elim o [ None ↦ None | Some y ↦ length_node y ]) k.is in
      let b = array_le code t u id count e n.0 n.1 in
      omega (arith, a, b)
  node_le (Call position name object xs) k h still =
      let a = sum_le f g (optional object ++ xs) h in
      let b = called code t u id position name object xs k (binding code id) refl in
      let c = sum_append f (optional object) xs in
      omega (arith, a, b, c)
  node_le (SuperCall position xs) k h still =
      let a = sum_le f g xs h in
      let b = super_le code t u id (binding code id) k.here in
      omega (arith, a, b)
  node_le (MethodNode position name flags result_type parameters body) k h still =
      let inner : List ℕ = optional parameters ++ optional body in
      let a = sum_le f g (optional body) (λ x m.
      h x (Contains-append_right (optional flags) (result_type ∷ inner) x
      (Contains-tail result_type inner x (Contains-append_right (optional parameters) (optional body) x m)))) in
      let b = last_of g (optional flags) (result_type ∷ inner) in
      let c = last_of g (optional parameters) (optional body) in
      omega (arith, a, b, c)
  node_le (Constructor position name flags parameters None body) k h still =
      let a = h body (Contains-append_right (optional flags) (optional parameters ++ (body ∷ [])) body
      (Contains-append_right (optional parameters) (body ∷ []) body (0, omega arith, refl))) in
      let b = last_of g (optional flags) (optional parameters ++ (body ∷ [])) in
      let c = last_of g (optional parameters) (body ∷ []) in
      let d = unwritten_le code t u id id k.here in
      omega (arith, a, b, c, d)
  node_le (Constructor position name flags parameters (Some call) body) k h still =
      let inner : List ℕ = optional parameters ++ (call ∷ body ∷ []) in
      let a = h body (Contains-append_right (optional flags) inner body
      (Contains-append_right (optional parameters) (call ∷ body ∷ []) body (1, omega arith, refl))) in
      let e = h call (Contains-append_right (optional flags) inner call
      (Contains-append_right (optional parameters) (call ∷ body ∷ []) call (0, omega arith, refl))) in
      let b = last_of g (optional flags) inner in
      let c = last_of g (optional parameters) (call ∷ body ∷ []) in
      omega (arith, a, e, b, c)
  node_le (Class position name flags header members) k h still =
      let d = unwritten_le code t u id id k.here in omega (arith, d)
  node_le (LocalNode position name flags declared_type) k h still = omega arith
  node_le (LocalWithValue position name_position name flags declared_type value) k h still =
      let a = h value (Contains-append_right (optional flags) (declared_type ∷ value ∷ []) value (1, omega arith, refl)) in
      let b = last_of g (optional flags) (declared_type ∷ value ∷ []) in
      omega (arith, a, b)
  node_le n k h still = let a = sum_le f g (children n) h in omega (arith, a)

-- ---- all nodes of the bodies that are reached

-- what a program has that breaks no rule
pub record IsPlain (code : Code) : Type 0 where
  pub first : ChildrenFirst 0 code.program.nodes
  -- a number is smaller than what no memory has
  pub small : (id n : ℕ) → read code.program.nodes number_literal id ≡ Some n → n < too_much
  -- no private memory is entered without a size
  pub sized : (id : ℕ) (position : Position) (name : List ℕ) (object : Option ℕ) (x : Target) →
      slice_get code.program.nodes id ≡ Some (Call position name object []) → binding code id ≡ Builtin x →
      (x.id == managed_memory_enter_private_memory) ≡ true → ⊥

-- a set with what the class reaches, and of the nodes of the program with nothing else
pub record IsReach (code : Code) (class : ℕ) (reached : Body → Bool) : Type 0 where
  pub begins : (body : Body) → handler_body code class ≡ Some body → reached body ≡ true
  pub closed : (body target : Body) → reached body ≡ true → MayRun code body target → reached target ≡ true
  pub only : (node : ℕ) → node < length code.program.nodes → reached (Written node) ≡ true →
      Reaches code class (Written node)

module _ (code : Code) (plain : IsPlain code) (class : ℕ) (table : Table) (reached : Body → Bool)
    (reach : IsReach code class reached) (are : AreNeeds code class table)
    (none : (cause : NoBound) → IsNowhere (Shows code class table cause)) where
  -- the Need of a body that is reached, and too much for any other
  unfoldable pub reported : Table
  reported body = if reached body then table body else too_much

  reported_is : (body : Body) → reached body ≡ true → reported body ≡ table body
  unfolding reported
  reported_is body e = rw e refl

  module _ (body : Body) (r : reached body ≡ true) (comes : Reaches code class body) where
    reaches : (id : ℕ) (node : Node) → IsInBody code id body → slice_get code.program.nodes id ≡ Some node →
        ReachesNode code class id node
    reaches id node inside is = record { body = body; reached = comes; is_in = inside; is = is }

    runs : (id : ℕ) (node : Node) → IsInBody code id body → slice_get code.program.nodes id ≡ Some node →
        (b : Body) → Contains (targets_here code id node ++ targets_entered code id node) b → reported b ≡ table b
    unfolding targets
    runs id node inside is b c =
        let same : targets code id ≡ targets_here code id node ++ targets_entered code id node =
        ap (λ (o : Option Node). elim o [ None ↦ [] | Some n ↦ targets_here code id n ++ targets_entered code id n ]) is in
        reported_is b (reach.closed body b r
        (record { id = id; is_in = inside; is_target = subst (λ (bs : List Body). Contains bs b) (sym same) c }))

    harmless : (id : ℕ) (node : Node) → IsInBody code id body → slice_get code.program.nodes id ≡ Some node →
        IsHarmless code reported table id node
    unfolding Shows
    harmless id node inside is = record {
      is = is;
      here = λ b c. (let e = runs id node inside is b
          (Contains-append_left (targets_here code id node) (targets_entered code id node) b c) in omega (arith, e));
      number = λ m asked. numbers m asked (read code.program.nodes number_literal m) refl;
      fits = λ n written b c. fit n written b c (nat_lt n (table b)) refl;
      none = λ executes b c. empty executes b c (nat_lt 0 (table b)) refl;
      sized = λ position name object x same e p.
          plain.sized id position name object x (is ∙ ap (λ (n : Node). Some n) same) e p;
    }
      where
        rn : ReachesNode code class id node
        rn = reaches id node inside is

        is_reported : (b : Body) → Contains (targets_entered code id node) b → reported b ≡ table b
        is_reported b c = runs id node inside is b
            (Contains-append_right (targets_here code id node) (targets_entered code id node) b c)

        numbers : (m : ℕ) → number_asked code id node ≡ Some m → (o : Option ℕ) →
            read code.program.nodes number_literal m ≡ o →
            (n : ℕ) × (read code.program.nodes number_literal m ≡ Some n) × (n < too_much)
        numbers m asked None e =
            absurd (none NotLiteral (position_of_node code m)
            (record { number = m; is_asked = of_node id node rn asked; is_none = e; is_position = refl }))
        numbers m asked (Some n) e = (n, e, plain.small m n e)

        fit : (n : ℕ) → size_entered code id node ≡ Some n → (b : Body) → Contains (targets_entered code id node) b →
            (lt : Bool) → nat_lt n (table b) ≡ lt → reported b ≤ n
        fit n written b c true e =
            let l : n < table b = grind (arith, nat_tests) in
            absurd (none TooSmall (position_of_node code id) (entered id node n b rn written c l refl))
        fit n written b c false e =
            let l : table b ≤ n = grind (arith, nat_tests) in let s = is_reported b c in omega (arith, l, s)

        empty : executes_in_area (binding code id) ≡ true → (b : Body) → Contains (targets_entered code id node) b →
            (lt : Bool) → nat_lt 0 (table b) ≡ lt → reported b ≡ 0
        empty executes b c true e =
            let l : 0 < table b = grind (arith, nat_tests) in
            absurd (none OuterArea (position_of_node code id) (record {
              id = id;
              node = node;
              reached = rn;
              executes = executes;
              target = b;
              is_target = c;
              needs = l;
              is_position = refl;
            }))
        empty executes b c false e =
            let l : table b ≤ 0 = grind (arith, nat_tests) in let s = is_reported b c in omega (arith, l, s)

    still : (id : ℕ) (node : Node) → IsInBody code id body → slice_get code.program.nodes id ≡ Some node →
        is_loop node ≡ true → need code table id ≡ 0
    unfolding Shows
    still id node inside is loops = of (nat_lt 0 (need code table id)) refl
      where
        of : (lt : Bool) → nat_lt 0 (need code table id) ≡ lt → need code table id ≡ 0
        of true e =
            let l : 0 < need code table id = grind (arith, nat_tests) in
            absurd (none NewInLoop (position_of_node code id) (record {
              id = id;
              node = node;
              reached = reaches id node inside is;
              loops = loops;
              needs = l;
              is_position = refl;
            }))
        of false e = let l : need code table id ≤ 0 = grind (arith, nat_tests) in omega (arith, l)

    weight_step : (id : ℕ) → IsInBody code id body →
        ((x : ℕ) → x < id → IsInBody code x body → weight code reported x ≤ need code table x) →
        weight code reported id ≤ need code table id
    unfolding weight next_weight need next_need
    weight_step id inside before =
        let a = by_smaller-is 0 (next_weight code reported) id in
        let b = by_smaller-is 0 (next_need code table) id in
        let c = of (slice_get code.program.nodes id) refl in
        omega (arith, a, b, c)
      where
        of : (o : Option Node) → slice_get code.program.nodes id ≡ o →
            (elim o [ None ↦ 0 | Some node ↦ node_weight code reported (below 0 id (weight code reported)) id node ])
            ≤ (elim o [ None ↦ 0 | Some node ↦ node_need code table (below 0 id (need code table)) id node ])
        of None e = omega arith
        of (Some node) e =
            node_le code reported table (below 0 id (weight code reported)) (below 0 id (need code table)) id node (harmless id node inside e)
            (λ x c.
            (let l : x < id = part_is_smaller code.program.nodes plain.first id x node e c in
            let d = before x l (part_inside code body id x node inside e c) in
            let p = below_lt 0 id (weight code reported) x l in
            let q = below_lt 0 id (need code table) x l in
            omega (arith, d, p, q)))
            (λ loops.
            (let z = still id node inside e loops in
            let y : need code table id ≡ node_need code table (below 0 id (need code table)) id node =
            by_smaller-is 0 (next_need code table) id
            ∙ ap (λ (o : Option Node). elim o [ None ↦ 0 | Some n ↦ node_need code table (below 0 id (need code table)) id n ]) e in
            sym y ∙ z))

    weight_up_to : (bound id : ℕ) → id < bound → IsInBody code id body → weight code reported id ≤ need code table id
    weight_up_to zero id l inside = absurd (omega (arith, l))
    weight_up_to (suc bound) id l inside =
        weight_step id inside (λ x m. weight_up_to bound x (omega (arith, l, m)))

    pub weight_le : (id : ℕ) → IsInBody code id body → weight code reported id ≤ need code table id
    weight_le id inside = weight_up_to (suc id) id (omega arith) inside

  -- a number of no node weighs nothing
  no_weight : (node : ℕ) → length code.program.nodes ≤ node → weight code reported node ≡ 0
  unfolding weight next_weight
  no_weight node l =
      by_smaller-is 0 (next_weight code reported) node
      ∙ ap (λ (o : Option Node). elim o [
        | None ↦ 0
        | Some n ↦ node_weight code reported (below 0 node (weight code reported)) node n
      ]) (no_node code.program.nodes node l)

  -- ---- so the class's storage suffices

  pub is_bound : IsBound code reported
  unfolding reported body_ops ops_weight op_weight body_need IsInBody
  is_bound = record { bodies = λ body. of body (reached body) refl }
    where
      -- by whether the program has the node
      written : (node : ℕ) → reached (Written node) ≡ true → (there : Bool) →
          nat_lt node (length code.program.nodes) ≡ there → weight code reported node ≤ table (Written node)
      written node e true t =
          let l : node < length code.program.nodes = grind (arith, nat_tests) in
          let comes = reach.only node l e in
          let c = weight_le (Written node) e comes node itself in
          let d : table (Written node) ≡ need code table node =
          needs_solve code plain.first class table are (Written node) comes in
          omega (arith, c, d)
      written node e false t =
          let l : length code.program.nodes ≤ node = grind (arith, nat_tests) in
          let c = no_weight node l in
          omega (arith, c)

      of : (body : Body) (b : Bool) → reached body ≡ b →
          min too_much (ops_weight code reported (body_ops code body)) ≤ (if b then table body else too_much)
      of (Written node) true e =
          let a = ops_covered code reported plain.first node in
          let c = written node e (nat_lt node (length code.program.nodes)) refl in
          omega (arith, a, c)
      of Empty true e = omega arith
      of (Written node) false e = omega arith
      of Empty false e = omega arith

  pub is_yes : (bytes : ℕ) → Suffices code class table bytes →
      (form : (m : ℕ) × (storage_node code.program class ≡ Some m)) → IsYes code (storage code.program) reported class
  unfolding storage Shows handler_body
  is_yes bytes fits form = of (read code.program.nodes number_literal form.0) refl
    where
      of : (o : Option ℕ) → read code.program.nodes number_literal form.0 ≡ o → IsYes code (storage code.program) reported class
      of None e =
          absurd (none NotLiteral (position_of_node code form.0)
          (record { number = form.0; is_asked = of_form form.1; is_none = e; is_position = refl }))
      of (Some n) e = test (nat_lt n (table fits.body)) refl
        where
          is_storage : storage code.program class ≡ Some n
          is_storage = ap (λ (o : Option ℕ). o >>= read code.program.nodes number_literal) form.1 ∙ e

          test : (lt : Bool) → nat_lt n (table fits.body) ≡ lt → IsYes code (storage code.program) reported class
          test true q =
              let l : n < table fits.body = grind (arith, nat_tests) in
              absurd (none TooSmall (class_position code.program class) (stored n fits.body is_storage fits.is_body l refl))
          test false q =
              let l : table fits.body ≤ n = grind (arith, nat_tests) in
              let s = reported_is fits.body (reach.begins fits.body fits.is_body) in
              record {
                bound = is_bound;
                body = fits.body;
                is_body = fits.is_body;
                bytes = n;
                is_storage = is_storage;
                fits = omega (arith, s, l);
                small = plain.small form.0 n e;
              }

-- Need and Room of a body are the same by all tables that agree on what it runs: so a body has one Need and one Room.
use Rattle.std.specs.Prelude.{nat_lt, Option, Some, None, slice_get, max, Contains, slice_index_or}
use Rattle.std.proofs.Common.{true, ◌≡◌, ℕ, zero, suc, ◌+◌, ◌<◌, List, [], ◌∷◌, ◌++◌, length, refl, sym, ◌∙◌, ap, subst, arith, zero-add}
use Rattle.std.proofs.lemmas.List.Elements.{Contains-append_left}
use Rattle.std.proofs.lemmas.Bool.Decides.{nat_tests}
use Rattle.scj_tree.specs.declared.nodes.Node.{Node}
use Rattle.scj_tree.specs.declared.nodes.Node.TheVariants.{Class, If}
use Rattle.scj_tree.specs.Forest.{AllBelow, ChildrenFirst}
use Rattle.scj_tree.specs.Heights.{highest}
use Rattle.scj_tree.specs.Recursion.{below}
use Rattle.scj_tree.specs.Shape.{children, optional}
use Rattle.scj_tree.proofs.RecursionLemmas.{by_smaller-is}
use Rattle.scj_rules.proofs.ParentLemmas.{children_below}
use Rattle.scj_rules.proofs.ReportLemmas.{Contains-head, Contains-tail, none_contained}
use Rattle.scj_rules.specs.declared.views.Body.{Body}
use Rattle.scj_rules.specs.declared.views.Body.TheVariants.{Written, Empty}
use Rattle.scj_model.specs.Code.{Code}
use Rattle.memory_needs.specs.Targets.{targets_here, targets_entered, targets}
use Rattle.memory_needs.specs.Reach.{run_parts, itself, in_part, IsInBody, MayRun, Reaches, goes_on}
use Rattle.memory_needs.specs.Need.{Table, greatest, sum_of, node_need, next_need, need, body_need, RunsHere, HasNeed, by_targets, AreNeeds}
use Rattle.memory_needs.specs.Room.{own_room, target_room, next_room, room, body_room, HasRoom, by_rooms}

-- ---- lists

pub below_lt : {A : Type 0} (d : A) (n : ℕ) (f : ℕ → A) (x : ℕ) → x < n → below d n f x ≡ f x
below_lt d n f x l = let t : nat_lt x n ≡ true = grind (arith, nat_tests) in rw t refl

pub sum_same : (f g : ℕ → ℕ) (xs : List ℕ) → ((x : ℕ) → Contains xs x → f x ≡ g x) → sum_of f xs ≡ sum_of g xs
unfolding sum_of
sum_same f g [] h = refl
sum_same f g (x ∷ xs) h =
    let a = h x (Contains-head x xs) in
    let b = sum_same f g xs (λ y c. h y (Contains-tail x xs y c)) in
    omega (arith, a, b)

pub greatest_same : (t u : Table) (bodies : List Body) → ((b : Body) → Contains bodies b → t b ≡ u b) →
    greatest t bodies ≡ greatest u bodies
unfolding greatest
greatest_same t u [] h = refl
greatest_same t u (b ∷ bs) h =
    let a = h b (Contains-head b bs) in
    let c = greatest_same t u bs (λ x k. h x (Contains-tail b bs x k)) in
    omega (arith, a, c)

pub highest_same : (f g : ℕ → ℕ) (xs : List ℕ) → ((x : ℕ) → Contains xs x → f x ≡ g x) →
    highest f xs ≡ highest g xs
unfolding highest
highest_same f g [] h = refl
highest_same f g (x ∷ xs) h =
    let a = h x (Contains-head x xs) in
    let b = highest_same f g xs (λ y c. h y (Contains-tail x xs y c)) in
    omega (arith, a, b)

-- ---- the parts of a node

all_below_at : (n x : ℕ) (xs : List ℕ) → AllBelow n xs → (k : ℕ) → k < length xs → slice_index_or xs k x ≡ x → x < n
unfolding AllBelow
all_below_at n x [] h k l e = absurd (omega (arith, l))
all_below_at n x (y ∷ xs) h zero l e = subst (λ (z : ℕ). z < n) e h.0
all_below_at n x (y ∷ xs) h (suc k) l e = all_below_at n x xs h.1 k (omega (arith, l)) e

parts_in : (node : Node) (x : ℕ) → Contains (run_parts node) x → Contains (children node) x
unfolding run_parts
parts_in (Class position name flags header members) x c = absurd (none_contained x c)
parts_in node x c = c

pub part_is_smaller : (nodes : List Node) → ChildrenFirst 0 nodes → (id x : ℕ) (node : Node) →
    slice_get nodes id ≡ Some node → Contains (run_parts node) x → x < id
part_is_smaller nodes first id x node is c =
    let among = parts_in node x c in
    all_below_at id x (children node)
    (subst (λ m. AllBelow m (children node)) (zero-add id) (children_below nodes 0 id node first is))
    among.0 among.1 among.2

pub part_inside : (code : Code) (body : Body) (id x : ℕ) (node : Node) → IsInBody code id body →
    slice_get code.program.nodes id ≡ Some node → Contains (run_parts node) x → IsInBody code x body
unfolding IsInBody
part_inside code (Written whole) id x node inside is c = in_part id x node inside is c
part_inside code Empty id x node inside is c = absurd inside

-- ---- Need

pub node_agrees : (code : Code) (t u : Table) (f g : ℕ → ℕ) (id : ℕ) (node : Node) →
    ((x : ℕ) → Contains (run_parts node) x → f x ≡ g x) →
    ((b : Body) → Contains (targets_here code id node) b → t b ≡ u b) →
    node_need code t f id node ≡ node_need code u g id node
unfolding node_need run_parts children
node_agrees code t u f g id (If position condition then_part else_part) h k =
    let a = h condition (Contains-head condition (then_part ∷ optional else_part)) in
    let b = h then_part (Contains-tail condition (then_part ∷ optional else_part) then_part
    (Contains-head then_part (optional else_part))) in
    let c = sum_same f g (optional else_part) (λ x m.
    h x (Contains-tail condition (then_part ∷ optional else_part) x (Contains-tail then_part (optional else_part) x m))) in
    omega (arith, a, b, c)
node_agrees code t u f g id node h k =
    let a = sum_same f g (run_parts node) h in
    let b = greatest_same t u (targets_here code id node) k in
    omega (arith, a, b)

module _ (code : Code) (first : ChildrenFirst 0 code.program.nodes) (t u : Table) (body : Body)
    (same : (target : Body) → RunsHere code body target → t target ≡ u target) where
  need_step : (id : ℕ) → IsInBody code id body →
      ((x : ℕ) → x < id → IsInBody code x body → need code t x ≡ need code u x) → need code t id ≡ need code u id
  unfolding need next_need
  need_step id inside before =
      by_smaller-is 0 (next_need code t) id
      ∙ (of (slice_get code.program.nodes id) refl ∙ sym (by_smaller-is 0 (next_need code u) id))
    where
      of : (o : Option Node) → slice_get code.program.nodes id ≡ o →
          (elim o as (λ z. ℕ) [ None ↦ 0 | Some node ↦ node_need code t (below 0 id (need code t)) id node ])
          ≡ (elim o as (λ z. ℕ) [ None ↦ 0 | Some node ↦ node_need code u (below 0 id (need code u)) id node ])
      of None e = refl
      of (Some node) e =
          node_agrees code t u (below 0 id (need code t)) (below 0 id (need code u)) id node
          (λ x c.
          (let l : x < id = part_is_smaller code.program.nodes first id x node e c in
          below_lt 0 id (need code t) x l
          ∙ (before x l (part_inside code body id x node inside e c) ∙ sym (below_lt 0 id (need code u) x l))))
          (λ b c. same b (record { id = id; node = node; is_in = inside; is = e; is_target = c }))

  need_up_to : (bound id : ℕ) → id < bound → IsInBody code id body → need code t id ≡ need code u id
  need_up_to zero id l inside = absurd (omega (arith, l))
  need_up_to (suc bound) id l inside = need_step id inside (λ x m. need_up_to bound x (omega (arith, l, m)))

  pub need_agrees : (id : ℕ) → IsInBody code id body → need code t id ≡ need code u id
  need_agrees id inside = need_up_to (suc id) id (omega arith) inside

body_agrees : (code : Code) → ChildrenFirst 0 code.program.nodes → (t u : Table) (body : Body) →
    ((target : Body) → RunsHere code body target → t target ≡ u target) → body_need code t body ≡ body_need code u body
unfolding body_need IsInBody
body_agrees code first t u (Written node) same =
    need_agrees code first t u (Written node) same node itself
body_agrees code first t u Empty same = refl

pub need_is_one : (code : Code) → ChildrenFirst 0 code.program.nodes → (body : Body) (m n : ℕ) → HasNeed code body m →
    HasNeed code body n → m ≡ n
need_is_one code first body m n (by_targets t e h) (by_targets u k i) =
    sym e
    ∙ (body_agrees code first t u body
    (λ target r. need_is_one code first target (t target) (u target) (h target r) (i target r)) ∙ k)

-- what a body runs in its own area it may run
pub runs_here : (code : Code) (body target : Body) → RunsHere code body target → MayRun code body target
unfolding targets
runs_here code body target r =
    let same : targets code r.id ≡ targets_here code r.id r.node ++ targets_entered code r.id r.node =
    ap (λ (o : Option Node). elim o [ None ↦ [] | Some n ↦ targets_here code r.id n ++ targets_entered code r.id n ]) r.is in
    record {
      id = r.id;
      is_in = r.is_in;
      is_target = subst (λ (bs : List Body). Contains bs target) (sym same)
          (Contains-append_left (targets_here code r.id r.node) (targets_entered code r.id r.node) target r.is_target);
    }

-- so a table of Needs tells of each body what its node needs by it
pub needs_solve : (code : Code) → ChildrenFirst 0 code.program.nodes → (class : ℕ) (table : Table) →
    AreNeeds code class table → (body : Body) → Reaches code class body → table body ≡ body_need code table body
needs_solve code first class table are body r = of (table body) (are.each body r)
  where
    of : (n : ℕ) → HasNeed code body n → n ≡ body_need code table body
    of n (by_targets t e h) =
        sym e
        ∙ body_agrees code first t table body (λ target here.
        need_is_one code first target (t target) (table target) (h target here)
        (are.each target (goes_on body target r (runs_here code body target here))))

-- ---- Room

target_room_same : (code : Code) (t u : Table) (id : ℕ) (node : Node) →
    ((b : Body) → Contains (targets code id) b → t b ≡ u b) → target_room code t id node ≡ target_room code u id node
target_room_same code t u id node h =
    greatest_same (λ b. t b + own_room code id node) (λ b. u b + own_room code id node) (targets code id)
    (λ b c. ap (λ n. n + own_room code id node) (h b c))

module _ (code : Code) (first : ChildrenFirst 0 code.program.nodes) (t u : Table) (body : Body)
    (same : (target : Body) → MayRun code body target → t target ≡ u target) where
  room_step : (id : ℕ) → IsInBody code id body →
      ((x : ℕ) → x < id → IsInBody code x body → room code t x ≡ room code u x) → room code t id ≡ room code u id
  unfolding room next_room
  room_step id inside before =
      by_smaller-is 0 (next_room code t) id
      ∙ (of (slice_get code.program.nodes id) refl ∙ sym (by_smaller-is 0 (next_room code u) id))
    where
      of : (o : Option Node) → slice_get code.program.nodes id ≡ o →
          (elim o as (λ z. ℕ) [
            | None ↦ 0
            | Some node ↦ max (target_room code t id node) (highest (below 0 id (room code t)) (run_parts node))
          ])
          ≡ (elim o as (λ z. ℕ) [
            | None ↦ 0
            | Some node ↦ max (target_room code u id node) (highest (below 0 id (room code u)) (run_parts node))
          ])
      of None e = refl
      of (Some node) e =
          let a = target_room_same code t u id node
          (λ b c. same b (record { id = id; is_in = inside; is_target = c })) in
          let b = highest_same (below 0 id (room code t)) (below 0 id (room code u)) (run_parts node) (λ x c.
          (let l : x < id = part_is_smaller code.program.nodes first id x node e c in
          below_lt 0 id (room code t) x l
          ∙ (before x l (part_inside code body id x node inside e c) ∙ sym (below_lt 0 id (room code u) x l)))) in
          ap (λ n. max n (highest (below 0 id (room code t)) (run_parts node))) a
          ∙ ap (max (target_room code u id node)) b

  room_up_to : (bound id : ℕ) → id < bound → IsInBody code id body → room code t id ≡ room code u id
  room_up_to zero id l inside = absurd (omega (arith, l))
  room_up_to (suc bound) id l inside = room_step id inside (λ x m. room_up_to bound x (omega (arith, l, m)))

pub body_room_agrees : (code : Code) → ChildrenFirst 0 code.program.nodes → (t u : Table) (body : Body) →
    ((target : Body) → MayRun code body target → t target ≡ u target) → body_room code t body ≡ body_room code u body
unfolding body_room IsInBody
body_room_agrees code first t u (Written node) same =
    room_up_to code first t u (Written node) same (suc node) node (omega arith) itself
body_room_agrees code first t u Empty same = refl

pub room_is_one : (code : Code) → ChildrenFirst 0 code.program.nodes → (body : Body) (m n : ℕ) → HasRoom code body m →
    HasRoom code body n → m ≡ n
room_is_one code first body m n (by_rooms t e h) (by_rooms u k i) =
    sym e
    ∙ (body_room_agrees code first t u body
    (λ target r. room_is_one code first target (t target) (u target) (h target r) (i target r)) ∙ k)

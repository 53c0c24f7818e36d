-- The variables that are linked from context to context are those that are in scope.
use Rattle.std.proofs.Common.{◌≡◌, ℕ, ◌+◌, ◌<◌, ◌≤◌, zero, suc, List, [], ◌∷◌, ◌++◌, length, reverse, filter, refl, sym, ap, ◌∙◌, subst, arith, append_assoc, Option, Some, None, Bool, true, false, true≢false, not, cond, if◌then◌else◌, ◌==◌, eqb, slice_get, is_some, option_and_then, ⊎_elim}
use Rattle.std.proofs.lemmas.Bool.{cases_Bool, lt-ltb}
use Rattle.std.proofs.lemmas.Grind.{reverse_onto}
use Rattle.std.proofs.lemmas.Option.{slice_get_within}
use Rattle.std.proofs.lemmas.Map.Steps.{length-le_from_distinct_below}
use Rattle.std.specs.List.{IsDistinct, prefix_len}
use Rattle.scj_tree.specs.declared.nodes.Node.{Node}
use Rattle.scj_tree.specs.declared.nodes.Node.TheVariants.{Method, Constructor, Parameters, Block, For}
use Rattle.scj_tree.specs.Counts.{times}
use Rattle.scj_tree.specs.Forest.{Forest, IsForest, AllBelow}
use Rattle.scj_tree.specs.Shape.{children, optional}
use Rattle.scj_tree.specs.Recursion.{lookup, above, top_down}
use Rattle.scj_tree.proofs.RecursionLemmas.{by_larger-is}
use Rattle.scj_rules.specs.Definitions.{read}
use Rattle.scj_rules.specs.Words.{is_among, chain}
use Rattle.scj_rules.specs.Views.{variable_at, variable_of}
use Rattle.scj_rules.specs.Contexts.{declarations_of, outermost, contexts_in, child_context, last_variable, declared_before, those_before, parameters_before, parameter_nodes, parent_in, variables_among, variables_from_parent, variables_in_scope, known_variables}
use Rattle.scj_rules.specs.declared.contexts.Context.{Context}
use Rattle.scj_rules.proofs.ChainLemmas.{none_same, or_cases, or_left, or_right, same_number, is_same_number, among-behind, among-front}
use Rattle.scj_rules.proofs.ParentLemmas.{among-below, times-among, children_apart, child-less, parent-is, no-parent, child-is}

-- ---- a list that follows links to their end

data Path (next : ℕ → Option ℕ) : Option ℕ → List ℕ → Type 0 where
  ended : Path next None []
  linked : {a : ℕ} {xs : List ℕ} → Path next (next a) xs → Path next (Some a) (a ∷ xs)

first-linked : (next : ℕ → Option ℕ) (a : ℕ) (ys : List ℕ) → Path next (Some a) ys →
    (zs : List ℕ) × ((ys ≡ a ∷ zs) × Path next (next a) zs)
first-linked next a ys (linked {xs = zs} p) = (zs, (refl, p))

no-link : (next : ℕ → Option ℕ) (ys : List ℕ) → Path next None ys → [] ≡ ys
no-link next ys ended = refl

same-path : (next : ℕ → Option ℕ) (o : Option ℕ) (xs ys : List ℕ) → Path next o xs → Path next o ys → xs ≡ ys
same-path next o xs ys ended q = no-link next ys q
same-path next o xs ys (linked {a = a} {xs = zs} p) q =
    let i : (us : List ℕ) × ((ys ≡ a ∷ us) × Path next (next a) us) = first-linked next a ys q in
    ap (λ (t : List ℕ). a ∷ t) (same-path next (next a) zs i.0 p i.1.1) ∙ sym i.1.0

path-from : (next : ℕ → Option ℕ) (o : Option ℕ) (xs : List ℕ) (a : ℕ) → Path next o xs → is_among a xs ≡ true
    → (ys : List ℕ) × ((length ys ≤ length xs) × Path next (Some a) ys)
path-from next o xs a ended h = absurd (true≢false (sym h))
path-from next o xs a (linked {a = b} {xs = zs} p) h =
    ⊎_elim
    (λ (e : (a == b) ≡ true). (
      b ∷ zs,
      (
        omega arith,
        (let P : ℕ → Type 0 = λ x. Path next (Some x) (b ∷ zs) in subst P (sym (same_number a b e)) (linked p)),
      ),
    ))
    (λ (f : is_among a zs ≡ true).
    let r : (ys : List ℕ) × ((length ys ≤ length zs) × Path next (Some a) ys) = path-from next (next b) zs a p f in
    (r.0, (omega (arith, r.1.0), r.1.1)))
    (or_cases (a == b) (is_among a zs) h)

fresh-first : (next : ℕ → Option ℕ) (a : ℕ) (xs : List ℕ) → Path next (next a) xs → is_among a xs ≡ false
fresh-first next a xs p =
    ⊎_elim
    (λ (h : is_among a xs ≡ true).
    let r : (ys : List ℕ) × ((length ys ≤ length xs) × Path next (Some a) ys) = path-from next (next a) xs a p h in
    let same : r.0 ≡ a ∷ xs = same-path next (Some a) r.0 (a ∷ xs) r.1.1 (linked p) in
    absurd (omega (arith, r.1.0, ap length same)))
    (λ (h : is_among a xs ≡ false). h)
    (cases_Bool (is_among a xs))

path-distinct : (next : ℕ → Option ℕ) (o : Option ℕ) (xs : List ℕ) → Path next o xs → IsDistinct eqb xs
unfolding IsDistinct
path-distinct next o xs ended = tt
path-distinct next o xs (linked {a = a} {xs = zs} p) =
    (none_same a zs (fresh-first next a zs p), path-distinct next (next a) zs p)

chain-path : (next : ℕ → Option ℕ) (o : Option ℕ) (xs : List ℕ) (bound : ℕ) → Path next o xs → length xs ≤ bound
    → elim o [ None ↦ [] | Some a ↦ chain next bound a ] ≡ xs
unfolding chain
chain-path next o xs bound ended l = refl
chain-path next o xs zero (linked p) l = absurd (omega (arith, l))
chain-path next o xs (suc bound) (linked {a = a} {xs = zs} p) l =
    ap (λ (t : List ℕ). a ∷ t) (chain-path next (next a) zs bound p (omega (arith, l)))

-- ---- nodes in a row whose variables are linked, where `last` is the last variable before them

Linked : List Node → (ℕ → Option ℕ) → Option ℕ → List ℕ → Type 0
Linked nodes next last [] = Unit {0}
Linked nodes next last (id ∷ ids) =
    (is_some (variable_at nodes id) ≡ true → next id ≡ last) ×
    Linked nodes next (if is_some (variable_at nodes id) then Some id else last) ids

variable-within : (nodes : List Node) (id : ℕ) → is_some (variable_at nodes id) ≡ true → id < length nodes
variable-within nodes id h = go (slice_get nodes id) refl h
  where
    go : (o : Option Node) → slice_get nodes id ≡ o → is_some (option_and_then (variable_of nodes id) o) ≡ true →
        id < length nodes
    go None e k = absurd (true≢false (sym k))
    go (Some n) e k = slice_get_within nodes id n e

-- a path to the end, of numbers below the bound
record IsWhole (n : ℕ) (next : ℕ → Option ℕ) (o : Option ℕ) (xs : List ℕ) : Type 0 where
  path : Path next o xs
  within : AllBelow n xs

reverse-first : (x : ℕ) (xs bs : List ℕ) → reverse (x ∷ xs) ++ bs ≡ reverse xs ++ (x ∷ bs)
reverse-first x xs bs = ap (λ (t : List ℕ). t ++ bs) (reverse_onto xs x []) ∙ append_assoc (reverse xs) (x ∷ []) bs

-- the variables of a row in front of a path
whole-row : (nodes : List Node) (next : ℕ → Option ℕ) (ids : List ℕ) (last : Option ℕ) (bs : List ℕ) →
    Linked nodes next last ids → IsWhole (length nodes) next last bs
    → IsWhole (length nodes) next (last_variable nodes last ids) (variables_among nodes ids ++ bs)
unfolding Linked last_variable AllBelow
whole-row nodes next [] last bs l w = w
whole-row nodes next (id ∷ ids) last bs l w =
    go (λ o xs. whole-row nodes next ids o xs) (is_some (variable_at nodes id)) refl l.1
  where
    go : ((o : Option ℕ) (xs : List ℕ) → Linked nodes next o ids → IsWhole (length nodes) next o xs →
        IsWhole (length nodes) next (last_variable nodes o ids) (variables_among nodes ids ++ xs))
        → (t : Bool) → is_some (variable_at nodes id) ≡ t → Linked nodes next (if t then Some id else last) ids
        → IsWhole (length nodes) next (last_variable nodes (if t then Some id else last) ids)
        (reverse
        (cond t (id ∷ filter (λ v. is_some (variable_at nodes v)) ids)
        (filter (λ v. is_some (variable_at nodes v)) ids)) ++ bs)
    go rest false e k = rest last bs k w
    go rest true e k =
        let link : last ≡ next id = sym (l.0 e) in
        let start : Path next (next id) bs = (let P : Option ℕ → Type 0 = λ o. Path next o bs in subst P link w.path) in
        let longer : IsWhole (length nodes) next (Some id) (id ∷ bs) =
        record { path = linked start; within = (variable-within nodes id e, w.within) } in
        let P : List ℕ → Type 0 = λ xs. IsWhole (length nodes) next (last_variable nodes (Some id) ids) xs in
        subst P (sym (reverse-first id (filter (λ v. is_some (variable_at nodes v)) ids) bs))
        (rest (Some id) (id ∷ bs) k longer)

pub before-same : (v x : ℕ) (ids : List ℕ) → (x == v) ≡ true → those_before v (x ∷ ids) ≡ []
before-same v x ids e = rw e refl

pub before-other : (v x : ℕ) (ids : List ℕ) → (x == v) ≡ false → those_before v (x ∷ ids) ≡ x ∷ those_before v ids
before-other v x ids e =
    let one : 1 + prefix_len (λ y. not (y == v)) ids ≡ suc (prefix_len (λ y. not (y == v)) ids) = omega arith in
    rw (e, one) refl

-- each variable of a row is linked to the last one before it in the row
abbrev LinksBack : List Node → (ℕ → Option ℕ) → Option ℕ → List ℕ → Type 0
LinksBack nodes next last ids = (v : ℕ) → is_among v ids ≡ true → next v ≡ last_variable nodes last (those_before v ids)

not-first : (x v : ℕ) (ids : List ℕ) → times x (x ∷ ids) ≤ 1 → is_among v ids ≡ true → (x == v) ≡ false
unfolding times
not-first x v ids h a = go (x == v) refl
  where
    go : (t : Bool) → (x == v) ≡ t → t ≡ false
    go false e = refl
    go true e =
        let same : x ≡ v = same_number x v e in
        let there : is_among x ids ≡ true = (let P : ℕ → Type 0 = λ y. is_among y ids ≡ true in subst P (sym same) a) in
        let self : (x == x) ≡ true = is_same_number x x refl in
        let twice : times x (x ∷ ids) ≡ 1 + times x ids = rw self refl in
        absurd (omega (arith, h, twice, times-among x ids there))

linked-back : (nodes : List Node) (next : ℕ → Option ℕ) (last : Option ℕ) (ids : List ℕ) → ((x : ℕ) → times x ids ≤ 1) →
    LinksBack nodes next last ids → Linked nodes next last ids
unfolding Linked last_variable times
linked-back nodes next last [] d h = tt
linked-back nodes next last (x ∷ ids) d h =
    (λ v. first, linked-back nodes next (if is_some (variable_at nodes x) then Some x else last) ids later-apart later)
  where
    first : next x ≡ last
    first =
        let here : next x ≡ last_variable nodes last (those_before x (x ∷ ids)) =
        h x (or_left (x == x) (is_among x ids) (is_same_number x x refl)) in
        here ∙ ap (λ (xs : List ℕ). last_variable nodes last xs) (before-same x x ids (is_same_number x x refl))

    later-apart : (y : ℕ) → times y ids ≤ 1
    later-apart y = omega (arith, d y)

    later : LinksBack nodes next (if is_some (variable_at nodes x) then Some x else last) ids
    later v a =
        let here : next v ≡ last_variable nodes last (those_before v (x ∷ ids)) =
        h v (or_right (v == x) (is_among v ids) a) in
        here ∙ ap (λ (xs : List ℕ). last_variable nodes last xs) (before-other v x ids (not-first x v ids (d x) a))

linked-before : (nodes : List Node) (next : ℕ → Option ℕ) (last : Option ℕ) (child : ℕ) (ids : List ℕ) →
    Linked nodes next last ids → Linked nodes next last (those_before child ids)
unfolding Linked
linked-before nodes next last child [] l = tt
linked-before nodes next last child (x ∷ ids) l =
    ⊎_elim
    (λ (e : (x == child) ≡ true). subst (Linked nodes next last) (sym (before-same child x ids e)) tt)
    (λ (e : (x == child) ≡ false).
    subst (Linked nodes next last) (sym (before-other child x ids e))
    (l.0, linked-before nodes next (if is_some (variable_at nodes x) then Some x else last) child ids l.1))
    (cases_Bool (x == child))

-- ---- the rows before the nodes of a forest

module _ (forest : Forest) (whole : IsForest forest) where
  abbrev nodes : List Node
  nodes = forest.nodes

  abbrev ctx : ℕ → Context
  ctx id = lookup outermost (contexts_in forest) id

  abbrev link : ℕ → Option ℕ
  link v = (ctx v).last

  child-links : (k x : ℕ) (node : Node) → slice_get nodes k ≡ Some node → is_among x (children node) ≡ true →
      link x ≡ last_variable nodes (link k) (declared_before nodes node x)
  unfolding child_context
  child-links k x node e h = ap (λ (c : Context). c.last) (child-is forest whole k x node e h)

  -- the parameters of a method or a constructor, whose list of parameters is linked to what is before the method
  parameters-linked : (last : Option ℕ) (q : ℕ) (node : Node) → slice_get nodes q ≡ Some node → link q ≡ last
      → Linked nodes link last (elim (parameter_nodes node) [ None ↦ [] | Some list ↦ list ])
  unfolding Linked parameter_nodes children declared_before
  parameters-linked last q (Parameters position list) e f =
      linked-back nodes link last list (children_apart forest whole q (Parameters position list) e)
      (λ v a. child-links q v (Parameters position list) e a
      ∙ ap (λ (o : Option ℕ). last_variable nodes o (those_before v list)) f)
  parameters-linked last q _ e f = tt

  parameters-there : (last : Option ℕ) (q : ℕ) (o : Option Node) → slice_get nodes q ≡ o → link q ≡ last
      → Linked nodes link last (elim (option_and_then parameter_nodes o) [ None ↦ [] | Some list ↦ list ])
  unfolding Linked
  parameters-there last q None e f = tt
  parameters-there last q (Some node) e f = parameters-linked last q node e f

  before-linked : (last : Option ℕ) (parameters : Option ℕ) (child : ℕ) →
      ((q : ℕ) → parameters ≡ Some q → link q ≡ last) →
      Linked nodes link last (parameters_before nodes parameters child)
  unfolding Linked
  before-linked last None child h = tt
  before-linked last (Some q) child h = go (child == q)
    where
      go : (t : Bool) →
          Linked nodes link last
          (if t then [] else (elim (read nodes parameter_nodes q) [ None ↦ [] | Some list ↦ list ]))
      go true = tt
      go false = parameters-there last q (slice_get nodes q) refl (h q refl)

  own-list : (last : Option ℕ) (q : ℕ) → last_variable nodes last (parameters_before nodes (Some q) q) ≡ last
  unfolding last_variable
  own-list last q = (let self : (q == q) ≡ true = is_same_number q q refl in rw self refl)

  method-list : (k : ℕ) (node : Node) (parameters : Option ℕ) → slice_get nodes k ≡ Some node →
      ((q : ℕ) → parameters ≡ Some q → is_among q (children node) ≡ true)
      → ((q : ℕ) → parameters ≡ Some q → declared_before nodes node q ≡ parameters_before nodes (Some q) q)
      → (q : ℕ) → parameters ≡ Some q → link q ≡ link k
  method-list k node parameters e among declares q f =
      child-links k q node e (among q f) ∙ ap (λ (ids : List ℕ). last_variable nodes (link k) ids) (declares q f)
      ∙ own-list (link k) q

  optional-there : (o : Option ℕ) (q : ℕ) → o ≡ Some q → is_among q (optional o) ≡ true
  optional-there None q e = cc
  optional-there (Some p) q e = or_left (q == p) false (is_same_number q p (let same : q ≡ p = cc in same))

  -- what is declared before a child
  declared-linked : (k x : ℕ) (node : Node) → slice_get nodes k ≡ Some node →
      Linked nodes link (link k) (declared_before nodes node x)
  unfolding Linked declared_before children
  declared-linked k x (Block position statements) e =
      linked-before nodes link (link k) x statements
      (linked-back nodes link (link k) statements (children_apart forest whole k (Block position statements) e)
      (λ v a. child-links k v (Block position statements) e a))
  declared-linked k x (For position first condition step body) e =
      linked-before nodes link (link k) x (first ∷ condition ∷ step ∷ body ∷ [])
      (linked-back nodes link (link k) (first ∷ condition ∷ step ∷ body ∷ [])
      (children_apart forest whole k (For position first condition step body) e)
      (λ v a. child-links k v (For position first condition step body) e a))
  declared-linked k x (Parameters position list) e =
      linked-before nodes link (link k) x list
      (linked-back nodes link (link k) list (children_apart forest whole k (Parameters position list) e)
      (λ v a. child-links k v (Parameters position list) e a))
  declared-linked k x (Method position name flags result_type parameters body) e =
      before-linked (link k) parameters x
      (method-list k (Method position name flags result_type parameters body) parameters e
      (λ q f. among-behind q (optional flags) _
      (or_right (q == result_type) _
      (among-front q (optional parameters) (optional body) (optional-there parameters q f))))
      (λ q f. ap (λ (o : Option ℕ). parameters_before nodes o q) f))
  declared-linked k x (Constructor position name flags parameters super_call body) e =
      before-linked (link k) parameters x
      (method-list k (Constructor position name flags parameters super_call body) parameters e
      (λ q f. among-behind q (optional flags) _
      (among-front q (optional parameters) (optional super_call ++ (body ∷ [])) (optional-there parameters q f)))
      (λ q f. ap (λ (o : Option ℕ). parameters_before nodes o q) f))
  declared-linked k x _ e = tt

  abbrev plain : ℕ → List ℕ
  plain id = lookup [] (top_down [] (variables_from_parent nodes) 0 (length nodes)) id

  plain-is : (x : ℕ) → x < length nodes → plain x ≡ variables_from_parent nodes x (above [] x plain)
  plain-is x l = by_larger-is [] (variables_from_parent nodes) (length nodes) x l

  plain-by : (x : ℕ) (larger : ℕ → List ℕ) (o : Option ℕ) → parent_in nodes x ≡ o
      → variables_from_parent nodes x larger
      ≡ elim o as (λ _. List ℕ) [
        | None ↦ []
        | Some k ↦ elim (slice_get nodes k) as (λ _. List ℕ)
            [ None ↦ [] | Some node ↦ variables_among nodes (declared_before nodes node x) ++ larger k ]
      ]
  unfolding variables_from_parent
  plain-by x larger o e =
      ap (λ (p : Option ℕ). elim p as (λ _. List ℕ) [
        | None ↦ []
        | Some k ↦ elim (slice_get nodes k) as (λ _. List ℕ)
            [ None ↦ [] | Some node ↦ variables_among nodes (declared_before nodes node x) ++ larger k ]
      ]) e

  plain-none : (x : ℕ) → x < length nodes → parent_in nodes x ≡ None → plain x ≡ []
  plain-none x l e = plain-is x l ∙ plain-by x (above [] x plain) None e

  plain-child : (k x : ℕ) (node : Node) → x < k → k < length nodes → parent_in nodes x ≡ Some k →
      slice_get nodes k ≡ Some node → plain x ≡ variables_among nodes (declared_before nodes node x) ++ plain k
  plain-child k x node less l e f =
      plain-is x (omega (arith, less, l)) ∙ plain-by x (above [] x plain) (Some k) e
      ∙ ap (λ (o : Option Node). elim o as (λ _. List ℕ)
      [ None ↦ [] | Some n ↦ variables_among nodes (declared_before nodes n x) ++ above [] x plain k ]) f
      ∙ ap (λ t. variables_among nodes (declared_before nodes node x) ++ (if t then plain k else [])) (lt-ltb x k less)

  at-node : (m x : ℕ) (any : Node) → length nodes ≤ x + m → x < length nodes →
      IsWhole (length nodes) link (link x) (plain x)
  unfolding AllBelow
  at-node zero x any h l = absurd (omega (arith, h, l))
  at-node (suc m) x any h l = go (λ k. at-node m k any) (parent_in nodes x) refl
    where
      go : ((k : ℕ) → length nodes ≤ k + m → k < length nodes → IsWhole (length nodes) link (link k) (plain k)) →
          (o : Option ℕ) → parent_in nodes x ≡ o → IsWhole (length nodes) link (link x) (plain x)
      go up None e =
          let context-none : link x ≡ None = ap (λ (c : Context). c.last) (no-parent forest whole x l e) in
          rw (context-none, plain-none x l e) (record { path = ended; within = tt })
      go up (Some k) e =
          let is = parent-is forest whole x k e any in
          let less : x < k = child-less forest whole k x is.node is.there is.among in
          let inside : k < length nodes = slice_get_within nodes k is.node is.there in
          let links : link x ≡ last_variable nodes (link k) (declared_before nodes is.node x) =
          child-links k x is.node is.there is.among in
          let parent : IsWhole (length nodes) link (link k) (plain k) = up k (omega (arith, h, less)) inside in
          rw (links, plain-child k x is.node less inside e is.there)
          (whole-row nodes link (declared_before nodes is.node x) (link k) (plain k)
          (declared-linked k x is.node is.there) parent)

some-node : (ns : List Node) (j : ℕ) → j < length ns → Node
some-node [] j l = absurd (omega (arith, l))
some-node (n ∷ ns) j l = n

-- the variables that contexts link are those in scope
pub known-in-scope : (forest : Forest) → IsForest forest → (id : ℕ) → id < length forest.nodes →
    known_variables (declarations_of forest) id ≡ variables_in_scope forest id
unfolding known_variables declarations_of variables_in_scope
known-in-scope forest whole id l =
    let w = at-node forest whole (length forest.nodes) id (some-node forest.nodes id l) (omega arith) l in
    let few : length (plain forest whole id) ≤ length forest.nodes =
    length-le_from_distinct_below (plain forest whole id) (length forest.nodes)
    (path-distinct (link forest whole) (link forest whole id) (plain forest whole id) w.path)
    (λ q h. among-below (length forest.nodes) q (plain forest whole id) w.within h) in
    chain-path (link forest whole) (link forest whole id) (plain forest whole id) (length forest.nodes) w.path few

-- The pass over the nodes of a file finds the heights that are defined.
use Rattle.std.proofs.Common.{◌≡◌, ℕ, ◌+◌, ◌-◌, ◌<◌, ◌≤◌, suc, max, List, [], ◌∷◌, ◌++◌, length, drop, Option, Some, None, slice_get, get_or, drop-cons, add-one, nat_lt, true, false, refl, sym, ap, ◌∙◌, arith, rules, subst, length-append, ⊎_elim}
use Rattle.scj_tree.specs.Heights.{highest, weight, node_height, height, super_height, body_height, first_too_deep}
use Rattle.scj_tree.specs.Recursion.{below, lookup}
use Rattle.scj_tree.specs.Shape.{children, optional, position_of}
use Rattle.scj_tree.specs.declared.nodes.Node.{Node}
use Rattle.scj_tree.specs.declared.nodes.Node.TheVariants.{Method, Constructor}
use Rattle.scj_tree.proofs.RecursionLemmas.{by_smaller-is, lookup-front, lookup-next}
use Rattle.std.proofs.lemmas.Bool.{cases_lt}
use Rattle.std.proofs.lemmas.Grind.{common_steps}
use Rattle.std.proofs.lemmas.List.{drop_all}
use Rattle.std.proofs.lemmas.Option.{slice_get_read}
use Rattle.scj_parser.specs.HeightRowsSupport.{row, AllWithin, ChildrenWithin, super_height_by, body_height_by}
use Rattle.std.proofs.lemmas.Bool.Decides.{nat_tests}

pub highest_append : (g : ℕ → ℕ) (xs ys : List ℕ) → highest g (xs ++ ys) ≡ max (highest g xs) (highest g ys)
unfolding highest
highest_append g [] ys = omega arith
highest_append g (x ∷ xs) ys = omega (arith, highest_append g xs ys)

-- the row holds the heights of the nodes from `first` on, of which the next is `at`
pub record Holds (nodes : List Node) (first at : ℕ) (rows : List ℕ) : Type 0 where
  pub count : first + length rows ≡ at
  pub right : (c : ℕ) → first ≤ c → c < at → row first rows c ≡ height nodes c
  pub small : (c : ℕ) → row first rows c ≤ length rows

below-here : (g : ℕ → ℕ) (n c : ℕ) → c < n → below 0 n g c ≡ g c
below-here g n c h = let e : nat_lt c n ≡ true = grind (arith, nat_tests) in rw e refl

same-highest : (nodes : List Node) (first at : ℕ) (rows : List ℕ) (ids : List ℕ) → Holds nodes first at rows →
    AllWithin first at ids → highest (row first rows) ids ≡ highest (below 0 at (height nodes)) ids
unfolding highest AllWithin
same-highest nodes first at rows [] h w = refl
same-highest nodes first at rows (x ∷ ids) h w =
    let e : row first rows x ≡ below 0 at (height nodes) x = h.right x w.0.0 w.0.1
    ∙ sym (below-here (height nodes) at x w.0.1) in
    let f = same-highest nodes first at rows ids h w.1 in
    omega (arith, e, f)

small-highest : (first : ℕ) (rows : List ℕ) (ids : List ℕ) (n : ℕ) → ((c : ℕ) → row first rows c ≤ n) →
    highest (row first rows) ids ≤ n
unfolding highest
small-highest first rows [] n h = omega arith
small-highest first rows (x ∷ ids) n h = omega (arith, h x, small-highest first rows ids n h)

-- the height of one node more
pub next-height : (nodes : List Node) (first at : ℕ) (rows : List ℕ) (node : Node) → Holds nodes first at rows →
    slice_get nodes at ≡ Some node → AllWithin first at (children node) →
    weight node + highest (row first rows) (children node) ≡ height nodes at
unfolding height node_height
next-height nodes first at rows node h e w =
    let is : height nodes at ≡ node_height (slice_get nodes at) (below 0 at (height nodes)) =
    by_smaller-is 0 (λ n sub. node_height (slice_get nodes n) sub) at in
    let here : node_height (slice_get nodes at) (below 0 at (height nodes)) ≡ weight node + highest
    (below 0 at (height nodes)) (children node) = ap (λ o. node_height o (below 0 at (height nodes))) e in
    let same = same-highest nodes first at rows (children node) h w in
    ap (λ (n : ℕ). weight node + n) same ∙ sym (is ∙ here)

pub light : (node : Node) → weight node ≤ 1
unfolding weight
light node = search rules

-- the row with one height more
pub holds-next : (nodes : List Node) (first at h : ℕ) (rows : List ℕ) → Holds nodes first at rows →
    h ≡ height nodes at → h ≤ length rows + 1 → Holds nodes first (at + 1) (rows ++ h ∷ [])
holds-next nodes first at h rows k e l =
    record {
      count = rw length-append (omega (arith, k.count));
      right = λ c low high. ⊎_elim
          (λ (m : c < at). lookup-front 0 rows (h ∷ []) (c - first) (omega (arith, k.count, m, low)) ∙ k.right c low m)
          (λ (m : at ≤ c). let same : c ≡ at = omega (arith, m, high) in
          lookup-next 0 rows h (c - first) (omega (arith, k.count, same)) ∙ (e ∙ ap (height nodes) (sym same)))
          (cases_lt c at);
      small = λ c. small (c - first) (k.small c);
    }
  where
    small : (i : ℕ) → lookup 0 rows i ≤ length rows → lookup 0 (rows ++ h ∷ []) i ≤ length (rows ++ h ∷ [])
    small i m = grind (arith, common_steps)

-- ---- a body

within-behind : (low high : ℕ) (xs ys : List ℕ) → AllWithin low high (xs ++ ys) → AllWithin low high ys
unfolding AllWithin
within-behind low high [] ys w = w
within-behind low high (x ∷ xs) ys w = within-behind low high xs ys w.1

within-front : (low high : ℕ) (xs ys : List ℕ) → AllWithin low high (xs ++ ys) → AllWithin low high xs
unfolding AllWithin
within-front low high [] ys w = tt
within-front low high (x ∷ xs) ys w = (w.0, within-front low high xs ys w.1)

same-one : (nodes : List Node) (first at x : ℕ) (rows : List ℕ) → Holds nodes first at rows →
    AllWithin first at (x ∷ []) → row first rows x ≡ height nodes x
unfolding AllWithin
same-one nodes first at x rows h w = h.right x w.0.0 w.0.1

same-super : (nodes : List Node) (first at : ℕ) (rows : List ℕ) (o : Option ℕ) → Holds nodes first at rows →
    AllWithin first at (optional o) → super_height_by (row first rows) o ≡ super_height nodes o
unfolding super_height_by super_height
same-super nodes first at rows None h w = refl
same-super nodes first at rows (Some x) h w = ap (λ (n : ℕ). 1 + n) (same-one nodes first at x rows h w)

same-body : (nodes : List Node) (first at : ℕ) (rows : List ℕ) (node : Node) → Holds nodes first at rows →
    AllWithin first at (children node) → body_height_by (row first rows) node ≡ body_height nodes node
unfolding body_height_by body_height children AllWithin
same-body nodes first at rows (Method position name flags result_type parameters (Some body)) h w =
    let a = within-behind first at (optional flags) _ w in
    same-one nodes first at body rows h (within-behind first at (result_type ∷ optional parameters) (body ∷ []) a)
same-body nodes first at rows (Method position name flags result_type parameters None) h w = refl
same-body nodes first at rows (Constructor position name flags parameters super_call body) h w =
    let a = within-behind first at (optional flags) _ w in
    let b = within-behind first at (optional parameters) _ a in
    let c = within-behind first at (optional super_call) (body ∷ []) b in
    let d = within-front first at (optional super_call) (body ∷ []) b in
    omega (arith, same-one nodes first at body rows h c, same-super nodes first at rows super_call h d)
same-body nodes first at rows _ h w = refl

-- ---- the pass

-- the nodes before the next have their heights in the row, and none of their bodies is too deep
pub record Gone (nodes : List Node) (first : ℕ) (rows : List ℕ) (next : ℕ) : Type 0 where
  pub same : first_too_deep nodes (drop first nodes) ≡ first_too_deep nodes (drop next nodes)
  pub holds : Holds nodes first next rows
  pub within : ChildrenWithin first next (drop next nodes)

module _ (nodes : List Node) (first : ℕ) (rows : List ℕ) (next : ℕ) (g : Gone nodes first rows next) where
  module _ (node : Node) (l : next < length nodes) (e : node ≡ get_or nodes next node) where
    whole : drop next nodes ≡ node ∷ drop (next + 1) nodes
    whole = rw add-one (drop-cons nodes next node l ∙ ap (λ (n : Node). n ∷ drop (suc next) nodes) (sym e))

    within : ChildrenWithin first next (node ∷ drop (next + 1) nodes)
    within = let P : List Node → Type 0 = ChildrenWithin first next in subst P whole g.within

    pub gone_deep : 64 < body_height_by (row first rows) node →
        first_too_deep nodes (drop first nodes) ≡ Some (position_of node)
    unfolding first_too_deep ChildrenWithin
    gone_deep h =
        let same = same-body nodes first next rows node g.holds within.0 in
        let high : nat_lt 64 (body_height nodes node) ≡ true = grind (arith, nat_tests) in
        g.same ∙ ap (first_too_deep nodes) whole ∙ rw high refl

    pub gone_next : (h : ℕ) → body_height_by (row first rows) node ≤ 64 →
        h ≡ weight node + highest (row first rows) (children node) → Gone nodes first (rows ++ h ∷ []) (next + 1)
    unfolding first_too_deep ChildrenWithin
    gone_next h low is =
        let same = same-body nodes first next rows node g.holds within.0 in
        let flat : nat_lt 64 (body_height nodes node) ≡ false = grind (arith, nat_tests) in
        record {
          same = g.same ∙ ap (first_too_deep nodes) whole ∙ rw flat refl;
          holds = holds-next nodes first next h rows g.holds
              (is ∙ next-height nodes first next rows node g.holds
              (slice_get_read nodes (length nodes) next node refl l e) within.0)
              (omega (arith, is, light node, small-highest first rows (children node) (length rows) g.holds.small));
          within = within.1;
        }

  pub gone_small_child : (node : Node) → next < length nodes → highest (row first rows) (children node) < length nodes
  gone_small_child node l =
      omega (arith, small-highest first rows (children node) (length rows) g.holds.small, g.holds.count)

  pub gone_all : length nodes ≤ next → first_too_deep nodes (drop first nodes) ≡ None
  unfolding first_too_deep
  gone_all l = g.same ∙ ap (first_too_deep nodes) (drop_all next nodes l)

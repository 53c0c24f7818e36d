-- The heights of bodies in a program that is read from texts: none is above 64.
use Rattle.std.proofs.Common.{◌≡◌, ℕ, ◌+◌, ◌-◌, ◌<◌, ◌≤◌, zero, suc, Bool, true, false, nat_lt, List, [], ◌∷◌, ◌++◌, length, drop, Option, Some, None, slice_get, refl, sym, ap, ◌∙◌, arith, append-nil, append_assoc}
use Rattle.std.proofs.lemmas.Bool.Decides.{nat_tests}
use Rattle.scj_tree.specs.declared.nodes.Node.{Node}
use Rattle.scj_tree.specs.declared.nodes.Node.TheVariants.{Method, Constructor}
use Rattle.scj_tree.specs.Forest.{Forest, AllBelow}
use Rattle.scj_tree.specs.Grammar.{ClassesRead, no_class, one_class_more, Tree, file, file_of_package}
use Rattle.scj_tree.specs.Heights.{highest, weight, node_height, height, super_height, body_height, first_too_deep, too_deep}
use Rattle.scj_tree.specs.Lexemes.{Lexeme}
use Rattle.scj_tree.specs.Recursion.{below}
use Rattle.scj_tree.specs.Shape.{children, optional}
use Rattle.scj_tree.proofs.RecursionLemmas.{by_smaller-is}
use Rattle.scj_rules.specs.Contexts.{Declarations}
use Rattle.scj_rules.specs.Syntax.{FilesRead, no_file, next_file}
use Rattle.scj_rules.proofs.ParentLemmas.{all_below_more}
use Rattle.accepted_laws.proofs.ClassSorts.{class_sorted}
use Rattle.accepted_laws.proofs.TypesBelow.{BehindChildren, below-right}
use Rattle.scope_flow.proofs.Known.{below_lt}
use Rattle.std.proofs.lemmas.Option.{slice_get_within}

highest_same : (id : ℕ) (g : ℕ → ℕ) (xs : List ℕ) → AllBelow id xs → highest (below 0 id g) xs ≡ highest g xs
unfolding highest AllBelow
highest_same id g [] h = refl
highest_same id g (x ∷ xs) h = omega (arith, below_lt 0 id g x h.0, highest_same id g xs h.1)

pub height_at : (p : Declarations) → BehindChildren p → (id : ℕ) (node : Node) → slice_get p.nodes id ≡ Some node →
    height p.nodes id ≡ weight node + highest (height p.nodes) (children node)
unfolding height node_height
height_at p behind id node there =
    by_smaller-is 0 (λ id sub. node_height (slice_get p.nodes id) sub) id
    ∙ ap (λ (o : Option Node). node_height o (below 0 id (height p.nodes))) there
    ∙ ap (λ (n : ℕ). weight node + n) (highest_same id (height p.nodes) (children node) (behind id node there))

-- ---- nodes that are read later leave the heights as they are

below_agrees : (n : ℕ) (f g : ℕ → ℕ) → ((k : ℕ) → k < n → f k ≡ g k) → (k : ℕ) → below 0 n f k ≡ below 0 n g k
below_agrees n f g h k = go (nat_lt k n) refl
  where
    go : (b : Bool) → nat_lt k n ≡ b → below 0 n f k ≡ below 0 n g k
    go true e = let l : k < n = grind (arith, nat_tests) in rw e (h k l)
    go false e = rw e refl

get_front : {A : Type 0} (xs ys : List A) (i : ℕ) → i < length xs → slice_get (xs ++ ys) i ≡ slice_get xs i
get_front [] ys i l = absurd (omega (arith, l))
get_front (x ∷ xs) ys zero l = refl
get_front (x ∷ xs) ys (suc i) l = get_front xs ys i (omega (arith, l))

height_step : (N M : List Node) (x : ℕ) → x < length N → ((k : ℕ) → k < x → height (N ++ M) k ≡ height N k) →
    height (N ++ M) x ≡ height N x
unfolding height
height_step N M x l h =
    by_smaller-is 0 (λ id sub. node_height (slice_get (N ++ M) id) sub) x
    ∙ ap (λ (o : Option Node). node_height o (below 0 x (height (N ++ M)))) (get_front N M x l)
    ∙ ap (node_height (slice_get N x)) (λ i k. below_agrees x (height (N ++ M)) (height N) h k i)
    ∙ sym (by_smaller-is 0 (λ id sub. node_height (slice_get N id) sub) x)

heights_up_to : (N M : List Node) (bound x : ℕ) → x < bound → x < length N → height (N ++ M) x ≡ height N x
heights_up_to N M zero x l m = absurd (omega (arith, l))
heights_up_to N M (suc bound) x l m =
    height_step N M x m (λ k u. heights_up_to N M bound k (omega (arith, l, u)) (omega (arith, m, u)))

pub height_front : (N M : List Node) (x : ℕ) → x < length N → height (N ++ M) x ≡ height N x
height_front N M x l = heights_up_to N M (suc x) x (omega arith) l

super_front : (N M : List Node) (o : Option ℕ) (body : ℕ) → AllBelow (length N) (optional o ++ body ∷ []) →
    (super_height (N ++ M) o ≡ super_height N o) × (height (N ++ M) body ≡ height N body)
unfolding super_height AllBelow
super_front N M None body h = (refl, height_front N M body h.0)
super_front N M (Some id) body h = (ap (λ (n : ℕ). 1 + n) (height_front N M id h.0), height_front N M body h.1.0)

body_front : (N M : List Node) (node : Node) → AllBelow (length N) (children node) →
    body_height (N ++ M) node ≡ body_height N node
unfolding body_height children AllBelow
body_front N M (Method position name flags result_type parameters None) h = refl
body_front N M (Method position name flags result_type parameters (Some body)) h =
    let behind = below-right (length N) (optional flags) (result_type ∷ (optional parameters ++ body ∷ [])) h in
    height_front N M body (below-right (length N) (optional parameters) (body ∷ []) behind.1).0
body_front N M (Constructor position name flags parameters super_call body) h =
    let parts = optional super_call ++ body ∷ [] in
    let behind = below-right (length N) (optional flags) (optional parameters ++ parts) h in
    let b = super_front N M super_call body (below-right (length N) (optional parameters) parts behind) in
    omega (arith, b.0, b.1)
body_front N M _ h = refl

-- ---- the bodies of a file are low

deep_none : (nodes xs : List Node) (k : ℕ) (node : Node) → first_too_deep nodes xs ≡ None → slice_get xs k ≡ Some node →
    body_height nodes node ≤ 64
unfolding first_too_deep
deep_none nodes [] k node e there = absurd (cc (there))
deep_none nodes (x ∷ xs) k node e there =
    go (nat_lt 64 (body_height nodes x)) refl (λ none i at. deep_none nodes xs i node none at) k there
  where
    go : (b : Bool) → nat_lt 64 (body_height nodes x) ≡ b →
        (first_too_deep nodes xs ≡ None → (i : ℕ) → slice_get xs i ≡ Some node → body_height nodes node ≤ 64) →
        (k : ℕ) → slice_get (x ∷ xs) k ≡ Some node → body_height nodes node ≤ 64
    go true t h k there = absurd (cc (t, e))
    go false t h zero there =
        let same : x ≡ node = cc in
        let low : body_height nodes x ≤ 64 = grind (arith, nat_tests) in
        let b = ap (body_height nodes) same in omega (arith, low, b)
    go false t h (suc k) there = h (rw t at e) k there

get_drop : {A : Type 0} (n : ℕ) (xs : List A) (k : ℕ) → slice_get (drop n xs) k ≡ slice_get xs (n + k)
get_drop zero xs k = let e : 0 + k ≡ k = omega arith in rw e refl
get_drop (suc n) [] k = refl
get_drop (suc n) (x ∷ xs) k = let e : suc n + k ≡ suc (n + k) = omega arith in rw e (get_drop n xs k)

low_here : (n : ℕ) (nodes : List Node) (id : ℕ) (node : Node) → too_deep n nodes ≡ None → n ≤ id →
    slice_get nodes id ≡ Some node → body_height nodes node ≤ 64
unfolding too_deep
low_here n nodes id node e l there =
    let index : n + (id - n) ≡ id = omega (arith, l) in
    deep_none nodes (drop n nodes) (id - n) node e
    (get_drop n nodes (id - n) ∙ ap (slice_get nodes) index ∙ there)

-- ---- files are read one behind the other

-- the nodes of the second are those of the first and others behind them
record Grows (N N1 : List Node) : Type 0 where
  more : List Node
  whole : N1 ≡ N ++ more

grows_then : {N N1 N2 : List Node} → Grows N N1 → Grows N1 N2 → Grows N N2
grows_then {N} g h =
    record {
      more = g.more ++ h.more;
      whole = h.whole ∙ ap (λ (t : List Node). t ++ h.more) g.whole ∙ append_assoc N g.more h.more;
    }

classes_grow : {N N1 : List Node} {i o : List Lexeme} {ids : List ℕ} → ClassesRead N i N1 o ids → Grows N N1
classes_grow {N} no_class = record { more = []; whole = sym (append-nil N) }
classes_grow (one_class_more d c) =
    let g = (class_sorted c).goes in grows_then (classes_grow d) (record { more = g.more; whole = g.whole })

tree_grows : {N N1 : List Node} {i : List Lexeme} {ids : List ℕ} → Tree N i N1 ids → Grows N N1
tree_grows (file d c) = classes_grow c
tree_grows (file_of_package e d c) = classes_grow c

files_grow : {before after : Forest} {rows : List (List Lexeme)} → FilesRead before rows after →
    Grows before.nodes after.nodes
files_grow {before} no_file = record { more = []; whole = sym (append-nil before.nodes) }
files_grow (next_file f more) = grows_then (tree_grows f.tree) (files_grow more)

low_in_first : (between after : List Node) (n id : ℕ) (node : Node) → Grows between after → too_deep n between ≡ None →
    n ≤ id → id < length between → slice_get after id ≡ Some node → AllBelow id (children node) →
    body_height after node ≤ 64
low_in_first between after n id node g e l m there b =
    let here : slice_get between id ≡ Some node =
    sym (get_front between g.more id m) ∙ ap (λ (t : List Node). slice_get t id) (sym g.whole) ∙ there in
    let low = low_here n between id node e l here in
    let same = body_front between g.more node (all_below_more id (length between) (children node) (omega (arith, m)) b) in
    let whole = ap (λ (t : List Node). body_height t node) g.whole in
    omega (arith, low, same, whole)

pub files_low : {before after : Forest} {rows : List (List Lexeme)} → FilesRead before rows after →
    (id : ℕ) (node : Node) → length before.nodes ≤ id → slice_get after.nodes id ≡ Some node →
    AllBelow id (children node) → body_height after.nodes node ≤ 64
files_low {before} no_file id node l there b = absurd (omega (arith, l, slice_get_within before.nodes id node there))
files_low {before} {after} (next_file {between = between} f more) id node l there b =
    go (nat_lt id (length between.nodes)) refl (λ m. files_low more id node m there b)
  where
    go : (t : Bool) → nat_lt id (length between.nodes) ≡ t →
        (length between.nodes ≤ id → body_height after.nodes node ≤ 64) → body_height after.nodes node ≤ 64
    go true e h =
        low_in_first between.nodes after.nodes (length before.nodes) id node (files_grow more) f.is_low l
        (grind (arith, nat_tests)) there b
    go false e h = h (grind (arith, nat_tests))

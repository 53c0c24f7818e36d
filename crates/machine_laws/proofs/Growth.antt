-- Each node that reading makes has one place: it is a child of another, or what was read. This file has the steps.
use Rattle.std.proofs.Common.{◌≡◌, ℕ, ◌+◌, ◌<◌, ◌≤◌, zero, suc, Bool, true, false, List, [], ◌∷◌, ◌++◌, length, refl, sym, ap, ◌∙◌, subst, arith, zero-add, add-zero, append_assoc, length-append, append-nil, ◌==◌}
use Rattle.std.specs.Prelude.{nat_lt}
use Rattle.std.proofs.lemmas.Bool.{ltb-true, ltb-false}
use Rattle.std.proofs.lemmas.Bool.Decides.{nat_tests}
use Rattle.scj_tree.specs.declared.nodes.Node.{Node}
use Rattle.scj_tree.specs.Shape.{children}
use Rattle.scj_tree.specs.Counts.{times}
use Rattle.scj_tree.specs.Nodes.{put}
use Rattle.scj_tree.specs.Forest.{all_children, AllBelow, ChildrenFirst}
use Rattle.scj_tree.proofs.ForestLemmas.{times-append, all_children-append, ChildrenFirst-push}

-- 1 where x is below n
unfoldable pub below : ℕ → ℕ → ℕ
below x zero = 0
below x (suc n) = below x n + times x (n ∷ [])

times-other : (x n : ℕ) → n < x → times x (n ∷ []) ≡ 0
unfolding times
times-other x n h = grind (arith, nat_tests)

times-self : (x : ℕ) → times x (x ∷ []) ≡ 1
unfolding times
times-self x = grind (arith, nat_tests)

times-head : (x : ℕ) (xs : List ℕ) → 1 ≤ times x (x ∷ xs)
unfolding times
times-head x xs = grind (arith, nat_tests)

times-tail : (y x : ℕ) (xs : List ℕ) → times y xs ≤ times y (x ∷ xs)
unfolding times
times-tail y x xs = omega arith

pub below-high : (x n : ℕ) → n ≤ x → below x n ≡ 0
unfolding below
below-high x zero h = refl
below-high x (suc n) h = omega (arith, below-high x n (omega arith), times-other x n (omega arith))

pub below-grows : (x n m : ℕ) → below x n ≤ below x (n + m)
unfolding below
below-grows x n zero = let e : n + 0 ≡ n = add-zero n in rw e (omega arith)
below-grows x n (suc m) = let e : n + suc m ≡ suc (n + m) = omega arith in rw e (omega (arith, below-grows x n m))

below-next : (x n : ℕ) → below x (n + 1) ≡ below x n + times x (n ∷ [])
unfolding below
below-next x n = let e : n + 1 ≡ suc n = omega arith in rw e refl

times-under : (x n : ℕ) → x < n → times x (n ∷ []) ≡ 0
unfolding times
times-under x n h = grind (arith, nat_tests)

times-one : (x n : ℕ) → times x (n ∷ []) ≤ 1
unfolding times
times-one x n = grind (arith, nat_tests)

below-one-at : (x n : ℕ) (b : Bool) → nat_lt x n ≡ b → below x n ≤ 1 → below x (suc n) ≤ 1
unfolding below
below-one-at x n true e h = omega (arith, h, times-under x n (ltb-true x n e))
below-one-at x n false e h = omega (arith, below-high x n (ltb-false x n e), times-one x n)

pub below-one : (x n : ℕ) → below x n ≤ 1
unfolding below
below-one x zero = omega arith
below-one x (suc n) = below-one-at x n (nat_lt x n) refl (below-one x n)

below-low-at : (x n : ℕ) (b : Bool) → (x == n) ≡ b → (x < n → 1 ≤ below x n) → x < suc n → 1 ≤ below x (suc n)
unfolding below times
below-low-at x n true e h k = rw e (omega arith)
below-low-at x n false e h k = omega (arith, h (grind (arith, nat_tests, e, k)))

pub below-low : (x n : ℕ) → x < n → 1 ≤ below x n
below-low x zero h = absurd (omega arith)
below-low x (suc n) h = below-low-at x n (x == n) refl (below-low x n) h

pub times-none : (x : ℕ) → times x [] ≡ 0
unfolding times
times-none x = refl

pub all_below : (n : ℕ) (ids : List ℕ) → ((x : ℕ) → times x ids ≤ below x n) → AllBelow n ids
unfolding AllBelow
all_below n [] h = tt
all_below n (x ∷ ids) h = (
  grind (arith, h x, times-head x ids, below-high x n),
  all_below n ids (λ y. omega (arith, h y, times-tail y x ids)),
)

-- from the nodes N came the nodes N1, each with one place, among them the places of these
pub record Grown (N N1 : List Node) (ids : List ℕ) : Type 0 where
  pub more : List Node
  pub whole : N1 ≡ N ++ more
  pub once : (x : ℕ) → times x ids + times x (all_children N1) + below x (length N) ≡ times x (all_children N) + below x
      (length N1)
  pub first : ChildrenFirst 0 N → ChildrenFirst 0 N1

pub none_grown : (N : List Node) → Grown N N []
unfolding times
none_grown N = record { more = []; whole = sym (append-nil N); once = λ x. omega arith; first = λ h. h }

pub and_then : {N N1 N2 : List Node} {a b : List ℕ} → Grown N N1 a → Grown N1 N2 b → Grown N N2 (a ++ b)
and_then {N} {N1} {N2} {a} {b} g h = record {
  more = g.more ++ h.more;
  whole = h.whole ∙ ap (λ t. t ++ h.more) g.whole ∙ append_assoc N g.more h.more;
  once = λ x. omega (arith, g.once x, h.once x, times-append x a b);
  first = λ f. h.first (g.first f);
}

pub counted : {N N1 : List Node} {a b : List ℕ} → Grown N N1 a → ((x : ℕ) → times x a ≡ times x b) → Grown N N1 b
counted g e = record { more = g.more; whole = g.whole; once = λ x. omega (arith, g.once x, e x); first = g.first }

-- what was read are numbers of nodes
free_below : {N N1 : List Node} {ids : List ℕ} → Grown N N1 ids → (x : ℕ) → times x ids ≤ below x (length N1)
free_below {N} {N1} {ids} g x =
    let e : times x (all_children N1) ≡ times x (all_children N) + times x (all_children g.more) =
    ap (λ t. times x (all_children t)) g.whole
    ∙ (ap (times x) (all_children-append N g.more) ∙ times-append x (all_children N) (all_children g.more)) in
    omega (arith, g.once x, e)

pub made : {N N1 : List Node} (node : Node) → Grown N N1 (children node) → Grown N (put N1 node) (length N1 ∷ [])
unfolding times all_children
made {N} {N1} node g = record {
  more = g.more ++ node ∷ [];
  whole = ap (λ t. t ++ node ∷ []) g.whole ∙ append_assoc N g.more (node ∷ []);
  once = λ x.
      let e : times x (all_children (N1 ++ node ∷ [])) ≡ times x (all_children N1) + times x (children node) =
      ap (times x) (all_children-append N1 (node ∷ [])) ∙ times-append x (all_children N1) (children node ++ [])
      ∙ ap (λ t. times x (all_children N1) + times x t) (append-nil (children node)) in
      let l : below x (length (N1 ++ node ∷ [])) ≡ below x (length N1) + times x (length N1 ∷ []) =
      ap (below x) (length-append N1 (node ∷ [])) ∙ below-next x (length N1) in
      omega (arith, g.once x, e, l);
  first = λ f. ChildrenFirst-push 0 N1 node (g.first f) (let e : length N1 ≡ 0 + length N1 = sym (zero-add _) in
      let P : ℕ → Type 0 = λ n. AllBelow n (children node) in
      subst P e (all_below (length N1) (children node) (free_below g)));
}

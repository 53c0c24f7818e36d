-- A list of nodes is a forest where these tests pass.
use Rattle.std.proofs.Common.{◌≡◌, ℕ, ◌+◌, ◌<◌, ◌≤◌, ◌^◌, List, [], ◌∷◌, length, refl, sym, ap, ◌∙◌, arith, Bool, true, false, not, ◌&&◌, ◌||◌, true≢false, nat_lt, ◌==◌}
use Rattle.std.proofs.lemmas.Bool.Decides.{nat_tests}
use Rattle.scj_tree.specs.declared.nodes.Node.{Node}
use Rattle.scj_tree.specs.Counts.{times}
use Rattle.scj_tree.specs.Shape.{children}
use Rattle.scj_tree.specs.Forest.{Forest, IsForest, AllBelow, AllClasses, ChildrenFirst, joined, placed}
use Rattle.scj_rules.specs.Words.{is_among}

unfoldable pub all_below : ℕ → List ℕ → Bool
all_below n [] = true
all_below n (x ∷ xs) = nat_lt x n && all_below n xs

unfoldable pub children_first : ℕ → List Node → Bool
children_first from [] = true
children_first from (node ∷ nodes) = all_below from (children node) && children_first (from + 1) nodes

unfoldable pub are_distinct : List ℕ → Bool
are_distinct [] = true
are_distinct (x ∷ xs) = not (is_among x xs) && are_distinct xs

both_first : (a b : Bool) → (a && b) ≡ true → a ≡ true
both_first true b h = refl
both_first false b h = h

both_second : (a b : Bool) → (a && b) ≡ true → b ≡ true
both_second true b h = h
both_second false b h = absurd (true≢false (sym h))

is_less : (x n : ℕ) → nat_lt x n ≡ true → x < n
is_less x n h = grind (arith, nat_tests)

pub below_passes : (n : ℕ) (xs : List ℕ) → all_below n xs ≡ true → AllBelow n xs
unfolding all_below AllBelow
below_passes n [] h = tt
below_passes n (x ∷ xs) h = (is_less x n (both_first _ _ h), below_passes n xs (both_second _ _ h))

pub children_pass : (from : ℕ) (nodes : List Node) → children_first from nodes ≡ true → ChildrenFirst from nodes
unfolding children_first ChildrenFirst
children_pass from [] h = tt
children_pass from (node ∷ nodes) h =
    (below_passes from (children node) (both_first _ _ h), children_pass (from + 1) nodes (both_second _ _ h))

among_step : (x y : ℕ) (xs : List ℕ) (b : Bool) → (x == y) ≡ b → is_among x (y ∷ xs) ≡ false →
    (is_among x xs ≡ false → times x xs ≡ 0) → times x (y ∷ xs) ≡ 0
unfolding times
among_step x y xs true e k rest = absurd (true≢false (sym (ap (λ (t : Bool). t || is_among x xs) e) ∙ k))
among_step x y xs false e k rest =
    let none : times x xs ≡ 0 = rest (sym (ap (λ (t : Bool). t || is_among x xs) e) ∙ k) in
    rw e (omega (arith, none))

not_among : (x : ℕ) (xs : List ℕ) → is_among x xs ≡ false → times x xs ≡ 0
unfolding times
not_among x [] h = refl
not_among x (y ∷ xs) h = among_step x y xs (x == y) refl h (not_among x xs)

is_false : (b : Bool) → not b ≡ true → b ≡ false
is_false true h = absurd (true≢false (sym h))
is_false false h = refl

same_number : (x y : ℕ) → (x == y) ≡ true → x ≡ y
same_number x y e = grind (arith, nat_tests)

distinct_step : (x y : ℕ) (xs : List ℕ) (b : Bool) → (x == y) ≡ b → is_among y xs ≡ false → times x xs ≤ 1 →
    times x (y ∷ xs) ≤ 1
unfolding times
distinct_step x y xs true e fresh rest =
    let here : times x xs ≡ 0 = ap (λ (t : ℕ). times t xs) (same_number x y e) ∙ not_among y xs fresh in
    rw e (omega (arith, here))
distinct_step x y xs false e fresh rest = rw e (omega (arith, rest))

pub distinct_pass : (x : ℕ) (xs : List ℕ) → are_distinct xs ≡ true → times x xs ≤ 1
unfolding are_distinct times
distinct_pass x [] h = omega arith
distinct_pass x (y ∷ xs) h = distinct_step x y xs (x == y) refl (is_false _ (both_first _ _ h))
    (distinct_pass x xs (both_second _ _ h))

-- all tests together
pub forest_passes : (forest : Forest) → children_first 0 forest.nodes ≡ true → are_distinct (placed forest) ≡ true →
    AllClasses forest.nodes (joined forest.files)
    → length forest.nodes < 2 ^ 32 → length forest.files ≤ 16 → IsForest forest
forest_passes forest c d k f n =
    record {
      children_first = children_pass 0 forest.nodes c;
      one_place = λ x. distinct_pass x
          (placed forest) d;
      classes = k;
      fits = f;
      few = n;
    }

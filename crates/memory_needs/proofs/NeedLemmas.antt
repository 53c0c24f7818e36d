-- Sums and greatest numbers, as code finds them.
use Rattle.std.proofs.Common.{◌≡◌, ℕ, ◌+◌, List, [], ◌∷◌, ◌++◌, refl, arith}
use Rattle.scj_tree.specs.Heights.{highest}
use Rattle.scj_tree.specs.Recursion.{lookup}
use Rattle.scj_rules.specs.declared.views.Body.{Body}
use Rattle.scj_rules.specs.declared.views.Body.TheVariants.{Written, Empty}
use Rattle.memory_needs.specs.Need.{greatest, sum_of}
use Rattle.memory_needs.specs.Edges.{written_nodes}
use Rattle.memory_needs.specs.Solved.{reported_by}

pub sum_both : (f : ℕ → ℕ) (xs ys : List ℕ) → sum_of f (xs ++ ys) ≡ sum_of f xs + sum_of f ys
unfolding sum_of
sum_both f [] ys = omega arith
sum_both f (x ∷ xs) ys = let e = sum_both f xs ys in omega (arith, e)

pub highest_written : (rows : List ℕ) (bodies : List Body) →
    highest (lookup 0 rows) (written_nodes bodies) ≡ greatest (reported_by rows) bodies
unfolding highest written_nodes greatest reported_by
highest_written rows [] = refl
highest_written rows (Written node ∷ bodies) = let e = highest_written rows bodies in omega (arith, e)
highest_written rows (Empty ∷ bodies) = let e = highest_written rows bodies in omega (arith, e)

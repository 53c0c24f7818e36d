-- Lists of vertices of bodies.
use Rattle.std.proofs.Common.{◌≡◌, ℕ, List, [], ◌∷◌, ◌++◌, refl, sym, ◌∙◌, ap, append_assoc}
use Rattle.scj_model.specs.Code.{Code}
use Rattle.memory_needs.specs.Edges.{runs_here, runs_entered, parts_of, count, vertex_behind, vertices_behind, edges_of_node}

vertices_both : (n : ℕ) (xs ys : List ℕ) → vertices_behind n (xs ++ ys) ≡ vertices_behind n xs ++ vertices_behind n ys
unfolding vertices_behind
vertices_both n [] ys = refl
vertices_both n (x ∷ xs) ys =
    ap (λ ns. vertex_behind n x ++ ns) (vertices_both n xs ys)
    ∙ sym (append_assoc (vertex_behind n x) (vertices_behind n xs) (vertices_behind n ys))

pub edges_are : (code : Code) (id : ℕ) (here entered row : List ℕ) → here ≡ runs_here code id →
    entered ≡ runs_entered code id →
    row ≡ (([] ++ parts_of code id) ++ vertices_behind (count code) here) ++ vertices_behind (count code) entered →
    row ≡ edges_of_node code id
edges_are code id here entered row a b e =
    e
    ∙ (append_assoc (parts_of code id) (vertices_behind (count code) here) (vertices_behind (count code) entered)
    ∙ ap (λ ns. parts_of code id ++ ns)
    (ap (λ ns. vertices_behind (count code) ns ++ vertices_behind (count code) entered) a
    ∙ (ap (λ ns. vertices_behind (count code) (runs_here code id) ++ vertices_behind (count code) ns) b
    ∙ sym (vertices_both (count code) (runs_here code id) (runs_entered code id)))))

-- Paths in graphs: one after the other, and the first edge of one.
use Rattle.std.specs.Prelude.{◌⊎◌, Contains}
use Rattle.std.proofs.Common.{◌≡◌, ℕ, refl, subst, inl, inr, sym}
use Rattle.directed_graphs.specs.Graphs.{Graph, successors, IsReached, start, along, LeadsToItself}

pub reached_then : (graph : Graph) (u v w : ℕ) → IsReached graph u v → IsReached graph v w → IsReached graph u w
reached_then graph u v _ a start = a
reached_then graph u v _ a (along x w b e) = along x w (reached_then graph u v x a b) e

pub first_edge : (graph : Graph) (u v : ℕ) → IsReached graph u v →
    (u ≡ v) ⊎ ((x : ℕ) × Contains (successors graph u) x × IsReached graph x v)
first_edge graph u _ start = inl refl
first_edge graph u _ (along x v a e) = of (first_edge graph u x a)
  where
    of : (u ≡ x) ⊎ ((y : ℕ) × Contains (successors graph u) y × IsReached graph y x) →
        (u ≡ v) ⊎ ((y : ℕ) × Contains (successors graph u) y × IsReached graph y v)
    of (inl same) = inr (v, subst (λ z. Contains (successors graph z) v) (sym same) e, start)
    of (inr h) = inr (h.0, h.1, along x v h.2 e)

-- by an edge on the way there and back
pub leads_back : (graph : Graph) (u a b : ℕ) → IsReached graph u a → Contains (successors graph a) b →
    IsReached graph b u → LeadsToItself graph u
leads_back graph u a b there edge back = of (first_edge graph u a there)
  where
    of : (u ≡ a) ⊎ ((x : ℕ) × Contains (successors graph u) x × IsReached graph x a) → LeadsToItself graph u
    of (inl same) = record { next = b; edge = subst (λ z. Contains (successors graph z) b) (sym same) edge; back = back }
    of (inr h) = record { next = h.0; edge = h.1; back = reached_then graph h.0 b u (along a b h.2 edge) back }

-- what is closed under edges has all that is reached from it
pub stays_in : (graph : Graph) (Is : ℕ → Type 0) →
    ((v w : ℕ) → Is v → Contains (successors graph v) w → Is w) → (u v : ℕ) → IsReached graph u v → Is u → Is v
stays_in graph Is closed u _ start h = h
stays_in graph Is closed u _ (along x v a e) h = closed x v (stays_in graph Is closed u x a h) e

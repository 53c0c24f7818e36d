-- The walk at its beginning and at its end.
use Rattle.std.specs.Prelude.{Contains, slice_get, slice_index_or, replicate}
use Rattle.std.proofs.Common.{◌≡◌, ℕ, zero, suc, ◌<◌, List, [], ◌∷◌, length, false, refl, ap, arith}
use Rattle.std.proofs.lemmas.List.{length-replicate}
use Rattle.directed_graphs.specs.declared.order.Group.{Group}
use Rattle.directed_graphs.specs.declared.order.Mark.{Mark}
use Rattle.directed_graphs.specs.declared.order.Mark.TheVariants.{Unseen, OnPath, Done}
use Rattle.directed_graphs.specs.Graphs.{Graph, AreInOrder}
use Rattle.directed_graphs.specs.Walks.{Walk, level, group_of, mark_of, IsWalkBut, IsWalk, Follows}

-- ---- at first

unfoldable pub at_first : ℕ → Walk
at_first n = record {
  marks = replicate n Unseen;
  path = [];
  edges = [];
  groups = [];
  order = [];
  loops = replicate n false;
}

all_unseen : (n v : ℕ) → slice_index_or (replicate n Unseen) v Unseen ≡ Unseen
all_unseen zero v = refl
all_unseen (suc n) zero = refl
all_unseen (suc n) (suc v) = all_unseen n v

pub first_walks : (graph : Graph) → IsWalk graph (at_first (length graph))
unfolding at_first
first_walks graph = record {
  groups = record {
    rise = λ a b g h p q l. absurd (cc (p));
    within = λ a g p. absurd (cc (p));
    first = λ i l. absurd (omega (arith, l));
  };
  marks = record {
    marked = length-replicate (length graph) Unseen;
    on_path = λ v k e. absurd (let a = all_unseen (length graph) v in cc (a, e));
    has_mark = λ k l. absurd (omega (arith, l));
    done = λ v e. absurd (let a = all_unseen (length graph) v in cc (a, e));
    is_done = λ v c. absurd (let l = c.1 in omega (arith, l));
  };
  edges = record {
    reach = λ i j p q l. absurd (omega (arith, p));
    left = λ e l. absurd (omega (arith, l));
    followed = λ i w l c. absurd (omega (arith, l));
  };
  reported = record { loop = λ a g p q. absurd (cc (p)); alone = λ a g p q. absurd (cc (p)) };
  done = record {
    whole = length-replicate (length graph) false;
    closed = λ v w c e. absurd (let l = c.1 in omega (arith, l));
    exact = λ v c. absurd (let l = c.1 in omega (arith, l));
    behind = λ k w l unreported e. absurd (omega (arith, l));
  };
}

-- ---- where no group is on the path

module _ (graph : Graph) (m : Walk) (walk : IsWalk graph m) (none : m.groups ≡ []) where
  pub path_is_empty : (i : ℕ) → i < length m.path → ⊥
  unfolding level
  path_is_empty i l =
      let a = walk.groups.first i l in
      let b : group_of m i ≡ 0 = ap (λ (gs : List Group). level (λ (g : Group). g.vertex) gs i) none in
      omega (arith, a, b)

  -- then any vertex may be entered
  pub may_enter : (w : ℕ) → IsWalkBut graph m (Follows m w)
  may_enter w = record {
    groups = walk.groups;
    marks = walk.marks;
    edges = record {
      reach = walk.edges.reach;
      left = walk.edges.left;
      followed = λ i x l c. absurd (path_is_empty i l);
    };
    reported = record {
      loop = walk.reported.loop;
      alone = λ a g p q. absurd (let e = ap (λ (gs : List Group). slice_get gs a) none in cc (e, p));
    };
    done = walk.done;
  }

  within : (xs : List Mark) (v : ℕ) → slice_index_or xs v Unseen ≡ Done → v < length xs
  within [] v e = absurd (cc (e))
  within (x ∷ xs) zero e = omega arith
  within (x ∷ xs) (suc v) e = let l = within xs v e in omega (arith, l)

  -- and where each vertex has been seen, all has been found
  pub all_in_order : ((v : ℕ) → v < length graph → mark_of m v ≡ Unseen → ⊥) → AreInOrder graph m.order m.loops
  all_in_order seen = record {
    whole = walk.done.whole;
    all = all;
    are = λ v c. (let a = within m.marks v (walk.marks.is_done v c) in let b = walk.marks.marked in omega (arith, a, b));
    exact = λ v l. walk.done.exact v (all v l);
    behind = walk.done.behind;
  }
    where
      all : (v : ℕ) → v < length graph → Contains m.order v
      all v l = of (mark_of m v) refl
        where
          of : (x : Mark) → mark_of m v ≡ x → Contains m.order v
          of Unseen e = absurd (seen v l e)
          of (OnPath k) e = absurd (path_is_empty k (walk.marks.on_path v k e).0)
          of Done e = walk.marks.done v e

-- The vertices of a group are listed one after the other.
use Rattle.std.specs.Prelude.{All, slice_set, slice_index_or, take}
use Rattle.std.proofs.Common.{◌≡◌, ℕ, zero, suc, ◌+◌, ◌<◌, ◌≤◌, List, [], ◌∷◌, ◌++◌, length, false, refl, sym, ◌∙◌, ap, arith, append_assoc, append-nil}
use Rattle.std.proofs.lemmas.List.{length-take-le, take_all, take_more}
use Rattle.std.proofs.lemmas.List.Elements.{All-get_or}
use Rattle.directed_graphs.specs.declared.order.Group.{Group}
use Rattle.directed_graphs.specs.declared.order.Mark.TheVariants.{Unseen, Done}
use Rattle.directed_graphs.specs.Graphs.{at}
use Rattle.directed_graphs.specs.Walks.{Walk, AreSet, IsClosed}
use Rattle.directed_graphs.proofs.OrderSteps.{set_none, set_more}

-- those before a place of the path are listed
pub record IsEmptying (group : Group) (m now : Walk) (index : ℕ) : Type 0 where
  pub list : List ℕ
  pub from : group.vertex ≤ index
  pub is : take index m.path ≡ take group.vertex m.path ++ list
  pub marked : AreSet Unseen Done list m.marks now.marks
  pub reported : AreSet false group.loops list m.loops now.loops
  pub path : now.path ≡ m.path
  pub edges : now.edges ≡ m.edges
  pub groups : now.groups ≡ m.groups
  pub order : now.order ≡ m.order ++ list

pub emptying_none : (group : Group) (m : Walk) → IsEmptying group m m group.vertex
emptying_none group m = record {
  list = [];
  from = omega arith;
  is = sym (append-nil (take group.vertex m.path));
  marked = set_none Unseen Done m.marks;
  reported = set_none false group.loops m.loops;
  path = refl;
  edges = refl;
  groups = refl;
  order = sym (append-nil m.order);
}

pub emptying_more : (group : Group) (m now : Walk) (index v : ℕ) → IsEmptying group m now index →
    index < length m.path → v ≡ at m.path index → v < length now.marks → v < length now.loops → (order : List ℕ) →
    order ≡ now.order ++ v ∷ [] →
    IsEmptying group m
    (record now { marks = slice_set now.marks v Done; loops = slice_set now.loops v group.loops; order = order })
    (index + 1)
emptying_more group m now index v h l e a b order is = record {
  list = h.list ++ v ∷ [];
  from = let f = h.from in omega (arith, f);
  is =
      take_more m.path index 0 l
      ∙ (ap (λ xs. xs ++ at m.path index ∷ []) h.is
      ∙ (append_assoc (take group.vertex m.path) h.list (at m.path index ∷ [])
      ∙ ap (λ u. take group.vertex m.path ++ (h.list ++ u ∷ [])) (sym e)));
  marked = set_more Unseen Done h.list m.marks now.marks v h.marked a;
  reported = set_more false group.loops h.list m.loops now.loops v h.reported b;
  path = h.path;
  edges = h.edges;
  groups = h.groups;
  order = is ∙ (ap (λ xs. xs ++ v ∷ []) h.order ∙ append_assoc m.order h.list (v ∷ []));
}

-- the vertex at a place, as code reads it
pub emptied_at : (group : Group) (m now : Walk) (index v : ℕ) → IsEmptying group m now index →
    index < length m.path → v ≡ slice_index_or now.path index v → v ≡ at m.path index
emptied_at group m now index v h l e =
    e ∙ (ap (λ xs. slice_index_or xs index v) h.path ∙ default m.path index v l)
  where
    default : (xs : List ℕ) (k d : ℕ) → k < length xs → slice_index_or xs k d ≡ at xs k
    default [] k d l = absurd (omega (arith, l))
    default (x ∷ xs) zero d l = refl
    default (x ∷ xs) (suc k) d l = default xs k d (omega (arith, l))

-- it is a vertex
pub emptied_vertex : (group : Group) (m now : Walk) (index v : ℕ) → IsEmptying group m now index →
    All (λ w. w < length m.marks) m.path → index < length m.path → v ≡ slice_index_or now.path index v →
    v < length now.marks
emptied_vertex group m now index v h all l e =
    let a = All-get_or (λ w. w < length m.marks) m.path index 0 l all in
    let b = emptied_at group m now index v h l e in
    let c = h.marked.whole in omega (arith, a, b, c)

pub emptied_reported : (group : Group) (m now : Walk) (index v : ℕ) → IsEmptying group m now index →
    length m.loops ≡ length m.marks → v < length now.marks → v < length now.loops
emptied_reported group m now index v h e l =
    let a = h.marked.whole in let b = h.reported.whole in omega (arith, e, l, a, b)

pub emptying_all : (group : Group) (m now : Walk) (index : ℕ) → IsEmptying group m now index →
    length m.path ≤ index → group.vertex ≤ length m.path → (path : List ℕ) → path ≡ take group.vertex now.path →
    IsClosed group m (record now { path = path })
emptying_all group m now index h l k path is = record {
  low = take group.vertex m.path;
  high = h.list;
  split = sym (take_all index m.path l) ∙ h.is;
  begins = length-take-le group.vertex m.path k;
  marked = h.marked;
  reported = h.reported;
  path = is ∙ ap (λ xs. take group.vertex xs) h.path;
  edges = h.edges;
  groups = h.groups;
  order = h.order;
}

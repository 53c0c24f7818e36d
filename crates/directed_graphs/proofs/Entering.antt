-- A vertex that hasn't been seen is entered: it becomes the last group, with all its edges to be followed.
use Rattle.std.specs.Prelude.{◌⊎◌, Contains, slice_get, slice_set, slice_index_or, nat_lt, Some}
use Rattle.std.proofs.Common.{◌≡◌, ℕ, ◌+◌, ◌-◌, ◌<◌, ◌≤◌, [], ◌∷◌, ◌++◌, length, Bool, true, false, refl, sym, ◌∙◌, ap, subst, arith, inl, inr, ⊎_elim, length-append}
use Rattle.std.proofs.lemmas.Bool.{cases_eq}
use Rattle.std.proofs.lemmas.Bool.Decides.{nat_tests}
use Rattle.std.proofs.lemmas.List.{length-set, get_or-set_same, get_or-set_other, get_or_append_left, get_or-append-add, get_or_push}
use Rattle.directed_graphs.specs.declared.order.Group.{Group}
use Rattle.directed_graphs.specs.declared.order.Mark.{Mark}
use Rattle.directed_graphs.specs.declared.order.Mark.TheVariants.{Unseen, OnPath, Done}
use Rattle.directed_graphs.specs.Graphs.{Graph, successors, IsReached, start, at}
use Rattle.directed_graphs.specs.Walks.{Walk, group_of, group_of_edge, AreGroups, mark_of, AreMarked, IsLeft, StandsFrom, HasEdgeInside, IsAlone, AreReported, IsWalkBut, IsWalk, Follows, entering, entered}
use Rattle.directed_graphs.proofs.Closed.{any_default}
use Rattle.directed_graphs.proofs.Levels.{get_pushed, level_few, level_last, level_under}

module _ (graph : Graph) (m : Walk) (w : ℕ) (walk : IsWalkBut graph m (Follows m w)) (vertex : w < length graph)
    (unseen : mark_of m w ≡ Unseen) (reachable : (i : ℕ) → i < length m.path → IsReached graph (at m.path i) w) where
  abbrev after : Walk
  after = entered graph m w

  abbrev last : ℕ
  last = length m.groups + 1

  longer : length (m.path ++ w ∷ []) ≡ length m.path + 1
  longer = length-append m.path (w ∷ [])

  more_edges : length (m.edges ++ successors graph w) ≡ length m.edges + length (successors graph w)
  more_edges = length-append m.edges (successors graph w)

  more_groups : length (m.groups ++ entering m ∷ []) ≡ length m.groups + 1
  more_groups = length-append m.groups (entering m ∷ [])

  -- ---- where things stand

  of_old : (i : ℕ) → i < length m.path → group_of (entered graph m w) i ≡ group_of m i
  of_old i l = level_under (λ (g : Group). g.vertex) m.groups (entering m) i l

  of_new : group_of (entered graph m w) (length m.path) ≡ length m.groups + 1
  of_new =
      level_last (λ (g : Group). g.vertex) m.groups (entering m) (length m.path)
      (λ k g e. let l = (walk.groups.within k g e).0 in omega (arith, l)) (omega arith)

  old_edge : (e : ℕ) → e < length m.edges → group_of_edge (entered graph m w) e ≡ group_of_edge m e
  old_edge e l = level_under (λ (g : Group). g.edge) m.groups (entering m) e l

  new_edge : (e : ℕ) → length m.edges ≤ e → group_of_edge (entered graph m w) e ≡ length m.groups + 1
  new_edge e l =
      level_last (λ (g : Group). g.edge) m.groups (entering m) e
      (λ k g q. let n = (walk.groups.within k g q).1 in omega (arith, n, l)) l

  few : (i : ℕ) → group_of m i ≤ length m.groups
  few i = level_few (λ (g : Group). g.vertex) m.groups i

  place : (i : ℕ) → i < length (m.path ++ w ∷ []) → (i < length m.path) ⊎ (i ≡ length m.path)
  place i l = of (nat_lt i (length m.path)) refl
    where
      of : (b : Bool) → nat_lt i (length m.path) ≡ b → (i < length m.path) ⊎ (i ≡ length m.path)
      of true e = inl (grind (arith, nat_tests))
      of false e = let n = longer in inr (grind (arith, nat_tests, n, l))

  at_old : (i : ℕ) → i < length m.path → at (m.path ++ w ∷ []) i ≡ at m.path i
  at_old i l = get_or_append_left m.path (w ∷ []) 0 i l

  at_new : at (m.path ++ w ∷ []) (length m.path) ≡ w
  at_new = get_or_push m.path w 0 (length m.path) refl

  at_old_edge : (e : ℕ) → e < length m.edges → at (m.edges ++ successors graph w) e ≡ at m.edges e
  at_old_edge e l = get_or_append_left m.edges (successors graph w) 0 e l

  -- the place on the path as it was, or the new one
  by_place : (P : ℕ → Type 0) → ((i : ℕ) → i < length m.path → P i) → P (length m.path) →
      (i : ℕ) → i < length (m.path ++ w ∷ []) → P i
  by_place P old new i l = ⊎_elim (λ h. old i h) (λ e. subst P (sym e) new) (place i l)

  -- ---- groups

  groups : AreGroups (entered graph m w)
  groups = record { rise = rise; within = within; first = first }
    where
      rise : (a b : ℕ) (g h : Group) → slice_get (m.groups ++ entering m ∷ []) a ≡ Some g →
          slice_get (m.groups ++ entering m ∷ []) b ≡ Some h → a < b → (g.vertex < h.vertex) × (g.edge ≤ h.edge)
      rise a b g h p q l = of (get_pushed m.groups (entering m) g a p) (get_pushed m.groups (entering m) h b q)
        where
          of : ((slice_get m.groups a ≡ Some g) × (a < length m.groups)) ⊎ ((a ≡ length m.groups) × (entering m ≡ g)) →
              ((slice_get m.groups b ≡ Some h) × (b < length m.groups)) ⊎ ((b ≡ length m.groups) × (entering m ≡ h)) →
              (g.vertex < h.vertex) × (g.edge ≤ h.edge)
          of (inl x) (inl y) = walk.groups.rise a b g h x.0 y.0 l
          of (inl x) (inr y) =
              subst (λ (z : Group). (g.vertex < z.vertex) × (g.edge ≤ z.edge)) y.1 (walk.groups.within a g x.0)
          of (inr x) (inl y) = absurd (let i = x.0 in let n = y.1 in omega (arith, i, n, l))
          of (inr x) (inr y) = absurd (let i = x.0 in let n = y.0 in omega (arith, i, n, l))

      within : (a : ℕ) (g : Group) → slice_get (m.groups ++ entering m ∷ []) a ≡ Some g →
          (g.vertex < length (m.path ++ w ∷ [])) × (g.edge ≤ length (m.edges ++ successors graph w))
      within a g p = of (get_pushed m.groups (entering m) g a p)
        where
          of : ((slice_get m.groups a ≡ Some g) × (a < length m.groups)) ⊎ ((a ≡ length m.groups) × (entering m ≡ g)) →
              (g.vertex < length (m.path ++ w ∷ [])) × (g.edge ≤ length (m.edges ++ successors graph w))
          of (inl x) =
              let n = walk.groups.within a g x.0 in
              (let c = n.0 in omega (arith, c, longer), let c = n.1 in omega (arith, c, more_edges))
          of (inr x) =
              subst (λ (z : Group). (z.vertex < length (m.path ++ w ∷ [])) ×
              (z.edge ≤ length (m.edges ++ successors graph w))) x.1 (omega (arith, longer), omega (arith, more_edges))

      first : (i : ℕ) → i < length (m.path ++ w ∷ []) → 0 < group_of (entered graph m w) i
      first i l =
          by_place (λ j. 0 < group_of (entered graph m w) j)
          (λ j n. let a = of_old j n in let b = walk.groups.first j n in omega (arith, a, b))
          (let a = of_new in omega (arith, a)) i l

  -- ---- marks

  marks : AreMarked graph (entered graph m w)
  marks = record {
    marked = length-set m.marks w (OnPath (length m.path)) ∙ walk.marks.marked;
    on_path = λ v k e. on_path v k e (cases_eq v w);
    has_mark = has_mark;
    done = λ v e. walk.marks.done v (was v Done (λ q. cc (q)) e (cases_eq v w));
    is_done = λ v c. kept v Done (λ q. cc (q)) (walk.marks.is_done v c) (cases_eq v w);
  }
    where
      within : w < length m.marks
      within = let a = walk.marks.marked in omega (arith, a, vertex)

      new_mark : slice_index_or (slice_set m.marks w (OnPath (length m.path))) w Unseen ≡ OnPath (length m.path)
      new_mark = get_or-set_same m.marks w (OnPath (length m.path)) Unseen within

      old_mark : (v : ℕ) → (v ≡ w → ⊥) →
          slice_index_or (slice_set m.marks w (OnPath (length m.path))) v Unseen ≡ mark_of m v
      old_mark v n = get_or-set_other m.marks w v (OnPath (length m.path)) Unseen n

      -- a mark that is none of the path's is as it was
      was : (v : ℕ) (x : Mark) → (x ≡ OnPath (length m.path) → ⊥) →
          slice_index_or (slice_set m.marks w (OnPath (length m.path))) v Unseen ≡ x → (v ≡ w) ⊎ (v ≡ w → ⊥) →
          mark_of m v ≡ x
      was v x other e (inl same) =
          absurd (other (sym e ∙ (ap (λ u. slice_index_or (slice_set m.marks w (OnPath (length m.path))) u Unseen) same ∙ new_mark)))
      was v x other e (inr n) = sym (old_mark v n) ∙ e

      kept : (v : ℕ) (x : Mark) → (x ≡ Unseen → ⊥) → mark_of m v ≡ x → (v ≡ w) ⊎ (v ≡ w → ⊥) →
          slice_index_or (slice_set m.marks w (OnPath (length m.path))) v Unseen ≡ x
      kept v x other e (inl same) = absurd (other (sym e ∙ (ap (mark_of m) same ∙ unseen)))
      kept v x other e (inr n) = old_mark v n ∙ e

      index_in : Mark → ℕ
      index_in (OnPath k) = k
      index_in Unseen = 0
      index_in Done = 0

      on_path : (v k : ℕ) → slice_index_or (slice_set m.marks w (OnPath (length m.path))) v Unseen ≡ OnPath k →
          (v ≡ w) ⊎ (v ≡ w → ⊥) → (k < length (m.path ++ w ∷ [])) × (at (m.path ++ w ∷ []) k ≡ v)
      on_path v k e (inl same) =
          let q : length m.path ≡ k =
          ap index_in (sym new_mark
          ∙ (sym (ap (λ u. slice_index_or (slice_set m.marks w (OnPath (length m.path))) u Unseen) same) ∙ e)) in
          subst (λ j. (j < length (m.path ++ w ∷ [])) × (at (m.path ++ w ∷ []) j ≡ v)) q
          (omega (arith, longer), at_new ∙ sym same)
      on_path v k e (inr n) =
          let h = walk.marks.on_path v k (sym (old_mark v n) ∙ e) in
          (let l = h.0 in omega (arith, l, longer), at_old k h.0 ∙ h.1)

      has_mark : (k : ℕ) → k < length (m.path ++ w ∷ []) →
          slice_index_or (slice_set m.marks w (OnPath (length m.path))) (at (m.path ++ w ∷ []) k) Unseen ≡ OnPath k
      has_mark k l =
          by_place (λ j. slice_index_or (slice_set m.marks w (OnPath (length m.path))) (at (m.path ++ w ∷ []) j) Unseen
          ≡ OnPath j)
          (λ j n. ap (λ u. slice_index_or (slice_set m.marks w (OnPath (length m.path))) u Unseen) (at_old j n)
          ∙ kept (at m.path j) (OnPath j) (λ q. cc (q)) (walk.marks.has_mark j n) (cases_eq (at m.path j) w))
          (ap (λ u. slice_index_or (slice_set m.marks w (OnPath (length m.path))) u Unseen) at_new ∙ new_mark) k l

  -- ---- edges

  -- an edge that was left is left
  left_still : (group x : ℕ) → IsLeft m group x → IsLeft (entered graph m w) group x
  left_still group x h = record {
    edge = h.edge;
    within = let l = h.within in omega (arith, l, more_edges);
    is = at_old_edge h.edge h.within ∙ h.is;
    of_group = old_edge h.edge h.within ∙ h.of_group;
  }

  -- those of the new vertex are all left
  left_new : (x : ℕ) → Contains (successors graph w) x → IsLeft (entered graph m w) (length m.groups + 1) x
  left_new x c = record {
    edge = length m.edges + c.0;
    within = let l = c.1 in omega (arith, l, more_edges);
    is = get_or-append-add m.edges (successors graph w) c.0 0 ∙ (any_default (successors graph w) c.0 0 x c.1 ∙ c.2);
    of_group = new_edge (length m.edges + c.0) (omega arith);
  }

  stands_still : (group x : ℕ) → StandsFrom m group x → StandsFrom (entered graph m w) group x
  stands_still group x h = record {
    index = h.index;
    within = let l = h.within in omega (arith, l, longer);
    is = at_old h.index h.within ∙ h.is;
    from = let a = of_old h.index h.within in let f = h.from in omega (arith, a, f);
  }

  stands_new : (group : ℕ) → group ≤ length m.groups + 1 → StandsFrom (entered graph m w) group w
  stands_new group l = record {
    index = length m.path;
    within = omega (arith, longer);
    is = at_new;
    from = let a = of_new in omega (arith, a, l);
  }

  reach : (i j : ℕ) → i < length (m.path ++ w ∷ []) → j < length (m.path ++ w ∷ []) →
      group_of (entered graph m w) i ≤ group_of (entered graph m w) j →
      IsReached graph (at (m.path ++ w ∷ []) i) (at (m.path ++ w ∷ []) j)
  reach i j p q l = of (place i p) (place j q)
    where
      of : (i < length m.path) ⊎ (i ≡ length m.path) → (j < length m.path) ⊎ (j ≡ length m.path) →
          IsReached graph (at (m.path ++ w ∷ []) i) (at (m.path ++ w ∷ []) j)
      of (inl a) (inl b) =
          subst (λ u. IsReached graph u (at (m.path ++ w ∷ []) j)) (sym (at_old i a))
          (subst (IsReached graph (at m.path i)) (sym (at_old j b))
          (walk.edges.reach i j a b (let x = of_old i a in let y = of_old j b in omega (arith, x, y, l))))
      of (inl a) (inr b) =
          subst (λ u. IsReached graph u (at (m.path ++ w ∷ []) j)) (sym (at_old i a))
          (subst (IsReached graph (at m.path i)) (sym (ap (at (m.path ++ w ∷ [])) b ∙ at_new)) (reachable i a))
      of (inr a) (inl b) =
          absurd (let x = ap (group_of (entered graph m w)) a ∙ of_new in let y = of_old j b in let z = few j in
          omega (arith, x, y, z, l))
      of (inr a) (inr b) =
          subst (λ u. IsReached graph u (at (m.path ++ w ∷ []) j)) (ap (at (m.path ++ w ∷ [])) (b ∙ sym a)) start

  left : (e : ℕ) → e < length (m.edges ++ successors graph w) →
      (i : ℕ) × (i < length (m.path ++ w ∷ [])) × (group_of (entered graph m w) i ≡ group_of_edge (entered graph m w) e)
      × Contains (successors graph (at (m.path ++ w ∷ []) i)) (at (m.edges ++ successors graph w) e)
  left e l = of (nat_lt e (length m.edges)) refl
    where
      of : (b : Bool) → nat_lt e (length m.edges) ≡ b →
          (i : ℕ) × (i < length (m.path ++ w ∷ [])) × (group_of (entered graph m w) i ≡ group_of_edge (entered graph m w) e)
          × Contains (successors graph (at (m.path ++ w ∷ []) i)) (at (m.edges ++ successors graph w) e)
      of true t =
          let n : e < length m.edges = grind (arith, nat_tests) in
          let h = walk.edges.left e n in (
            h.0,
            let k = h.1 in omega (arith, k, longer),
            of_old h.0 h.1 ∙ (h.2 ∙ sym (old_edge e n)),
            subst (λ u. Contains (successors graph u) (at (m.edges ++ successors graph w) e)) (sym (at_old h.0 h.1))
                (subst (Contains (successors graph (at m.path h.0))) (sym (at_old_edge e n)) h.3),
          )
      of false t =
          let n : length m.edges ≤ e = grind (arith, nat_tests) in
          let back : length m.edges + (e - length m.edges) ≡ e = omega (arith, n) in
          let k : e - length m.edges < length (successors graph w) = omega (arith, n, l, more_edges) in
          let is : at (m.edges ++ successors graph w) e ≡ at (successors graph w) (e - length m.edges) =
          sym (ap (at (m.edges ++ successors graph w)) back)
          ∙ get_or-append-add m.edges (successors graph w) (e - length m.edges) 0 in (
            length m.path,
            omega (arith, longer),
            of_new ∙ sym (new_edge e n),
            subst (λ u. Contains (successors graph u) (at (m.edges ++ successors graph w) e)) (sym at_new) (
              e - length m.edges,
              k,
              any_default (successors graph w) (e - length m.edges) (at (m.edges ++ successors graph w) e) 0 k ∙ sym is,
            ),
          )

  followed : (i x : ℕ) → i < length (m.path ++ w ∷ []) →
      Contains (successors graph (at (m.path ++ w ∷ []) i)) x →
      IsLeft (entered graph m w) (group_of (entered graph m w) i) x
      ⊎ (Contains m.order x ⊎ (StandsFrom (entered graph m w) (group_of (entered graph m w) i) x ⊎ ⊥))
  followed i x l c = of (place i l)
    where
      Result : ℕ → Type 0
      Result group =
          IsLeft (entered graph m w) group x
          ⊎ (Contains m.order x ⊎ (StandsFrom (entered graph m w) group x ⊎ ⊥))

      old : (group : ℕ) → group ≤ length m.groups →
          IsLeft m group x ⊎ (Contains m.order x ⊎ (StandsFrom m group x ⊎ Follows m w group x)) → Result group
      old group n (inl h) = inl (left_still group x h)
      old group n (inr (inl h)) = inr (inl h)
      old group n (inr (inr (inl h))) = inr (inr (inl (stands_still group x h)))
      old group n (inr (inr (inr h))) =
          inr (inr (inl (subst (StandsFrom (entered graph m w) group) (sym h.1) (stands_new group (omega (arith, n))))))

      of : (i < length m.path) ⊎ (i ≡ length m.path) → Result (group_of (entered graph m w) i)
      of (inl a) =
          subst Result (sym (of_old i a))
          (old (group_of m i) (few i)
          (walk.edges.followed i x a (subst (λ u. Contains (successors graph u) x) (at_old i a) c)))
      of (inr b) =
          subst Result (sym (ap (group_of (entered graph m w)) b ∙ of_new))
          (inl (left_new x (subst (λ u. Contains (successors graph u) x) (ap (at (m.path ++ w ∷ [])) b ∙ at_new) c)))

  -- ---- the marks of groups

  inside_still : (group : ℕ) → HasEdgeInside graph m group → HasEdgeInside graph (entered graph m w) group
  inside_still group h = record {
    from = h.from;
    to = h.to;
    from_within = let l = h.from_within in omega (arith, l, longer);
    to_within = let l = h.to_within in omega (arith, l, longer);
    from_group = of_old h.from h.from_within ∙ h.from_group;
    to_group = of_old h.to h.to_within ∙ h.to_group;
    edge = subst (λ u. Contains (successors graph u) (at (m.path ++ w ∷ []) h.to)) (sym (at_old h.from h.from_within))
        (subst (Contains (successors graph (at m.path h.from))) (sym (at_old h.to h.to_within)) h.edge);
  }

  -- a place of an old group is an old place
  is_old : (i group : ℕ) → i < length (m.path ++ w ∷ []) → group_of (entered graph m w) i ≡ group →
      group ≤ length m.groups → (i < length m.path) × (group_of m i ≡ group)
  is_old i group l e n =
      ⊎_elim (λ h. (h, sym (of_old i h) ∙ e))
      (λ b. absurd (let x = ap (group_of (entered graph m w)) b ∙ of_new in omega (arith, x, e, n))) (place i l)

  alone_still : (group : ℕ) → group ≤ length m.groups → IsAlone graph m (Follows m w) group →
      IsAlone graph (entered graph m w) (λ group x. ⊥) group
  alone_still group n h = record {
    one = λ i j p q a b.
        (let x = is_old i group p a n in let y = is_old j group q b n in h.one i j x.0 y.0 x.1 y.1);
    no_edge = λ i p a c. no_edge i (is_old i group p a n) c;
  }
    where
      no_edge : (i : ℕ) → (i < length m.path) × (group_of m i ≡ group) →
          Contains (successors graph (at (m.path ++ w ∷ []) i)) (at (m.path ++ w ∷ []) i) →
          IsLeft (entered graph m w) group (at (m.path ++ w ∷ []) i) ⊎ ⊥
      no_edge i x c =
          subst (λ u. IsLeft (entered graph m w) group u ⊎ ⊥) (sym (at_old i x.0))
          (of (h.no_edge i x.0 x.1 (subst (λ u. Contains (successors graph u) u) (at_old i x.0) c)))
        where
          of : IsLeft m group (at m.path i) ⊎ Follows m w group (at m.path i) →
              IsLeft (entered graph m w) group (at m.path i) ⊎ ⊥
          of (inl k) = inl (left_still group (at m.path i) k)
          of (inr k) =
              absurd (let seen = walk.marks.has_mark i x.0 in let same = k.1 in
              cc (seen, ap (mark_of m) same ∙ unseen))

  reported : AreReported graph (entered graph m w) (λ group x. ⊥)
  reported = record {
    loop = λ a g p t. loop a g (get_pushed m.groups (entering m) g a p) t;
    alone = λ a g p t. alone a g (get_pushed m.groups (entering m) g a p) t;
  }
    where
      loop : (a : ℕ) (g : Group) →
          ((slice_get m.groups a ≡ Some g) × (a < length m.groups)) ⊎ ((a ≡ length m.groups) × (entering m ≡ g)) →
          g.loops ≡ true → HasEdgeInside graph (entered graph m w) (a + 1)
      loop a g (inl x) t = inside_still (a + 1) (walk.reported.loop a g x.0 t)
      loop a g (inr x) t = absurd (let e = ap (λ (z : Group). z.loops) x.1 in cc (e, t))

      new_index : (i : ℕ) → i < length (m.path ++ w ∷ []) → group_of (entered graph m w) i ≡ length m.groups + 1 →
          i ≡ length m.path
      new_index i l e =
          ⊎_elim (λ h. absurd (let a = of_old i h in let b = few i in omega (arith, a, b, e))) (λ b. b) (place i l)

      new_alone : IsAlone graph (entered graph m w) (λ group x. ⊥) (length m.groups + 1)
      new_alone = record {
        one = λ i j p q a b. new_index i p a ∙ sym (new_index j q b);
        no_edge = λ i p a c.
            (let same = ap (at (m.path ++ w ∷ [])) (new_index i p a) ∙ at_new in
            inl (left_new (at (m.path ++ w ∷ []) i)
            (subst (λ u. Contains (successors graph u) (at (m.path ++ w ∷ []) i)) same c)));
      }

      alone : (a : ℕ) (g : Group) →
          ((slice_get m.groups a ≡ Some g) × (a < length m.groups)) ⊎ ((a ≡ length m.groups) × (entering m ≡ g)) →
          g.loops ≡ false → IsAlone graph (entered graph m w) (λ group x. ⊥) (a + 1)
      alone a g (inl x) t = alone_still (a + 1) (let l = x.1 in omega (arith, l)) (walk.reported.alone a g x.0 t)
      alone a g (inr x) t =
          subst (λ n. IsAlone graph (entered graph m w) (λ group x. ⊥) (n + 1)) (sym x.0) new_alone

  -- ---- all of it

  pub entered_walks : IsWalk graph (entered graph m w)
  entered_walks = record {
    groups = groups;
    marks = marks;
    edges = record { reach = reach; left = left; followed = followed };
    reported = reported;
    done = record {
      whole = walk.done.whole;
      closed = walk.done.closed;
      exact = walk.done.exact;
      behind = walk.done.behind;
    };
  }

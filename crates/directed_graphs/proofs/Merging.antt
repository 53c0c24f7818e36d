-- An edge leads from the last group to a vertex on the path: all groups from that one's on become one group.
use Rattle.std.specs.Prelude.{◌⊎◌, Contains, slice_get, nat_lt, min, Some, if◌then◌else◌}
use Rattle.std.proofs.Common.{◌≡◌, ℕ, suc, ◌+◌, ◌<◌, ◌≤◌, List, [], ◌∷◌, ◌++◌, length, Bool, true, false, refl, sym, ◌∙◌, ap, subst, arith, inl, inr, length-append, append_assoc}
use Rattle.std.proofs.lemmas.Bool.Decides.{nat_tests}
use Rattle.directed_graphs.specs.declared.order.Group.{Group}
use Rattle.directed_graphs.specs.Graphs.{Graph, successors, IsReached, along, at}
use Rattle.directed_graphs.specs.Walks.{Walk, level, group_of, group_of_edge, AreGroups, IsLeft, StandsFrom, HasEdgeInside, IsAlone, AreReported, IsWalkBut, IsWalk, Follows, IsFollowing, marked_loop, merged}
use Rattle.directed_graphs.proofs.Levels.{get_pushed, get_left_of, get_right_of, get_last_of, get_is_within, level_none, level_both, level_few, level_all, level_first}
use Rattle.directed_graphs.proofs.Paths.{reached_then}

module _ (graph : Graph) (m : Walk) (w : ℕ) (follows : IsFollowing graph m w) (index : ℕ)
    (within : index < length m.path) (is : at m.path index ≡ w) (gs more : List Group) (g : Group)
    (split : m.groups ≡ gs ++ g ∷ more) (from : g.vertex ≤ index)
    (behind : (k : ℕ) (h : Group) → slice_get more k ≡ Some h → index < h.vertex) where
  abbrev walk : IsWalkBut graph m (Follows m w)
  walk = follows.walk

  abbrev after : Walk
  after = merged m gs g

  abbrev n : ℕ
  n = length gs + 1

  again : m.groups ≡ (gs ++ g ∷ []) ++ more
  again = split ∙ sym (append_assoc gs (g ∷ []) more)

  count : length (gs ++ g ∷ []) ≡ length gs + 1
  count = length-append gs (g ∷ [])

  total : length m.groups ≡ length gs + 1 + length more
  total =
      ap (λ (hs : List Group). length hs) again
      ∙ (length-append (gs ++ g ∷ []) more ∙ ap (λ k. k + length more) count)

  -- the groups that are kept, and those that go
  kept_at : (k : ℕ) (h : Group) → slice_get (gs ++ g ∷ []) k ≡ Some h → slice_get m.groups k ≡ Some h
  kept_at k h e =
      ap (λ (hs : List Group). slice_get hs k) again ∙ get_left_of (gs ++ g ∷ []) more k h e

  gone_at : (k : ℕ) (h : Group) → slice_get more k ≡ Some h →
      slice_get m.groups (length (gs ++ g ∷ []) + k) ≡ Some h
  gone_at k h e =
      ap (λ (hs : List Group). slice_get hs (length (gs ++ g ∷ []) + k)) again
      ∙ get_right_of (gs ++ g ∷ []) more k h e

  cross : (k j : ℕ) (x y : Group) → slice_get (gs ++ g ∷ []) k ≡ Some x → slice_get more j ≡ Some y →
      (x.vertex < y.vertex) × (x.edge ≤ y.edge)
  cross k j x y p q =
      walk.groups.rise k (length (gs ++ g ∷ []) + j) x y (kept_at k x p) (gone_at j y q)
      (let l = get_is_within (gs ++ g ∷ []) k x p in omega (arith, l))

  -- the last one begins as it did
  same_level : (begin : Group → ℕ) → begin (marked_loop g) ≡ begin g → (i : ℕ) →
      level begin (gs ++ marked_loop g ∷ []) i ≡ level begin (gs ++ g ∷ []) i
  unfolding level
  same_level begin e i =
      level_both begin gs (marked_loop g ∷ []) i
      ∙ (ap (λ b. level begin gs i + ((if nat_lt i b then 0 else 1) + 0)) e ∙ sym (level_both begin gs (g ∷ []) i))

  group_now : (i : ℕ) → group_of (merged m gs g) i ≡ min (length gs + 1) (group_of m i)
  group_now i =
      same_level (λ (h : Group). h.vertex) refl i
      ∙ (level_first (λ (h : Group). h.vertex) (gs ++ g ∷ []) more i
      (λ k j x y p q. let c = (cross k j x y p q).0 in omega (arith, c))
      ∙ (ap (λ k. min k (level (λ (h : Group). h.vertex) ((gs ++ g ∷ []) ++ more) i)) count
      ∙ ap (λ (hs : List Group). min (length gs + 1) (level (λ (h : Group). h.vertex) hs i)) (sym again)))

  edge_now : (e : ℕ) → group_of_edge (merged m gs g) e ≡ min (length gs + 1) (group_of_edge m e)
  edge_now e =
      same_level (λ (h : Group). h.edge) refl e
      ∙ (level_first (λ (h : Group). h.edge) (gs ++ g ∷ []) more e (λ k j x y p q. (cross k j x y p q).1)
      ∙ (ap (λ k. min k (level (λ (h : Group). h.edge) ((gs ++ g ∷ []) ++ more) e)) count
      ∙ ap (λ (hs : List Group). min (length gs + 1) (level (λ (h : Group). h.edge) hs e)) (sym again)))

  few : (i : ℕ) → group_of m i ≤ length m.groups
  few i = level_few (λ (h : Group). h.vertex) m.groups i

  none_of : (hs : List Group) → ((k : ℕ) (h : Group) → slice_get hs k ≡ Some h → index < h.vertex) →
      level (λ (h : Group). h.vertex) hs index ≡ 0
  unfolding level
  none_of [] b = refl
  none_of (h ∷ hs) b =
      let a = none_of hs (λ k x e. b (suc k) x e) in
      let c = level_none (λ (x : Group). x.vertex) h index (b 0 h refl) in
      let d = level_both (λ (x : Group). x.vertex) (h ∷ []) hs index in
      omega (arith, a, c, d)

  -- the vertex to which the edge leads stands in the group that is the last one now
  of_place : group_of m index ≡ length gs + 1
  of_place =
      let a = level_both (λ (h : Group). h.vertex) (gs ++ g ∷ []) more index in
      let b = level_all (λ (h : Group). h.vertex) (gs ++ g ∷ []) index upto in
      let c = none_of more behind in
      let d = ap (λ (hs : List Group). level (λ (h : Group). h.vertex) hs index) again in
      omega (arith, a, b, c, d, count)
    where
      upto : (k : ℕ) (h : Group) → slice_get (gs ++ g ∷ []) k ≡ Some h → h.vertex ≤ index
      upto k h p = of (get_pushed gs g h k p)
        where
          of : ((slice_get gs k ≡ Some h) × (k < length gs)) ⊎ ((k ≡ length gs) × (g ≡ h)) → h.vertex ≤ index
          of (inl x) =
              let r = (walk.groups.rise k (length gs) h g (kept_at k h p) (kept_at (length gs) g (get_last_of gs g)) x.1).0 in
              omega (arith, r, from)
          of (inr x) = subst (λ (y : Group). y.vertex ≤ index) x.1 from

  -- ---- groups

  groups : AreGroups (merged m gs g)
  groups = record { rise = rise; within = within_now; first = first }
    where
      -- a group that is there stood there, and began where it begins
      Was : ℕ → Group → Type 0
      Was a x = (y : Group) × (slice_get m.groups a ≡ Some y) × (x.vertex ≡ y.vertex) × (x.edge ≡ y.edge)

      was : (a : ℕ) (x : Group) → slice_get (gs ++ marked_loop g ∷ []) a ≡ Some x → Was a x
      was a x p = of (get_pushed gs (marked_loop g) x a p)
        where
          of : ((slice_get gs a ≡ Some x) × (a < length gs)) ⊎ ((a ≡ length gs) × (marked_loop g ≡ x)) → Was a x
          of (inl h) = (x, kept_at a x (get_left_of gs (g ∷ []) a x h.0), refl, refl)
          of (inr h) = (
            g,
            subst (λ k. slice_get m.groups k ≡ Some g) (sym h.0) (kept_at (length gs) g (get_last_of gs g)),
            sym (ap (λ (z : Group). z.vertex) h.1),
            sym (ap (λ (z : Group). z.edge) h.1),
          )

      rise : (a b : ℕ) (x y : Group) → slice_get (gs ++ marked_loop g ∷ []) a ≡ Some x →
          slice_get (gs ++ marked_loop g ∷ []) b ≡ Some y → a < b → (x.vertex < y.vertex) × (x.edge ≤ y.edge)
      rise a b x y p q l =
          let u = was a x p in
          let v = was b y q in
          let r = walk.groups.rise a b u.0 v.0 u.1 v.1 l in (
            let s = r.0 in let c = u.2 in let d = v.2 in omega (arith, s, c, d),
            let s = r.1 in let c = u.3 in let d = v.3 in omega (arith, s, c, d),
          )

      within_now : (a : ℕ) (x : Group) → slice_get (gs ++ marked_loop g ∷ []) a ≡ Some x →
          (x.vertex < length m.path) × (x.edge ≤ length m.edges)
      within_now a x p =
          let u = was a x p in
          let r = walk.groups.within a u.0 u.1 in
          (let s = r.0 in let c = u.2 in omega (arith, s, c), let s = r.1 in let c = u.3 in omega (arith, s, c))

      first : (i : ℕ) → i < length m.path → 0 < group_of (merged m gs g) i
      first i l = let a = group_now i in let b = walk.groups.first i l in omega (arith, a, b)

  -- ---- edges

  reach : (i j : ℕ) → i < length m.path → j < length m.path →
      group_of (merged m gs g) i ≤ group_of (merged m gs g) j → IsReached graph (at m.path i) (at m.path j)
  reach i j p q l = of (nat_lt (group_of m j) (group_of m i)) refl
    where
      a : group_of (merged m gs g) i ≡ min (length gs + 1) (group_of m i)
      a = group_now i

      b : group_of (merged m gs g) j ≡ min (length gs + 1) (group_of m j)
      b = group_now j

      of : (t : Bool) → nat_lt (group_of m j) (group_of m i) ≡ t → IsReached graph (at m.path i) (at m.path j)
      of false t = walk.edges.reach i j p q (grind (arith, nat_tests))
      of true t =
          let higher : group_of m j < group_of m i = grind (arith, nat_tests) in
          let upto : group_of m index ≤ group_of m j = (let c = of_place in omega (arith, c, a, b, l, higher)) in
          let there = walk.edges.reach i follows.source p follows.within
          (let c = few i in let d = follows.of_group in omega (arith, c, d)) in
          let over : IsReached graph (at m.path i) w = along (at m.path follows.source) w there follows.edge in
          reached_then graph (at m.path i) w (at m.path j) over
          (subst (λ u. IsReached graph u (at m.path j)) is (walk.edges.reach index j within q upto))

  left : (e : ℕ) → e < length m.edges →
      (i : ℕ) × (i < length m.path) × (group_of (merged m gs g) i ≡ group_of_edge (merged m gs g) e)
      × Contains (successors graph (at m.path i)) (at m.edges e)
  left e l =
      let h = walk.edges.left e l in
      (h.0, h.1, group_now h.0 ∙ (ap (λ k. min (length gs + 1) k) h.2 ∙ sym (edge_now e)), h.3)

  left_still : (group x : ℕ) → IsLeft m group x → IsLeft (merged m gs g) (min (length gs + 1) group) x
  left_still group x h = record {
    edge = h.edge;
    within = h.within;
    is = h.is;
    of_group = edge_now h.edge ∙ ap (λ k. min (length gs + 1) k) h.of_group;
  }

  followed : (i x : ℕ) → i < length m.path → Contains (successors graph (at m.path i)) x →
      IsLeft (merged m gs g) (group_of (merged m gs g) i) x
      ⊎ (Contains m.order x ⊎ (StandsFrom (merged m gs g) (group_of (merged m gs g) i) x ⊎ ⊥))
  followed i x l c = subst Result (sym (group_now i)) (of (walk.edges.followed i x l c))
    where
      Result : ℕ → Type 0
      Result group =
          IsLeft (merged m gs g) group x ⊎ (Contains m.order x ⊎ (StandsFrom (merged m gs g) group x ⊎ ⊥))

      of : IsLeft m (group_of m i) x
          ⊎ (Contains m.order x ⊎ (StandsFrom m (group_of m i) x ⊎ Follows m w (group_of m i) x)) →
          Result (min (length gs + 1) (group_of m i))
      of (inl h) = inl (left_still (group_of m i) x h)
      of (inr (inl h)) = inr (inl h)
      of (inr (inr (inl h))) =
          inr (inr (inl (record {
            index = h.index;
            within = h.within;
            is = h.is;
            from = let a = group_now h.index in let f = h.from in omega (arith, a, f);
          })))
      of (inr (inr (inr h))) =
          inr (inr (inl (record {
            index = index;
            within = within;
            is = is ∙ sym h.1;
            from = let a = group_now index in let b = of_place in omega (arith, a, b);
          })))

  -- ---- the marks of groups

  inside_still : (group : ℕ) → group ≤ length gs + 1 → HasEdgeInside graph m group →
      HasEdgeInside graph (merged m gs g) group
  inside_still group l h = record {
    from = h.from;
    to = h.to;
    from_within = h.from_within;
    to_within = h.to_within;
    from_group = let a = group_now h.from in let b = h.from_group in omega (arith, a, b, l);
    to_group = let a = group_now h.to in let b = h.to_group in omega (arith, a, b, l);
    edge = h.edge;
  }

  inside_now : HasEdgeInside graph (merged m gs g) (length gs + 1)
  inside_now = record {
    from = follows.source;
    to = index;
    from_within = follows.within;
    to_within = within;
    from_group = let a = group_now follows.source in let b = follows.of_group in omega (arith, a, b, total);
    to_group = let a = group_now index in let b = of_place in omega (arith, a, b);
    edge = subst (Contains (successors graph (at m.path follows.source))) (sym is) follows.edge;
  }

  alone_still : (group : ℕ) → group < length gs + 1 → IsAlone graph m (Follows m w) group →
      IsAlone graph (merged m gs g) (λ k x. ⊥) group
  alone_still group l h = record {
    one = λ i j p q a b. h.one i j p q (was i a) (was j b);
    no_edge = λ i p a c. of i (h.no_edge i p (was i a) c);
  }
    where
      was : (i : ℕ) → group_of (merged m gs g) i ≡ group → group_of m i ≡ group
      was i a = let b = group_now i in omega (arith, a, b, l)

      of : (i : ℕ) → IsLeft m group (at m.path i) ⊎ Follows m w group (at m.path i) →
          IsLeft (merged m gs g) group (at m.path i) ⊎ ⊥
      of i (inl k) =
          inl (subst (λ z. IsLeft (merged m gs g) z (at m.path i))
          (let e : min (length gs + 1) group ≡ group = omega (arith, l) in e) (left_still group (at m.path i) k))
      of i (inr k) = absurd (let e = k.0 in omega (arith, e, l, total))

  reported : AreReported graph (merged m gs g) (λ k x. ⊥)
  reported = record {
    loop = λ a x p t. loop a x (get_pushed gs (marked_loop g) x a p) t;
    alone = λ a x p t. alone a x (get_pushed gs (marked_loop g) x a p) t;
  }
    where
      Case : ℕ → Group → Type 0
      Case a x = ((slice_get gs a ≡ Some x) × (a < length gs)) ⊎ ((a ≡ length gs) × (marked_loop g ≡ x))

      old : (a : ℕ) (x : Group) → slice_get gs a ≡ Some x → slice_get m.groups a ≡ Some x
      old a x e = kept_at a x (get_left_of gs (g ∷ []) a x e)

      loop : (a : ℕ) (x : Group) → Case a x → x.loops ≡ true → HasEdgeInside graph (merged m gs g) (a + 1)
      loop a x (inl h) t =
          inside_still (a + 1) (let l = h.1 in omega (arith, l)) (walk.reported.loop a x (old a x h.0) t)
      loop a x (inr h) t = subst (λ k. HasEdgeInside graph (merged m gs g) (k + 1)) (sym h.0) inside_now

      alone : (a : ℕ) (x : Group) → Case a x → x.loops ≡ false → IsAlone graph (merged m gs g) (λ k y. ⊥) (a + 1)
      alone a x (inl h) t =
          alone_still (a + 1) (let l = h.1 in omega (arith, l)) (walk.reported.alone a x (old a x h.0) t)
      alone a x (inr h) t = absurd (let e = ap (λ (z : Group). z.loops) h.1 in cc (e, t))

  -- ---- all of it

  pub merged_walks : IsWalk graph (merged m gs g)
  merged_walks = record {
    groups = groups;
    marks = record {
      marked = walk.marks.marked;
      on_path = walk.marks.on_path;
      has_mark = walk.marks.has_mark;
      done = walk.marks.done;
      is_done = walk.marks.is_done;
    };
    edges = record { reach = reach; left = left; followed = followed };
    reported = reported;
    done = record {
      whole = walk.done.whole;
      closed = walk.done.closed;
      exact = walk.done.exact;
      behind = walk.done.behind;
    };
  }

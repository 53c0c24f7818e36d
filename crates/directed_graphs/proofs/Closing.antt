-- No edge of the last group is left: from its vertices all has been followed, and they are listed.
use Rattle.std.specs.Prelude.{◌⊎◌, ◌↔◌, Contains, slice_get, slice_index_or, nat_lt, Some}
use Rattle.std.proofs.Common.{◌≡◌, ℕ, ◌+◌, ◌-◌, ◌<◌, ◌≤◌, List, [], ◌∷◌, ◌++◌, length, Bool, true, false, refl, sym, ◌∙◌, ap, subst, arith, inl, inr, ⊎_elim, length-append}
use Rattle.std.proofs.lemmas.Bool.Decides.{nat_tests}
use Rattle.std.proofs.lemmas.List.{get_or_append_left, get_or-append-add}
use Rattle.std.proofs.lemmas.List.Elements.{Contains-append_left, Contains-append_right, Contains-append_cases}
use Rattle.directed_graphs.specs.declared.order.Group.{Group}
use Rattle.directed_graphs.specs.declared.order.Mark.{Mark}
use Rattle.directed_graphs.specs.declared.order.Mark.TheVariants.{Unseen, OnPath, Done}
use Rattle.directed_graphs.specs.Graphs.{Graph, successors, IsReached, LeadsToItself, at}
use Rattle.directed_graphs.specs.Walks.{Walk, group_of, group_of_edge, AreGroups, mark_of, AreMarked, IsLeft, StandsFrom, HasEdgeInside, IsAlone, AreReported, IsWalk, AreSet}
use Rattle.directed_graphs.proofs.Closed.{any_default, there as at_place}
use Rattle.directed_graphs.proofs.Levels.{get_left_of, get_last_of, get_is_within, level_few, level_last, level_under}
use Rattle.directed_graphs.proofs.Paths.{leads_back, stays_in}

module _ (graph : Graph) (marks : List Mark) (low high edges : List ℕ) (gs : List Group) (t : Group) (order : List ℕ)
    (loops : List Bool) where
  abbrev pub before : Walk
  before = record {
    marks = marks;
    path = low ++ high;
    edges = edges;
    groups = gs ++ t ∷ [];
    order = order;
    loops = loops;
  }

  module _ (walk : IsWalk graph before) (begins : length low ≡ t.vertex) (none_left : length edges ≤ t.edge)
      (marks_now : List Mark) (marked : AreSet Unseen Done high marks marks_now) (loops_now : List Bool)
      (reported_now : AreSet false t.loops high loops loops_now) where
    abbrev pub after : Walk
    after = record {
      marks = marks_now;
      path = low;
      edges = edges;
      groups = gs;
      order = order ++ high;
      loops = loops_now;
    }

    all : length (low ++ high) ≡ length low + length high
    all = length-append low high

    rises : (k : ℕ) (g : Group) → slice_get gs k ≡ Some g → (g.vertex < t.vertex) × (g.edge ≤ t.edge)
    rises k g e =
        walk.groups.rise k (length gs) g t (get_left_of gs (t ∷ []) k g e) (get_last_of gs t) (get_is_within gs k g e)

    -- ---- where things stand

    low_at : (i : ℕ) → i < length low → at (low ++ high) i ≡ at low i
    low_at i l = get_or_append_left low high 0 i l

    high_at : (j : ℕ) → at (low ++ high) (length low + j) ≡ at high j
    high_at j = get_or-append-add low high j 0

    of_low : (i : ℕ) → i < length low → group_of before i ≡ group_of after i
    of_low i l = level_under (λ (g : Group). g.vertex) gs t i (omega (arith, l, begins))

    of_high : (i : ℕ) → length low ≤ i → group_of before i ≡ length gs + 1
    of_high i l =
        level_last (λ (g : Group). g.vertex) gs t i
        (λ k g e. let r = (rises k g e).0 in omega (arith, r, l, begins)) (omega (arith, l, begins))

    few : (i : ℕ) → group_of after i ≤ length gs
    few i = level_few (λ (g : Group). g.vertex) gs i

    -- an edge that is left is one of another group
    edge_level : (e : ℕ) → e < length edges → group_of_edge before e ≡ group_of_edge after e
    edge_level e l = level_under (λ (g : Group). g.edge) gs t e (omega (arith, l, none_left))

    few_edges : (e : ℕ) → group_of_edge after e ≤ length gs
    few_edges e = level_few (λ (g : Group). g.edge) gs e

    -- a vertex of the last group, by its place on the path
    record Stands (v : ℕ) : Type 0 where
      index : ℕ
      within : index < length (low ++ high)
      from : length low ≤ index
      is : at (low ++ high) index ≡ v

    stands : (v : ℕ) → Contains high v → Stands v
    stands v c = record {
      index = length low + c.0;
      within = let l = c.1 in omega (arith, l, all);
      from = omega arith;
      is = high_at c.0 ∙ (any_default high c.0 0 v c.1 ∙ c.2);
    }

    listed : (i : ℕ) → i < length (low ++ high) → length low ≤ i → Contains high (at (low ++ high) i)
    listed i l m =
        let k : i - length low < length high = omega (arith, l, m, all) in
        let back : length low + (i - length low) ≡ i = omega (arith, m) in
        let e : at (low ++ high) i ≡ at high (i - length low) =
        sym (ap (at (low ++ high)) back) ∙ high_at (i - length low) in
        subst (Contains high) (sym e) (at_place high (i - length low) 0 k)

    index_in : Mark → ℕ
    index_in (OnPath k) = k
    index_in Unseen = 0
    index_in Done = 0

    -- each vertex stands at one place
    one_place : (i j : ℕ) → i < length (low ++ high) → j < length (low ++ high) →
        at (low ++ high) i ≡ at (low ++ high) j → i ≡ j
    unfolding index_in
    one_place i j p q e =
        ap index_in (sym (walk.marks.has_mark i p) ∙ (ap (mark_of before) e ∙ walk.marks.has_mark j q))

    low_not_high : (i : ℕ) → i < length low → Contains high (at low i) → ⊥
    low_not_high i l c =
        let s = stands (at low i) c in
        let p : i < length (low ++ high) = omega (arith, l, all) in
        let e = one_place i s.index p s.within (low_at i l ∙ sym s.is) in
        let f = s.from in omega (arith, e, f, l)

    order_not_high : (v : ℕ) → Contains order v → Contains high v → ⊥
    order_not_high v o c =
        let s = stands v c in
        let a = walk.marks.is_done v o in
        let b = walk.marks.has_mark s.index s.within in
        cc (a, b, ap (mark_of before) s.is)

    -- ---- marks

    other_mark : (v : ℕ) → (Contains high v → ⊥) → slice_index_or marks_now v Unseen ≡ mark_of before v
    other_mark v n = of (marked.each v)
      where
        of : (Contains high v × (slice_index_or marks_now v Unseen ≡ Done))
            ⊎ ((Contains high v → ⊥) × (slice_index_or marks_now v Unseen ≡ slice_index_or marks v Unseen)) →
            slice_index_or marks_now v Unseen ≡ mark_of before v
        of (inl h) = absurd (n h.0)
        of (inr h) = h.1

    high_mark : (v : ℕ) → Contains high v → slice_index_or marks_now v Unseen ≡ Done
    high_mark v c = of (marked.each v)
      where
        of : (Contains high v × (slice_index_or marks_now v Unseen ≡ Done))
            ⊎ ((Contains high v → ⊥) × (slice_index_or marks_now v Unseen ≡ slice_index_or marks v Unseen)) →
            slice_index_or marks_now v Unseen ≡ Done
        of (inl h) = h.1
        of (inr h) = absurd (h.0 c)

    marks_after : AreMarked graph after
    marks_after = record {
      marked = marked.whole ∙ walk.marks.marked;
      on_path = λ v k e. on_path v k e (marked.each v);
      has_mark = λ k l.
          (let p : k < length (low ++ high) = omega (arith, l, all) in
          other_mark (at low k) (low_not_high k l)
          ∙ (ap (mark_of before) (sym (low_at k l)) ∙ walk.marks.has_mark k p));
      done = λ v e. done v e (marked.each v);
      is_done = λ v c.
          ⊎_elim (λ o. other_mark v (order_not_high v o) ∙ walk.marks.is_done v o) (λ h. high_mark v h)
          (Contains-append_cases order high v c);
    }
      where
        Case : ℕ → Type 0
        Case v =
            (Contains high v × (slice_index_or marks_now v Unseen ≡ Done))
            ⊎ ((Contains high v → ⊥) × (slice_index_or marks_now v Unseen ≡ slice_index_or marks v Unseen))

        on_path : (v k : ℕ) → slice_index_or marks_now v Unseen ≡ OnPath k → Case v → (k < length low) × (at low k ≡ v)
        on_path v k e (inl h) = absurd (let d = h.1 in cc (d, e))
        on_path v k e (inr h) =
            let x = walk.marks.on_path v k (sym h.1 ∙ e) in
            of (nat_lt k (length low)) refl x.0 x.1
          where
            of : (b : Bool) → nat_lt k (length low) ≡ b → k < length (low ++ high) → at (low ++ high) k ≡ v →
                (k < length low) × (at low k ≡ v)
            of true b l a = (let m : k < length low = grind (arith, nat_tests) in (m, sym (low_at k m) ∙ a))
            of false b l a =
                absurd (let m : length low ≤ k = grind (arith, nat_tests) in
                h.0 (subst (Contains high) a (listed k l m)))

        done : (v : ℕ) → slice_index_or marks_now v Unseen ≡ Done → Case v → Contains (order ++ high) v
        done v e (inl h) = Contains-append_right order high v h.0
        done v e (inr h) = Contains-append_left order high v (walk.marks.done v (sym h.1 ∙ e))

    -- ---- groups

    groups_after : AreGroups after
    groups_after = record {
      rise = λ a b g h p q l.
          walk.groups.rise a b g h (get_left_of gs (t ∷ []) a g p) (get_left_of gs (t ∷ []) b h q) l;
      within = λ a g p. (
        let r = (rises a g p).0 in omega (arith, r, begins),
        (walk.groups.within a g (get_left_of gs (t ∷ []) a g p)).1,
      );
      first = λ i l.
          (let p : i < length (low ++ high) = omega (arith, l, all) in
          let a = of_low i l in let b = walk.groups.first i p in omega (arith, a, b));
    }

    -- ---- edges

    low_within : (i : ℕ) → i < length low → i < length (low ++ high)
    low_within i l = omega (arith, l, all)

    reach : (i j : ℕ) → i < length low → j < length low → group_of after i ≤ group_of after j →
        IsReached graph (at low i) (at low j)
    reach i j p q l =
        subst (λ u. IsReached graph u (at low j)) (low_at i p)
        (subst (IsReached graph (at (low ++ high) i)) (low_at j q)
        (walk.edges.reach i j (low_within i p) (low_within j q)
        (let a = of_low i p in let b = of_low j q in omega (arith, a, b, l))))

    -- a place of the groups that are there
    is_low : (i : ℕ) → group_of before i ≤ length gs → i < length low
    is_low i l = of (nat_lt i (length low)) refl
      where
        of : (b : Bool) → nat_lt i (length low) ≡ b → i < length low
        of true e = grind (arith, nat_tests)
        of false e =
            absurd (let m : length low ≤ i = grind (arith, nat_tests) in let a = of_high i m in omega (arith, a, l))

    left : (e : ℕ) → e < length edges →
        (i : ℕ) × (i < length low) × (group_of after i ≡ group_of_edge after e)
        × Contains (successors graph (at low i)) (at edges e)
    left e l =
        let h = walk.edges.left e l in
        let a = edge_level e l in
        let m : h.0 < length low = is_low h.0 (let b = few_edges e in let c = h.2 in omega (arith, a, b, c)) in (
          h.0,
          m,
          sym (of_low h.0 m) ∙ (h.2 ∙ a),
          subst (λ u. Contains (successors graph u) (at edges e)) (low_at h.0 m) h.3,
        )

    left_still : (group x : ℕ) → IsLeft before group x → IsLeft after group x
    left_still group x h = record {
      edge = h.edge;
      within = h.within;
      is = h.is;
      of_group = sym (edge_level h.edge h.within) ∙ h.of_group;
    }

    followed : (i x : ℕ) → i < length low → Contains (successors graph (at low i)) x →
        IsLeft after (group_of after i) x
        ⊎ (Contains (order ++ high) x ⊎ (StandsFrom after (group_of after i) x ⊎ ⊥))
    followed i x l c =
        subst Result (of_low i l)
        (of (walk.edges.followed i x (low_within i l) (subst (λ u. Contains (successors graph u) x) (sym (low_at i l)) c)))
      where
        Result : ℕ → Type 0
        Result group =
            IsLeft after group x ⊎ (Contains (order ++ high) x ⊎ (StandsFrom after group x ⊎ ⊥))

        on_path : (h : StandsFrom before (group_of before i) x) → (b : Bool) → nat_lt h.index (length low) ≡ b →
            Result (group_of before i)
        on_path h true e =
            (let m : h.index < length low = grind (arith, nat_tests) in
            inr (inr (inl (record {
              index = h.index;
              within = m;
              is = sym (low_at h.index m) ∙ h.is;
              from = let a = of_low h.index m in let f = h.from in omega (arith, a, f);
            }))))
        on_path h false e =
            (let m : length low ≤ h.index = grind (arith, nat_tests) in
            inr (inl (Contains-append_right order high x (subst (Contains high) h.is (listed h.index h.within m)))))

        of : IsLeft before (group_of before i) x
            ⊎ (Contains order x ⊎ (StandsFrom before (group_of before i) x ⊎ ⊥)) → Result (group_of before i)
        of (inl h) = inl (left_still (group_of before i) x h)
        of (inr (inl h)) = inr (inl (Contains-append_left order high x h))
        of (inr (inr (inl h))) = on_path h (nat_lt h.index (length low)) refl
        of (inr (inr (inr h))) = absurd h

    -- ---- the vertices that are listed now

    -- nothing out of the last group is left
    none_of_last : (x : ℕ) → IsLeft before (length gs + 1) x → ⊥
    none_of_last x h =
        let a = edge_level h.edge h.within in
        let b = few_edges h.edge in
        let c = h.of_group in omega (arith, a, b, c)

    -- an edge of one of its vertices leads to one of its vertices, or where all has been followed before
    leads : (v x : ℕ) → Contains high v → Contains (successors graph v) x → Contains order x ⊎ Contains high x
    leads v x c e = of (walk.edges.followed s.index x s.within
        (subst (λ u. Contains (successors graph u) x) (sym s.is) e))
      where
        s : Stands v
        s = stands v c

        group : group_of before s.index ≡ length gs + 1
        group = of_high s.index s.from

        of : IsLeft before (group_of before s.index) x
            ⊎ (Contains order x ⊎ (StandsFrom before (group_of before s.index) x ⊎ ⊥)) →
            Contains order x ⊎ Contains high x
        of (inl h) = absurd (none_of_last x (subst (λ k. IsLeft before k x) group h))
        of (inr (inl h)) = inl h
        of (inr (inr (inl h))) = inr (subst (Contains high) h.is (listed h.index h.within from))
          where
            from : length low ≤ h.index
            from = by (nat_lt h.index (length low)) refl
              where
                by : (b : Bool) → nat_lt h.index (length low) ≡ b → length low ≤ h.index
                by false e = grind (arith, nat_tests)
                by true e =
                    absurd (let m : h.index < length low = grind (arith, nat_tests) in
                    let a = of_low h.index m in let b = few h.index in let f = h.from in
                    omega (arith, a, b, f, group))
        of (inr (inr (inr h))) = absurd h

    closed : (v x : ℕ) → Contains (order ++ high) v → Contains (successors graph v) x → Contains (order ++ high) x
    closed v x c e =
        ⊎_elim (λ o. Contains-append_left order high x (walk.done.closed v x o e))
        (λ h. ⊎_elim (λ o. Contains-append_left order high x o) (λ k. Contains-append_right order high x k) (leads v x h e))
        (Contains-append_cases order high v c)

    last_group : slice_get (gs ++ t ∷ []) (length gs) ≡ Some t
    last_group = get_last_of gs t

    -- a group with an edge inside
    loops_so : (v : ℕ) → Contains high v → t.loops ≡ true → LeadsToItself graph v
    loops_so v c l =
        let s = stands v c in
        let h = walk.reported.loop (length gs) t last_group l in
        let group = of_high s.index s.from in
        let a = h.from_group in
        let b = h.to_group in
        subst (LeadsToItself graph) s.is
        (leads_back graph (at (low ++ high) s.index) (at (low ++ high) h.from) (at (low ++ high) h.to)
        (walk.edges.reach s.index h.from s.within h.from_within (omega (arith, group, a))) h.edge
        (walk.edges.reach h.to s.index h.to_within s.within (omega (arith, group, b))))

    -- a vertex alone
    module _ (l : t.loops ≡ false) where
      alone : IsAlone graph before (λ k x. ⊥) (length gs + 1)
      alone = walk.reported.alone (length gs) t last_group l

      is_one : (v x : ℕ) → Contains high v → Contains high x → v ≡ x
      is_one v x c d =
          let s = stands v c in
          let r = stands x d in
          sym s.is ∙ (ap (at (low ++ high))
          (alone.one s.index r.index s.within r.within (of_high s.index s.from) (of_high r.index r.from)) ∙ r.is)

      no_own_edge : (v : ℕ) → Contains high v → Contains (successors graph v) v → ⊥
      no_own_edge v c e =
          let s = stands v c in
          ⊎_elim (λ k. none_of_last (at (low ++ high) s.index) k) (λ n. n)
          (alone.no_edge s.index s.within (of_high s.index s.from)
          (subst (λ u. Contains (successors graph u) u) (sym s.is) e))

      -- so its edges lead where all has been followed before
      leads_before : (v x : ℕ) → Contains high v → Contains (successors graph v) x → Contains order x
      leads_before v x c e =
          ⊎_elim (λ o. o)
          (λ d. absurd (no_own_edge v c (subst (Contains (successors graph v)) (sym (is_one v x c d)) e)))
          (leads v x c e)

      never_back : (v : ℕ) → Contains high v → LeadsToItself graph v → ⊥
      never_back v c k =
          order_not_high v
          (stays_in graph (Contains order) (λ a b. walk.done.closed a b) k.next v k.back (leads_before v k.next c k.edge)) c

    reported_at : (v : ℕ) → Contains high v → slice_index_or loops_now v false ≡ t.loops
    reported_at v c = of (reported_now.each v)
      where
        of : (Contains high v × (slice_index_or loops_now v false ≡ t.loops))
            ⊎ ((Contains high v → ⊥) × (slice_index_or loops_now v false ≡ slice_index_or loops v false)) →
            slice_index_or loops_now v false ≡ t.loops
        of (inl h) = h.1
        of (inr h) = absurd (h.0 c)

    reported_else : (v : ℕ) → (Contains high v → ⊥) → slice_index_or loops_now v false ≡ slice_index_or loops v false
    reported_else v n = of (reported_now.each v)
      where
        of : (Contains high v × (slice_index_or loops_now v false ≡ t.loops))
            ⊎ ((Contains high v → ⊥) × (slice_index_or loops_now v false ≡ slice_index_or loops v false)) →
            slice_index_or loops_now v false ≡ slice_index_or loops v false
        of (inl h) = absurd (n h.0)
        of (inr h) = h.1

    exact_high : (v : ℕ) → Contains high v → (slice_index_or loops_now v false ≡ true) ↔ LeadsToItself graph v
    exact_high v c = of t.loops refl
      where
        of : (b : Bool) → t.loops ≡ b → (slice_index_or loops_now v false ≡ true) ↔ LeadsToItself graph v
        of true e = ((λ h. loops_so v c e), (λ h. reported_at v c ∙ e))
        of false e =
            ((λ h. absurd (let a = reported_at v c in cc (a, e, h))), (λ h. absurd (never_back e v c h)))

    exact : (v : ℕ) → Contains (order ++ high) v → (slice_index_or loops_now v false ≡ true) ↔ LeadsToItself graph v
    exact v c =
        ⊎_elim (λ o. (let same = reported_else v (order_not_high v o) in let k = walk.done.exact v o in
        ((λ h. k.0 (sym same ∙ h)), (λ h. same ∙ k.1 h)))) (λ h. exact_high v h) (Contains-append_cases order high v c)

    behind : (k x : ℕ) → k < length (order ++ high) → slice_index_or loops_now (at (order ++ high) k) false ≡ false →
        Contains (successors graph (at (order ++ high) k)) x → (j : ℕ) × (j < k) × (at (order ++ high) j ≡ x)
    behind k x l unreported e = of (nat_lt k (length order)) refl
      where
        place_of : Contains order x → (k_from : length order ≤ k) → (j : ℕ) × (j < k) × (at (order ++ high) j ≡ x)
        place_of o m = (
          o.0,
          let n = o.1 in omega (arith, n, m),
          get_or_append_left order high 0 o.0 o.1 ∙ (any_default order o.0 0 x o.1 ∙ o.2),
        )

        both : length (order ++ high) ≡ length order + length high
        both = length-append order high

        of : (b : Bool) → nat_lt k (length order) ≡ b → (j : ℕ) × (j < k) × (at (order ++ high) j ≡ x)
        of true b =
            let m : k < length order = grind (arith, nat_tests) in
            let same : at (order ++ high) k ≡ at order k = get_or_append_left order high 0 k m in
            let o : Contains order (at order k) = at_place order k 0 m in
            let was = reported_else (at order k) (order_not_high (at order k) o) in
            let h = walk.done.behind k x m
            (sym was ∙ (ap (λ v. slice_index_or loops_now v false) (sym same) ∙ unreported))
            (subst (λ v. Contains (successors graph v) x) same e) in
            (h.0, h.1, get_or_append_left order high 0 h.0 (let i = h.1 in omega (arith, i, m)) ∙ h.2)
        of false b =
            let m : length order ≤ k = grind (arith, nat_tests) in
            let n : k - length order < length high = omega (arith, m, l, both) in
            let back : length order + (k - length order) ≡ k = omega (arith, m) in
            let same : at (order ++ high) k ≡ at high (k - length order) =
            sym (ap (at (order ++ high)) back) ∙ get_or-append-add order high (k - length order) 0 in
            let c : Contains high (at (order ++ high) k) =
            subst (Contains high) (sym same) (at_place high (k - length order) 0 n) in
            place_of (leads_before (sym (reported_at (at (order ++ high) k) c) ∙ unreported) (at (order ++ high) k) x c e) m

    -- ---- the marks of groups

    reported_after : AreReported graph after (λ k x. ⊥)
    reported_after = record { loop = loop; alone = alone_at }
      where
        old : (a : ℕ) (g : Group) → slice_get gs a ≡ Some g → slice_get (gs ++ t ∷ []) a ≡ Some g
        old a g e = get_left_of gs (t ∷ []) a g e

        low_index : (i group : ℕ) → group_of before i ≡ group → group ≤ length gs → i < length low
        low_index i group e l = is_low i (omega (arith, e, l))

        loop : (a : ℕ) (g : Group) → slice_get gs a ≡ Some g → g.loops ≡ true → HasEdgeInside graph after (a + 1)
        loop a g p q =
            let h = walk.reported.loop a g (old a g p) q in
            let few_here : a + 1 ≤ length gs = (let l = get_is_within gs a g p in omega (arith, l)) in
            let i : h.from < length low = low_index h.from (a + 1) h.from_group few_here in
            let j : h.to < length low = low_index h.to (a + 1) h.to_group few_here in
            record {
              from = h.from;
              to = h.to;
              from_within = i;
              to_within = j;
              from_group = sym (of_low h.from i) ∙ h.from_group;
              to_group = sym (of_low h.to j) ∙ h.to_group;
              edge = subst (λ u. Contains (successors graph u) (at low h.to)) (low_at h.from i)
                  (subst (Contains (successors graph (at (low ++ high) h.from))) (low_at h.to j) h.edge);
            }

        alone_at : (a : ℕ) (g : Group) → slice_get gs a ≡ Some g → g.loops ≡ false →
            IsAlone graph after (λ k x. ⊥) (a + 1)
        alone_at a g p q =
            let h = walk.reported.alone a g (old a g p) q in
            record {
              one = λ i j l m c d.
                  h.one i j (low_within i l) (low_within j m) (of_low i l ∙ c) (of_low j m ∙ d);
              no_edge = λ i l c e.
                  subst (λ u. IsLeft after (a + 1) u ⊎ ⊥) (low_at i l)
                  (⊎_elim (λ k. inl (left_still (a + 1) (at (low ++ high) i) k)) (λ n. inr n)
                  (h.no_edge i (low_within i l) (of_low i l ∙ c)
                  (subst (λ u. Contains (successors graph u) u) (sym (low_at i l)) e)));
            }

    -- ---- all of it

    pub closed_walks : IsWalk graph after
    closed_walks = record {
      groups = groups_after;
      marks = marks_after;
      edges = record { reach = reach; left = left; followed = followed };
      reported = reported_after;
      done = record {
        whole = reported_now.whole ∙ walk.done.whole;
        closed = closed;
        exact = exact;
        behind = behind;
      };
    }

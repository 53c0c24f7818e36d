-- The edge that was noted last is followed: it leads out of the last group.
use Rattle.std.specs.Prelude.{◌⊎◌, Contains, slice_get, nat_lt, Some}
use Rattle.std.proofs.Common.{◌≡◌, ℕ, ◌+◌, ◌<◌, ◌≤◌, List, [], ◌∷◌, ◌++◌, length, Bool, true, false, refl, sym, ◌∙◌, ap, subst, arith, inl, inr, ⊎_elim, length-append}
use Rattle.std.proofs.lemmas.Bool.Decides.{nat_tests}
use Rattle.std.proofs.lemmas.List.{get_or_append_left, get_or_push}
use Rattle.directed_graphs.specs.declared.order.Group.{Group}
use Rattle.directed_graphs.specs.declared.order.Mark.{Mark}
use Rattle.directed_graphs.specs.declared.order.Mark.TheVariants.{Done}
use Rattle.directed_graphs.specs.Graphs.{Graph, successors, IsReached, along, at}
use Rattle.directed_graphs.specs.Walks.{Walk, group_of, group_of_edge, mark_of, IsLeft, StandsFrom, HasEdgeInside, IsAlone, IsWalkBut, IsWalk, Follows, IsFollowing}
use Rattle.directed_graphs.proofs.Levels.{get_pushed, get_left_of, get_last_of, get_is_within, level_few, level_last}

module _ (graph : Graph) (marks : List Mark) (path es : List ℕ) (w : ℕ) (gs : List Group) (t : Group) (order : List ℕ)
    (loops : List Bool) where
  -- before the edge is taken, and then
  abbrev pub noted : Walk
  noted = record {
    marks = marks;
    path = path;
    edges = es ++ w ∷ [];
    groups = gs ++ t ∷ [];
    order = order;
    loops = loops;
  }

  abbrev pub taken : Walk
  taken = record { marks = marks; path = path; edges = es; groups = gs ++ t ∷ []; order = order; loops = loops }

  module _ (walk : IsWalk graph noted) (own : t.edge ≤ length es) where
    count : length (gs ++ t ∷ []) ≡ length gs + 1
    count = length-append gs (t ∷ [])

    longer : length (es ++ w ∷ []) ≡ length es + 1
    longer = length-append es (w ∷ [])

    upto : (k : ℕ) (g : Group) → slice_get gs k ≡ Some g → g.edge ≤ length es
    upto k g e =
        let r =
        (walk.groups.rise k (length gs) g t (get_left_of gs (t ∷ []) k g e) (get_last_of gs t) (get_is_within gs k g e)).1 in
        omega (arith, r, own)

    of_last : group_of_edge noted (length es) ≡ length (gs ++ t ∷ [])
    of_last = level_last (λ (g : Group). g.edge) gs t (length es) upto own ∙ sym count

    -- the edges that are left
    left_or_taken : (group x : ℕ) → IsLeft noted group x → IsLeft taken group x ⊎ Follows taken w group x
    left_or_taken group x h = of (nat_lt h.edge (length es)) refl
      where
        of : (b : Bool) → nat_lt h.edge (length es) ≡ b → IsLeft taken group x ⊎ Follows taken w group x
        of true e =
            (let l : h.edge < length es = grind (arith, nat_tests) in
            inl (record {
              edge = h.edge;
              within = l;
              is = sym (get_or_append_left es (w ∷ []) 0 h.edge l) ∙ h.is;
              of_group = h.of_group;
            }))
        of false e =
            (let last : h.edge ≡ length es = (let l = h.within in grind (arith, nat_tests, l, longer)) in
            inr (
              sym h.of_group ∙ (ap (group_of_edge noted) last ∙ of_last),
              sym h.is ∙ (ap (at (es ++ w ∷ [])) last ∙ get_or_push es w 0 (length es) refl),
            ))

    source : (i : ℕ) × (i < length path) × (group_of noted i ≡ group_of_edge noted (length es))
        × Contains (successors graph (at path i)) (at (es ++ w ∷ []) (length es))
    source = walk.edges.left (length es) (omega (arith, longer))

    pub taken_follows : IsFollowing graph taken w
    taken_follows = record {
      walk = record {
        groups = record {
          rise = walk.groups.rise;
          within = λ a g p. ((walk.groups.within a g p).0, begins a g (get_pushed gs t g a p));
          first = walk.groups.first;
        };
        marks = record {
          marked = walk.marks.marked;
          on_path = walk.marks.on_path;
          has_mark = walk.marks.has_mark;
          done = walk.marks.done;
          is_done = walk.marks.is_done;
        };
        edges = record {
          reach = walk.edges.reach;
          left = λ e l. left e l;
          followed = λ i x l c. followed i x (walk.edges.followed i x l c);
        };
        reported = record {
          loop = λ a g p q. inside (a + 1) (walk.reported.loop a g p q);
          alone = λ a g p q. alone (a + 1) (walk.reported.alone a g p q);
        };
        done = record {
          whole = walk.done.whole;
          closed = walk.done.closed;
          exact = walk.done.exact;
          behind = walk.done.behind;
        };
      };
      source = source.0;
      within = source.1;
      of_group = source.2 ∙ of_last;
      edge = subst (Contains (successors graph (at path source.0))) (get_or_push es w 0 (length es) refl) source.3;
    }
      where
        begins : (a : ℕ) (g : Group) →
            ((slice_get gs a ≡ Some g) × (a < length gs)) ⊎ ((a ≡ length gs) × (t ≡ g)) → g.edge ≤ length es
        begins a g (inl h) = upto a g h.0
        begins a g (inr h) = subst (λ (z : Group). z.edge ≤ length es) h.1 own

        left : (e : ℕ) → e < length es →
            (i : ℕ) × (i < length path) × (group_of taken i ≡ group_of_edge taken e)
            × Contains (successors graph (at path i)) (at es e)
        left e l =
            let h = walk.edges.left e (omega (arith, l, longer)) in (
              h.0,
              h.1,
              h.2,
              subst (Contains (successors graph (at path h.0))) (get_or_append_left es (w ∷ []) 0 e l) h.3,
            )

        stands : (group x : ℕ) → StandsFrom noted group x → StandsFrom taken group x
        stands group x h = record { index = h.index; within = h.within; is = h.is; from = h.from }

        followed : (i x : ℕ) →
            IsLeft noted (group_of noted i) x
            ⊎ (Contains order x ⊎ (StandsFrom noted (group_of noted i) x ⊎ ⊥)) →
            IsLeft taken (group_of taken i) x
            ⊎ (Contains order x ⊎ (StandsFrom taken (group_of taken i) x ⊎ Follows taken w (group_of taken i) x))
        followed i x (inl h) =
            ⊎_elim (λ k. inl k) (λ k. inr (inr (inr k))) (left_or_taken (group_of noted i) x h)
        followed i x (inr (inl h)) = inr (inl h)
        followed i x (inr (inr (inl h))) = inr (inr (inl (stands (group_of noted i) x h)))
        followed i x (inr (inr (inr h))) = absurd h

        inside : (group : ℕ) → HasEdgeInside graph noted group → HasEdgeInside graph taken group
        inside group h = record {
          from = h.from;
          to = h.to;
          from_within = h.from_within;
          to_within = h.to_within;
          from_group = h.from_group;
          to_group = h.to_group;
          edge = h.edge;
        }

        alone : (group : ℕ) → IsAlone graph noted (λ k x. ⊥) group → IsAlone graph taken (Follows taken w) group
        alone group h = record {
          one = h.one;
          no_edge = λ i p a c. ⊎_elim (λ k. left_or_taken group (at path i) k) (λ n. absurd n) (h.no_edge i p a c);
        }

-- ---- where it leads

module _ (graph : Graph) (m : Walk) (w : ℕ) (follows : IsFollowing graph m w) where
  abbrev walk : IsWalkBut graph m (Follows m w)
  walk = follows.walk

  -- it is reached from each vertex on the path
  pub is_reachable : (i : ℕ) → i < length m.path → IsReached graph (at m.path i) w
  is_reachable i l =
      along (at m.path follows.source) w
      (walk.edges.reach i follows.source l follows.within
      (let a = level_few (λ (g : Group). g.vertex) m.groups i in let b = follows.of_group in omega (arith, a, b)))
      follows.edge

  -- where all has been followed from it, there is nothing to do
  pub skipped_walks : mark_of m w ≡ Done → IsWalk graph m
  skipped_walks done = record {
    groups = walk.groups;
    marks = walk.marks;
    edges = record {
      reach = walk.edges.reach;
      left = walk.edges.left;
      followed = λ i x l c. followed i x (walk.edges.followed i x l c);
    };
    reported = record {
      loop = walk.reported.loop;
      alone = λ a g p q. alone (a + 1) (walk.reported.alone a g p q);
    };
    done = walk.done;
  }
    where
      followed : (i x : ℕ) →
          IsLeft m (group_of m i) x
          ⊎ (Contains m.order x ⊎ (StandsFrom m (group_of m i) x ⊎ Follows m w (group_of m i) x)) →
          IsLeft m (group_of m i) x ⊎ (Contains m.order x ⊎ (StandsFrom m (group_of m i) x ⊎ ⊥))
      followed i x (inl h) = inl h
      followed i x (inr (inl h)) = inr (inl h)
      followed i x (inr (inr (inl h))) = inr (inr (inl h))
      followed i x (inr (inr (inr h))) = inr (inl (subst (Contains m.order) (sym h.1) (walk.marks.done w done)))

      alone : (group : ℕ) → IsAlone graph m (Follows m w) group → IsAlone graph m (λ k x. ⊥) group
      alone group h = record {
        one = h.one;
        no_edge = λ i p a c. of i p (h.no_edge i p a c);
      }
        where
          of : (i : ℕ) → i < length m.path → IsLeft m group (at m.path i) ⊎ Follows m w group (at m.path i) →
              IsLeft m group (at m.path i) ⊎ ⊥
          of i p (inl k) = inl k
          of i p (inr k) =
              absurd (let a = walk.marks.has_mark i p in let b = ap (mark_of m) k.1 in cc (a, b, done))

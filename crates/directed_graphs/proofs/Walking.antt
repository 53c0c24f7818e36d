-- The steps of code are steps of the walk.
use Rattle.std.specs.Prelude.{◌⊎◌, slice_get, slice_set, slice_index_or, take, replicate, Result, Ok, Err, OnOk, All}
use Rattle.std.specs.Global.{Vec}
use Rattle.std.proofs.Common.{◌≡◌, ℕ, zero, suc, ◌+◌, ◌-◌, ◌<◌, ◌≤◌, List, [], ◌∷◌, ◌++◌, length, Bool, true, false, refl, sym, ◌∙◌, ap, subst, arith, inl, inr, ⊎_elim, length-append}
use Rattle.std.proofs.lemmas.List.{get_or-set_same}
use Rattle.std.proofs.lemmas.List.Elements.{All-from_get_or}
use Rattle.std.proofs.lemmas.Bool.{cases_eq}
use Rattle.std.proofs.lemmas.Bool.Decides.{nat_tests}
use Rattle.directed_graphs.specs.declared.order.Group.{Group}
use Rattle.directed_graphs.specs.declared.order.Mark.{Mark}
use Rattle.directed_graphs.specs.declared.order.Mark.TheVariants.{Unseen, OnPath, Done}
use Rattle.directed_graphs.specs.Graphs.{Graph, EdgesStay, at, rows_of, AreInOrder}
use Rattle.directed_graphs.specs.Walks.{Walk, group_of, mark_of, IsWalk, IsFollowing, entered, merged, IsMerged, IsClosed, SeesMore, GoesOn, Advances, Ends}
use Rattle.directed_graphs.proofs.Closed.{any_default}
use Rattle.directed_graphs.proofs.Rows.{as_many}
use Rattle.directed_graphs.proofs.Levels.{get_last_of}
use Rattle.directed_graphs.proofs.OrderSteps.{unseen_less, entering_steps, entering_sees}
use Rattle.directed_graphs.proofs.Following.{taken_follows, is_reachable, skipped_walks}
use Rattle.directed_graphs.proofs.Entering.{entered_walks}
use Rattle.directed_graphs.proofs.Merging.{merged_walks}
use Rattle.directed_graphs.proofs.Closing.{closed_walks}
use Rattle.directed_graphs.proofs.Ordered.{at_first, first_walks, path_is_empty, may_enter, all_in_order}

pub on_ok : {T E : Type 0} (r : Result T E) (P Q : Type 0) → (P → Q) → OnOk r P → OnOk r Q
on_ok (Ok x) P Q f p = f p
on_ok (Err e) P Q f p = p

pub mark_is : (m : Walk) (w : ℕ) (now mark : Mark) → w < length m.marks → now ≡ slice_index_or m.marks w now →
    now ≡ mark → mark_of m w ≡ mark
mark_is m w now mark l e is = any_default m.marks w Unseen now l ∙ (sym e ∙ is)

pub is_mark : (m : Walk) (w : ℕ) (now mark : Mark) → w < length m.marks → now ≡ slice_index_or m.marks w now →
    mark_of m w ≡ mark → now ≡ mark
is_mark m w now mark l e is = e ∙ (sym (any_default m.marks w Unseen now l) ∙ is)

-- ---- an edge is followed

module _ (graph : Graph) (m : Walk) (w : ℕ) (follows : IsFollowing graph m w) (stay : EdgesStay graph) where
  pub to_vertex : w < length graph
  to_vertex = stay (at m.path follows.source) w follows.edge

  pub to_mark : w < length m.marks
  to_mark = let a = to_vertex in let b = follows.walk.marks.marked in omega (arith, a, b)

  pub follow_enters : mark_of m w ≡ Unseen → (after : Walk) → after ≡ entered graph m w → GoesOn graph m after
  follow_enters unseen after e =
      subst (GoesOn graph m) (sym e) (record {
        walk = entered_walks graph m w follows.walk to_vertex unseen (is_reachable graph m w follows);
        no_more =
            let a = entering_steps graph m w to_vertex follows.walk.marks.marked unseen in omega (arith, a);
        sees = entering_sees graph m w to_mark;
      })

  pub on_group : (index : ℕ) → mark_of m w ≡ OnPath index → 0 < group_of m index
  on_group index e = follows.walk.groups.first index (follows.walk.marks.on_path w index e).0

  pub follow_merges : (index : ℕ) → mark_of m w ≡ OnPath index → (after : Walk) → IsMerged m index after →
      GoesOn graph m after
  follow_merges index e after h =
      let p = follows.walk.marks.on_path w index e in
      subst (GoesOn graph m) (sym h.is) (record {
        walk = merged_walks graph m w follows index p.0 p.1 h.first h.more h.last h.split h.from h.behind;
        no_more =
            let a = ap (λ (gs : List Group). length gs) h.split in
            let b = length-append h.first (h.last ∷ h.more) in
            let c : length (merged m h.first h.last).groups ≡ length h.first + 1 =
            length-append h.first (record h.last { loops = true } ∷ []) in
            omega (arith, a, b, c);
        sees = record { is = λ v q. q };
      })

  pub follow_skips : mark_of m w ≡ Done → GoesOn graph m m
  follow_skips done = record {
    walk = skipped_walks graph m w follows done;
    no_more = omega arith;
    sees = record { is = λ v q. q };
  }

-- ---- a step

last_split : {A : Type 0} (xs : List A) (d : A) → 0 < length xs →
    xs ≡ take (length xs - 1) xs ++ slice_index_or xs (length xs - 1) d ∷ []
last_split [] d l = absurd (omega (arith, l))
last_split (x ∷ []) d l = refl
last_split (x ∷ (y ∷ xs)) d l =
    let e = last_split (y ∷ xs) d (omega arith) in
    let n : length (x ∷ (y ∷ xs)) - 1 ≡ suc (length (y ∷ xs) - 1) = omega arith in
    rw n (ap (λ zs. x ∷ zs) e)

-- the last one of the groups
pub last_group : (gs : List Group) (len n : ℕ) (g : Group) → len ≡ length gs → n ≡ len → 0 < length gs →
    g ≡ slice_index_or gs (n - 1) g → gs ≡ take (length gs - 1) gs ++ g ∷ []
last_group gs len n g a b l e =
    let same : n - 1 ≡ length gs - 1 = omega (arith, a, b) in
    last_split gs g l
    ∙ ap (λ (h : Group). take (length gs - 1) gs ++ h ∷ []) (sym (e ∙ ap (λ k. slice_index_or gs k g) same))

pub last_popped : (gs : List Group) (len n : ℕ) (g : Group) (rest : List Group) → len ≡ length gs → n ≡ len →
    0 < length gs → g ≡ slice_index_or gs (n - 1) g → rest ≡ take (len - 1) gs → gs ≡ rest ++ g ∷ []
last_popped gs len n g rest a b l e r =
    last_group gs len n g a b l e
    ∙ ap (λ (hs : List Group). hs ++ g ∷ []) (sym (r ∙ ap (λ k. take (k - 1) gs) a))

module _ (graph : Graph) (m : Walk) (walk : IsWalk graph m) (gs : List Group) (t : Group)
    (split : m.groups ≡ gs ++ t ∷ []) where
  -- its last edge is taken
  pub taking : (es : List ℕ) (w : ℕ) → m.edges ≡ es ++ w ∷ [] → t.edge < length m.edges →
      IsFollowing graph (record m { edges = es }) w
  taking es w e l =
      let a : m ≡ record m { edges = es ++ w ∷ []; groups = gs ++ t ∷ [] } =
      ap (λ (xs : List ℕ). record m { edges = xs }) e
      ∙ ap (λ (hs : List Group). record m { edges = es ++ w ∷ []; groups = hs }) split in
      let b = ap (λ (xs : List ℕ). length xs) e in
      let c = length-append es (w ∷ []) in
      subst (λ (hs : List Group). IsFollowing graph (record m { edges = es; groups = hs }) w) (sym split)
      (taken_follows graph m.marks m.path es w gs t m.order m.loops (subst (IsWalk graph) a walk)
      (omega (arith, l, b, c)))

  pub taking_steps : (es : List ℕ) (w : ℕ) → m.edges ≡ es ++ w ∷ [] → (after : Walk) →
      GoesOn graph (record m { edges = es }) after → Advances graph m after
  taking_steps es w e after h = record {
    walk = h.walk;
    fewer =
        let a = h.no_more in
        let b = ap (λ (xs : List ℕ). length xs) e in
        let c = length-append es (w ∷ []) in
        omega (arith, a, b, c);
    sees = record { is = λ v q. h.sees.is v q };
  }

  -- or all have been followed
  pub begins : t.vertex ≤ length m.path
  begins =
      let a = (walk.groups.within (length gs) t
      (ap (λ (hs : List Group). slice_get hs (length gs)) split ∙ get_last_of gs t)).0 in
      omega (arith, a)

  pub closing : length m.edges ≤ t.edge → (after : Walk) → IsClosed t (record m { groups = gs }) after →
      Advances graph m after
  closing l after h = record {
    walk = subst (IsWalk graph) (sym same)
        (closed_walks graph m.marks h.low h.high m.edges gs t m.order m.loops (subst (IsWalk graph) whole walk) h.begins l
        after.marks h.marked after.loops h.reported);
    fewer =
        let a = unseen_less graph m.marks after.marks h.marked.whole sees in
        let b = ap (λ (xs : List ℕ). length xs) h.edges in
        let c = ap (λ (hs : List Group). length hs) h.groups in
        let d = ap (λ (hs : List Group). length hs) split in
        let e = length-append gs (t ∷ []) in
        omega (arith, a, b, c, d, e);
    sees = record { is = sees };
  }
    where
      whole : m ≡ record m { path = h.low ++ h.high; groups = gs ++ t ∷ [] }
      whole = ap (λ (xs : List ℕ). record m { path = xs }) h.split
          ∙ ap (λ (hs : List Group). record m { path = h.low ++ h.high; groups = hs }) split

      same : after ≡ record after { path = h.low; edges = m.edges; groups = gs; order = m.order ++ h.high }
      same = ap (λ (xs : List ℕ). record after { path = xs }) h.path
          ∙ (ap (λ (xs : List ℕ). record after { path = h.low; edges = xs }) h.edges
          ∙ (ap (λ (hs : List Group). record after { path = h.low; edges = m.edges; groups = hs }) h.groups
          ∙ ap (λ (xs : List ℕ). record after { path = h.low; edges = m.edges; groups = gs; order = xs }) h.order))

      sees : (v : ℕ) → slice_index_or after.marks v Unseen ≡ Unseen → slice_index_or m.marks v Unseen ≡ Unseen
      sees v q = ⊎_elim (λ k. absurd (let e = k.1 in cc (e, q))) (λ k. sym k.1 ∙ q) (h.marked.each v)

-- the vertices on the path are vertices
mark_within : (marks : List Mark) (v k : ℕ) → slice_index_or marks v Unseen ≡ OnPath k → v < length marks
mark_within [] v k e = absurd (cc (e))
mark_within (x ∷ marks) zero k e = omega arith
mark_within (x ∷ marks) (suc v) k e = let l = mark_within marks v k e in omega (arith, l)

pub path_within : (graph : Graph) (m : Walk) → IsWalk graph m → All (λ v. v < length m.marks) m.path
path_within graph m walk =
    All-from_get_or (λ v. v < length m.marks) m.path 0
    (λ k l. mark_within m.marks (at m.path k) k (walk.marks.has_mark k l))

-- ---- steps one after the other

pub sees_none : (m : Walk) → SeesMore m m
sees_none m = record { is = λ v q. q }

pub sees_then : (m n o : Walk) → SeesMore m n → SeesMore n o → SeesMore m o
sees_then m n o a b = record { is = λ v q. a.is v (b.is v q) }

-- ---- a vertex is visited

module _ (graph : Graph) (m : Walk) (walk : IsWalk graph m) (none : m.groups ≡ []) (w : ℕ) (vertex : w < length graph)
  where
    pub visit_enters : mark_of m w ≡ Unseen → IsWalk graph (entered graph m w)
    visit_enters unseen =
        entered_walks graph m w (may_enter graph m walk none w) vertex unseen
        (λ i l. absurd (path_is_empty graph m walk none i l))

    mark_there : w < length m.marks
    mark_there = let a = walk.marks.marked in omega (arith, a, vertex)

    pub visit_ends : (after : Walk) → Ends graph (entered graph m w) after → Ends graph m after
    visit_ends after h = record {
      walk = h.walk;
      none = h.none;
      sees = sees_then m (entered graph m w) after (entering_sees graph m w mark_there) h.sees;
    }

    pub visit_sees : (after : Walk) → Ends graph (entered graph m w) after → mark_of after w ≡ Unseen → ⊥
    visit_sees after h q =
        let a : slice_index_or (slice_set m.marks w (OnPath (length m.path))) w Unseen ≡ Unseen = h.sees.is w q in
        let b = get_or-set_same m.marks w (OnPath (length m.path)) Unseen mark_there in cc (a, b)

pub ends_at_once : (graph : Graph) (m : Walk) → IsWalk graph m → m.groups ≡ [] → Ends graph m m
ends_at_once graph m walk none = record { walk = walk; none = none; sees = sees_none m }

-- ---- all of them

pub record IsVisited (graph : Graph) (m : Walk) (root : ℕ) : Type 0 where
  pub walk : IsWalk graph m
  pub none : m.groups ≡ []
  pub seen : (v : ℕ) → v < root → mark_of m v ≡ Unseen → ⊥

pub visits_none : (rows : List (Vec ℕ)) (m : Walk) → m.marks ≡ replicate (length rows) Unseen → m.path ≡ [] →
    m.edges ≡ [] → m.groups ≡ [] → m.order ≡ [] → m.loops ≡ replicate (length rows) false →
    IsVisited (rows_of rows) m 0
unfolding at_first
visits_none rows m marks path edges groups order loops =
    subst (λ n. IsVisited (rows_of rows) n 0) (sym same) (record {
      walk = first_walks (rows_of rows);
      none = refl;
      seen = λ v l. absurd (omega (arith, l));
    })
  where
    many : length rows ≡ length (rows_of rows)
    many = sym (as_many rows)

    same : m ≡ at_first (length (rows_of rows))
    same =
        ap (λ xs. record m { marks = xs }) (marks ∙ ap (λ n. replicate n Unseen) many)
        ∙ (ap (λ xs. record m { marks = replicate (length (rows_of rows)) Unseen; path = xs }) path
        ∙ (ap (λ xs. record m { marks = replicate (length (rows_of rows)) Unseen; path = []; edges = xs }) edges
        ∙ (ap (λ xs. record m { marks = replicate (length (rows_of rows)) Unseen; path = []; edges = []; groups = xs }) groups
        ∙ (ap (λ xs. record m {
          marks = replicate (length (rows_of rows)) Unseen;
          path = [];
          edges = [];
          groups = [];
          order = xs;
        }) order
        ∙ ap (λ (xs : List Bool). record {
          marks = replicate (length (rows_of rows)) Unseen;
          path = [];
          edges = [];
          groups = [];
          order = [];
          loops = xs;
        }) (loops ∙ ap (λ n. replicate n false) many)))))

pub visits_more : (graph : Graph) (m after : Walk) (root : ℕ) → IsVisited graph m root → Ends graph m after →
    (mark_of after root ≡ Unseen → ⊥) → IsVisited graph after (root + 1)
visits_more graph m after root h e n = record {
  walk = e.walk;
  none = e.none;
  seen = λ v l. of v l (cases_eq v root);
}
  where
    of : (v : ℕ) → v < root + 1 → (v ≡ root) ⊎ (v ≡ root → ⊥) → mark_of after v ≡ Unseen → ⊥
    of v l (inl s) q = n (sym (ap (mark_of after) s) ∙ q)
    of v l (inr k) q = h.seen v (grind (arith, nat_tests, l, k)) (e.sees.is v q)

pub visits_all : (rows : List (Vec ℕ)) (m : Walk) (root : ℕ) → IsVisited (rows_of rows) m root → length rows ≤ root →
    AreInOrder (rows_of rows) m.order m.loops
visits_all rows m root h l =
    all_in_order (rows_of rows) m h.walk h.none
    (λ v k q. h.seen v (let a = as_many rows in omega (arith, a, k, l)) q)

-- Needs and Rooms that are found in an order in which each node that doesn't come to a recursion stands behind what it
-- comes to.
use Rattle.std.specs.Prelude.{◌⊎◌, Some, slice_get, slice_set, slice_index_or, Contains}
use Rattle.std.proofs.Common.{◌≡◌, inl, inr, ℕ, zero, suc, ◌<◌, ◌≤◌, List, [], ◌∷◌, ◌++◌, length, Bool, false, refl, sym, ◌∙◌, ap, subst, arith, ⊎_elim, append_assoc, append-nil, length-append}
use Rattle.std.proofs.lemmas.Bool.{cases_eq}
use Rattle.std.proofs.lemmas.List.{get_or_append_left, get_or-set_same, get_or-set_other, length-set}
use Rattle.std.proofs.lemmas.List.Elements.{Contains-push_cases}
use Rattle.directed_graphs.specs.Graphs.{Graph, successors, IsReached, start, along, at, AreInOrder}
use Rattle.directed_graphs.proofs.Closed.{any_default}
use Rattle.directed_graphs.proofs.Paths.{reached_then, first_edge, stays_in}
use Rattle.scj_tree.specs.declared.nodes.Node.{Node}
use Rattle.scj_tree.specs.Forest.{ChildrenFirst}
use Rattle.scj_tree.specs.Recursion.{lookup}
use Rattle.scj_rules.specs.declared.views.Body.TheVariants.{Written}
use Rattle.scj_model.specs.Code.{Code}
use Rattle.memory_needs.specs.Reach.{run_parts, MayRun}
use Rattle.memory_needs.specs.Need.{HasNeed}
use Rattle.memory_needs.specs.Room.{HasRoom}
use Rattle.memory_needs.specs.Solved.{need_by, room_by, solved_by, solved, solved_rooms}
use Rattle.memory_needs.specs.Edges.{count, body_vertex, IsGraphOf}
use Rattle.memory_needs.proofs.Agree.{runs_here, part_is_smaller}
use Rattle.memory_needs.proofs.ProgramEdges.{part_edge, body_edge}
use Rattle.memory_needs.proofs.Leading.{run_reached}
use Rattle.memory_needs.proofs.Settled.{reported_is, settles}
use Rattle.memory_needs.proofs.Roomed.{reported_room, room_settles}

pub solved_whole : (next : List ℕ → ℕ → ℕ) (order rows : List ℕ) → length (solved_by next order rows) ≡ length rows
unfolding solved_by
solved_whole next [] rows = refl
solved_whole next (id ∷ order) rows =
    solved_whole next order (slice_set rows id (next rows id)) ∙ length-set rows id (next rows id)

module _ (code : Code) (first : ChildrenFirst 0 code.program.nodes) (graph : Graph) (is : IsGraphOf code graph)
    (order : List ℕ) (loops : List Bool) (ordered : AreInOrder graph order loops) where
  -- no vertex that is reached from it leads to itself
  pub record IsGood (v : ℕ) : Type 0 where
    pub straight : (w : ℕ) → IsReached graph v w → slice_index_or loops w false ≡ false

  -- the vertex has come, and is such a one
  pub record HasCome (before : List ℕ) (v : ℕ) : Type 0 where
    pub good : IsGood v
    pub there : Contains before v

  good_next : (v w : ℕ) → IsGood v → Contains (successors graph v) w → IsGood w
  good_next v w g c = record { straight = λ u r. g.straight u (reached_then graph v w u (along v w start c) r) }

  -- where a vertex of the order is such a one, all to which it has edges have come before
  module _ (before after : List ℕ) (split : order ≡ before ++ after) where
    order_at : (k : ℕ) → k < length before → at order k ≡ at before k
    order_at k l = ap (λ xs. at xs k) split ∙ get_or_append_left before after 0 k l

    come_before : (k w : ℕ) → k ≤ length before → k < length order → IsGood (at order k) →
        Contains (successors graph (at order k)) w → HasCome before w
    come_before k w l m g c =
        let h = ordered.behind k w m (g.straight (at order k) start) c in
        let i : h.0 < length before = (let j = h.1 in omega (arith, j, l)) in
        record {
          good = good_next (at order k) w g c;
          there = (h.0, i, any_default before h.0 w 0 i ∙ (sym (order_at h.0 i) ∙ h.2));
        }

    come_on : (v w : ℕ) → HasCome before v → Contains (successors graph v) w → HasCome before w
    come_on v w h c =
        let k = h.there.0 in
        let l = h.there.1 in
        let same : at order k ≡ v = order_at k l ∙ (sym (any_default before k v 0 l) ∙ h.there.2) in
        come_before k w (omega (arith, l))
        (let n = ap (λ (xs : List ℕ). length xs) split in let a = length-append before after in omega (arith, l, n, a))
        (subst IsGood (sym same) h.good) (subst (λ u. Contains (successors graph u) w) (sym same) c)

    come_all : (v w : ℕ) → IsReached graph v w → HasCome before v → HasCome before w
    come_all v w r h = stays_in graph (HasCome before) come_on v w r h

  node_there : (nodes : List Node) (id : ℕ) → id < length nodes → (node : Node) × (slice_get nodes id ≡ Some node)
  node_there [] id l = absurd (omega (arith, l))
  node_there (n ∷ nodes) zero l = (n, refl)
  node_there (n ∷ nodes) (suc id) l = node_there nodes id (omega (arith, l))

  -- what is said of a node and its row: it holds of the next row of a node, where it holds of the rows of its parts and of
  -- those of the bodies that may run from the node on
  module _ (Has : ℕ → ℕ → Type 0) (next : List ℕ → ℕ → ℕ)
      (settles : (rows : List ℕ) → length rows ≡ count code → (id : ℕ) (node : Node) →
      slice_get code.program.nodes id ≡ Some node →
      ((x : ℕ) → Contains (run_parts node) x → Has x (lookup 0 rows x)) →
      ((t : ℕ) → t < count code → MayRun code (Written id) (Written t) → Has t (lookup 0 rows t)) →
      Has id (next rows id)) where
    -- it holds of the rows of those that have come
    pub record AreSound (before rows : List ℕ) : Type 0 where
      pub whole : length rows ≡ count code
      pub each : (id : ℕ) → id < count code → HasCome before id → Has id (lookup 0 rows id)

    -- the next one
    module _ (before after : List ℕ) (id : ℕ) (split : order ≡ before ++ id ∷ after) (rows : List ℕ)
        (sound : AreSound before rows) where
      place : at order (length before) ≡ id
      place = ap (λ xs. at xs (length before)) split ∙ here before
        where
          here : (xs : List ℕ) → at (xs ++ id ∷ after) (length xs) ≡ id
          here [] = refl
          here (x ∷ xs) = here xs

      is_there : length before < length order
      is_there =
          let n = ap (λ (xs : List ℕ). length xs) split in
          let a = length-append before (id ∷ after) in omega (arith, n, a)

      module _ (within : id < count code) (good : IsGood id) where
        comes : (x : ℕ) → Contains (successors graph id) x → HasCome before x
        comes x c =
            come_before before (id ∷ after) split (length before) x (omega arith) is_there
            (subst IsGood (sym place) good) (subst (λ u. Contains (successors graph u) x) (sym place) c)

        target_comes : (t : ℕ) → t < count code → MayRun code (Written id) (Written t) → HasCome before t
        target_comes t l r =
            of (first_edge graph id (body_vertex code t) (run_reached code first graph is id t within l r))
          where
            of : (id ≡ body_vertex code t)
                ⊎ ((x : ℕ) × Contains (successors graph id) x × IsReached graph x (body_vertex code t)) →
                HasCome before t
            of (inl e) = absurd (omega (arith, e, within))
            of (inr h) =
                come_all before (id ∷ after) split h.0 t
                (along (body_vertex code t) t h.2 (body_edge code graph is t l)) (comes h.0 h.1)

        next_sound : Has id (next rows id)
        next_sound =
            let n = node_there code.program.nodes id within in
            settles rows sound.whole id n.0 n.1
            (λ x c. sound.each x
            (let l = part_is_smaller code.program.nodes first id x n.0 n.1 c in omega (arith, l, within))
            (comes x (part_edge code graph is id x n.0 within n.1 c)))
            (λ t l r. sound.each t l (target_comes t l r))

      pub sound_more : AreSound (before ++ id ∷ []) (slice_set rows id (next rows id))
      sound_more = record {
        whole = length-set rows id (next rows id) ∙ sound.whole;
        each = λ k l h. of k l h (cases_eq k id);
      }
        where
          of : (k : ℕ) → k < count code → HasCome (before ++ id ∷ []) k → (k ≡ id) ⊎ (k ≡ id → ⊥) →
              Has k (lookup 0 (slice_set rows id (next rows id)) k)
          of k l h (inl e) =
              subst (λ j. Has j (lookup 0 (slice_set rows id (next rows id)) j)) (sym e)
              (subst (Has id)
              (sym (get_or-set_same rows id (next rows id) 0 (let w = sound.whole in omega (arith, e, l, w))))
              (next_sound (omega (arith, e, l)) (subst IsGood e h.good)))
          of k l h (inr n) =
              subst (Has k) (sym (get_or-set_other rows id k (next rows id) 0 n))
              (sound.each k l (record {
                good = h.good;
                there = ⊎_elim (λ c. c) (λ (e : id ≡ k). absurd (n (sym e))) (Contains-push_cases before id k h.there);
              }))

    sound_all : (before after rows : List ℕ) → order ≡ before ++ after → AreSound before rows →
        AreSound order (solved_by next after rows)
    unfolding solved_by
    sound_all before [] rows split sound = subst (λ xs. AreSound xs rows) (sym (split ∙ append-nil before)) sound
    sound_all before (id ∷ after) rows split sound =
        sound_all (before ++ id ∷ []) after (slice_set rows id (next rows id))
        (split ∙ sym (append_assoc before (id ∷ []) after))
        (sound_more before after id split rows sound)

    -- it holds of all nodes from which no recursion is come to
    solved_each : (rows : List ℕ) → length rows ≡ count code → (id : ℕ) → id < count code → IsGood id →
        Has id (lookup 0 (solved_by next order rows) id)
    solved_each rows whole id l good =
        (sound_all [] order rows refl
        (record { whole = whole; each = λ k m h. absurd (let i = h.there.1 in omega (arith, i)) })).each
        id l (record { good = good; there = ordered.all id (let w = is.whole in omega (arith, l, w)) })

  -- their rows are their Needs
  need_next : (rows : List ℕ) → length rows ≡ count code → (id : ℕ) (node : Node) →
      slice_get code.program.nodes id ≡ Some node →
      ((x : ℕ) → Contains (run_parts node) x → HasNeed code (Written x) (lookup 0 rows x)) →
      ((t : ℕ) → t < count code → MayRun code (Written id) (Written t) → HasNeed code (Written t) (lookup 0 rows t)) →
      HasNeed code (Written id) (need_by code rows id)
  need_next rows whole id node there parts runs =
      settles code first rows whole id node there parts
      (λ target r. reported_is code first rows whole target
      (λ t l e. runs t l (subst (MayRun code (Written id)) e (runs_here code (Written id) target r))))

  pub solved_needs : (rows : List ℕ) → length rows ≡ count code → (id : ℕ) → id < count code → IsGood id →
      HasNeed code (Written id) (lookup 0 (solved code order rows) id)
  solved_needs rows whole id l good =
      solved_each (λ n bytes. HasNeed code (Written n) bytes) (need_by code) need_next rows whole id l good

  -- or their Rooms
  room_next : (rows : List ℕ) → length rows ≡ count code → (id : ℕ) (node : Node) →
      slice_get code.program.nodes id ≡ Some node →
      ((x : ℕ) → Contains (run_parts node) x → HasRoom code (Written x) (lookup 0 rows x)) →
      ((t : ℕ) → t < count code → MayRun code (Written id) (Written t) → HasRoom code (Written t) (lookup 0 rows t)) →
      HasRoom code (Written id) (room_by code rows id)
  room_next rows whole id node there parts runs =
      room_settles code first rows whole id node there parts
      (λ target r. reported_room code first rows whole target
      (λ t l e. runs t l (subst (MayRun code (Written id)) e r)))

  pub solved_room : (rows : List ℕ) → length rows ≡ count code → (id : ℕ) → id < count code → IsGood id →
      HasRoom code (Written id) (lookup 0 (solved_rooms code order rows) id)
  solved_room rows whole id l good =
      solved_each (λ n bytes. HasRoom code (Written n) bytes) (room_by code) room_next rows whole id l good

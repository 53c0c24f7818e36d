-- What becomes of keys and places where a release arrives.
use Rattle.std.proofs.Common.{◌≡◌, ℕ, zero, suc, ◌+◌, ◌<◌, ◌==◌, Bool, true, false, List, [], ◌∷◌, ◌++◌, length, map, Option, None, Some, refl, sym, ap, ◌∙◌, subst, arith}
use Rattle.std.specs.Prelude.{slice_get, slice_set, option_map}
use Rattle.std.proofs.lemmas.Bool.Decides.{nat_tests}
use Rattle.std.proofs.lemmas.Option.{slice_get_within, slice_get-map}
use Rattle.scj_rules.specs.Words.{holds}
use Rattle.scj_model.specs.State.{changed}
use Rattle.accepted_laws.proofs.Lists.{get_last, get_left, get_set_other, get_set_same}
use Rattle.accepted_laws.proofs.Tools.{some_inj}
use Rattle.trace_audit.specs.declared.handlers.Handler.{Handler}
use Rattle.trace_audit.specs.declared.releases.Release.{Release}
use Rattle.trace_audit.specs.Replay.{HandlerSeen, is_named, one_more, priority_at}
use Rattle.trace_audit.specs.Index.{HasKeys, HasMoreKeys, HasIndices, handler_seen, is_among_keys, key_of, index_kept, indices_end, rank_of}
use Rattle.trace_audit.proofs.KeyLaws.{HandlerThere, before_last, handler_there, kept_at, keys_by, length_push, map_set, old_holds, priority_in, releases_of, seen_at}

module _ (handlers : List Handler) (releases : List Release) (k : ℕ) (h after : Handler) (r : Release)
    (there : slice_get handlers k ≡ Some h) (same_priority : after.priority ≡ h.priority)
    (pushed : after.indices.items ≡ h.indices.items ++ length releases ∷ []) (of : r.handler ≡ suc k)
    (next : r.number ≡ suc (length h.indices.items)) where
  within : k < length handlers
  within = slice_get_within handlers k h there

  here : slice_get (slice_set handlers k after) k ≡ Some after
  here = get_set_same handlers k after within

  -- what was kept is kept
  still_kept : (handler number index : ℕ) → index_kept handlers handler number ≡ Some index →
      index_kept (slice_set handlers k after) handler number ≡ Some index
  still_kept handler number index e = by_row (handler_there handlers handler number index e)
    where
      by_row : HandlerThere handlers handler number index →
          index_kept (slice_set handlers k after) handler number ≡ Some index
      by_row at =
          ap (λ (n : ℕ). index_kept (slice_set handlers k after) n number) at.is_handler
          ∙ (ap (index_kept (slice_set handlers k after) (suc at.k)) at.is_number ∙ by_test (at.k == k) refl)
        where
          by_test : (b : Bool) → (at.k == k) ≡ b →
              index_kept (slice_set handlers k after) (suc at.k) (suc at.i) ≡ Some index
          by_test true t =
              let q : at.k ≡ k = grind (arith, nat_tests, t) in
              let row : h ≡ at.row = some_inj h at.row (sym there ∙ (ap (slice_get handlers) (sym q) ∙ at.there)) in
              let kept : slice_get h.indices.items at.i ≡ Some index =
              subst (λ (x : Handler). slice_get x.indices.items at.i ≡ Some index) (sym row) at.kept in
              kept_at (slice_set handlers k after) at.k at.i after
              (ap (slice_get (slice_set handlers k after)) q ∙ here)
              ∙ (ap (λ (ps : List ℕ). slice_get ps at.i) pushed
              ∙ get_left h.indices.items (length releases ∷ []) at.i index kept)
          by_test false t =
              let q : k ≡ at.k → ⊥ = λ g. (let e : at.k ≡ k = sym g in grind (arith, nat_tests, t, e)) in
              kept_at (slice_set handlers k after) at.k at.i at.row
              (get_set_other handlers k at.k after q ∙ at.there) ∙ at.kept

  new_kept : index_kept (slice_set handlers k after) r.handler r.number ≡ Some (length releases)
  new_kept =
      ap (λ (n : ℕ). index_kept (slice_set handlers k after) n r.number) of
      ∙ (ap (index_kept (slice_set handlers k after) (suc k)) next
      ∙ (kept_at (slice_set handlers k after) k (length h.indices.items) after here
      ∙ (ap (λ (ps : List ℕ). slice_get ps (length h.indices.items)) pushed
      ∙ get_last h.indices.items (length releases))))

  pub places_arrived : HasIndices handlers releases → HasIndices (slice_set handlers k after) (releases ++ r ∷ [])
  places_arrived has =
      record {
        kept = λ index t e. kept index t e (index == length releases) refl;
        right = λ handler number index e.
            right handler number index (handler_there (slice_set handlers k after) handler number index e);
      }
    where
      last : slice_get (releases ++ r ∷ []) (length releases) ≡ Some r
      last = get_last releases r

      kept : (index : ℕ) (t : Release) → slice_get (releases ++ r ∷ []) index ≡ Some t → (b : Bool) →
          (index == length releases) ≡ b → index_kept (slice_set handlers k after) t.handler t.number ≡ Some index
      kept index t e true g =
          let q : index ≡ length releases = grind (arith, nat_tests, g) in
          let same : r ≡ t = some_inj r t (sym last ∙ (ap (slice_get (releases ++ r ∷ [])) (sym q) ∙ e)) in
          subst (λ (u : Release). index_kept (slice_set handlers k after) u.handler u.number ≡ Some index) same
          (new_kept ∙ ap (λ (n : ℕ). Some n) (sym q))
      kept index t e false g =
          still_kept t.handler t.number index
          (has.kept index t (before_last releases r index t e (λ q. grind (arith, nat_tests, g, q))))

      by_row : (handler number index : ℕ) → (at : HandlerThere (slice_set handlers k after) handler number index) →
          (b : Bool) → (at.k == k) ≡ b → holds (slice_get (releases ++ r ∷ []) index) (is_named handler number) ≡ true
      by_row handler number index at true t =
          let q : at.k ≡ k = grind (arith, nat_tests, t) in
          let row : after ≡ at.row =
          some_inj after at.row (sym here ∙ (ap (slice_get (slice_set handlers k after)) (sym q) ∙ at.there)) in
          let kept : slice_get (h.indices.items ++ length releases ∷ []) at.i ≡ Some index =
          subst (λ (ps : List ℕ). slice_get ps at.i ≡ Some index) pushed
          (subst (λ (x : Handler). slice_get x.indices.items at.i ≡ Some index) (sym row) at.kept) in
          by_place handler number index at q kept (at.i == length h.indices.items) refl
        where
          by_place : (handler number index : ℕ) (at : HandlerThere (slice_set handlers k after) handler number index) →
              at.k ≡ k → slice_get (h.indices.items ++ length releases ∷ []) at.i ≡ Some index → (b : Bool) →
              (at.i == length h.indices.items) ≡ b →
              holds (slice_get (releases ++ r ∷ []) index) (is_named handler number) ≡ true
          by_place handler number index at q kept true g =
              let i_is : at.i ≡ length h.indices.items = grind (arith, nat_tests, g) in
              let place_is : length releases ≡ index =
              some_inj (length releases) index
              (sym (get_last h.indices.items (length releases))
              ∙ (ap (slice_get (h.indices.items ++ length releases ∷ [])) (sym i_is) ∙ kept)) in
              let e : r.handler ≡ handler = of ∙ (ap suc (sym q) ∙ sym at.is_handler) in
              let f : r.number ≡ number = next ∙ (ap suc (sym i_is) ∙ sym at.is_number) in
              ap (λ (n : ℕ). holds (slice_get (releases ++ r ∷ []) n) (is_named handler number)) (sym place_is)
              ∙ (ap (λ (o : Option Release). holds o (is_named handler number)) last
              ∙ grind (arith, nat_tests, e, f))
          by_place handler number index at q kept false g =
              old_holds releases r index (is_named handler number)
              (has.right handler number index
              (ap (λ (n : ℕ). index_kept handlers n number) (at.is_handler ∙ ap suc q)
              ∙ (ap (index_kept handlers (suc k)) at.is_number
              ∙ (kept_at handlers k at.i h there
              ∙ before_last h.indices.items (length releases) at.i index kept (λ x. grind (arith, nat_tests, g, x))))))
      by_row handler number index at false t =
          let q : k ≡ at.k → ⊥ = λ g. (let e : at.k ≡ k = sym g in grind (arith, nat_tests, t, e)) in
          old_holds releases r index (is_named handler number)
          (has.right handler number index
          (ap (λ (n : ℕ). index_kept handlers n number) at.is_handler
          ∙ (ap (index_kept handlers (suc at.k)) at.is_number
          ∙ (kept_at handlers at.k at.i at.row (sym (get_set_other handlers k at.k after q) ∙ at.there) ∙ at.kept))))

      right : (handler number index : ℕ) → HandlerThere (slice_set handlers k after) handler number index →
          holds (slice_get (releases ++ r ∷ []) index) (is_named handler number) ≡ true
      right handler number index at = by_row handler number index at (at.k == k) refl

  seen_arrived : map handler_seen (slice_set handlers k after)
      ≡ slice_set (map handler_seen handlers) k (one_more (handler_seen h))
  seen_arrived = map_set handlers k after ∙ ap (slice_set (map handler_seen handlers) k) same_seen
    where
      same_seen : handler_seen after ≡ one_more (handler_seen h)
      same_seen =
          ap (λ (n : ℕ). record { priority = n; arrived = length after.indices.items }) same_priority
          ∙ ap (λ (n : ℕ). record { priority = h.priority; arrived = n })
          (ap length pushed ∙ length_push h.indices.items (length releases))

  pub handlers_arrived : map handler_seen (slice_set handlers k after)
      ≡ changed one_more k (map handler_seen handlers)
  handlers_arrived =
      seen_arrived
      ∙ sym (ap (λ (o : Option HandlerSeen). elim o as (λ _. List HandlerSeen) [
        | None ↦ map handler_seen handlers
        | Some x ↦ slice_set (map handler_seen handlers) k (one_more x)
      ]) (seen_at handlers k h there))

  same_at : (handler : ℕ) → priority_at (map handler_seen (slice_set handlers k after)) handler
      ≡ priority_at (map handler_seen handlers) handler
  same_at zero = refl
  same_at (suc n) = by_test (n == k) refl
    where
      by_test : (b : Bool) → (n == k) ≡ b →
          priority_in (slice_get (map handler_seen (slice_set handlers k after)) n)
          ≡ priority_in (slice_get (map handler_seen handlers) n)
      by_test true t =
          let q : n ≡ k = grind (arith, nat_tests, t) in
          ap (λ (m : ℕ). priority_in (slice_get (map handler_seen (slice_set handlers k after)) m)) q
          ∙ (ap priority_in (seen_at (slice_set handlers k after) k after here)
          ∙ (same_priority ∙ (sym (ap priority_in (seen_at handlers k h there))
          ∙ sym (ap (λ (m : ℕ). priority_in (slice_get (map handler_seen handlers) m)) q))))
      by_test false t =
          let q : k ≡ n → ⊥ = λ g. (let e : n ≡ k = sym g in grind (arith, nat_tests, t, e)) in
          ap priority_in (slice_get-map handler_seen (slice_set handlers k after) n
          ∙ (ap (option_map handler_seen) (get_set_other handlers k n after q)
          ∙ sym (slice_get-map handler_seen handlers n)))

  pub keys_arrived : (keys more : List ℕ) → HasKeys (releases_of (map handler_seen handlers) releases) keys →
      length releases < indices_end → HasMoreKeys keys more (rank_of (map handler_seen handlers) r) (length releases) →
      HasKeys (releases_of (map handler_seen (slice_set handlers k after)) (releases ++ r ∷ [])) more
  keys_arrived keys more has few added =
      keys_by (map handler_seen handlers) (map handler_seen (slice_set handlers k after)) (releases ++ r ∷ []) more
      (record {
        few = let l : length (releases ++ r ∷ []) ≡ length releases + 1 = length_push releases r in
            omega (arith, l, few);
        is = λ index rank t e f. by_test index rank t e f (index == length releases) refl;
      })
      (λ index t e. same_at t.handler)
    where
      by_test : (index rank : ℕ) (t : Release) → slice_get (releases ++ r ∷ []) index ≡ Some t →
          rank_of (map handler_seen handlers) t ≡ Some rank → (b : Bool) → (index == length releases) ≡ b →
          is_among_keys (key_of rank index) more ≡ true
      by_test index rank t e f true g =
          let q : index ≡ length releases = grind (arith, nat_tests, g) in
          let same : r ≡ t =
          some_inj r t (sym (get_last releases r) ∙ (ap (slice_get (releases ++ r ∷ [])) (sym q) ∙ e)) in
          subst (λ (m : ℕ). is_among_keys (key_of rank m) more ≡ true) (sym q)
          (added.new rank (ap (rank_of (map handler_seen handlers)) same ∙ f))
      by_test index rank t e f false g =
          added.stay (key_of rank index)
          (has.is index rank t (before_last releases r index t e (λ q. grind (arith, nat_tests, g, q))) f)

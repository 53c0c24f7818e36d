-- In execution the store is reserved for the areas of the sequencer and for those that started releases opened: it is so much for
-- the sequencer, and so much for each started release.
use Rattle.std.specs.Prelude.{Option, Some, None, filter_map, flat_map, map, slice_get, sum}
use Rattle.std.specs.List.{cons_option}
use Rattle.std.proofs.lemmas.List.Sums.{sum_by-append}
use Rattle.std.proofs.Common.{◌≡◌, ◌⊎◌, ◌∙◌, ℕ, zero, suc, ◌+◌, ◌*◌, ◌≤◌, List, [], ◌∷◌, ◌++◌, length, true, inl, inr, refl, ap, sym, subst, arith}
use Rattle.std.proofs.lemmas.List.{map-append}
use Rattle.scj_rules.specs.Words.{holds, is_among}
use Rattle.accepted_laws.proofs.Tools.{some_inj}
use Rattle.scj_model.specs.Memory.{reserved, rounded_up}
use Rattle.scj_model.specs.Safety.{started_activities, started_count}
use Rattle.scj_model.specs.State.{Activity, MemoryArea, Release, State, activity_in, area_at}
use Rattle.priority_laws.specs.Nesting.{AreasAreOpened, IsOpenedByRelease, opened_by}
use Rattle.priority_laws.specs.Started.{StartedRelease, started_as, started_at, started_in}
use Rattle.priority_laws.proofs.AreaLists.{among_left, among_right}
use Rattle.memory_bounds.proofs.OpenBytes.{reserved_by, total}

-- ---- what started releases opened

abbrev pub opened_of : List Release → List ℕ
opened_of rs = flat_map (λ (a : Activity). opened_by a.frames) (filter_map (λ (r : Release). activity_in r.status) rs)

opened_among : (rs : List Release) (p : ℕ) (w : StartedRelease) (b : ℕ) → started_at rs p ≡ Some w →
    is_among b (opened_by w.activity.frames) ≡ true → is_among b (opened_of rs) ≡ true
unfolding started_at started_in
opened_among [] p w b e m = absurd (cc (e))
opened_among (r ∷ rs) zero w b e m = go (activity_in r.status) e
  where
    go : (o : Option Activity) → (elim o as (λ z. Option StartedRelease) [ None ↦ None | Some a ↦ Some (started_as r.handler a) ])
        ≡ Some w → is_among b (flat_map (λ (a : Activity). opened_by a.frames)
        (cons_option o (filter_map (λ (q : Release). activity_in q.status) rs))) ≡ true
    go None f = absurd (cc (f))
    go (Some a) f =
        (let same : started_as r.handler a ≡ w = some_inj (started_as r.handler a) w f in
        let act : w.activity ≡ a = ap (λ (x : StartedRelease). x.activity) (sym same) in
        among_left b (opened_by a.frames) (opened_of rs)
        (subst (λ (x : Activity). is_among b (opened_by x.frames) ≡ true) act m))
opened_among (r ∷ rs) (suc p) w b e m = go (activity_in r.status) (opened_among rs p w b e m)
  where
    go : (o : Option Activity) → is_among b (opened_of rs) ≡ true →
        is_among b (flat_map (λ (a : Activity). opened_by a.frames)
        (cons_option o (filter_map (λ (q : Release). activity_in q.status) rs))) ≡ true
    go None k = k
    go (Some a) k = among_right b (opened_by a.frames) (opened_of rs) k

module _ (weight : ℕ → ℕ) where
  total_both : (xs ys : List ℕ) → total weight (xs ++ ys) ≡ total weight xs + total weight ys
  total_both xs ys =
      ap sum (map-append weight xs ys) ∙ sum_by-append (λ m. m) (map weight xs) (map weight ys)

  -- so much for each of them
  opened_bytes : (each : ℕ) (rs : List Release) → ((p : ℕ) (r : Release) (a : Activity) → slice_get rs p ≡ Some r →
      activity_in r.status ≡ Some a → total weight (opened_by a.frames) ≤ each) →
      total weight (opened_of rs) ≤ each * length (filter_map (λ (r : Release). activity_in r.status) rs)
  opened_bytes each [] h = omega arith
  opened_bytes each (r ∷ rs) h =
      go (activity_in r.status) (λ a e. h 0 r a refl e) (opened_bytes each rs (λ p q a e k. h (suc p) q a e k))
    where
      go : (o : Option Activity) → ((a : Activity) → o ≡ Some a → total weight (opened_by a.frames) ≤ each) →
          total weight (opened_of rs) ≤ each * length (filter_map (λ (q : Release). activity_in q.status) rs) →
          total weight (flat_map (λ (a : Activity). opened_by a.frames)
          (cons_option o (filter_map (λ (q : Release). activity_in q.status) rs)))
          ≤ each * length (cons_option o (filter_map (λ (q : Release). activity_in q.status) rs))
      go None few k = k
      go (Some a) few k =
          (let own : total weight (opened_by a.frames) ≤ each = few a refl in
          let all : total weight (opened_by a.frames ++ opened_of rs)
          ≡ total weight (opened_by a.frames) + total weight (opened_of rs) =
          total_both (opened_by a.frames) (opened_of rs) in
          more each (length (filter_map (λ (q : Release). activity_in q.status) rs))
          (total weight (opened_by a.frames ++ opened_of rs)) (total weight (opened_by a.frames))
          (total weight (opened_of rs)) all own k)
        where
          more : (each n x y z : ℕ) → x ≡ y + z → y ≤ each → z ≤ each * n → x ≤ each * suc n
          more each n x y z e h k = grind (arith, e, h, k)

  -- one of them has room for so much more
  opened_with : (each more : ℕ) (rs : List Release) (p : ℕ) (r : Release) (a : Activity) → slice_get rs p ≡ Some r →
      activity_in r.status ≡ Some a → total weight (opened_by a.frames) + more ≤ each →
      ((q : ℕ) (x : Release) (b : Activity) → slice_get rs q ≡ Some x → activity_in x.status ≡ Some b →
      total weight (opened_by b.frames) ≤ each) →
      total weight (opened_of rs) + more ≤ each * length (filter_map (λ (x : Release). activity_in x.status) rs)
  opened_with each more [] p r a there is fits all = absurd (cc (there))
  opened_with each more (x ∷ rs) zero r a there is fits all =
      of (activity_in x.status) (ap (λ (y : Release). activity_in y.status) (some_inj x r there) ∙ is)
      (opened_bytes each rs (λ q y b e k. all (suc q) y b e k))
    where
      of : (o : Option Activity) → o ≡ Some a →
          total weight (opened_of rs) ≤ each * length (filter_map (λ (y : Release). activity_in y.status) rs) →
          total weight (flat_map (λ (b : Activity). opened_by b.frames)
          (cons_option o (filter_map (λ (y : Release). activity_in y.status) rs))) + more
          ≤ each * length (cons_option o (filter_map (λ (y : Release). activity_in y.status) rs))
      of None e k = absurd (cc (e))
      of (Some b) e k =
          (let same : b ≡ a = some_inj b a e in
          let own : total weight (opened_by b.frames) ≡ total weight (opened_by a.frames) =
          ap (λ (z : Activity). total weight (opened_by z.frames)) same in
          let both : total weight (opened_by b.frames ++ opened_of rs)
          ≡ total weight (opened_by b.frames) + total weight (opened_of rs) = total_both (opened_by b.frames) (opened_of rs) in
          sums each (length (filter_map (λ (y : Release). activity_in y.status) rs))
          (total weight (opened_by b.frames ++ opened_of rs)) (total weight (opened_by b.frames))
          (total weight (opened_of rs)) more both (omega (arith, own, fits)) k)
        where
          sums : (each n x y z more : ℕ) → x ≡ y + z → y + more ≤ each → z ≤ each * n → x + more ≤ each * suc n
          sums each n x y z more e h k = grind (arith, e, h, k)
  opened_with each more (x ∷ rs) (suc p) r a there is fits all =
      of (activity_in x.status) (λ b e. all 0 x b refl e)
      (opened_with each more rs p r a there is fits (λ q y b e k. all (suc q) y b e k))
    where
      of : (o : Option Activity) → ((b : Activity) → o ≡ Some b → total weight (opened_by b.frames) ≤ each) →
          total weight (opened_of rs) + more ≤ each * length (filter_map (λ (y : Release). activity_in y.status) rs) →
          total weight (flat_map (λ (b : Activity). opened_by b.frames)
          (cons_option o (filter_map (λ (y : Release). activity_in y.status) rs))) + more
          ≤ each * length (cons_option o (filter_map (λ (y : Release). activity_in y.status) rs))
      of None few k = k
      of (Some b) few k =
          (let own : total weight (opened_by b.frames) ≤ each = few b refl in
          let both : total weight (opened_by b.frames ++ opened_of rs)
          ≡ total weight (opened_by b.frames) + total weight (opened_of rs) = total_both (opened_by b.frames) (opened_of rs) in
          sums each (length (filter_map (λ (y : Release). activity_in y.status) rs))
          (total weight (opened_by b.frames ++ opened_of rs)) (total weight (opened_by b.frames))
          (total weight (opened_of rs)) more both own k)
        where
          sums : (each n x y z more : ℕ) → x ≡ y + z → y ≤ each → z + more ≤ each * n → x + more ≤ each * suc n
          sums each n x y z more e h k = grind (arith, e, h, k)

-- ---- what is reserved

module _ (s : State) where
  -- the bytes that an area takes of the store
  abbrev bytes_in : Option MemoryArea → ℕ
  bytes_in o = elim o as (λ z. ℕ) [ None ↦ 0 | Some x ↦ rounded_up x.bytes ]

  abbrev pub area_bytes : ℕ → ℕ
  area_bytes a = bytes_in (area_at s a)

  abbrev Opened : Type 0
  Opened = AreasAreOpened s

  listed : Opened → reserved s ≤ total area_bytes s.activity.areas + total area_bytes (opened_of s.releases)
  listed opened =
      (let all : reserved s ≤ total area_bytes (s.activity.areas ++ opened_of s.releases) =
      reserved_by area_bytes s (s.activity.areas ++ opened_of s.releases) (λ a x e t.
      (by a (opened.is a (ap (λ (y : Option MemoryArea). holds y (λ z. z.is_open)) e ∙ t)), within a x e)) in
      let both = total_both area_bytes s.activity.areas (opened_of s.releases) in
      omega (arith, all, both))
    where
      by : (a : ℕ) → (is_among a s.activity.areas ≡ true) ⊎ IsOpenedByRelease s a →
          is_among a (s.activity.areas ++ opened_of s.releases) ≡ true
      by a (inl m) = among_left a s.activity.areas (opened_of s.releases) m
      by a (inr r) =
          among_right a s.activity.areas (opened_of s.releases)
          (opened_among s.releases r.index r.release a r.is_there r.is_opened)

      within : (a : ℕ) (x : MemoryArea) → slice_get s.areas a ≡ Some x → rounded_up x.bytes ≤ area_bytes a
      within a x e =
          (let same : area_bytes a ≡ rounded_up x.bytes = ap bytes_in e in
          omega (arith, same))

  -- where one started release has room for so much more
  pub reserved_with : (each more : ℕ) → AreasAreOpened s → (index : ℕ) (r : Release) (a : Activity) →
      slice_get s.releases index ≡ Some r → activity_in r.status ≡ Some a →
      total area_bytes (opened_by a.frames) + more ≤ each →
      ((p : ℕ) (x : Release) (b : Activity) → slice_get s.releases p ≡ Some x → activity_in x.status ≡ Some b →
      total area_bytes (opened_by b.frames) ≤ each) →
      reserved s + more ≤ total area_bytes s.activity.areas + each * started_count s
  unfolding started_activities
  reserved_with each more opened index r a there is fits h =
      (let all = listed opened in
      let releases = opened_with area_bytes each more s.releases index r a there is fits h in
      omega (arith, all, releases))

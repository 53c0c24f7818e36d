-- A job that is bounded doesn't find its area full, and stays bounded by what it does.
use Rattle.std.specs.Prelude.{Option, Some, None, if◌then◌else◌, not, option_to_list, nat_lt, ◌||◌}
use Rattle.std.proofs.Common.{◌≡◌, ℕ, zero, suc, ◌+◌, ◌<◌, ◌≤◌, List, [], ◌∷◌, ◌++◌, Bool, true, false, ◌==◌, refl, sym, ◌∙◌, ap, subst, arith}
use Rattle.std.proofs.lemmas.Bool.Decides.{nat_tests}
use Rattle.scj_rules.specs.Words.{is_among, holds}
use Rattle.scj_rules.specs.Layout.{size_with_slots}
use Rattle.scj_model.specs.Code.{Code}
use Rattle.scj_model.specs.State.{MemoryArea, Frame, State, area_at}
use Rattle.scj_model.specs.Memory.{used, has_room}
use Rattle.frame_sound.specs.OwnJob.{opened_by}
use Rattle.memory_needs.specs.Need.{Table, too_much}
use Rattle.memory_bounds.specs.Weights.{ops_weight}
use Rattle.memory_bounds.specs.Bounded.{frames_weight, HasRoomFor, NeedOwnAreas, IsBounded}

module _ (code : Code) (table : Table) where
  -- the frames need no more, with what is in use, than before; and areas stay as large as they were
  pub record Moves (s t : State) (frames left : List Frame) : Type 0 where
    pub weights : (a : ℕ) → 0 < frames_weight code table a left →
        (0 < frames_weight code table a frames)
        × (used t a + frames_weight code table a left ≤ used s a + frames_weight code table a frames)
    pub areas : (a : ℕ) (x : MemoryArea) → area_at s a ≡ Some x →
        (y : MemoryArea) × (area_at t a ≡ Some y) × (y.bytes ≡ x.bytes)
    pub owns : NeedOwnAreas code table left

  pub moved : (s t : State) (frames left : List Frame) → Moves s t frames left → IsBounded code table s frames →
      IsBounded code table t left
  moved s t frames left m b = record { room = room; own = m.owns }
    where
      room : (a : ℕ) → 0 < frames_weight code table a left → HasRoomFor t a (frames_weight code table a left)
      room a p =
          let n = m.weights a p in
          let r = b.room a n.0 in
          let x = m.areas a r.area r.is in
          record {
            area = x.0;
            is = x.1;
            fits = omega (arith, r.fits, n.1, x.2);
            small = omega (arith, r.small, x.2);
          }

  -- the need of the highest frame in its own area is part of what all need there
  top_weight : (f : Frame) (below : List Frame) →
      frames_weight code table f.area (f ∷ below) ≡ ops_weight code table f.rest + frames_weight code table f.area below
  unfolding frames_weight
  top_weight f below = of (f.area == f.area) refl
    where
      of : (b : Bool) → (f.area == f.area) ≡ b →
          (if b then ops_weight code table f.rest else 0) + frames_weight code table f.area below
          ≡ ops_weight code table f.rest + frames_weight code table f.area below
      of true e = refl
      of false e = absurd (let n : f.area ≡ f.area → ⊥ = grind (arith, nat_tests) in n refl)

  -- an object that was reckoned with finds room
  pub finds_room : (s : State) (f : Frame) (below : List Frame) (count : ℕ) → IsBounded code table s (f ∷ below) →
      size_with_slots count ≤ ops_weight code table f.rest → has_room s f.area count ≡ true
  unfolding has_room size_with_slots
  finds_room s f below count b le =
      let a = top_weight f below in
      let r = b.room f.area (omega (arith, a, le)) in
      let is : has_room s f.area count ≡ not (nat_lt r.area.bytes (used s f.area + size_with_slots count)) =
      ap (λ (o : Option MemoryArea). holds o (λ (x : MemoryArea). not (nat_lt x.bytes (used s f.area + size_with_slots count)))) r.is in
      is ∙ of r.area.bytes (used s f.area + size_with_slots count) (omega (arith, a, le, r.fits))
    where
      of : (m n : ℕ) → n ≤ m → not (nat_lt m n) ≡ true
      of m n l = let e : nat_lt m n ≡ false = grind (arith, nat_tests) in ap not e

  -- ---- the frame goes on
  -- a frame of the same area that needs no more
  pub less_weight : (f h : Frame) (below : List Frame) (more : ℕ) → h.area ≡ f.area →
      ops_weight code table h.rest + more ≤ ops_weight code table f.rest → (a : ℕ) →
      frames_weight code table a (h ∷ below) + (if f.area == a then more else 0) ≤ frames_weight code table a (f ∷ below)
  unfolding frames_weight
  less_weight f h below more same le a = of (f.area == a) (ap (λ (n : ℕ). n == a) same)
    where
      of : (b : Bool) → (h.area == a) ≡ b →
          (if h.area == a then ops_weight code table h.rest else 0) + frames_weight code table a below + (if b then more else 0)
          ≤ (if b then ops_weight code table f.rest else 0) + frames_weight code table a below
      of b e = subst (λ (t : Bool).
          (if t then ops_weight code table h.rest else 0) + frames_weight code table a below + (if b then more else 0)
          ≤ (if b then ops_weight code table f.rest else 0) + frames_weight code table a below) (sym e) (now b)
        where
          now : (b : Bool) →
              (if b then ops_weight code table h.rest else 0) + frames_weight code table a below + (if b then more else 0)
              ≤ (if b then ops_weight code table f.rest else 0) + frames_weight code table a below
          now true = omega (arith, le)
          now false = omega arith

  opened_same : (f h : Frame) (below : List Frame) → h.opened ≡ f.opened → opened_by (h ∷ below) ≡ opened_by (f ∷ below)
  opened_same f h below e = ap (λ (o : Option ℕ). option_to_list o ++ opened_by below) e

  pub own_same : (f h : Frame) (below : List Frame) → h.area ≡ f.area → h.opened ≡ f.opened →
      ops_weight code table h.rest ≤ ops_weight code table f.rest → NeedOwnAreas code table (f ∷ below) →
      NeedOwnAreas code table (h ∷ below)
  unfolding NeedOwnAreas
  own_same f h below area opened le own = (
    λ p.
        subst (λ (xs : List ℕ). is_among h.area xs ≡ true) (sym (opened_same f h below opened))
        (subst (λ (a : ℕ). is_among a (opened_by (f ∷ below)) ≡ true) (sym area) (own.0 (omega (arith, p, le)))),
    own.1,
  )

  -- what is in use and how large areas are stay as they were
  pub record MemoryStays (s t : State) : Type 0 where
    pub in_use : (a : ℕ) → used t a ≤ used s a
    pub areas : (a : ℕ) (x : MemoryArea) → area_at s a ≡ Some x →
        (y : MemoryArea) × (area_at t a ≡ Some y) × (y.bytes ≡ x.bytes)

  -- an operation that makes nothing and calls nothing
  pub goes_on : (s t : State) (f h : Frame) (below : List Frame) → MemoryStays s t → h.area ≡ f.area →
      h.opened ≡ f.opened → ops_weight code table h.rest ≤ ops_weight code table f.rest →
      IsBounded code table s (f ∷ below) → IsBounded code table t (h ∷ below)
  goes_on s t f h below stays area opened le b =
      moved s t (f ∷ below) (h ∷ below) (record { weights = weights; areas = stays.areas; owns = own_same f h below area opened le b.own }) b
    where
      weights : (a : ℕ) → 0 < frames_weight code table a (h ∷ below) →
          (0 < frames_weight code table a (f ∷ below))
          × (used t a + frames_weight code table a (h ∷ below) ≤ used s a + frames_weight code table a (f ∷ below))
      weights a p =
          let n = less_weight f h below 0 area (omega (arith, le)) a in
          let u = stays.in_use a in
          (omega (arith, n, p), omega (arith, n, u))

  -- ---- a new object
  pub makes_one : (s t : State) (f h : Frame) (below : List Frame) (size : ℕ) → h.area ≡ f.area → h.opened ≡ f.opened →
      ops_weight code table h.rest + size ≤ ops_weight code table f.rest →
      ((a : ℕ) → used t a ≤ used s a + (if f.area == a then size else 0)) →
      ((a : ℕ) (x : MemoryArea) → area_at s a ≡ Some x → (y : MemoryArea) × (area_at t a ≡ Some y) × (y.bytes ≡ x.bytes)) →
      IsBounded code table s (f ∷ below) → IsBounded code table t (h ∷ below)
  makes_one s t f h below size area opened le more areas b =
      moved s t (f ∷ below) (h ∷ below)
      (record { weights = weights; areas = areas; owns = own_same f h below area opened (omega (arith, le)) b.own }) b
    where
      weights : (a : ℕ) → 0 < frames_weight code table a (h ∷ below) →
          (0 < frames_weight code table a (f ∷ below))
          × (used t a + frames_weight code table a (h ∷ below) ≤ used s a + frames_weight code table a (f ∷ below))
      weights a p =
          let n = less_weight f h below size area le a in
          let u = more a in
          (omega (arith, n, p), omega (arith, n, u))

  -- ---- a call in the same area
  pub calls_here : (s t : State) (f h g : Frame) (below : List Frame) → MemoryStays s t → h.area ≡ f.area →
      h.opened ≡ f.opened → g.opened ≡ None → g.area ≡ f.area →
      ops_weight code table h.rest + ops_weight code table g.rest ≤ ops_weight code table f.rest →
      IsBounded code table s (f ∷ below) → IsBounded code table t (g ∷ h ∷ below)
  unfolding NeedOwnAreas frames_weight
  calls_here s t f h g below stays area opened unopened here le b =
      moved s t (f ∷ below) (g ∷ h ∷ below) (record { weights = weights; areas = stays.areas; owns = owns }) b
    where
      top : (a : ℕ) → (if g.area == a then ops_weight code table g.rest else 0)
          ≡ (if f.area == a then ops_weight code table g.rest else 0)
      top a = ap (λ (n : ℕ). if n == a then ops_weight code table g.rest else 0) here

      weights : (a : ℕ) → 0 < frames_weight code table a (g ∷ h ∷ below) →
          (0 < frames_weight code table a (f ∷ below))
          × (used t a + frames_weight code table a (g ∷ h ∷ below) ≤ used s a + frames_weight code table a (f ∷ below))
      weights a p =
          let n = less_weight f h below (ops_weight code table g.rest) area le a in
          let e = top a in
          let u = stays.in_use a in
          (omega (arith, n, e, p), omega (arith, n, e, u))

      owns : NeedOwnAreas code table (g ∷ h ∷ below)
      owns = (
        λ p.
            subst (λ (xs : List ℕ). is_among g.area xs ≡ true)
            (sym (ap (λ (o : Option ℕ). option_to_list o ++ opened_by (h ∷ below)) unopened ∙ opened_same f h below opened))
            (subst (λ (a : ℕ). is_among a (opened_by (f ∷ below)) ≡ true) (sym here) (b.own.0 (omega (arith, p, le)))),
        own_same f h below area opened (omega (arith, le)) b.own,
      )

  -- ---- a call that needs nothing, wherever it runs
  pub calls_away : (s t : State) (f h g : Frame) (below : List Frame) → MemoryStays s t → h.area ≡ f.area →
      h.opened ≡ f.opened → ops_weight code table g.rest ≡ 0 → ops_weight code table h.rest ≤ ops_weight code table f.rest →
      IsBounded code table s (f ∷ below) → IsBounded code table t (g ∷ h ∷ below)
  unfolding NeedOwnAreas frames_weight
  calls_away s t f h g below stays area opened none le b =
      moved s t (f ∷ below) (g ∷ h ∷ below) (record { weights = weights; areas = stays.areas; owns = owns }) b
    where
      top : (b : Bool) → (if b then ops_weight code table g.rest else 0) ≡ 0
      top true = none
      top false = refl

      weights : (a : ℕ) → 0 < frames_weight code table a (g ∷ h ∷ below) →
          (0 < frames_weight code table a (f ∷ below))
          × (used t a + frames_weight code table a (g ∷ h ∷ below) ≤ used s a + frames_weight code table a (f ∷ below))
      weights a p =
          let n = less_weight f h below 0 area (omega (arith, le)) a in
          let e = top (g.area == a) in
          let u = stays.in_use a in
          (omega (arith, n, e, p), omega (arith, n, e, u))

      owns : NeedOwnAreas code table (g ∷ h ∷ below)
      owns = (λ p. absurd (omega (arith, p, none)), own_same f h below area opened le b.own)

  -- ---- a frame leaves; the one below may have one more operand
  pub leaves : (s t : State) (f : Frame) (below left : List Frame) → MemoryStays s t →
      ((a : ℕ) → frames_weight code table a left ≡ frames_weight code table a below) →
      (NeedOwnAreas code table below → NeedOwnAreas code table left) →
      IsBounded code table s (f ∷ below) → IsBounded code table t left
  unfolding NeedOwnAreas frames_weight
  leaves s t f below left stays same own b =
      moved s t (f ∷ below) left (record { weights = weights; areas = stays.areas; owns = own b.own.1 }) b
    where
      weights : (a : ℕ) → 0 < frames_weight code table a left →
          (0 < frames_weight code table a (f ∷ below))
          × (used t a + frames_weight code table a left ≤ used s a + frames_weight code table a (f ∷ below))
      weights a p =
          let e = same a in
          let u = stays.in_use a in
          (omega (arith, e, p), omega (arith, e, u))

  -- ---- a new area
  deeper : (o : Option ℕ) (a : ℕ) (fs : List Frame) → is_among a (opened_by fs) ≡ true →
      is_among a (option_to_list o ++ opened_by fs) ≡ true
  deeper None a fs e = e
  deeper (Some b) a fs e = either (a == b)
    where
      either : (t : Bool) → (t || is_among a (opened_by fs)) ≡ true
      either true = refl
      either false = e

  own_or_below : (f : Frame) (fs : List Frame) (a : ℕ) →
      (0 < ops_weight code table f.rest → is_among f.area (opened_by (f ∷ fs)) ≡ true) →
      0 < frames_weight code table a (f ∷ fs) →
      (0 < frames_weight code table a fs → is_among a (opened_by fs) ≡ true) → is_among a (opened_by (f ∷ fs)) ≡ true
  unfolding frames_weight
  own_or_below f fs a own p below = of (f.area == a) refl p
    where
      of : (b : Bool) → (f.area == a) ≡ b →
          0 < (if b then ops_weight code table f.rest else 0) + frames_weight code table a fs →
          is_among a (opened_by (f ∷ fs)) ≡ true
      of true e q = needed (ops_weight code table f.rest) refl q
        where
          needed : (n : ℕ) → ops_weight code table f.rest ≡ n → 0 < n + frames_weight code table a fs →
              is_among a (opened_by (f ∷ fs)) ≡ true
          needed zero z q = deeper f.opened a fs (below (omega (arith, q)))
          needed (suc n) z q =
              let same : f.area ≡ a = grind (arith, nat_tests, e) in
              subst (λ (x : ℕ). is_among x (opened_by (f ∷ fs)) ≡ true) same (own (omega (arith, z)))
      of false e q = deeper f.opened a fs (below (omega (arith, q)))

  -- what is needed somewhere is needed in an area that the job opened
  pub needs_own : (frames : List Frame) (a : ℕ) → NeedOwnAreas code table frames → 0 < frames_weight code table a frames →
      is_among a (opened_by frames) ≡ true
  unfolding NeedOwnAreas frames_weight
  needs_own [] a own p = absurd (omega (arith, p))
  needs_own (f ∷ fs) a own p = own_or_below f fs a own.0 p (λ q. needs_own fs a own.1 q)

  -- what a job's steps do to the memory of another one
  pub others_keep : (s t : State) (frames : List Frame) →
      ((a : ℕ) → is_among a (opened_by frames) ≡ true → used t a ≤ used s a) →
      ((a : ℕ) (x : MemoryArea) → area_at s a ≡ Some x → (y : MemoryArea) × (area_at t a ≡ Some y) × (y.bytes ≡ x.bytes)) →
      IsBounded code table s frames → IsBounded code table t frames
  others_keep s t frames in_use areas b =
      moved s t frames frames (record { weights = weights; areas = areas; owns = b.own }) b
    where
      weights : (a : ℕ) → 0 < frames_weight code table a frames →
          (0 < frames_weight code table a frames)
          × (used t a + frames_weight code table a frames ≤ used s a + frames_weight code table a frames)
      weights a p = let u = in_use a (needs_own frames a b.own p) in (p, omega (arith, u))

  -- a frame in a new area, on top of frames that stay: ENTER, and START on top of none
  pub opens_one : (s t : State) (g : Frame) (lower : List Frame) (new : ℕ) (x : MemoryArea) →
      area_at s new ≡ None → area_at t new ≡ Some x → used t new ≡ 0 →
      MemoryStays s t → g.area ≡ new → g.opened ≡ Some new → ops_weight code table g.rest ≤ x.bytes → x.bytes < too_much →
      IsBounded code table s lower → IsBounded code table t (g ∷ lower)
  unfolding NeedOwnAreas frames_weight
  opens_one s t g lower new x none there empty stays area opened le small b = record { room = room; own = (own, b.own) }
    where
      own : 0 < ops_weight code table g.rest → is_among g.area (opened_by (g ∷ lower)) ≡ true
      own p = subst (λ (o : Option ℕ). is_among g.area (option_to_list o ++ opened_by lower) ≡ true) (sym opened)
          (subst (λ (n : ℕ). (g.area == n || is_among g.area (opened_by lower)) ≡ true) area first)
        where
          first : (g.area == g.area || is_among g.area (opened_by lower)) ≡ true
          first = let e : (g.area == g.area) ≡ true = grind (arith, nat_tests) in rw e refl

      -- no frame needs anything in an area that isn't there
      free : (n : ℕ) → frames_weight code table new lower ≡ n → n ≡ 0
      free zero e = refl
      free (suc n) e = absurd (let r = b.room new (omega (arith, e)) in let h = r.is in cc (none, h))

      room : (a : ℕ) → 0 < frames_weight code table a (g ∷ lower) → HasRoomFor t a (frames_weight code table a (g ∷ lower))
      room a p = of (g.area == a) refl p
        where
          of : (c : Bool) → (g.area == a) ≡ c →
              0 < (if c then ops_weight code table g.rest else 0) + frames_weight code table a lower →
              HasRoomFor t a ((if c then ops_weight code table g.rest else 0) + frames_weight code table a lower)
          of true e q =
              let same : a ≡ new = grind (arith, nat_tests, area) in
              subst (λ (n : ℕ). HasRoomFor t n (ops_weight code table g.rest + frames_weight code table n lower)) (sym same)
              (record {
                area = x;
                is = there;
                fits = let z = free (frames_weight code table new lower) refl in omega (arith, z, empty, le);
                small = small;
              })
          of false e q =
              let r = b.room a (omega (arith, q)) in
              let y = stays.areas a r.area r.is in
              let u = stays.in_use a in
              record {
                area = y.0;
                is = y.1;
                fits = omega (arith, r.fits, u, y.2);
                small = omega (arith, r.small, y.2);
              }

  -- what a bounded frame has left is no more than any memory has
  pub weight_is_small : (s : State) (f : Frame) (below : List Frame) → IsBounded code table s (f ∷ below) →
      ops_weight code table f.rest < too_much
  weight_is_small s f below b = of (ops_weight code table f.rest) refl
    where
      of : (n : ℕ) → ops_weight code table f.rest ≡ n → n < too_much
      of zero e = omega arith
      of (suc n) e =
          let a = top_weight f below in
          let r = b.room f.area (omega (arith, a, e)) in
          omega (arith, a, e, r.fits, r.small)

  -- a job without frames
  pub none_bounded : (s : State) → IsBounded code table s []
  unfolding NeedOwnAreas frames_weight
  none_bounded s = record { room = λ a p. absurd (omega (arith, p)); own = tt }

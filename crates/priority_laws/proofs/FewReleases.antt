-- No more releases are started than there are priorities, since the own priorities of any two differ.
use Rattle.std.proofs.Common.{◌≡◌, ℕ, zero, suc, ◌+◌, ◌<◌, ◌≤◌, ◌==◌, Bool, true, false, not, List, [], ◌∷◌, length, ◌⊎◌, inl, inr, Option, Some, None, if◌then◌else◌, refl, sym, ap, ◌∙◌, subst, arith}
use Rattle.std.specs.Prelude.{slice_get, option_map, filter, filter_map, is_some}
use Rattle.std.specs.List.{cons_option}
use Rattle.scj_rules.specs.Words.{is_among, ◌>>=◌}
use Rattle.accepted_laws.proofs.Tools.{some_inj}
use Rattle.scj_model.specs.declared.handlers.HandlerRow.{HandlerRow}
use Rattle.scj_model.specs.Code.{Code}
use Rattle.scj_model.specs.Plan.{Plan}
use Rattle.scj_model.specs.State.{Activity, Release, State, activity_in}
use Rattle.scj_model.specs.Registry.{handler_row}
use Rattle.scj_model.specs.Choice.{handler_priority, by_priority}
use Rattle.scj_model.specs.Reached.{Moment, Reached}
use Rattle.scj_model.specs.Safety.{started_activities, started_count, most_started}
use Rattle.priority_laws.specs.Started.{StartedRelease, started_as, started_in, started_at}
use Rattle.priority_laws.specs.Handlers.{IsPriority, PrioritiesAreRight}
use Rattle.priority_laws.specs.InOrder.{IsStartedAfter, IsInOrder}
use Rattle.priority_laws.specs.Premises.{SparesPriorities}
use Rattle.priority_laws.proofs.AreaLists.{bool_cases, among_cases, among_here, among_later, same_number, other_number}
use Rattle.priority_laws.proofs.ChosenTurns.{own_below}
use Rattle.priority_laws.proofs.ReachedOrder.{ordered}
use Rattle.priority_laws.proofs.RightRuns.{right_priorities}

-- ---- distinct numbers in a range

abbrev AreDistinct : List ℕ → Type 0
AreDistinct [] = Unit {0}
AreDistinct (x ∷ xs) = (is_among x xs ≡ true → ⊥) × AreDistinct xs

-- the numbers besides one
abbrev besides : ℕ → List ℕ → List ℕ
besides n xs = filter (λ b. not (b == n)) xs

among_besides : (n b : ℕ) (xs : List ℕ) → is_among b (besides n xs) ≡ true → (is_among b xs ≡ true) × (b ≡ n → ⊥)
among_besides n b [] h = absurd (cc (h))
among_besides n b (x ∷ xs) h = go (bool_cases (x == n)) (among_besides n b xs)
  where
    go : ((x == n) ≡ true) ⊎ ((x == n) ≡ false) →
        (is_among b (besides n xs) ≡ true → (is_among b xs ≡ true) × (b ≡ n → ⊥)) → (is_among b (x ∷ xs) ≡ true) ×
        (b ≡ n → ⊥)
    go (inl t) more =
        let m = more (ap (λ c. is_among b (if not c then x ∷ besides n xs else besides n xs)) (sym t) ∙ h) in
        (among_later b x xs m.0, m.1)
    go (inr f) more =
        by
        (among_cases b x (besides n xs) (ap (λ c. is_among b (if not c then x ∷ besides n xs else besides n xs)) (sym f)
        ∙ h))
      where
        by : (b ≡ x) ⊎ (is_among b (besides n xs) ≡ true) → (is_among b (x ∷ xs) ≡ true) × (b ≡ n → ⊥)
        by (inl e) = (
          subst (λ c. is_among c (x ∷ xs) ≡ true) (sym e) (among_here x xs),
          λ same. other_number x n f (sym e ∙ same),
        )
        by (inr m) = let k = more m in (among_later b x xs k.0, k.1)

distinct_besides : (n : ℕ) (xs : List ℕ) → AreDistinct xs → AreDistinct (besides n xs)
distinct_besides n [] d = tt
distinct_besides n (x ∷ xs) d = go (x == n) (distinct_besides n xs d.1)
  where
    go : (c : Bool) → AreDistinct (besides n xs) → AreDistinct (if not c then x ∷ besides n xs else besides n xs)
    go true k = k
    go false k = (λ h. d.0 (among_besides n x xs h).0, k)

none_besides : (n : ℕ) (xs : List ℕ) → (is_among n xs ≡ true → ⊥) → besides n xs ≡ xs
none_besides n [] h = refl
none_besides n (x ∷ xs) h = go (bool_cases (x == n)) (none_besides n xs (λ m. h (among_later n x xs m)))
  where
    go : ((x == n) ≡ true) ⊎ ((x == n) ≡ false) → besides n xs ≡ xs → besides n (x ∷ xs) ≡ x ∷ xs
    go (inl t) k = absurd (h (subst (λ c. is_among c (x ∷ xs) ≡ true) (same_number x n t) (among_here x xs)))
    go (inr f) k = ap (λ c. if not c then x ∷ besides n xs else besides n xs) f ∙ ap (λ ys. x ∷ ys) k

length_besides : (n : ℕ) (xs : List ℕ) → AreDistinct xs → length xs ≤ length (besides n xs) + 1
length_besides n [] d = omega arith
length_besides n (x ∷ xs) d = go (bool_cases (x == n)) (length_besides n xs d.1)
  where
    go : ((x == n) ≡ true) ⊎ ((x == n) ≡ false) → length xs ≤ length (besides n xs) + 1 →
        suc (length xs) ≤ length (besides n (x ∷ xs)) + 1
    go (inl t) k =
        let same : besides n (x ∷ xs) ≡ xs = ap (λ c. if not c then x ∷ besides n xs else besides n xs) t
        ∙ none_besides n xs (λ m. d.0 (subst (λ c. is_among c xs ≡ true) (sym (same_number x n t)) m)) in
        let l : length (besides n (x ∷ xs)) ≡ length xs = ap (λ (ys : List ℕ). length ys) same in
        omega (arith, l)
    go (inr f) k =
        let same : besides n (x ∷ xs) ≡ x ∷ besides n xs = ap (λ c. if not c then x ∷ besides n xs else besides n xs) f
        in
        let l : length (besides n (x ∷ xs)) ≡ suc (length (besides n xs)) = ap (λ (ys : List ℕ). length ys) same in
        omega (arith, l, k)

-- so many numbers from `low` on
few_numbers : (low count : ℕ) (xs : List ℕ) → AreDistinct xs →
    ((b : ℕ) → is_among b xs ≡ true → (low ≤ b) × (b < low + count)) → length xs ≤ count
few_numbers low zero [] d h = omega arith
few_numbers low zero (x ∷ xs) d h = let k = h x (among_here x xs) in absurd (omega (arith, k.0, k.1))
few_numbers low (suc count) xs d h =
    let k : length (besides (low + count) xs) ≤ count =
    few_numbers low count (besides (low + count) xs) (distinct_besides (low + count) xs d) (λ b m. range b m) in
    let l = length_besides (low + count) xs d in omega (arith, k, l)
  where
    range : (b : ℕ) → is_among b (besides (low + count) xs) ≡ true → (low ≤ b) × (b < low + count)
    range b m =
        let n = among_besides (low + count) b xs m in
        let k = h b n.0 in (k.0, less b (k.1) n.1)
      where
        less : (b : ℕ) → b < low + suc count → (b ≡ low + count → ⊥) → b < low + count
        less b l n = grind (arith, l, n)

-- ---- what a function gives along a list

module _ (h : Release → Option ℕ) where
  record IsGiven (rs : List Release) (x : ℕ) : Type 0 where
    index : ℕ
    release : Release
    is_there : slice_get rs index ≡ Some release
    gives : h release ≡ Some x

  given_at : (rs : List Release) (x : ℕ) → is_among x (filter_map h rs) ≡ true → IsGiven rs x
  given_at [] x m = absurd (cc (m))
  given_at (r ∷ rs) x m = go (h r) refl m (given_at rs x)
    where
      later : IsGiven rs x → IsGiven (r ∷ rs) x
      later k = record { index = suc k.index; release = k.release; is_there = k.is_there; gives = k.gives }

      go : (o : Option ℕ) → h r ≡ o → is_among x (cons_option o (filter_map h rs)) ≡ true →
          (is_among x (filter_map h rs) ≡ true → IsGiven rs x) → IsGiven (r ∷ rs) x
      go None e m more = later (more m)
      go (Some y) e m more = by (among_cases x y (filter_map h rs) m)
        where
          by : (x ≡ y) ⊎ (is_among x (filter_map h rs) ≡ true) → IsGiven (r ∷ rs) x
          by (inl same) =
              record { index = 0; release = r; is_there = refl; gives = e ∙ ap (λ (z : ℕ). Some z) (sym same) }
          by (inr n) = later (more n)

  distinct_given : (rs : List Release) →
      ((i j x : ℕ) (r q : Release) → (i ≡ j → ⊥) → slice_get rs i ≡ Some r → slice_get rs j ≡ Some q → h r ≡ Some x →
      h q ≡ Some x → ⊥) → AreDistinct (filter_map h rs)
  distinct_given [] differ = tt
  distinct_given (r ∷ rs) differ =
      go (h r) refl (distinct_given rs (λ i j x a b n. differ (suc i) (suc j) x a b (λ e. n (apart i j e))))
    where
      apart : (i j : ℕ) → suc i ≡ suc j → i ≡ j
      apart i j e = omega (arith, e)

      go : (o : Option ℕ) → h r ≡ o → AreDistinct (filter_map h rs) → AreDistinct (cons_option o (filter_map h rs))
      go None e d = d
      go (Some x) e d = (λ m. twice (given_at rs x m), d)
        where
          twice : IsGiven rs x → ⊥
          twice k = differ 0 (suc k.index) x r k.release (λ z. omega (arith, z)) refl k.is_there e k.gives

-- ---- own priorities

own_in : State → Release → Option ℕ
own_in s r = option_map (λ (a : Activity). handler_priority s r.handler) (activity_in r.status)

length_owns : (s : State) (rs : List Release) →
    length (filter_map (own_in s) rs) ≡ length (filter_map (λ (r : Release). activity_in r.status) rs)
unfolding own_in
length_owns s [] = refl
length_owns s (r ∷ rs) = go (activity_in r.status) (length_owns s rs)
  where
    go : (o : Option Activity) →
        length (filter_map (own_in s) rs) ≡ length (filter_map (λ (r : Release). activity_in r.status) rs) →
        length (cons_option (option_map (λ (a : Activity). handler_priority s r.handler) o) (filter_map (own_in s) rs))
        ≡ length (cons_option o (filter_map (λ (r : Release). activity_in r.status) rs))
    go None e = e
    go (Some a) e = ap suc e

-- a release that has an own priority is started
record IsOwn (s : State) (p : ℕ) (x : ℕ) : Type 0 where
  release : StartedRelease
  is_there : started_at s.releases p ≡ Some release
  own : handler_priority s release.handler ≡ x

own_at : (s : State) (p x : ℕ) (r : Release) → slice_get s.releases p ≡ Some r → own_in s r ≡ Some x → IsOwn s p x
unfolding own_in started_at started_in
own_at s p x r there e = go (activity_in r.status) refl
  where
    go : (o : Option Activity) → activity_in r.status ≡ o → IsOwn s p x
    go None f =
        absurd (cc (e, ap (λ (o : Option Activity). option_map (λ (a : Activity). handler_priority s r.handler) o) f))
    go (Some a) f =
        record {
          release = started_as r.handler a;
          is_there = ap (λ (o : Option Release). o >>= started_in) there
              ∙ ap (λ (o : Option Activity). option_map (started_as r.handler) o) f;
          own =
              some_inj (handler_priority s r.handler) x
              (sym (ap (λ (o : Option Activity). option_map (λ (a : Activity). handler_priority s r.handler) o) f) ∙ e);
        }

module _ (code : Code) (s : State) (o : IsInOrder s) (h : PrioritiesAreRight code s) where
  own_right : (p x : ℕ) → IsOwn s p x → IsPriority x
  own_right p x k = subst IsPriority k.own (go k.release.handler (o.rows.is p k.release k.is_there))
    where
      found : (b : Option HandlerRow) → is_some b ≡ true →
          ((row : HandlerRow) → b ≡ Some row → IsPriority row.priority) →
          IsPriority (elim b as (λ z. ℕ) [ None ↦ 0 | Some row ↦ row.priority ])
      found None i f = absurd (cc (i))
      found (Some row) i f = f row refl

      go : (handler : ℕ) → is_some (handler_row s.registry handler) ≡ true → IsPriority (handler_priority s handler)
      go zero i = absurd (cc (i))
      go (suc n) i = found (slice_get s.registry n) i (λ row e. h.rows.is n row e)

  own_differ : (p q x : ℕ) → (p ≡ q → ⊥) → IsOwn s p x → IsOwn s q x → ⊥
  own_differ p q x n k l = go (o.started.is p q k.release l.release n k.is_there l.is_there)
    where
      below : (t : ℕ) (w : StartedRelease) → started_at s.releases t ≡ Some w →
          handler_priority s w.handler ≤ w.activity.priority
      below t w e = own_below (handler_priority s w.handler) w.activity.priority w.activity.frames (o.rise.is t w e)

      go : IsStartedAfter s k.release l.release ⊎ IsStartedAfter s l.release k.release → ⊥
      go (inl a) =
          let b = below p k.release k.is_there in
          let c = a.is_above in
          let d = k.own in
          let e = l.own in omega (arith, b, c, d, e)
      go (inr a) =
          let b = below q l.release l.is_there in
          let c = a.is_above in
          let d = k.own in
          let e = l.own in omega (arith, b, c, d, e)

  pub few_started : started_count s ≤ most_started
  unfolding started_activities
  few_started =
      let l : length (filter_map (own_in s) s.releases) ≤ 28 =
      few_numbers 1 28 (filter_map (own_in s) s.releases) (distinct_given (own_in s) s.releases differ)
      (λ b m. range b (given_at (own_in s) s.releases b m)) in
      subst (λ n. n ≤ 28) (length_owns s s.releases) l
    where
      differ : (i j x : ℕ) (r q : Release) → (i ≡ j → ⊥) → slice_get s.releases i ≡ Some r →
          slice_get s.releases j ≡ Some q → own_in s r ≡ Some x → own_in s q ≡ Some x → ⊥
      differ i j x r q n e f g k = own_differ i j x n (own_at s i x r e g) (own_at s j x q f k)

      range : (b : ℕ) → IsGiven (own_in s) s.releases b → (1 ≤ b) × (b < 1 + 28)
      range b k =
          let right : IsPriority b = own_right k.index b (own_at s k.index b k.release k.is_there k.gives) in
          let x = right.1 in (right.0, omega (arith, x))

pub few_are_started : (code : Code) (plan : Plan) → SparesPriorities code → (moment : Moment) (s : State) →
    Reached code plan by_priority moment s → started_count s ≤ most_started
few_are_started code plan spares moment s h =
    few_started code s (ordered code plan h).order (right_priorities code plan spares h)

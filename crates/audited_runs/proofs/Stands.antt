-- Releases of a replay stand for those of a state after each change of both.
use Rattle.std.proofs.Common.{◌≡◌, ℕ, zero, suc, ◌+◌, ◌≤◌, ◌<◌, Bool, true, false, List, [], ◌∷◌, ◌++◌, length, map, drop, Option, Some, None, if◌then◌else◌, refl, sym, ap, ◌∙◌, subst, arith}
use Rattle.std.specs.Prelude.{slice_get}
use Rattle.std.proofs.lemmas.List.{map-append, drop-map}
use Rattle.accepted_laws.proofs.Positions.{length_map}
use Rattle.scj_model.specs.declared.handlers.HandlerRow.{HandlerRow}
use Rattle.scj_model.specs.Choice.{Candidate, candidate, handler_priority}
use Rattle.scj_model.specs.State.{ReleaseStatus, Waits as WaitsNow, Started as StartedNow, Ended, Dropped, Release as ReleaseNow, State, changed, is_waiting as is_waiting_now}
use Rattle.scj_model.specs.Apply.{dropped_release}
use Rattle.trace_audit.specs.declared.releases.Release.{Release}
use Rattle.trace_audit.specs.Replay.{HandlerSeen, Releases, no_releases, one_more}
use Rattle.trace_audit.specs.StandsFor.{StandsFor, release_seen, standing_of}
use Rattle.audited_runs.proofs.Changes.{changed_later, drop_all_of, drop_changed, drop_left, length_changed, map_changed}
use Rattle.accepted_laws.proofs.Tools.{some_inj}
use Rattle.priority_laws.proofs.AreaLists.{get_changed_other}
use Rattle.audited_runs.proofs.Named.{fresh, restood}

-- ---- candidates

-- whether a release is a candidate is said by its status
by_status : (s t : State) (index : ℕ) (r : ReleaseNow) (status : ReleaseStatus) → r.status ≡ status →
    candidate s index r ≡ None → candidate t index r ≡ None
unfolding candidate
by_status s t index r WaitsNow e h = absurd (cc (h, ap (of s) e))
  where
    of : State → ReleaseStatus → Option Candidate
    of s status =
        elim status [
          | WaitsNow ↦ Some (record { index = index; priority = handler_priority s r.handler; is_started = false })
          | StartedNow activity ↦ Some (record { index = index; priority = activity.priority; is_started = true })
          | Ended ↦ None
          | Dropped ↦ None
        ]
by_status s t index r (StartedNow a) e h = absurd (cc (h, ap (of s) e))
  where
    of : State → ReleaseStatus → Option Candidate
    of s status =
        elim status [
          | WaitsNow ↦ Some (record { index = index; priority = handler_priority s r.handler; is_started = false })
          | StartedNow activity ↦ Some (record { index = index; priority = activity.priority; is_started = true })
          | Ended ↦ None
          | Dropped ↦ None
        ]
by_status s t index r Ended e h =
    ap (λ status. elim status as (λ _. Option Candidate) [
      | WaitsNow ↦ Some (record { index = index; priority = handler_priority t r.handler; is_started = false })
      | StartedNow activity ↦ Some (record { index = index; priority = activity.priority; is_started = true })
      | Ended ↦ None
      | Dropped ↦ None
    ]) e
by_status s t index r Dropped e h =
    ap (λ status. elim status as (λ _. Option Candidate) [
      | WaitsNow ↦ Some (record { index = index; priority = handler_priority t r.handler; is_started = false })
      | StartedNow activity ↦ Some (record { index = index; priority = activity.priority; is_started = true })
      | Ended ↦ None
      | Dropped ↦ None
    ]) e

pub candidate_none : (s t : State) (index : ℕ) (r : ReleaseNow) → candidate s index r ≡ None →
    candidate t index r ≡ None
candidate_none s t index r h = by_status s t index r r.status refl h

-- ---- nothing changes

pub stands_same : (s t : State) (all : Releases) → t.registry ≡ s.registry → t.earlier_releases ≡ s.earlier_releases →
    t.releases ≡ s.releases → StandsFor s all → StandsFor t all
stands_same s t all registry first releases stands =
    record {
      handlers = ap (λ rows. map (λ (row : HandlerRow). row.priority) rows) registry ∙ stands.handlers;
      releases = ap (λ e. map release_seen (drop e t.releases)) first
          ∙ (ap (λ rs. map release_seen (drop s.earlier_releases rs)) releases ∙ stands.releases);
      within = subst (λ e. e ≤ length t.releases) (sym first)
          (subst (λ rs. s.earlier_releases ≤ length rs) (sym releases) stands.within);
      earlier = λ index r there l.
          candidate_none s t index r
          (stands.earlier index r (sym (ap (λ rs. slice_get rs index) releases) ∙ there)
          (subst (λ e. index < e) first l));
    }

-- ---- one release has another status

abbrev pub with_now : ReleaseStatus → ℕ → List ReleaseNow → List ReleaseNow
with_now status p rs = changed (λ (r : ReleaseNow). record r { status = status }) p rs

pub seen_changed : (status : ReleaseStatus) (e p q : ℕ) (rs : List ReleaseNow) → p ≡ e + q →
    map release_seen (drop e (with_now status p rs))
    ≡ restood (λ _. standing_of status) q (map release_seen (drop e rs))
seen_changed status e p q rs at =
    ap (map release_seen) (drop_changed (λ (r : ReleaseNow). record r { status = status }) e p q rs at)
    ∙ map_changed release_seen (λ (r : ReleaseNow). record r { status = status })
    (λ (r : Release). record r { standing = standing_of status }) (λ x. refl) q (drop e rs)

pub stands_restood : (s t : State) (all : Releases) (p q : ℕ) (status : ReleaseStatus) → StandsFor s all →
    p ≡ s.earlier_releases + q → t.registry ≡ s.registry → t.earlier_releases ≡ s.earlier_releases →
    t.releases ≡ with_now status p s.releases →
    StandsFor t (record all { releases = restood (λ _. standing_of status) q all.releases })
stands_restood s t all p q status stands at registry first releases =
    record {
      handlers = ap (λ rows. map (λ (row : HandlerRow). row.priority) rows) registry ∙ stands.handlers;
      releases = ap (λ e. map release_seen (drop e t.releases)) first
          ∙ (ap (λ rs. map release_seen (drop s.earlier_releases rs)) releases
          ∙ (seen_changed status s.earlier_releases p q s.releases at
          ∙ ap (restood (λ _. standing_of status) q) stands.releases));
      within = subst (λ e. e ≤ length t.releases) (sym first)
          (subst (λ n. s.earlier_releases ≤ n)
          (sym (ap length releases
          ∙ length_changed (λ (r : ReleaseNow). record r { status = status }) p s.releases)) stands.within);
      earlier = λ index r there l. earlier index r there (subst (λ e. index < e) first l);
    }
  where
    earlier : (index : ℕ) (r : ReleaseNow) → slice_get t.releases index ≡ Some r → index < s.earlier_releases →
        candidate t index r ≡ None
    earlier index r there l =
        candidate_none s t index r
        (stands.earlier index r
        (sym (get_changed_other (λ (r : ReleaseNow). record r { status = status }) p index s.releases
        (λ e. omega (arith, e, l, at)))
        ∙ (sym (ap (λ rs. slice_get rs index) releases) ∙ there)) l)

-- ---- one more release waits

same_priorities : (k : ℕ) (handlers : List HandlerSeen) →
    map (λ (h : HandlerSeen). h.priority) (changed one_more k handlers)
    ≡ map (λ (h : HandlerSeen). h.priority) handlers
same_priorities k [] = refl
same_priorities zero (h ∷ handlers) = refl
same_priorities (suc k) (h ∷ handlers) =
    ap (map (λ (h : HandlerSeen). h.priority)) (changed_later one_more k h handlers)
    ∙ ap (λ ps. h.priority ∷ ps) (same_priorities k handlers)

length_more : (rs : List ReleaseNow) (x : ReleaseNow) → length rs ≤ length (rs ++ x ∷ [])
length_more [] x = omega arith
length_more (r ∷ rs) x = let l : length rs ≤ length (rs ++ x ∷ []) = length_more rs x in omega (arith, l)

get_before : (rs : List ReleaseNow) (x : ReleaseNow) (index : ℕ) → index < length rs →
    slice_get (rs ++ x ∷ []) index ≡ slice_get rs index
get_before [] x index l = absurd (omega (arith, l))
get_before (r ∷ rs) x zero l = refl
get_before (r ∷ rs) x (suc index) l = get_before rs x index (omega (arith, l))

abbrev pub waiting_now : ℕ → ℕ → ReleaseNow
waiting_now handler number = record { handler = handler; number = number; status = WaitsNow }

pub stands_more : (s t : State) (all : Releases) (k number : ℕ) → StandsFor s all → t.registry ≡ s.registry →
    t.earlier_releases ≡ s.earlier_releases → t.releases ≡ s.releases ++ waiting_now (suc k) number ∷ [] →
    StandsFor t
    (record { handlers = changed one_more k all.handlers; releases = all.releases ++ fresh (suc k) number ∷ [] })
stands_more s t all k number stands registry first releases =
    record {
      handlers = ap (λ rows. map (λ (row : HandlerRow). row.priority) rows) registry
          ∙ (stands.handlers ∙ sym (same_priorities k all.handlers));
      releases = ap (λ e. map release_seen (drop e t.releases)) first
          ∙ (ap (λ rs. map release_seen (drop s.earlier_releases rs)) releases
          ∙ (ap (map release_seen)
          (drop_left s.earlier_releases s.releases (waiting_now (suc k) number ∷ []) stands.within)
          ∙ (map-append release_seen (drop s.earlier_releases s.releases) (waiting_now (suc k) number ∷ [])
          ∙ ap (λ xs. xs ++ fresh (suc k) number ∷ []) stands.releases)));
      within = subst (λ e. e ≤ length t.releases) (sym first)
          (subst (λ rs. s.earlier_releases ≤ length rs) (sym releases)
          (let a = stands.within in
          let b = length_more s.releases (waiting_now (suc k) number) in
          omega (arith, a, b)));
      earlier = λ index r there l. earlier index r there (subst (λ e. index < e) first l);
    }
  where
    earlier : (index : ℕ) (r : ReleaseNow) → slice_get t.releases index ≡ Some r → index < s.earlier_releases →
        candidate t index r ≡ None
    earlier index r there l =
        let w = stands.within in
        candidate_none s t index r
        (stands.earlier index r
        (sym (get_before s.releases (waiting_now (suc k) number) index (omega (arith, l, w)))
        ∙ (sym (ap (λ rs. slice_get rs index) releases) ∙ there)) l)

-- ---- all that wait are dropped

-- what doesn't wait isn't dropped
pub dropped_not : (r : ReleaseNow) → is_waiting_now r.status ≡ false → dropped_release r ≡ r
unfolding dropped_release
dropped_not r e = ap (λ (b : Bool). if b then record r { status = Dropped } else r) e

drop_none : (s t : State) (index : ℕ) (r : ReleaseNow) (status : ReleaseStatus) → r.status ≡ status →
    candidate s index r ≡ None → candidate t index (dropped_release r) ≡ None
unfolding is_waiting_now candidate
drop_none s t index r WaitsNow e h =
    absurd (cc (
      h,
      ap (λ status. elim status as (λ _. Option Candidate) [
        | WaitsNow ↦ Some (record { index = index; priority = handler_priority s r.handler; is_started = false })
        | StartedNow activity ↦ Some (record { index = index; priority = activity.priority; is_started = true })
        | Ended ↦ None
        | Dropped ↦ None
      ]) e,
    ))
drop_none s t index r (StartedNow a) e h =
    subst (λ y. candidate t index y ≡ None) (sym (dropped_not r (ap is_waiting_now e))) (candidate_none s t index r h)
drop_none s t index r Ended e h =
    subst (λ y. candidate t index y ≡ None) (sym (dropped_not r (ap is_waiting_now e))) (candidate_none s t index r h)
drop_none s t index r Dropped e h =
    subst (λ y. candidate t index y ≡ None) (sym (dropped_not r (ap is_waiting_now e))) (candidate_none s t index r h)

-- where a list of what a release becomes has a release, the list has one
record Mapped (f : ReleaseNow → ReleaseNow) (rs : List ReleaseNow) (index : ℕ) (y : ReleaseNow) : Type 0 where
  release : ReleaseNow
  there : slice_get rs index ≡ Some release
  is : y ≡ f release

mapped_at : (f : ReleaseNow → ReleaseNow) (rs : List ReleaseNow) (index : ℕ) (y : ReleaseNow) →
    slice_get (map f rs) index ≡ Some y → Mapped f rs index y
mapped_at f [] index y e = absurd (cc (e))
mapped_at f (x ∷ rs) zero y e = record { release = x; there = refl; is = sym (some_inj (f x) y e) }
mapped_at f (x ∷ rs) (suc index) y e =
    let m : Mapped f rs index y = mapped_at f rs index y e in
    record { release = m.release; there = m.there; is = m.is }

pub stands_dropped : (s t : State) (all : Releases) (rs : List Release) → StandsFor s all → t.registry ≡ s.registry →
    t.earlier_releases ≡ s.earlier_releases → t.releases ≡ map dropped_release s.releases →
    map release_seen (map dropped_release (drop s.earlier_releases s.releases)) ≡ rs →
    StandsFor t (record all { releases = rs })
stands_dropped s t all rs stands registry first releases seen =
    record {
      handlers = ap (λ rows. map (λ (row : HandlerRow). row.priority) rows) registry ∙ stands.handlers;
      releases = ap (λ e. map release_seen (drop e t.releases)) first
          ∙ (ap (λ xs. map release_seen (drop s.earlier_releases xs)) releases
          ∙ (ap (map release_seen) (drop-map dropped_release s.earlier_releases s.releases) ∙ seen));
      within = subst (λ e. e ≤ length t.releases) (sym first)
          (subst (λ n. s.earlier_releases ≤ n) (sym (ap length releases ∙ length_map dropped_release s.releases))
          stands.within);
      earlier = λ index r there l. earlier index r there (subst (λ e. index < e) first l);
    }
  where
    earlier : (index : ℕ) (r : ReleaseNow) → slice_get t.releases index ≡ Some r → index < s.earlier_releases →
        candidate t index r ≡ None
    earlier index r there l =
        let m : Mapped dropped_release s.releases index r =
        mapped_at dropped_release s.releases index r (sym (ap (λ xs. slice_get xs index) releases) ∙ there) in
        subst (λ y. candidate t index y ≡ None) (sym m.is)
        (drop_none s t index m.release m.release.status refl (stands.earlier index m.release m.there l))

-- ---- a mission begins, and a handler is registered

pub stands_first : (s : State) → s.registry ≡ [] → s.earlier_releases ≡ length s.releases →
    ((index : ℕ) (r : ReleaseNow) → slice_get s.releases index ≡ Some r → candidate s index r ≡ None) →
    StandsFor s no_releases
stands_first s registry first none =
    record {
      handlers = ap (λ rows. map (λ (row : HandlerRow). row.priority) rows) registry;
      releases = ap (λ e. map release_seen (drop e s.releases)) first
          ∙ ap (map release_seen) (drop_all_of s.releases);
      within = omega (arith, first);
      earlier = λ index r there l. none index r there;
    }

pub stands_registered : (s t : State) (all : Releases) (row : HandlerRow) → StandsFor s all →
    t.registry ≡ s.registry ++ row ∷ [] → t.earlier_releases ≡ s.earlier_releases → t.releases ≡ s.releases →
    StandsFor t
    (record all { handlers = all.handlers ++ record { priority = row.priority; arrived = 0 } ∷ [] })
stands_registered s t all row stands registry first releases =
    let same : StandsFor (record t { registry = s.registry }) all =
    stands_same s (record t { registry = s.registry }) all refl first releases stands in
    record {
      handlers = ap (λ rows. map (λ (row : HandlerRow). row.priority) rows) registry
          ∙ (map-append (λ (row : HandlerRow). row.priority) s.registry (row ∷ [])
          ∙ (ap (λ ps. ps ++ row.priority ∷ []) stands.handlers
          ∙ sym (map-append (λ (h : HandlerSeen). h.priority) all.handlers
          (record { priority = row.priority; arrived = 0 } ∷ []))));
      releases = same.releases;
      within = same.within;
      earlier = λ index r there l.
          candidate_none (record t { registry = s.registry }) t index r (same.earlier index r there l);
    }

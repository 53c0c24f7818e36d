-- The status of one release is set: what that leaves, and that the last setting counts.
use Rattle.std.specs.Prelude.{Option, Some, None, slice_get, slice_set}
use Rattle.std.proofs.Common.{◌≡◌, ℕ, zero, suc, List, [], ◌∷◌, refl, ◌∙◌, ap}
use Rattle.scj_model.specs.declared.events.Event.{Event}
use Rattle.scj_model.specs.State.{Release, ReleaseStatus, State, changed, with_status}
use Rattle.accepted_laws.proofs.Lists.{get_set_same, get_within}

pub set_again : {A : Type 0} (xs : List A) (index : ℕ) (a b : A) →
    slice_set (slice_set xs index a) index b ≡ slice_set xs index b
set_again [] index a b = refl
set_again (x ∷ xs) zero a b = refl
set_again (x ∷ xs) (suc k) a b = ap (λ ys. x ∷ ys) (set_again xs k a b)

abbrev pub with_this : ReleaseStatus → Release → Release
with_this status r = record r { status = status }

module _ (index : ℕ) (first : ReleaseStatus) (xs : List Release) where
  abbrev set_first : Option Release → List Release
  set_first o = elim o as (λ z. List Release) [ None ↦ xs | Some r ↦ slice_set xs index (with_this first r) ]

  abbrev set_then : ReleaseStatus → List Release → Option Release → List Release
  set_then second ys o = elim o as (λ z. List Release) [ None ↦ ys | Some r ↦ slice_set ys index (with_this second r) ]

  set_twice_of : (second : ReleaseStatus) (o : Option Release) → slice_get xs index ≡ o →
      set_then second (set_first o) (slice_get (set_first o) index) ≡ set_then second xs o
  set_twice_of second None e = ap (set_then second xs) e
  set_twice_of second (Some r) e =
      ap (set_then second (slice_set xs index (with_this first r)))
      (get_set_same xs index (with_this first r) (get_within xs index r e))
      ∙ set_again xs index (with_this first r) (with_this second r)

  pub set_twice : (second : ReleaseStatus) →
      changed (with_this second) index (changed (with_this first) index xs) ≡ changed (with_this second) index xs
  set_twice second = set_twice_of second (slice_get xs index) refl

  reported_of : (report : Release → List Event) → ((r : Release) → report (with_this first r) ≡ report r) →
      (o : Option Release) → slice_get xs index ≡ o →
      (elim (slice_get (set_first o) index) as (λ z. List Event) [ None ↦ [] | Some r ↦ report r ])
      ≡ (elim o as (λ z. List Event) [ None ↦ [] | Some r ↦ report r ])
  reported_of report h None e = ap (λ (o : Option Release). elim o as (λ z. List Event) [ None ↦ [] | Some r ↦ report r ]) e
  reported_of report h (Some r) e =
      ap (λ (o : Option Release). elim o as (λ z. List Event) [ None ↦ [] | Some r ↦ report r ])
      (get_set_same xs index (with_this first r) (get_within xs index r e))
      ∙ h r

  pub reported_alike : (report : Release → List Event) → ((r : Release) → report (with_this first r) ≡ report r) →
      (elim (slice_get (changed (with_this first) index xs) index) as (λ z. List Event) [ None ↦ [] | Some r ↦ report r ])
      ≡ (elim (slice_get xs index) as (λ z. List Event) [ None ↦ [] | Some r ↦ report r ])
  reported_alike report h = reported_of report h (slice_get xs index) refl

-- as states
pub status_again : (s : State) (index : ℕ) (first second : ReleaseStatus) →
    with_status (with_status s index first) index second ≡ with_status s index second
status_again s index first second =
    ap (λ releases. record s { releases = releases }) (set_twice index first s.releases second)

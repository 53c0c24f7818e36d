-- A replay follows the state of a run in execution: its releases stand for the state's, the last choice is the same, and
-- so is the origin. And what a release that acts leaves of that.
use Rattle.std.proofs.Common.{◌≡◌, ℕ, ◌+◌, Bool, true, false, ◌&&◌, List, ◌++◌, drop, Option, Some, None, if◌then◌else◌, refl, sym, ap, ◌∙◌, subst}
use Rattle.std.specs.Prelude.{slice_get}
use Rattle.accepted_laws.proofs.Positions.{get_map}
use Rattle.scj_model.specs.declared.events.Event.{Event}
use Rattle.scj_model.specs.Plan.{Plan}
use Rattle.scj_model.specs.Arrivals.{executes_since}
use Rattle.scj_model.specs.State.{Activity, ReleaseStatus, Started as StartedNow, Release as ReleaseNow, State, is_exec, with_status, Turn, IdleTurn, TurnOf}
use Rattle.scj_model.specs.Run.{no_activity}
use Rattle.trace_audit.specs.declared.choices.Choice.TheVariants.{Idle as Nobody, Chosen}
use Rattle.trace_audit.specs.declared.releases.Release.{Release}
use Rattle.trace_audit.specs.declared.releases.Standing.{Standing}
use Rattle.trace_audit.specs.declared.releases.Standing.TheVariants.{Started}
use Rattle.trace_audit.specs.Passing.{begun, is_first}
use Rattle.trace_audit.specs.Replay.{Releases, Replay, differs, is_executing, is_waiting}
use Rattle.trace_audit.specs.StandsFor.{StandsFor, release_seen, standing_of}
use Rattle.audited_runs.proofs.Reported.{reported, reported_then}
use Rattle.audited_runs.proofs.InUnit.{Kept, kept_then}
use Rattle.audited_runs.proofs.Changes.{changed_twice, get_drop}
use Rattle.priority_laws.proofs.AreaLists.{get_changed}
use Rattle.audited_runs.proofs.Named.{Named, restood}
use Rattle.audited_runs.proofs.Stands.{stands_restood, stands_same, with_now}

-- ---- the last choice

-- the last choice was the release at this place, which is no longer waiting
pub record LastPlace (first : ℕ) (r : Replay) (p : ℕ) : Type 0 where
  pub q : ℕ
  pub at : p ≡ first + q
  pub release : Release
  pub there : slice_get r.all.releases q ≡ Some release
  pub named : r.last_choice ≡ Some (Chosen release.handler release.number)
  pub has_started : is_waiting release ≡ false

abbrev pub LastIs : ℕ → Replay → Option Turn → Type 0
LastIs first r None = r.last_choice ≡ None
LastIs first r (Some IdleTurn) = r.last_choice ≡ Some Nobody
LastIs first r (Some (TurnOf p)) = LastPlace first r p

-- ---- a state in execution

pub record Executes (s : State) (r : Replay) : Type 0 where
  pub stands : StandsFor s r.all
  pub named : Named r.all
  pub last : LastIs s.earlier_releases r s.last_choice
  pub exec : is_exec s.phase ≡ true
  pub since : r.executes_since ≡ executes_since s

-- ---- what a line leaves where it tells of no release

pub record SameCore (r after : Replay) : Type 0 where
  pub all : after.all ≡ r.all
  pub last : after.last_choice ≡ r.last_choice
  pub since : after.executes_since ≡ r.executes_since
  pub over : after.is_over ≡ r.is_over

pub core_begun : (r : Replay) (unit : ℕ) → SameCore r (begun r unit)
core_begun r unit = go (is_first r unit)
  where
    go : (b : Bool) → SameCore r
        (if b
        then record r { unit = Some unit; owes_choice = is_executing r && differs r; has_choice = false }
        else r)
    go true = record { all = refl; last = refl; since = refl; over = refl }
    go false = record { all = refl; last = refl; since = refl; over = refl }

last_core : (first : ℕ) (r after : Replay) (o : Option Turn) → SameCore r after → LastIs first r o → LastIs first after o
last_core first r after None same h = same.last ∙ h
last_core first r after (Some IdleTurn) same h = same.last ∙ h
last_core first r after (Some (TurnOf p)) same h =
    record {
      q = h.q;
      at = h.at;
      release = h.release;
      there = ap (λ (all : Releases). slice_get all.releases h.q) same.all ∙ h.there;
      named = same.last ∙ h.named;
      has_started = h.has_started;
    }

pub executes_core : (s : State) (r after : Replay) → SameCore r after → Executes s r → Executes s after
executes_core s r after same h =
    record {
      stands = subst (λ (all : Releases). StandsFor s all) (sym same.all) h.stands;
      named = subst (λ (all : Releases). Named all) (sym same.all) h.named;
      last = last_core s.earlier_releases r after s.last_choice same h.last;
      exec = h.exec;
      since = same.since ∙ h.since;
    }

-- ---- states that differ in no part that a trace tells of, but for their releases

pub record Alike (s t : State) : Type 0 where
  pub registry : t.registry ≡ s.registry
  pub earlier : t.earlier_releases ≡ s.earlier_releases
  pub last : t.last_choice ≡ s.last_choice
  pub phase : t.phase ≡ s.phase
  pub unit : t.unit ≡ s.unit
  pub origin : t.origin ≡ s.origin

pub alike_same : (s : State) → Alike s s
alike_same s = record { registry = refl; earlier = refl; last = refl; phase = refl; unit = refl; origin = refl }

pub alike_then : (s t u : State) → Alike s t → Alike t u → Alike s u
alike_then s t u h k =
    record {
      registry = k.registry ∙ h.registry;
      earlier = k.earlier ∙ h.earlier;
      last = k.last ∙ h.last;
      phase = k.phase ∙ h.phase;
      unit = k.unit ∙ h.unit;
      origin = k.origin ∙ h.origin;
    }

pub since_alike : (s t : State) → Alike s t → executes_since t ≡ executes_since s
unfolding executes_since
since_alike s t h =
    ap (λ phase. if is_exec phase then Some t.origin else None) h.phase
    ∙ ap (λ n. if is_exec s.phase then Some n else None) h.origin

-- only memory is another one
pub record Beside (s t : State) : Type 0 where
  pub alike : Alike s t
  pub releases : t.releases ≡ s.releases

pub beside_same : (s : State) → Beside s s
beside_same s = record { alike = alike_same s; releases = refl }

pub beside_then : (s t u : State) → Beside s t → Beside t u → Beside s u
beside_then s t u h k = record { alike = alike_then s t u h.alike k.alike; releases = k.releases ∙ h.releases }

-- and the release at a place has this status
pub record Becomes (s t : State) (p : ℕ) (status : ReleaseStatus) : Type 0 where
  pub alike : Alike s t
  pub releases : t.releases ≡ with_now status p s.releases

pub becomes_from : (s t : State) (p : ℕ) (status : ReleaseStatus) → Beside s t → Becomes s (with_status t p status) p status
becomes_from s t p status h =
    record {
      alike = record {
        registry = h.alike.registry;
        earlier = h.alike.earlier;
        last = h.alike.last;
        phase = h.alike.phase;
        unit = h.alike.unit;
        origin = h.alike.origin;
      };
      releases = ap (with_now status p) h.releases;
    }

-- ---- steps in execution, by what is told

pub record Reports (plan : Plan) (unit : ℕ) (r : Replay) (t : State) (es : List Event) : Type 0 where
  pub after : Replay
  pub is : reported plan r es ≡ Some after
  pub kept : Kept unit r after
  pub executes : Executes t after
  pub goes_on : after.is_over ≡ false

pub reports_then : (plan : Plan) (unit : ℕ) (r : Replay) (s t : State) (es fs : List Event) →
    (h : Reports plan unit r s es) → Reports plan unit h.after t fs → Reports plan unit r t (es ++ fs)
reports_then plan unit r s t es fs h k =
    record {
      after = k.after;
      is = reported_then plan r h.after k.after es fs h.is k.is;
      kept = kept_then unit r h.after k.after h.kept k.kept;
      executes = k.executes;
      goes_on = k.goes_on;
    }

-- ---- a release that acts: the replay has it started with this active priority

abbrev pub as_started : ℕ → Activity
as_started active = record no_activity { priority = active }

pub record Acts (s : State) (p active : ℕ) (r : Replay) : Type 0 where
  pub q : ℕ
  pub at : p ≡ s.earlier_releases + q
  pub release : ReleaseNow
  pub there : slice_get s.releases p ≡ Some release
  pub stands : StandsFor (with_status s p (StartedNow (as_started active))) r.all
  pub named : Named r.all
  pub turn : s.last_choice ≡ Some (TurnOf p)
  pub last : r.last_choice ≡ Some (Chosen release.handler release.number)
  pub exec : is_exec s.phase ≡ true
  pub since : r.executes_since ≡ executes_since s

-- how the replay sees it
abbrev pub seen_as : ReleaseNow → Standing → Release
seen_as r standing = record { handler = r.handler; number = r.number; standing = standing }

pub acts_seen : (s : State) (p active : ℕ) (r : Replay) → (h : Acts s p active r) →
    slice_get r.all.releases h.q ≡ Some (seen_as h.release (Started active))
acts_seen s p active r h =
    sym (ap (λ (rs : List Release). slice_get rs h.q) h.stands.releases)
    ∙ get_map release_seen
    (drop s.earlier_releases (with_now (StartedNow (as_started active)) p s.releases)) h.q
    (record h.release { status = StartedNow (as_started active) })
    (get_drop s.earlier_releases p h.q (with_now (StartedNow (as_started active)) p s.releases) h.at
    ∙ get_changed (λ (x : ReleaseNow). record x { status = StartedNow (as_started active) }) p s.releases h.release
    h.there)

unfoldable pub acts_core : (s : State) (p active : ℕ) (r after : Replay) → SameCore r after → Acts s p active r →
    Acts s p active after
acts_core s p active r after same h =
    record {
      q = h.q;
      at = h.at;
      release = h.release;
      there = h.there;
      stands = subst (λ (all : Releases). StandsFor (with_status s p (StartedNow (as_started active))) all)
          (sym same.all) h.stands;
      named = subst (λ (all : Releases). Named all) (sym same.all) h.named;
      turn = h.turn;
      last = same.last ∙ h.last;
      exec = h.exec;
      since = same.since ∙ h.since;
    }

unfoldable pub acts_beside : (s t : State) (p active : ℕ) (r : Replay) → Beside s t → Acts s p active r → Acts t p active r
acts_beside s t p active r same h =
    record {
      q = h.q;
      at = h.at ∙ ap (λ n. n + h.q) (sym same.alike.earlier);
      release = h.release;
      there = ap (λ rs. slice_get rs p) same.releases ∙ h.there;
      stands = stands_same (with_status s p (StartedNow (as_started active)))
          (with_status t p (StartedNow (as_started active))) r.all same.alike.registry same.alike.earlier
          (ap (with_now (StartedNow (as_started active)) p) same.releases) h.stands;
      named = h.named;
      turn = same.alike.last ∙ h.turn;
      last = h.last;
      exec = ap is_exec same.alike.phase ∙ h.exec;
      since = h.since ∙ sym (since_alike s t same.alike);
    }

-- a change of the release that acts, in both
pub acts_restood : (s t : State) (p active : ℕ) (r : Replay) (status : ReleaseStatus) → (h : Acts s p active r) →
    Becomes s t p status →
    StandsFor t (record r.all { releases = restood (λ _. standing_of status) h.q r.all.releases })
acts_restood s t p active r status h b =
    stands_restood (with_status s p (StartedNow (as_started active))) t r.all p h.q status h.stands h.at
    b.alike.registry b.alike.earlier
    (b.releases
    ∙ sym (changed_twice (λ (x : ReleaseNow). record x { status = status })
    (λ (x : ReleaseNow). record x { status = StartedNow (as_started active) })
    (λ (x : ReleaseNow). record x { status = status }) (λ x. refl) p s.releases))

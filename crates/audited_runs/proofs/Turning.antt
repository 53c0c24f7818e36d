-- A unit of execution after its arrivals: the choice, which is told where it is another one, and the operation.
use Rattle.std.proofs.Common.{◌≡◌, ℕ, ◌+◌, ◌==◌, Bool, true, false, not, List, [], ◌∷◌, inl, inr, Option, Some, None, refl, sym, ap, ◌∙◌, subst, arith}
use Rattle.std.specs.Prelude.{slice_get}
use Rattle.std.proofs.lemmas.Bool.{and_from}
use Rattle.scj_rules.specs.Words.{holds}
use Rattle.scj_model.specs.declared.events.Event.{Event}
use Rattle.scj_model.specs.declared.events.Event.TheVariants as event
use Rattle.scj_model.specs.Plan.{Plan}
use Rattle.scj_model.specs.TraceText.{unit_of}
use Rattle.scj_model.specs.Arrivals.{executes_since}
use Rattle.scj_model.specs.Choice.{Candidate, candidate, chosen, handler_priority}
use Rattle.scj_model.specs.Run.{is_same_turn, with_turn}
use Rattle.scj_model.specs.State.{Activity, ReleaseStatus, Waits as WaitsNow, Started as StartedNow, Ended, Dropped, Release as ReleaseNow, State, Turn, TurnOf, with_status}
use Rattle.priority_laws.proofs.Urgency.{IsChosen, is_chosen}
use Rattle.trace_audit.specs.declared.choices.Choice.TheVariants.{Chosen}
use Rattle.trace_audit.specs.declared.lines.Entry.TheVariants.{Run}
use Rattle.trace_audit.specs.declared.releases.Release.{Release}
use Rattle.trace_audit.specs.declared.releases.Standing.TheVariants.{Started}
use Rattle.trace_audit.specs.Passing.{begun, entry_done, entry_passes, rest_done, table_done}
use Rattle.trace_audit.specs.Printed.{entry_reported}
use Rattle.trace_audit.specs.Replay.{Releases, Replay, differs, is_same_choice, is_waiting, picked, priority_at, start_with, started}
use Rattle.trace_audit.specs.StandsFor.{StandsFor, release_seen, standing_of}
use Rattle.trace_audit.proofs.ChosenLaws.{same_priority}
use Rattle.audited_runs.proofs.Reported.{reported, reported_none, reported_one}
use Rattle.audited_runs.proofs.InUnit.{Kept, Live, Opened, begun_same, line_opens, line_passes}
use Rattle.audited_runs.proofs.Changes.{changed_as, changed_none}
use Rattle.accepted_laws.proofs.Tools.{some_inj}
use Rattle.audited_runs.proofs.Named.{Named, named_restood, restanding_is, restood}
use Rattle.audited_runs.proofs.Stands.{stands_restood}
use Rattle.audited_runs.proofs.Executing.{Acts, Executes, LastPlace, SameCore, as_started, core_begun, executes_core}
use Rattle.audited_runs.proofs.Operated.{active_of}
use Rattle.audited_runs.proofs.Choosing.{differs_as, turn_of}
use Rattle.priority_laws.proofs.AreaLists.{same_test}

-- the unit has a choice
pub record HasChoice (unit : ℕ) (r : Replay) : Type 0 where
  pub is_unit : r.unit ≡ Some unit
  pub has : r.has_choice ≡ true

pub has_kept : (unit : ℕ) (r after : Replay) → HasChoice unit r → Kept unit r after → HasChoice unit after
has_kept unit r after h (inl e) = subst (λ (x : Replay). HasChoice unit x) e h
has_kept unit r after h (inr k) =
    record {
      is_unit = k.is_unit;
      has = k.has (ap (λ (x : Replay). x.has_choice) (begun_same r unit h.is_unit) ∙ h.has);
    }

-- the machine's choice is the last one
abbrev pub is_last : State → Bool
is_last s = holds s.last_choice (is_same_turn (turn_of (chosen s)))

-- ---- who may act

-- a release that waits or is started
pub data MayAct (x : ReleaseNow) : Type 0 where
  it_waits : (is : x.status ≡ WaitsNow) → MayAct x
  it_started : (activity : Activity) (is : x.status ≡ StartedNow activity) → MayAct x

may_act : (s : State) (p : ℕ) (x : ReleaseNow) (c : Candidate) → candidate s p x ≡ Some c → MayAct x
unfolding candidate
may_act s p x c e = go x.status refl
  where
    of : ReleaseStatus → Option Candidate
    of status =
        elim status [
          | WaitsNow ↦ Some (record { index = p; priority = handler_priority s x.handler; is_started = false })
          | StartedNow activity ↦ Some (record { index = p; priority = activity.priority; is_started = true })
          | Ended ↦ None
          | Dropped ↦ None
        ]

    go : (status : ReleaseStatus) → x.status ≡ status → MayAct x
    go WaitsNow f = it_waits f
    go (StartedNow a) f = it_started a f
    go Ended f = absurd (cc (e, ap of f))
    go Dropped f = absurd (cc (e, ap of f))

pub chosen_may : (s : State) (p : ℕ) (x : ReleaseNow) → chosen s ≡ Some p → slice_get s.releases p ≡ Some x → MayAct x
chosen_may s p x e there =
    let k : IsChosen s p = is_chosen s p e in
    let same : k.release ≡ x = some_inj k.release x (sym k.is_there ∙ there) in
    subst MayAct same (may_act s p k.release k.best k.is_candidate)

-- ---- a release is chosen

-- the replay in which the release is started follows the state in which it is to act
acts_from : (s : State) (r after : Replay) (p q active : ℕ) (x : ReleaseNow) → Executes s r →
    p ≡ s.earlier_releases + q → slice_get s.releases p ≡ Some x →
    after.all ≡ record r.all { releases = restood (λ _. Started active) q r.all.releases } →
    after.last_choice ≡ Some (Chosen x.handler x.number) → after.executes_since ≡ r.executes_since →
    Acts (with_turn s (TurnOf p)) p active after
unfolding executes_since
acts_from s r after p q active x h at there all last since =
    record {
      q = q;
      at = at;
      release = x;
      there = there;
      stands = subst (λ (z : Releases). StandsFor (with_status (with_turn s (TurnOf p)) p (StartedNow (as_started active))) z)
          (sym all)
          (stands_restood s (with_status (with_turn s (TurnOf p)) p (StartedNow (as_started active))) r.all p q
          (StartedNow (as_started active)) h.stands at refl refl refl);
      named = subst (λ (z : Releases). Named z) (sym all)
          (named_restood r.all.handlers r.all.releases (λ _. Started active) q h.named);
      turn = refl;
      last = last;
      exec = h.exec;
      since = since ∙ h.since;
    }

pub record RunReported (plan : Plan) (s : State) (r : Replay) (p : ℕ) (x : ReleaseNow) (es : List Event) : Type 0 where
  pub after : Replay
  pub is : reported plan r es ≡ Some after
  pub kept : Kept s.unit r after
  pub acts : Acts (with_turn s (TurnOf p)) p (active_of (with_turn s (TurnOf p)) x x.status) after
  pub goes_on : after.is_over ≡ false
  pub has : is_last s ≡ false → HasChoice s.unit after

-- it acted last, and goes on
standing_on : (s : State) (x : ReleaseNow) → MayAct x → is_waiting (release_seen x) ≡ false →
    standing_of x.status ≡ Started (active_of s x x.status)
unfolding active_of
standing_on s x (it_waits e) w = absurd (cc (w, ap waits e))
  where
    waits : ReleaseStatus → Bool
    waits status = is_waiting (release_seen (record x { status = status }))
standing_on s x (it_started a e) w = go x.status e
  where
    go : (status : ReleaseStatus) → status ≡ StartedNow a → standing_of status ≡ Started (active_of s x status)
    go WaitsNow f = absurd (cc (f))
    go (StartedNow b) f = refl
    go Ended f = absurd (cc (f))
    go Dropped f = absurd (cc (f))

pub goes_on_reported : (plan : Plan) (s : State) (r : Replay) (p q : ℕ) (x : ReleaseNow) → Live plan s.unit r →
    Executes s r → MayAct x → p ≡ s.earlier_releases + q → slice_get s.releases p ≡ Some x →
    slice_get r.all.releases q ≡ Some (release_seen x) → is_last s ≡ true → LastPlace s.earlier_releases r p →
    RunReported plan s r p x []
goes_on_reported plan s r p q x live h may at there seen is_same last =
    let same_place : last.q ≡ q = let a = last.at in omega (arith, a, at) in
    let same : last.release ≡ release_seen x =
    some_inj last.release (release_seen x) (sym last.there ∙ (ap (slice_get r.all.releases) same_place ∙ seen)) in
    let on : standing_of x.status ≡ Started (active_of (with_turn s (TurnOf p)) x x.status) =
    standing_on (with_turn s (TurnOf p)) x may (ap is_waiting (sym same) ∙ last.has_started) in
    record {
      after = r;
      is = reported_none plan r;
      kept = inl refl;
      acts = acts_from s r r p q (active_of (with_turn s (TurnOf p)) x x.status) x h at there
          (ap (λ rs. record r.all { releases = rs })
          (sym (changed_none
          (λ (z : Release). record z { standing = Started (active_of (with_turn s (TurnOf p)) x x.status) }) q
          r.all.releases (release_seen x) seen
          (ap (λ z. record { handler = x.handler; number = x.number; standing = z }) (sym on)))))
          (last.named ∙ ap (λ (z : Release). Some (Chosen z.handler z.number)) same) refl;
      goes_on = live.goes_on;
      has = λ e. absurd (cc (e, is_same));
    }

-- it didn't act last, and is started if it waits
starts_as : (s : State) (all : Releases) (x : ReleaseNow) → StandsFor s all → (turn : Turn) → MayAct x →
    start_with (priority_at all.handlers x.handler) (standing_of x.status)
    ≡ Started (active_of (with_turn s turn) x x.status)
unfolding active_of
starts_as s all x stands turn (it_waits e) = go x.status e
  where
    go : (status : ReleaseStatus) → status ≡ WaitsNow →
        start_with (priority_at all.handlers x.handler) (standing_of status)
        ≡ Started (active_of (with_turn s turn) x status)
    go WaitsNow f = ap Started (sym (same_priority s all stands x.handler))
    go (StartedNow b) f = absurd (cc (f))
    go Ended f = absurd (cc (f))
    go Dropped f = absurd (cc (f))
starts_as s all x stands turn (it_started a e) = go x.status e
  where
    go : (status : ReleaseStatus) → status ≡ StartedNow a →
        start_with (priority_at all.handlers x.handler) (standing_of status)
        ≡ Started (active_of (with_turn s turn) x status)
    go WaitsNow f = absurd (cc (f))
    go (StartedNow b) f = refl
    go Ended f = absurd (cc (f))
    go Dropped f = absurd (cc (f))

started_is : (s : State) (r : Replay) (q : ℕ) (x : ReleaseNow) (turn : Turn) → Executes s r → MayAct x →
    slice_get r.all.releases q ≡ Some (release_seen x) →
    started x.handler x.number r.all
    ≡ record r.all { releases = restood (λ _. Started (active_of (with_turn s turn) x x.status)) q r.all.releases }
started_is s r q x turn h may seen =
    restanding_is r.all h.named (start_with (priority_at r.all.handlers x.handler)) q (release_seen x) seen
    ∙ ap (λ rs. record r.all { releases = rs })
    (changed_as (λ (z : Release). record z { standing = start_with (priority_at r.all.handlers x.handler) z.standing })
    (λ (z : Release). record z { standing = Started (active_of (with_turn s turn) x x.status) }) q r.all.releases
    (release_seen x) seen
    (ap (λ z. record { handler = x.handler; number = x.number; standing = z }) (starts_as s r.all x h.stands turn may)))

named_same : (handler number : ℕ) → is_same_choice (Chosen handler number) (Chosen handler number) ≡ true
named_same handler number = and_from (handler == handler) (number == number) (same_test handler) (same_test number)

run_passes : (plan : Plan) (s : State) (r : Replay) (unit : ℕ) (x : ReleaseNow) → Executes s r → is_last s ≡ false →
    picked r.all ≡ Chosen x.handler x.number → entry_passes plan r unit (Run x.handler x.number) ≡ true
unfolding entry_passes
run_passes plan s r unit x h other pick =
    and_from (is_same_choice (Chosen x.handler x.number) (picked r.all)) (differs r)
    (ap (is_same_choice (Chosen x.handler x.number)) pick ∙ named_same x.handler x.number)
    (differs_as s r h ∙ ap not other)

run_over : (b : Replay) (unit handler n : ℕ) → (entry_done b unit (Run handler n)).is_over ≡ b.is_over
unfolding rest_done
run_over b unit handler n = refl

run_has : (b : Replay) (unit handler n : ℕ) → (entry_done b unit (Run handler n)).has_choice ≡ true
unfolding rest_done
run_has b unit handler n = refl

run_acts : (s : State) (b : Replay) (unit p q : ℕ) (x : ReleaseNow) → Executes s b → MayAct x →
    p ≡ s.earlier_releases + q → slice_get s.releases p ≡ Some x → slice_get b.all.releases q ≡ Some (release_seen x) →
    Acts (with_turn s (TurnOf p)) p (active_of (with_turn s (TurnOf p)) x x.status)
    (entry_done b unit (Run x.handler x.number))
unfolding rest_done table_done
run_acts s b unit p q x h may at there seen =
    acts_from s b (entry_done b unit (Run x.handler x.number)) p q (active_of (with_turn s (TurnOf p)) x x.status) x h at
    there (started_is s b q x (TurnOf p) h may seen) refl refl

pub run_reported : (plan : Plan) (s : State) (r : Replay) (p q : ℕ) (x : ReleaseNow) → Live plan s.unit r → Executes s r →
    MayAct x → p ≡ s.earlier_releases + q → slice_get s.releases p ≡ Some x →
    slice_get r.all.releases q ≡ Some (release_seen x) → is_last s ≡ false →
    picked r.all ≡ Chosen x.handler x.number → RunReported plan s r p x (event.Run s.unit x.handler x.number ∷ [])
unfolding entry_reported unit_of
run_reported plan s r p q x live h may at there seen other pick =
    let b : Replay = begun r s.unit in
    let core : SameCore r b = core_begun r s.unit in
    let opened : Opened s.unit r (entry_done b s.unit (Run x.handler x.number)) =
    line_opens s.unit r (Run x.handler x.number) live.in_order in
    record {
      after = entry_done b s.unit (Run x.handler x.number);
      is = reported_one plan r (entry_done b s.unit (Run x.handler x.number)) (event.Run s.unit x.handler x.number)
          (line_passes plan s.unit r (event.Run s.unit x.handler x.number) live refl (λ e. cc (e))
          (run_passes plan s r s.unit x h other pick));
      kept = inr opened;
      acts = run_acts s b s.unit p q x (executes_core s r b core h) may at there
          (ap (λ (all : Releases). slice_get all.releases q) core.all ∙ seen);
      goes_on = run_over b s.unit x.handler x.number ∙ (core.over ∙ live.goes_on);
      has = λ e. record { is_unit = opened.is_unit; has = run_has b s.unit x.handler x.number };
    }

-- A release that is taken in: its line, and what it leaves.
use Rattle.std.proofs.Common.{◌≡◌, ℕ, suc, ◌+◌, ◌<◌, ◌==◌, nat_lt, Bool, true, false, not, List, [], ◌∷◌, ◌++◌, length, drop, inl, inr, Option, Some, None, if◌then◌else◌, refl, sym, ap, ◌∙◌, subst, arith}
use Rattle.std.specs.Prelude.{slice_get, option_map, position, get_or}
use Rattle.std.proofs.lemmas.List.Quantifiers.{position-Some}
use Rattle.std.proofs.lemmas.Option.{slice_get-get_or, slice_get-map}
use Rattle.accepted_laws.proofs.Lists.{get_left}
use Rattle.scj_rules.specs.Words.{holds}
use Rattle.scj_model.specs.declared.events.Event.{Event}
use Rattle.scj_model.specs.declared.events.Event.TheVariants as event
use Rattle.scj_model.specs.declared.handlers.HandlerRow.{HandlerRow}
use Rattle.scj_model.specs.Plan.{Plan}
use Rattle.scj_model.specs.TraceText.{unit_of}
use Rattle.scj_model.specs.Registry.{handler_number, number_where}
use Rattle.scj_model.specs.State.{Waits, Release as ReleaseNow, State, Turn, IdleTurn, TurnOf}
use Rattle.scj_model.specs.Steps.{Step, silently}
use Rattle.scj_model.specs.Apply.{most_waiting, release_taken, released, releases_of, takes_releases, waiting_of}
use Rattle.trace_audit.specs.declared.lines.Entry.TheVariants.{Arrive}
use Rattle.trace_audit.specs.declared.releases.Release.{Release}
use Rattle.trace_audit.specs.Passing.{begun, entry_done, entry_passes, rest_done, table_done}
use Rattle.trace_audit.specs.Printed.{entry_reported}
use Rattle.trace_audit.specs.Replay.{HandlerSeen, Releases, Replay}
use Rattle.trace_audit.specs.StandsFor.{StandsFor, release_seen}
use Rattle.audited_runs.proofs.Reported.{reported_none, reported_one}
use Rattle.audited_runs.proofs.InUnit.{Live, line_opens, line_passes}
use Rattle.audited_runs.proofs.Changes.{count_map}
use Rattle.accepted_laws.proofs.Tools.{some_inj}
use Rattle.audited_runs.proofs.Named.{AreNamed, count_of, counted_more, fresh, is_of, named_more}
use Rattle.audited_runs.proofs.Stands.{stands_more}
use Rattle.audited_runs.proofs.Executing.{Alike, since_alike, Executes, LastIs, SameCore, Reports, core_begun, executes_core}
use Rattle.audited_runs.proofs.Acting.{Silent, lost_reports_none, none_reported}
use Rattle.priority_laws.proofs.AreaLists.{same_test}

-- ---- numbers of handlers

-- a number is that of a row
pub record HasRow (registry : List HandlerRow) (handler : ℕ) : Type 0 where
  pub k : ℕ
  pub row : HandlerRow
  pub is_next : handler ≡ suc k
  pub there : slice_get registry k ≡ Some row

pub numbered : (test : HandlerRow → Bool) (registry : List HandlerRow) (handler : ℕ) →
    number_where test registry ≡ Some handler → HasRow registry handler
numbered test registry handler e = go (position test registry) refl
  where
    row_in : (rows : List HandlerRow) (k : ℕ) → k < length rows → HandlerRow
    row_in [] k l = absurd (omega (arith, l))
    row_in (row ∷ rows) k l = row

    go : (o : Option ℕ) → position test registry ≡ o → HasRow registry handler
    go None f = absurd (cc (e, ap (option_map (λ (k : ℕ). k + 1)) f))
    go (Some k) f = by registry k refl f
      where
        by : (rows : List HandlerRow) (k : ℕ) → registry ≡ rows → position test registry ≡ Some k →
            HasRow registry handler
        by [] k same g = absurd (cc (ap (position test) (sym same) ∙ g))
        by (row ∷ rows) k same g =
            let within : k < length registry = (position-Some test registry k row g).0 in
            let next : k + 1 ≡ handler = some_inj (k + 1) handler (sym (ap (option_map (λ (k : ℕ). k + 1)) g) ∙ e) in
            record {
              k = k;
              row = get_or registry k row;
              is_next = omega (arith, next);
              there = slice_get-get_or registry k row within;
            }

-- ---- the handler of a row, as the lines tell of it

record IsSeen (handlers : List HandlerSeen) (k : ℕ) : Type 0 where
  handler : HandlerSeen
  there : slice_get handlers k ≡ Some handler

seen_at : (s : State) (all : Releases) → StandsFor s all → (k : ℕ) (row : HandlerRow) →
    slice_get s.registry k ≡ Some row → IsSeen all.handlers k
seen_at s all stands k row there = go (slice_get all.handlers k) refl
  where
    priorities : option_map (λ (h : HandlerSeen). h.priority) (slice_get all.handlers k) ≡ Some row.priority
    priorities =
        sym (slice_get-map (λ (h : HandlerSeen). h.priority) all.handlers k)
        ∙ (sym (ap (λ (ps : List ℕ). slice_get ps k) stands.handlers)
        ∙ (slice_get-map (λ (row : HandlerRow). row.priority) s.registry k
        ∙ ap (option_map (λ (row : HandlerRow). row.priority)) there))

    go : (o : Option HandlerSeen) → slice_get all.handlers k ≡ o → IsSeen all.handlers k
    go None e = absurd (cc (priorities, ap (option_map (λ (h : HandlerSeen). h.priority)) e))
    go (Some h) e = record { handler = h; there = e }

-- ---- how many releases a handler has

counted_now : (s : State) (all : Releases) (handler : ℕ) → StandsFor s all →
    length (releases_of s handler) ≡ count_of handler all.releases
counted_now s all handler stands =
    sym (count_map release_seen (λ (r : ReleaseNow). r.handler == handler) (is_of handler) (λ x. refl)
    (drop s.earlier_releases s.releases))
    ∙ ap (count_of handler) stands.releases

-- ---- the last choice stays where more releases are there

pub last_more : (first : ℕ) (r after : Replay) (o : Option Turn) (more : List Release) →
    after.last_choice ≡ r.last_choice → after.all.releases ≡ r.all.releases ++ more → LastIs first r o →
    LastIs first after o
last_more first r after None more same all h = same ∙ h
last_more first r after (Some IdleTurn) more same all h = same ∙ h
last_more first r after (Some (TurnOf p)) more same all h =
    record {
      q = h.q;
      at = h.at;
      release = h.release;
      there = ap (λ (rs : List Release). slice_get rs h.q) all ∙ get_left r.all.releases more h.q h.release h.there;
      named = same ∙ h.named;
      has_started = h.has_started;
    }

-- ---- `arrive`

arrive_passes : (plan : Plan) (s : State) (r : Replay) (unit k number : ℕ) (row : HandlerRow) → Executes s r →
    slice_get s.registry k ≡ Some row → number ≡ count_of (suc k) r.all.releases + 1 →
    entry_passes plan r unit (Arrive (suc k) number) ≡ true
unfolding entry_passes
arrive_passes plan s r unit k number row h there is =
    let seen : IsSeen r.all.handlers k = seen_at s r.all h.stands k row there in
    let count : seen.handler.arrived ≡ count_of (suc k) r.all.releases =
    h.named.counted k seen.handler seen.there in
    ap (λ o. holds o (λ (x : HandlerSeen). number == x.arrived + 1)) seen.there
    ∙ (ap (λ n. number == n + 1) count ∙ (ap (λ n. n == count_of (suc k) r.all.releases + 1) is
    ∙ same_test (count_of (suc k) r.all.releases + 1)))

-- the state with one more release of a handler
abbrev pub with_fresh : State → ℕ → ℕ → State
with_fresh s handler number =
    record s { releases = s.releases ++ record { handler = handler; number = number; status = Waits } ∷ [] }

pub fresh_alike : (s : State) (handler number : ℕ) → Alike s (with_fresh s handler number)
fresh_alike s handler number =
    record { registry = refl; earlier = refl; last = refl; phase = refl; unit = refl; origin = refl }

arrived_executes : (s : State) (r : Replay) (unit k number : ℕ) → Executes s r →
    number ≡ count_of (suc k) r.all.releases + 1 →
    Executes (with_fresh s (suc k) number) (entry_done r unit (Arrive (suc k) number))
unfolding rest_done table_done
arrived_executes s r unit k number h is =
    record {
      stands = stands_more s (with_fresh s (suc k) number) r.all k number h.stands refl refl refl;
      named = subst (λ n. AreNamed (counted_more k r.all.handlers) (r.all.releases ++ fresh (suc k) n ∷ [])) (sym is)
          (named_more r.all.handlers r.all.releases k h.named);
      last = last_more s.earlier_releases r (entry_done r unit (Arrive (suc k) number)) s.last_choice
          (fresh (suc k) number ∷ []) refl refl h.last;
      exec = h.exec;
      since = h.since ∙ sym (since_alike s (with_fresh s (suc k) number) (fresh_alike s (suc k) number));
    }

over_arrive : (b : Replay) (unit handler n : ℕ) → (entry_done b unit (Arrive handler n)).is_over ≡ b.is_over
unfolding rest_done
over_arrive b unit handler n = refl

arrive_reported : (plan : Plan) (s : State) (r : Replay) (k number : ℕ) (row : HandlerRow) → Live plan s.unit r →
    Executes s r → slice_get s.registry k ≡ Some row → number ≡ count_of (suc k) r.all.releases + 1 →
    Reports plan s.unit r (with_fresh s (suc k) number) (event.Arrive s.unit (suc k) number ∷ [])
unfolding entry_reported unit_of
arrive_reported plan s r k number row live h there is =
    let b : Replay = begun r s.unit in
    let core : SameCore r b = core_begun r s.unit in
    record {
      after = entry_done b s.unit (Arrive (suc k) number);
      is = reported_one plan r (entry_done b s.unit (Arrive (suc k) number)) _
          (line_passes plan s.unit r (event.Arrive s.unit (suc k) number) live refl (λ e. cc (e))
          (arrive_passes plan s r s.unit k number row h there is));
      kept = inr (line_opens s.unit r (Arrive (suc k) number) live.in_order);
      executes = arrived_executes s b s.unit k number (executes_core s r b core h)
          (is ∙ ap (λ (all : Releases). count_of (suc k) all.releases + 1) (sym core.all));
      goes_on = over_arrive b s.unit (suc k) number ∙ (core.over ∙ live.goes_on);
    }

-- ---- a release is taken in, or is lost

pub same_reported : (plan : Plan) (s : State) (r : Replay) → Live plan s.unit r → Executes s r → Reports plan s.unit r s []
same_reported plan s r live h =
    record { after = r; is = reported_none plan r; kept = inl refl; executes = h; goes_on = live.goes_on }

pub silent_reported : (plan : Plan) (s : State) (r : Replay) (es : List Event) → Executes s r → Silent plan s.unit r es →
    Reports plan s.unit r s es
silent_reported plan s r es h silent =
    record {
      after = silent.after;
      is = silent.is;
      kept = silent.kept;
      executes = executes_core s r silent.after silent.core h;
      goes_on = silent.goes_on;
    }

abbrev pub ReportsOf : Plan → State → Replay → Step → Type 0
ReportsOf plan s r step = Reports plan s.unit r step.state step.events

pub reports_if : (plan : Plan) (s : State) (r : Replay) (b : Bool) (x y : Step) → ReportsOf plan s r x → ReportsOf plan s r y →
    ReportsOf plan s r (if b then x else y)
reports_if plan s r true x y h k = h
reports_if plan s r false x y h k = k

taken_next : (plan : Plan) (s : State) (r : Replay) (k : ℕ) (row : HandlerRow) → Live plan s.unit r → Executes s r →
    slice_get s.registry k ≡ Some row → ReportsOf plan s r (release_taken s (suc k))
unfolding release_taken unit_of
taken_next plan s r k row live h there =
    reports_if plan s r (not (nat_lt (length (waiting_of s (suc k))) most_waiting)) _ _
    (silent_reported plan s r (event.Lost s.unit (suc k) ∷ []) h
    (none_reported plan s.unit r (event.Lost s.unit (suc k)) (lost_reports_none s.unit (suc k)) live refl))
    (arrive_reported plan s r k (length (releases_of s (suc k)) + 1) row live h there
    (ap (λ n. n + 1) (counted_now s r.all (suc k) h.stands)))

pub taken_reported : (plan : Plan) (s : State) (r : Replay) (handler : ℕ) → Live plan s.unit r → Executes s r →
    HasRow s.registry handler → ReportsOf plan s r (release_taken s handler)
taken_reported plan s r handler live h has =
    subst (λ n. ReportsOf plan s r (release_taken s n)) (sym has.is_next)
    (taken_next plan s r has.k has.row live h has.there)

-- ---- `release`

pub released_reported : (plan : Plan) (s : State) (r : Replay) (object : ℕ) → Live plan s.unit r → Executes s r →
    ReportsOf plan s r (released s object)
unfolding released handler_number
released_reported plan s r object live h =
    reports_if plan s r (takes_releases s) _ _ (go (handler_number s.registry object) refl) (same_reported plan s r live h)
  where
    go : (o : Option ℕ) → handler_number s.registry object ≡ o →
        ReportsOf plan s r (elim o as (λ z. Step) [ None ↦ silently s | Some handler ↦ release_taken s handler ])
    go None e = same_reported plan s r live h
    go (Some handler) e =
        taken_reported plan s r handler live h
        (numbered (λ (row : HandlerRow). row.at == object) s.registry handler e)

-- An end is asked in execution.
use Rattle.std.proofs.Common.{◌≡◌, ℕ, zero, suc, Bool, true, false, List, [], ◌∷◌, map, drop, Option, Some, None, if◌then◌else◌, refl, sym, ap, ◌∙◌, subst}
use Rattle.std.specs.Prelude.{slice_get}
use Rattle.scj_model.specs.declared.events.Event.TheVariants as event
use Rattle.scj_model.specs.Plan.{Plan}
use Rattle.scj_model.specs.TraceText.{unit_of}
use Rattle.scj_model.specs.State.{Release as ReleaseNow, State, Turn, IdleTurn, TurnOf, is_waiting as is_waiting_now}
use Rattle.scj_model.specs.Steps.{silently, reporting}
use Rattle.scj_model.specs.Apply.{asks_for_end, dropped_release, report_dropped, termination, termination_asked}
use Rattle.trace_audit.specs.declared.releases.Release.{Release}
use Rattle.trace_audit.specs.Replay.{Releases, Replay, is_waiting}
use Rattle.trace_audit.specs.StandsFor.{StandsFor, release_seen}
use Rattle.audited_runs.proofs.Reported.{reported, reported_then}
use Rattle.audited_runs.proofs.InUnit.{Live, kept_then, live_kept}
use Rattle.accepted_laws.proofs.Tools.{some_inj}
use Rattle.audited_runs.proofs.Stands.{dropped_not, stands_dropped}
use Rattle.audited_runs.proofs.Executing.{Alike, Executes, executes_core, LastIs, Reports, since_alike}
use Rattle.audited_runs.proofs.Acting.{Silent, none_reported, terminate_reports_none}
use Rattle.audited_runs.proofs.Arriving.{ReportsOf, same_reported, reports_if}
use Rattle.audited_runs.proofs.Dropping.{DropsReported, drops, drops_reported, none_waits, waiting, waiting_behind, waits_seen}

-- ---- an end is asked

-- the state once an end was asked in execution
abbrev pub all_dropped : State → State
all_dropped s = record s { is_end_asked = true; releases = map dropped_release s.releases }

pub dropped_alike : (s : State) → Alike s (all_dropped s)
dropped_alike s = record { registry = refl; earlier = refl; last = refl; phase = refl; unit = refl; origin = refl }

-- who doesn't wait stands as before
not_waiting : (x : ReleaseNow) (b : Bool) → is_waiting_now x.status ≡ b → is_waiting (release_seen x) ≡ false →
    dropped_release x ≡ x
not_waiting x true w e = absurd (cc (waits_seen x true w, e))
not_waiting x false w e = dropped_not x w

stands_yet : (xs : List ReleaseNow) (q : ℕ) (r : Release) → slice_get (map release_seen xs) q ≡ Some r →
    is_waiting r ≡ false → slice_get (map release_seen (map dropped_release xs)) q ≡ Some r
stands_yet [] q r there w = absurd (cc (there))
stands_yet (x ∷ xs) zero r there w =
    let same : release_seen x ≡ r = some_inj (release_seen x) r there in
    ap (λ (y : ReleaseNow). Some (release_seen y))
    (not_waiting x (is_waiting_now x.status) refl (ap is_waiting same ∙ w)) ∙ there
stands_yet (x ∷ xs) (suc q) r there w = stands_yet xs q r there w

last_dropped : (first : ℕ) (r after : Replay) (o : Option Turn) (xs : List ReleaseNow) →
    after.last_choice ≡ r.last_choice → r.all.releases ≡ map release_seen xs →
    after.all.releases ≡ map release_seen (map dropped_release xs) → LastIs first r o → LastIs first after o
last_dropped first r after None xs same seen all h = same ∙ h
last_dropped first r after (Some IdleTurn) xs same seen all h = same ∙ h
last_dropped first r after (Some (TurnOf p)) xs same seen all h =
    record {
      q = h.q;
      at = h.at;
      release = h.release;
      there = ap (λ (rs : List Release). slice_get rs h.q) all
          ∙ stands_yet xs h.q h.release (sym (ap (λ (rs : List Release). slice_get rs h.q) seen) ∙ h.there)
          h.has_started;
      named = same ∙ h.named;
      has_started = h.has_started;
    }

dropped_reported : (plan : Plan) (s : State) (r : Replay) → Live plan s.unit r → Executes s r →
    Reports plan s.unit r (all_dropped s) (report_dropped s)
dropped_reported plan s r live h =
    let xs : List ReleaseNow = drop s.earlier_releases s.releases in
    let d : DropsReported plan s.unit r (map dropped_release xs) (drops s.unit (waiting xs)) =
    drops_reported plan s.unit [] xs r live h.named (sym h.stands.releases) in
    record {
      after = d.after;
      is = ap (λ rs. reported plan r (drops s.unit rs))
          (waiting_behind s.earlier_releases s.releases
          (λ place x there l. none_waits s place x (h.stands.earlier place x there l)))
          ∙ d.is;
      kept = d.kept;
      executes = record {
        stands = subst (λ (all : Releases). StandsFor (all_dropped s) all) (sym d.all)
            (stands_dropped s (all_dropped s) r.all (map release_seen (map dropped_release xs)) h.stands refl refl refl
            refl);
        named = d.named;
        last = last_dropped s.earlier_releases r d.after s.last_choice xs d.last (sym h.stands.releases)
            (ap (λ (all : Releases). all.releases) d.all) h.last;
        exec = h.exec;
        since = d.since ∙ (h.since ∙ sym (since_alike s (all_dropped s) (dropped_alike s)));
      };
      goes_on = d.goes_on;
    }

end_asked_reported : (plan : Plan) (s : State) (r : Replay) → Live plan s.unit r → Executes s r →
    Reports plan s.unit r (all_dropped s) (event.Terminate s.unit ∷ report_dropped s)
unfolding unit_of
end_asked_reported plan s r live h =
    let one : Silent plan s.unit r (event.Terminate s.unit ∷ []) =
    none_reported plan s.unit r (event.Terminate s.unit) (terminate_reports_none s.unit) live refl in
    let rest : Reports plan s.unit one.after (all_dropped s) (report_dropped s) =
    dropped_reported plan s one.after (live_kept plan s.unit r one.after live one.kept one.goes_on)
    (executes_core s r one.after one.core h) in
    record {
      after = rest.after;
      is = reported_then plan r one.after rest.after (event.Terminate s.unit ∷ []) (report_dropped s) one.is rest.is;
      kept = kept_then s.unit r one.after rest.after one.kept rest.kept;
      executes = rest.executes;
      goes_on = rest.goes_on;
    }

-- an end is asked, of whatever mission
pub asked_reported : (plan : Plan) (s : State) (r : Replay) (mission : ℕ) → Live plan s.unit r → Executes s r →
    ReportsOf plan s r (termination_asked s mission)
unfolding termination_asked termination
asked_reported plan s r mission live h =
    reports_if plan s r (asks_for_end s.mission s.phase s.is_end_asked mission) _ _
    (subst (λ (b : Bool). ReportsOf plan s r
    (if b
    then reporting (all_dropped s) (event.Terminate s.unit ∷ report_dropped s)
    else silently (record s { is_end_asked = true })))
    (sym h.exec) (end_asked_reported plan s r live h))
    (same_reported plan s r live h)

-- The arrivals of a unit: what they tell, and what they leave.
use Rattle.std.proofs.Common.{◌≡◌, ℕ, ◌+◌, ◌==◌, nat_lt, Bool, true, false, not, ◌&&◌, List, [], ◌∷◌, ◌++◌, length, inl, Option, Some, None, if◌then◌else◌, refl, sym, ap, ◌∙◌, subst}
use Rattle.scj_rules.specs.Words.{◌>>=◌}
use Rattle.scj_rules.specs.Classes.{class_number}
use Rattle.scj_model.specs.declared.events.Event.{Event}
use Rattle.scj_model.specs.declared.events.Event.TheVariants as event
use Rattle.scj_model.specs.declared.handlers.HandlerRow.{HandlerRow}
use Rattle.scj_model.specs.declared.plans.Fire.{Fire}
use Rattle.scj_model.specs.Code.{Code}
use Rattle.scj_model.specs.Plan.{Plan}
use Rattle.scj_model.specs.State.{State, is_exec}
use Rattle.scj_model.specs.Registry.{aperiodic_of, is_aperiodic}
use Rattle.scj_model.specs.Steps.{Step, silently, reporting, then_do, for_each}
use Rattle.scj_model.specs.Apply.{most_waiting, release_taken, releases_of, takes_releases, waiting_of}
use Rattle.scj_model.specs.Arrivals.{arrivals, comes_in, due_handlers, executes_since, fired, fired_at, fired_handler, fires_due, handlers_due}
use Rattle.trace_audit.specs.Replay.{Replay}
use Rattle.audited_runs.proofs.Reported.{reported_none, reported_then}
use Rattle.audited_runs.proofs.InUnit.{Live, kept_then, live_kept}
use Rattle.audited_runs.proofs.Due.{AllAre, Comes, due_come, due_have_rows, miss_reported}
use Rattle.audited_runs.proofs.Executing.{Alike, Executes, Reports, alike_same, alike_then, since_alike, reports_then}
use Rattle.audited_runs.proofs.Acting.{Silent}
use Rattle.audited_runs.proofs.Arriving.{HasRow, ReportsOf, fresh_alike, numbered, same_reported, silent_reported, taken_reported, with_fresh}

-- ---- in execution

pub record ArrivesReported (plan : Plan) (s : State) (r : Replay) (step : Step) : Type 0 where
  pub reports : ReportsOf plan s r step
  pub alike : Alike s step.state

reported_both : (plan : Plan) (s : State) (r : Replay) (first : Step) (next : State → Step) → Live plan s.unit r →
    (h : ArrivesReported plan s r first) →
    ((m : Replay) → Live plan first.state.unit m → Executes first.state m →
    ArrivesReported plan first.state m (next first.state)) → ArrivesReported plan s r (then_do first next)
reported_both plan s r first next live h more =
    let same : first.state.unit ≡ s.unit = h.alike.unit in
    let k : ArrivesReported plan first.state h.reports.after (next first.state) =
    more h.reports.after
    (subst (λ u. Live plan u h.reports.after) (sym same)
    (live_kept plan s.unit r h.reports.after live h.reports.kept h.reports.goes_on)) h.reports.executes in
    record {
      reports = reports_then plan s.unit r first.state (next first.state).state first.events (next first.state).events h.reports
          (subst (λ u. Reports plan u h.reports.after (next first.state).state (next first.state).events) same k.reports);
      alike = alike_then s first.state (next first.state).state h.alike k.alike;
    }

taken_alike : (s : State) (handler : ℕ) → Alike s (release_taken s handler).state
unfolding release_taken
taken_alike s handler = go (not (nat_lt (length (waiting_of s handler)) most_waiting))
  where
    go : (b : Bool) → Alike s
        (if b then reporting s (event.Lost s.unit handler ∷ [])
        else (let number = length (releases_of s handler) + 1 in
        reporting (with_fresh s handler number) (event.Arrive s.unit handler number ∷ []))).state
    go true = alike_same s
    go false = fresh_alike s handler (length (releases_of s handler) + 1)

taken_arrives : (plan : Plan) (s : State) (r : Replay) (handler : ℕ) → Live plan s.unit r → Executes s r →
    HasRow s.registry handler → ArrivesReported plan s r (release_taken s handler)
taken_arrives plan s r handler live h has =
    record { reports = taken_reported plan s r handler live h has; alike = taken_alike s handler }

row_later : (rows later : List HandlerRow) (ns : List ℕ) → later ≡ rows → AllAre (HasRow rows) ns → AllAre (HasRow later) ns
row_later rows later ns same h = subst (λ xs. AllAre (HasRow xs) ns) (sym same) h

each_taken : (plan : Plan) (ns : List ℕ) (s : State) (r : Replay) → Live plan s.unit r → Executes s r →
    AllAre (HasRow s.registry) ns → ArrivesReported plan s r (for_each release_taken ns s)
unfolding for_each
each_taken plan [] s r live h all = record { reports = same_reported plan s r live h; alike = alike_same s }
each_taken plan (n ∷ ns) s r live h all =
    let one : ArrivesReported plan s r (release_taken s n) = taken_arrives plan s r n live h all.0 in
    reported_both plan s r (release_taken s n) (for_each release_taken ns) live one
    (λ m l e. each_taken plan ns (release_taken s n).state m l e
    (row_later s.registry (release_taken s n).state.registry ns one.alike.registry all.1))

pub handler_has_row : (code : Code) (s : State) (name : List ℕ) (handler : ℕ) → fired_handler code s name ≡ Some handler →
    HasRow s.registry handler
unfolding fired_handler aperiodic_of
handler_has_row code s name handler e = go (takes_releases s) (class_number code.program.names name) e
  where
    go : (b : Bool) (o : Option ℕ) → (if b then o >>= aperiodic_of s.registry else None) ≡ Some handler →
        HasRow s.registry handler
    go false o e = absurd (cc (e))
    go true None e = absurd (cc (e))
    go true (Some class) e =
        numbered (λ (row : HandlerRow). is_aperiodic row.kind && (row.class == class)) s.registry handler e

fired_arrives : (plan : Plan) (code : Code) (origin : Option ℕ) (unit index : ℕ) (s : State) (r : Replay) →
    (c : Comes plan.fires origin unit index) → executes_since s ≡ origin → s.unit ≡ unit → Live plan s.unit r →
    Executes s r → ArrivesReported plan s r (fired code s c.fire)
unfolding fired
fired_arrives plan code origin unit index s r c since at live h = go (fired_handler code s c.fire.handler) refl
  where
    here : Comes plan.fires origin s.unit index
    here = record { fire = c.fire; there = c.there; comes = ap (λ u. comes_in origin u c.fire) at ∙ c.comes }

    go : (o : Option ℕ) → fired_handler code s c.fire.handler ≡ o →
        ArrivesReported plan s r
        (elim o as (λ z. Step) [
          | Some handler ↦ release_taken s handler
          | None ↦ reporting s (event.Miss s.unit c.fire.handler ∷ [])
        ])
    go None e =
        record {
          reports = silent_reported plan s r (event.Miss s.unit c.fire.handler ∷ []) h
              (miss_reported plan r origin s.unit index (h.since ∙ since) here live);
          alike = alike_same s;
        }
    go (Some handler) e = taken_arrives plan s r handler live h (handler_has_row code s c.fire.handler handler e)

each_fired : (plan : Plan) (code : Code) (origin : Option ℕ) (unit : ℕ) (ns : List ℕ) (s : State) (r : Replay) →
    AllAre (Comes plan.fires origin unit) ns → executes_since s ≡ origin → s.unit ≡ unit → Live plan s.unit r →
    Executes s r → ArrivesReported plan s r (for_each (fired_at code plan.fires) ns s)
unfolding for_each
each_fired plan code origin unit [] s r all since at live h =
    record { reports = same_reported plan s r live h; alike = alike_same s }
each_fired plan code origin unit (n ∷ ns) s r all since at live h =
    let c : Comes plan.fires origin unit n = all.0 in
    let one : ArrivesReported plan s r (fired_at code plan.fires s n) =
    subst (λ (o : Option Fire). ArrivesReported plan s r
    (elim o as (λ z. Step) [ None ↦ silently s | Some fire ↦ fired code s fire ])) (sym c.there)
    (fired_arrives plan code origin unit n s r c since at live h) in
    reported_both plan s r (fired_at code plan.fires s n) (for_each (fired_at code plan.fires) ns) live one
    (λ m l e. each_fired plan code origin unit ns (fired_at code plan.fires s n).state m all.1
    (since_alike s (fired_at code plan.fires s n).state one.alike ∙ since) (one.alike.unit ∙ at) l e)

pub arrivals_reported : (plan : Plan) (code : Code) (s : State) (r : Replay) → Live plan s.unit r → Executes s r →
    ArrivesReported plan s r (arrivals code plan s)
unfolding arrivals
arrivals_reported plan code s r live h =
    let first : Step = for_each release_taken (due_handlers s) s in
    let one : ArrivesReported plan s r first = each_taken plan (due_handlers s) s r live h (due_have_rows s) in
    reported_both plan s r first
    (for_each (fired_at code plan.fires) (fires_due (executes_since s) s.unit plan.fires)) live one
    (λ m l e. each_fired plan code (executes_since s) s.unit (fires_due (executes_since s) s.unit plan.fires)
    first.state m (due_come plan.fires (executes_since s) s.unit) (since_alike s first.state one.alike)
    one.alike.unit l e)

-- ---- outside execution: no fire has a handler

pub record Quiet (plan : Plan) (s : State) (r : Replay) (step : Step) : Type 0 where
  pub same : step.state ≡ s
  pub silent : Silent plan s.unit r step.events

silent_then : (plan : Plan) (unit : ℕ) (r : Replay) (es fs : List Event) → (h : Silent plan unit r es) →
    Silent plan unit h.after fs → Silent plan unit r (es ++ fs)
silent_then plan unit r es fs h k =
    record {
      after = k.after;
      is = reported_then plan r h.after k.after es fs h.is k.is;
      kept = kept_then unit r h.after k.after h.kept k.kept;
      core = record {
        all = k.core.all ∙ h.core.all;
        last = k.core.last ∙ h.core.last;
        since = k.core.since ∙ h.core.since;
        over = k.core.over ∙ h.core.over;
      };
      goes_on = k.goes_on;
    }

pub silent_same : (plan : Plan) (unit : ℕ) (r : Replay) → Live plan unit r → Silent plan unit r []
silent_same plan unit r live =
    record {
      after = r;
      is = reported_none plan r;
      kept = inl refl;
      core = record { all = refl; last = refl; since = refl; over = refl };
      goes_on = live.goes_on;
    }

fired_quiet : (plan : Plan) (code : Code) (s : State) (r : Replay) (index : ℕ) → is_exec s.phase ≡ false →
    r.executes_since ≡ executes_since s → Live plan s.unit r →
    (c : Comes plan.fires (executes_since s) s.unit index) → Quiet plan s r (fired code s c.fire)
unfolding fired fired_handler
fired_quiet plan code s r index out since live c =
    subst (λ (b : Bool). Quiet plan s r
    (elim (if b && not s.is_end_asked
    then class_number code.program.names c.fire.handler >>= aperiodic_of s.registry
    else None) as (λ z. Step) [
      | Some handler ↦ release_taken s handler
      | None ↦ reporting s (event.Miss s.unit c.fire.handler ∷ [])
    ])) (sym out)
    (record { same = refl; silent = miss_reported plan r (executes_since s) s.unit index since c live })

each_quiet : (plan : Plan) (code : Code) (ns : List ℕ) (s : State) (r : Replay) → is_exec s.phase ≡ false →
    r.executes_since ≡ executes_since s → Live plan s.unit r →
    AllAre (Comes plan.fires (executes_since s) s.unit) ns → Quiet plan s r (for_each (fired_at code plan.fires) ns s)
unfolding for_each
each_quiet plan code [] s r out since live all = record { same = refl; silent = silent_same plan s.unit r live }
each_quiet plan code (n ∷ ns) s r out since live all =
    let c : Comes plan.fires (executes_since s) s.unit n = all.0 in
    let one : Quiet plan s r (fired_at code plan.fires s n) =
    subst (λ (o : Option Fire). Quiet plan s r
    (elim o as (λ z. Step) [ None ↦ silently s | Some fire ↦ fired code s fire ])) (sym c.there)
    (fired_quiet plan code s r n out since live c) in
    let rest : Quiet plan s one.silent.after (for_each (fired_at code plan.fires) ns s) =
    each_quiet plan code ns s one.silent.after out (one.silent.core.since ∙ since)
    (live_kept plan s.unit r one.silent.after live one.silent.kept one.silent.goes_on) all.1 in
    subst (λ (t : State). Quiet plan s r
    (reporting (for_each (fired_at code plan.fires) ns t).state
    ((fired_at code plan.fires s n).events ++ (for_each (fired_at code plan.fires) ns t).events))) (sym one.same)
    (record {
      same = rest.same;
      silent = silent_then plan s.unit r (fired_at code plan.fires s n).events
          (for_each (fired_at code plan.fires) ns s).events one.silent rest.silent;
    })

pub arrivals_quiet : (plan : Plan) (code : Code) (s : State) (r : Replay) → is_exec s.phase ≡ false →
    r.executes_since ≡ executes_since s → Live plan s.unit r → Quiet plan s r (arrivals code plan s)
unfolding arrivals due_handlers for_each
arrivals_quiet plan code s r out since live =
    subst (λ (b : Bool). Quiet plan s r
    (then_do (for_each release_taken (if b && not s.is_end_asked then handlers_due s.origin s.unit s.registry else []) s)
    (for_each (fired_at code plan.fires) (fires_due (executes_since s) s.unit plan.fires)))) (sym out)
    (each_quiet plan code (fires_due (executes_since s) s.unit plan.fires) s r out since live
    (due_come plan.fires (executes_since s) s.unit))

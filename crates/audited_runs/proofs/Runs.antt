-- A run, unit by unit, and its last line: each line of its trace passes.
use Rattle.std.proofs.Common.{◌≡◌, ℕ, zero, suc, ◌+◌, ◌≤◌, ◌<◌, ◌==◌, Bool, true, false, ◌||◌, List, [], ◌∷◌, ◌++◌, Option, Some, None, if◌then◌else◌, refl, sym, ap, ◌∙◌, subst, arith}
use Rattle.std.proofs.lemmas.Bool.{or_parts}
use Rattle.std.proofs.lemmas.List.{append-nil}
use Rattle.scj_model.specs.declared.events.Event.{Event}
use Rattle.scj_model.specs.declared.events.Event.TheVariants as event
use Rattle.scj_model.specs.Code.{Code}
use Rattle.scj_model.specs.Plan.{Plan}
use Rattle.scj_model.specs.TraceText.{unit_of}
use Rattle.scj_model.specs.Arrivals.{executes_since}
use Rattle.scj_model.specs.Choice.{by_priority}
use Rattle.scj_model.specs.Run.{RunSoFar, continued, empty_state, has_ended, one_more_unit, one_unit, run, trace}
use Rattle.scj_model.specs.State.{State, is_exec, is_over}
use Rattle.scj_model.specs.Steps.{Step}
use Rattle.scj_model.proofs.Units.{acts_keep_unit, arrivals_keep_unit, phase_keeps_unit}
use Rattle.trace_audit.specs.declared.answers.Audit.TheVariants.{Yes}
use Rattle.trace_audit.specs.declared.lines.Entry.TheVariants.{Stopped}
use Rattle.trace_audit.specs.Passing.{begun, entry_done, entry_passes, is_in_order, misses_no_choice, replayed, rest_done}
use Rattle.trace_audit.specs.Printed.{audit_reported, entry_reported, line_reported}
use Rattle.trace_audit.specs.Replay.{Replay, nothing_reported}
use Rattle.audited_runs.proofs.Reported.{reported, reported_is_yes, reported_none, reported_one, reported_then}
use Rattle.audited_runs.proofs.InUnit.{five}
use Rattle.audited_runs.proofs.Following.{Follows}
use Rattle.audited_runs.proofs.OneUnit.{Fits, UnitParts, UnitReported, unit_parts, unit_reported}
use Rattle.audited_runs.proofs.Owing.{first_in_order}
use Rattle.priority_laws.proofs.AreaLists.{same_test}

-- ---- the run so far

-- all lines pass so far, the replay behind them follows the state, and where the run goes on, its unit is the number of
-- those that passed
pub record RunReported (plan : Plan) (n : ℕ) (r : RunSoFar) : Type 0 where
  pub after : Replay
  pub is : reported plan nothing_reported r.events ≡ Some after
  pub follows : Follows r.state after
  pub unit : has_ended r ≡ false → r.state.unit ≡ n

first_follows : (code : Code) (plan : Plan) → Follows (empty_state code plan) nothing_reported
unfolding empty_state executes_since is_exec is_over
first_follows code plan = record { holds = refl; since = refl; over = refl; first = refl; ready = refl }

first_unit : (code : Code) (plan : Plan) → (empty_state code plan).unit ≡ 0
unfolding empty_state
first_unit code plan = refl

run_begins : (code : Code) (plan : Plan) → RunReported plan 0 (run code plan by_priority 0)
unfolding run
run_begins code plan =
    record {
      after = nothing_reported;
      is = reported_none plan nothing_reported;
      follows = first_follows code plan;
      unit = λ e. first_unit code plan;
    }

next_number : (code : Code) (plan : Plan) (s : State) (u : Step) → one_unit code plan by_priority s ≡ Some u →
    u.state.unit ≡ s.unit + 1
next_number code plan s u e =
    let parts : UnitParts code plan s u = unit_parts code plan s u e in
    ap (λ (x : Step). x.state.unit) parts.is
    ∙ ap (λ n. n + 1)
    ((phase_keeps_unit code parts.op.state).is parts.last parts.is_last
    ∙ ((acts_keep_unit code plan.readings by_priority _).is parts.op parts.is_op ∙ arrivals_keep_unit code plan s))

-- ---- `stopped`

stopped_over : (b : Replay) (unit : ℕ) → (entry_done b unit Stopped).is_over ≡ true
unfolding rest_done
stopped_over b unit = refl

stopped_passes : (plan : Plan) (r : Replay) → r.is_over ≡ false → is_in_order r plan.units ≡ true →
    misses_no_choice r plan.units ≡ true →
    replayed plan r (line_reported (event.Stopped plan.units)) ≡ Some (entry_done (begun r plan.units) plan.units Stopped)
unfolding replayed entry_reported unit_of entry_passes
stopped_passes plan r goes order ready =
    ap (λ (b : Bool). if b then Some (entry_done (begun r plan.units) plan.units Stopped) else None)
    (five r.is_over (is_in_order r plan.units) (plan.units == plan.units) (misses_no_choice r plan.units) true goes order
    (same_test plan.units) ready refl)

-- a run that hasn't ended is stopped
stopped_is_yes : (plan : Plan) (events : List Event) (s : State) (r : Replay) →
    reported plan nothing_reported events ≡ Some r → Follows s r → s.unit ≡ plan.units → is_over s.phase ≡ false →
    audit_reported plan nothing_reported 1 (events ++ event.Stopped plan.units ∷ []) ≡ Yes
stopped_is_yes plan events s r is follows at lives =
    reported_is_yes plan nothing_reported (entry_done (begun r plan.units) plan.units Stopped) 1
    (events ++ event.Stopped plan.units ∷ [])
    (reported_then plan nothing_reported r (entry_done (begun r plan.units) plan.units Stopped) events
    (event.Stopped plan.units ∷ []) is
    (reported_one plan r (entry_done (begun r plan.units) plan.units Stopped) (event.Stopped plan.units)
    (stopped_passes plan r (follows.over ∙ lives)
    (ap (is_in_order r) (sym at) ∙ first_in_order r s.unit follows.first)
    (ap (misses_no_choice r) (sym at) ∙ follows.ready))))
    (stopped_over (begun r plan.units) plan.units)

-- ---- one more unit

module _ (code : Code) (plan : Plan)
    (fits : (n : ℕ) → is_over (run code plan by_priority n).state.phase ≡ false →
    Fits code plan (run code plan by_priority n).state)
    (free : (n : ℕ) → (run code plan by_priority n).is_stuck ≡ false) where
  more_is : (n : ℕ) → has_ended (run code plan by_priority n) ≡ false → (o : Option Step) →
      one_unit code plan by_priority (run code plan by_priority n).state ≡ o →
      run code plan by_priority (suc n) ≡ continued (run code plan by_priority n) o
  unfolding run one_more_unit
  more_is n lives o e =
      ap (λ b. if b then run code plan by_priority n
      else continued (run code plan by_priority n) (one_unit code plan by_priority (run code plan by_priority n).state)) lives
      ∙ ap (continued (run code plan by_priority n)) e

  same_is : (n : ℕ) → has_ended (run code plan by_priority n) ≡ true →
      run code plan by_priority (suc n) ≡ run code plan by_priority n
  unfolding run one_more_unit
  same_is n ended =
      ap (λ b. if b then run code plan by_priority n
      else continued (run code plan by_priority n) (one_unit code plan by_priority (run code plan by_priority n).state)) ended

  goes_on : (n : ℕ) → n < plan.units → RunReported plan n (run code plan by_priority n) →
      has_ended (run code plan by_priority n) ≡ false → (u : Step) →
      one_unit code plan by_priority (run code plan by_priority n).state ≡ Some u →
      RunReported plan (suc n) (continued (run code plan by_priority n) (Some u))
  unfolding continued
  goes_on n within h lives u e =
      let parts = or_parts (is_over (run code plan by_priority n).state.phase) (run code plan by_priority n).is_stuck lives in
      let at : (run code plan by_priority n).state.unit ≡ n = h.unit lives in
      let k : UnitReported plan h.after u.state u.events =
      unit_reported code plan (run code plan by_priority n).state h.after h.follows (fits n parts.0) parts.0
      (subst (λ m. m < plan.units) (sym at) within) u e in
      record {
        after = k.after;
        is = reported_then plan nothing_reported h.after k.after (run code plan by_priority n).events u.events h.is k.is;
        follows = k.follows;
        unit = λ f. next_number code plan (run code plan by_priority n).state u e ∙ next at;
      }
    where
      next : (run code plan by_priority n).state.unit ≡ n → (run code plan by_priority n).state.unit + 1 ≡ suc n
      next at = omega (arith, at)

  not_stuck : (n : ℕ) → has_ended (run code plan by_priority n) ≡ false →
      one_unit code plan by_priority (run code plan by_priority n).state ≡ None → RunReported plan (suc n) (run code plan by_priority (suc n))
  unfolding continued
  not_stuck n lives e = absurd (cc (free (suc n), ap (λ (x : RunSoFar). x.is_stuck) (more_is n lives None e)))

  one_more : (n : ℕ) → n < plan.units → RunReported plan n (run code plan by_priority n) →
      RunReported plan (suc n) (run code plan by_priority (suc n))
  one_more n within h = go (has_ended (run code plan by_priority n)) refl
    where
      by : (o : Option Step) → one_unit code plan by_priority (run code plan by_priority n).state ≡ o →
          has_ended (run code plan by_priority n) ≡ false → RunReported plan (suc n) (run code plan by_priority (suc n))
      by None e lives = not_stuck n lives e
      by (Some u) e lives =
          subst (λ (x : RunSoFar). RunReported plan (suc n) x) (sym (more_is n lives (Some u) e))
          (goes_on n within h lives u e)

      go : (b : Bool) → has_ended (run code plan by_priority n) ≡ b →
          RunReported plan (suc n) (run code plan by_priority (suc n))
      go true ended =
          subst (λ (x : RunSoFar). RunReported plan (suc n) x) (sym (same_is n ended))
          (record { after = h.after; is = h.is; follows = h.follows; unit = λ f. absurd (cc (f, ended)) })
      go false lives = by (one_unit code plan by_priority (run code plan by_priority n).state) refl lives

  run_reported : (n : ℕ) → n ≤ plan.units → RunReported plan n (run code plan by_priority n)
  run_reported zero l = run_begins code plan
  run_reported (suc n) l = one_more n (omega (arith, l)) (run_reported n (omega (arith, l)))

  -- ---- the last line

  pub run_is_audited : audit_reported plan nothing_reported 1 (trace code plan plan.units) ≡ Yes
  unfolding trace
  run_is_audited = go (has_ended so_far) refl
    where
      so_far : RunSoFar
      so_far = run code plan by_priority plan.units

      h : RunReported plan plan.units so_far
      h = run_reported plan.units (omega arith)

      over : has_ended so_far ≡ true → h.after.is_over ≡ true
      over e = h.follows.over ∙ by (is_over so_far.state.phase) so_far.is_stuck e (free plan.units)
        where
          by : (a b : Bool) → (a || b) ≡ true → b ≡ false → a ≡ true
          by true b f g = refl
          by false b f g = absurd (cc (f, g))

      go : (b : Bool) → has_ended so_far ≡ b →
          audit_reported plan nothing_reported 1 (so_far.events ++ (if b then [] else event.Stopped plan.units ∷ [])) ≡ Yes
      go true e =
          reported_is_yes plan nothing_reported h.after 1 (so_far.events ++ [])
          (ap (reported plan nothing_reported) (append-nil so_far.events) ∙ h.is) (over e)
      go false e = stopped_is_yes plan so_far.events so_far.state h.after h.is h.follows (h.unit e)
          (or_parts (is_over so_far.state.phase) so_far.is_stuck e).0

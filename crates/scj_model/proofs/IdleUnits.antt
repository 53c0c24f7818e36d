-- Units in which nobody acts: each leaves the state as it is, so that a long run is computed in pieces.
use Rattle.std.proofs.Common.{◌≡◌, ℕ, zero, suc, ◌+◌, Bool, true, false, not, ◌&&◌, ◌||◌, List, [], ◌∷◌, ◌++◌, Option, Some, None, if◌then◌else◌, refl, sym, ap, ◌∙◌, arith}
use Rattle.std.specs.Prelude.{option_map}
use Rattle.std.proofs.lemmas.List.{append-nil}
use Rattle.scj_rules.specs.Words.{◌>>=◌, holds}
use Rattle.scj_rules.specs.Classes.{is_empty}
use Rattle.scj_model.specs.declared.events.Event.{Event}
use Rattle.scj_model.specs.declared.plans.ReadingRow.{ReadingRow}
use Rattle.scj_model.specs.declared.handlers.HandlerRow.{HandlerRow}
use Rattle.scj_model.specs.declared.plans.Fire.{Fire}
use Rattle.scj_model.specs.Code.{Code}
use Rattle.scj_model.specs.Plan.{Plan}
use Rattle.scj_model.specs.State.{State, is_exec, is_over, Turn, IdleTurn, TurnOf}
use Rattle.scj_model.specs.Steps.{Step, silently, reporting, for_each, then_do, then_try}
use Rattle.scj_model.specs.Sequencer.{phase_after, after_execution, after_operation, has_started}
use Rattle.scj_model.specs.Apply.{release_taken, takes_releases}
use Rattle.scj_model.specs.Arrivals.{handlers_due, executes_since, fires_due, due_handlers, fired_at, arrivals}
use Rattle.scj_model.specs.Choice.{Candidate, candidate, candidates_from, candidates, most_urgent, chosen, by_priority}
use Rattle.scj_model.specs.Run.{is_same_turn, report_turn, with_turn, turn_taken, turn_acts, sequencer_turn, acts, next_unit, one_unit, RunSoFar, continued, one_more_unit, run}

-- execution goes on, and nobody acts or acted last
pub record IsIdle (s : State) : Type 0 where
  pub executes : is_exec s.phase ≡ true
  pub goes_on : is_over s.phase ≡ false
  pub no_end : s.is_end_asked ≡ false
  pub nobody : candidates s ≡ []
  pub was_idle : s.last_choice ≡ Some IdleTurn

-- nothing is due in so many units from this one on
unfoldable pub nothing_due : ℕ → List HandlerRow → List Fire → ℕ → ℕ → Bool
nothing_due origin registry fires unit zero = true
nothing_due origin registry fires unit (suc k) =
    is_empty (handlers_due origin unit registry) && (is_empty (fires_due (Some origin) unit fires) && nothing_due origin registry fires (unit + 1) k)

-- a mission that executes does so since its origin
since_origin : (s : State) → is_exec s.phase ≡ true → executes_since s ≡ Some s.origin
unfolding executes_since
since_origin s h = ap (λ (b : Bool). if b then Some s.origin else None) h

nothing_in : {A : Type 0} (xs : List A) → is_empty xs ≡ true → xs ≡ []
unfolding is_empty
nothing_in [] h = refl
nothing_in (x ∷ xs) h = absurd (cc (h))

both : (a b : Bool) → (a && b) ≡ true → (a ≡ true) × (b ≡ true)
both true b h = (refl, h)
both false b h = absurd (cc (h))

none_either_way : (b : Bool) (xs : List ℕ) → xs ≡ [] → (if b then xs else []) ≡ []
none_either_way true xs h = h
none_either_way false xs h = refl

idle_arrivals : (code : Code) (plan : Plan) (s : State) → handlers_due s.origin s.unit s.registry ≡ [] → fires_due (executes_since s) s.unit plan.fires ≡ [] → arrivals code plan s ≡ silently s
unfolding arrivals due_handlers for_each
idle_arrivals code plan s h f =
    ap (λ (xs : List ℕ). then_do (for_each release_taken xs s) (for_each (fired_at code plan.fires) (fires_due (executes_since s) s.unit plan.fires)))
    (none_either_way (takes_releases s) (handlers_due s.origin s.unit s.registry) h)
    ∙ ap (λ (ys : List ℕ). then_do (silently s) (for_each (fired_at code plan.fires) ys)) f

idle_acts : (code : Code) (rows : List ReadingRow) (s : State) → IsIdle s → acts code rows by_priority s ≡ Some (silently s)
unfolding acts by_priority chosen most_urgent turn_taken turn_acts is_same_turn
idle_acts code rows s i =
    ap (λ (b : Bool). if b then (by_priority s >>= (λ turn. then_try (turn_taken s turn) (turn_acts code rows turn))) else sequencer_turn code rows s) i.executes
    ∙ (ap (λ (cs : List Candidate). Some (elim (option_map (λ (c : Candidate). c.index) (most_urgent cs)) as (λ x. Turn) [ None ↦ IdleTurn | Some index ↦ TurnOf index ]) >>= (λ turn. then_try (turn_taken s turn) (turn_acts code rows turn))) i.nobody
    ∙ (ap (λ (c : Option Turn). Some (reporting (with_turn s IdleTurn) ((if holds c (is_same_turn IdleTurn) then [] else report_turn s IdleTurn) ++ []))) i.was_idle
    ∙ ap (λ (c : Option Turn). Some (silently (record s { last_choice = c }))) (sym i.was_idle)))

if_false : (b : Bool) (x y : Option Step) → b ≡ false → (if b then x else y) ≡ y
if_false true x y h = absurd (cc (h))
if_false false x y h = refl

idle_phase : (code : Code) (s : State) → IsIdle s → phase_after code s ≡ Some (silently s)
unfolding phase_after
idle_phase code s i =
    ap (λ (b : Bool). if b then after_execution code s else (elim s.outcome as (λ x. Option Step) [ None ↦ Some (silently s) | Some value ↦ after_operation code s value ])) i.executes
    ∙ if_false (s.is_end_asked && not (has_started s)) _ _ (ap (λ (b : Bool). b && not (has_started s)) i.no_end)

idle_unit : (code : Code) (plan : Plan) (s : State) → IsIdle s → handlers_due s.origin s.unit s.registry ≡ [] → fires_due (executes_since s) s.unit plan.fires ≡ [] → one_unit code plan by_priority s ≡ Some (silently (next_unit s))
unfolding one_unit
idle_unit code plan s i h f =
    ap (λ (a : Step). then_try a (acts code plan.readings by_priority) >>= (λ r. then_try r (phase_after code)) >>= (λ r. Some (reporting (next_unit r.state) r.events)))
    (idle_arrivals code plan s h f)
    ∙ (ap (λ (o : Option Step). option_map (λ (second : Step). reporting second.state ([] ++ second.events)) o >>= (λ r. then_try r (phase_after code)) >>= (λ r. Some (reporting (next_unit r.state) r.events)))
    (idle_acts code plan.readings s i)
    ∙ ap (λ (o : Option Step). option_map (λ (second : Step). reporting second.state ([] ++ second.events)) o >>= (λ r. Some (reporting (next_unit r.state) r.events)))
    (idle_phase code s i))

-- ---- more units

unfoldable pub more_units : Code → Plan → ℕ → RunSoFar → RunSoFar
more_units code plan zero r = r
more_units code plan (suc k) r = more_units code plan k (one_more_unit code plan by_priority r)

pub run_more : (code : Code) (plan : Plan) (n k : ℕ) → run code plan by_priority (n + k) ≡ more_units code plan k (run code plan by_priority n)
unfolding more_units run
run_more code plan n zero = let e : n + 0 ≡ n = omega arith in ap (run code plan by_priority) e
run_more code plan n (suc k) =
    let e : n + suc k ≡ suc n + k = omega arith in
    ap (run code plan by_priority) e ∙ run_more code plan (suc n) k

idle_more : (code : Code) (plan : Plan) (s : State) (events : List Event) → IsIdle s → handlers_due s.origin s.unit s.registry ≡ [] → fires_due (executes_since s) s.unit plan.fires ≡ [] → one_more_unit code plan by_priority (record { state = s; events = events; is_stuck = false }) ≡ record { state = next_unit s; events = events; is_stuck = false }
unfolding one_more_unit continued
idle_more code plan s events i h f =
    let r : RunSoFar = record { state = s; events = events; is_stuck = false } in
    ap (λ (b : Bool). if b || false then r else continued r (one_unit code plan by_priority s)) i.goes_on
    ∙ (ap (λ (o : Option Step). continued r o) (idle_unit code plan s i h f)
    ∙ ap (λ (es : List Event). record { state = next_unit s; events = es; is_stuck = false }) (append-nil events))

pub idle_units : (code : Code) (plan : Plan) (k : ℕ) (s : State) (events : List Event) → IsIdle s → nothing_due s.origin s.registry plan.fires s.unit k ≡ true → more_units code plan k (record { state = s; events = events; is_stuck = false }) ≡ record { state = record s { unit = s.unit + k }; events = events; is_stuck = false }
unfolding more_units nothing_due candidates candidates_from candidate
idle_units code plan zero s events i d =
    let e : s.unit ≡ s.unit + 0 = omega arith in
    ap (λ (u : ℕ). record { state = record s { unit = u }; events = events; is_stuck = false }) e
idle_units code plan (suc k) s events i d =
    let h : (is_empty (handlers_due s.origin s.unit s.registry) ≡ true) × ((is_empty (fires_due (Some s.origin) s.unit plan.fires) && nothing_due s.origin s.registry plan.fires (s.unit + 1) k) ≡ true) = both _ _ d in
    let f : (is_empty (fires_due (Some s.origin) s.unit plan.fires) ≡ true) × (nothing_due s.origin s.registry plan.fires (s.unit + 1) k ≡ true) = both _ _ h.1 in
    let e : s.unit + 1 + k ≡ s.unit + suc k = omega arith in
    ap (more_units code plan k) (idle_more code plan s events i (nothing_in _ h.0)
    (ap (λ (o : Option ℕ). fires_due o s.unit plan.fires) (since_origin s i.executes) ∙ nothing_in _ f.0))
    ∙ (idle_units code plan k (next_unit s) events (record { executes = i.executes; goes_on = i.goes_on; no_end = i.no_end; nobody = i.nobody; was_idle = i.was_idle }) f.1
    ∙ ap (λ (u : ℕ). record { state = record s { unit = u }; events = events; is_stuck = false }) e)

-- Reached states: the states of a run are reached, and what each step keeps holds in all of them.
use Rattle.std.proofs.Common.{◌≡◌, ℕ, zero, suc, Bool, true, false, ◌||◌, ◌++◌, Option, Some, None, if◌then◌else◌, refl, ap, subst}
use Rattle.std.specs.Prelude.{option_map, unwrap_or}
use Rattle.scj_rules.specs.Words.{◌>>=◌}
use Rattle.scj_model.specs.Code.{Code}
use Rattle.scj_model.specs.Plan.{Plan}
use Rattle.scj_model.specs.State.{State, is_over}
use Rattle.scj_model.specs.Steps.{Step, reporting}
use Rattle.scj_model.specs.Sequencer.{phase_after}
use Rattle.scj_model.specs.Arrivals.{arrivals}
use Rattle.scj_model.specs.Choice.{Policy}
use Rattle.scj_model.specs.Run.{acts, next_unit, one_unit, empty_state, RunSoFar, has_ended, continued, one_more_unit, run}
use Rattle.scj_model.specs.Reached.{Moment, Between, Arrived, Operated, Reached, at_first, on_arrival, on_operation, on_phase}

-- what holds at first and is kept by arrivals, operations and what follows them holds in each reached state
pub reached_keeps : (code : Code) (plan : Plan) (policy : Policy) (P : Moment → State → Type 0)
    → P Between (empty_state code plan)
    → ((s : State) → P Between s → is_over s.phase ≡ false → P Arrived (arrivals code plan s).state)
    → ((s : State) (step : Step) → P Arrived s → acts code plan.readings policy s ≡ Some step → P Operated step.state)
    → ((s : State) (step : Step) → P Operated s → phase_after code s ≡ Some step → P Between (next_unit step.state))
    → {moment : Moment} {s : State} → Reached code plan policy moment s → P moment s
reached_keeps code plan policy P first arrives operates follows at_first = first
reached_keeps code plan policy P first arrives operates follows (on_arrival s h e) =
    arrives s (reached_keeps code plan policy P first arrives operates follows h) e
reached_keeps code plan policy P first arrives operates follows (on_operation s step h e) =
    operates s step (reached_keeps code plan policy P first arrives operates follows h) e
reached_keeps code plan policy P first arrives operates follows (on_phase s step h e) =
    follows s step (reached_keeps code plan policy P first arrives operates follows h) e

-- ---- a unit, step by step

pub record Gives (P : State → Type 0) (o : Option Step) : Type 0 where
  pub is : (r : Step) → o ≡ Some r → P r.state

some_same : (a b : Step) → Some a ≡ Some b → a ≡ b
some_same a b e = ap (λ (o : Option Step). unwrap_or o a) e

gives_none : (P : State → Type 0) → Gives P None
gives_none P = record { is = λ r e. absurd (cc (e)) }

pub gives_some : (P : State → Type 0) (r : Step) → P r.state → Gives P (Some r)
gives_some P r h = record { is = λ q e. subst (λ (x : Step). P x.state) (some_same r q e) h }

pub gives_reported : (P : State → Type 0) (first : Step) (o : Option Step) → ((second : Step) → o ≡ Some second → P second.state) → Gives P (option_map (λ (second : Step). reporting second.state (first.events ++ second.events)) o)
gives_reported P first None h = gives_none P
gives_reported P first (Some second) h = gives_some P _ (h second refl)

pub gives_on : (P Q : State → Type 0) (o : Option Step) (f : Step → Option Step) → Gives P o → ((r : Step) → P r.state → Gives Q (f r)) → Gives Q (o >>= f)
gives_on P Q None f h k = gives_none Q
gives_on P Q (Some r) f h k = k r (h.is r refl)

reached_unit : (code : Code) (plan : Plan) (policy : Policy) (s : State) → Reached code plan policy Between s → is_over s.phase ≡ false → Gives (Reached code plan policy Between) (one_unit code plan policy s)
unfolding one_unit
reached_unit code plan policy s h e =
    gives_on (λ t. Reached code plan policy Between (next_unit t)) (Reached code plan policy Between) _ _
    (gives_on (Reached code plan policy Operated) (λ t. Reached code plan policy Between (next_unit t)) _ _
    (gives_reported (Reached code plan policy Operated) (arrivals code plan s) _
    (λ step k. on_operation (arrivals code plan s).state step (on_arrival s h e) k))
    (λ r q. gives_reported (λ t. Reached code plan policy Between (next_unit t)) r (phase_after code r.state)
    (λ step k. on_phase r.state step q k)))
    (λ r q. gives_some (Reached code plan policy Between) _ q)

-- ---- a run

pub left_false : (a b : Bool) → (a || b) ≡ false → a ≡ false
left_false false b h = refl
left_false true b h = absurd (cc (h))

reached_continued : (P : State → Type 0) (r : RunSoFar) (o : Option Step) → P r.state → Gives P o → P (continued r o).state
unfolding continued
reached_continued P r None h k = h
reached_continued P r (Some step) h k = k.is step refl

reached_more : (P : State → Type 0) (ended : Bool) (r : RunSoFar) (o : Option Step) → P r.state → (ended ≡ false → Gives P o) → P (if ended then r else continued r o).state
reached_more P true r o h k = h
reached_more P false r o h k = reached_continued P r o h (k refl)

pub reached_run : (code : Code) (plan : Plan) (policy : Policy) (n : ℕ) → Reached code plan policy Between (run code plan policy n).state
unfolding run one_more_unit
reached_run code plan policy zero = at_first
reached_run code plan policy (suc n) =
    let r : RunSoFar = run code plan policy n in
    reached_more (Reached code plan policy Between) (has_ended r) r (one_unit code plan policy r.state) (reached_run code plan policy n)
    (λ e. reached_unit code plan policy r.state (reached_run code plan policy n) (left_false (is_over r.state.phase) r.is_stuck e))

-- Runs by the machine's own choice are runs by a list of choices, each job that may act can be named by a list, and so
-- what holds of all lists holds of the trace.
use Rattle.std.proofs.Common.{◌≡◌, ℕ, zero, suc, ◌+◌, Bool, true, false, not, ◌&&◌, ◌||◌, List, [], ◌∷◌, ◌++◌, length, Option, Some, None, if◌then◌else◌, refl, sym, ap, ◌∙◌, subst}
use Rattle.std.specs.Prelude.{option_map, is_some}
use Rattle.std.proofs.lemmas.List.{append-nil, append_assoc, length-append}
use Rattle.scj_rules.specs.Words.{◌>>=◌}
use Rattle.scj_model.specs.declared.plans.ReadingRow.{ReadingRow}
use Rattle.scj_model.specs.Code.{Code}
use Rattle.scj_model.specs.Plan.{Plan}
use Rattle.scj_model.specs.State.{TheSequencer, ReleaseAt, State, is_exec, is_over, Turn, IdleTurn, TurnOf}
use Rattle.scj_model.specs.Steps.{Step, reporting, then_try}
use Rattle.scj_model.specs.Sequencer.{phase_after}
use Rattle.scj_model.specs.Arrivals.{arrivals}
use Rattle.scj_model.specs.Choice.{Policy, by_priority, may_act, by_list}
use Rattle.scj_model.specs.Run.{with_turn, turn_taken, turn_acts, ref_op, sequencer_turn, acts, next_unit, one_unit, empty_state, RunSoFar, has_ended, continued, one_more_unit, run}
use Rattle.scj_model.specs.Reached.{Between, Arrived, Operated, Reached, on_arrival, on_operation}
use Rattle.scj_model.specs.Safety.{job_may_act, IsSafeInAnyOrder}
use Rattle.scj_model.proofs.Units.{arrivals_keep_unit, acts_keep_unit, phase_keeps_unit, ref_op_keeps_unit}
use Rattle.scj_model.proofs.LastChoices.{as_chosen, ref_op_same}
use Rattle.scj_model.proofs.LastLines.{quiet_arrivals}
use Rattle.scj_model.proofs.Reaching.{Gives, gives_some, gives_reported, gives_on, left_false, reached_run}
use Rattle.scj_model.proofs.Following.{Names, IsAllowed, priority_turn, priority_allows, priority_is_fair, priority_named, list_is_fair, turn_named, IsListed, operated, fair_listed}

-- ---- each job that may act can be named

both_true : (a b : Bool) → (a && b) ≡ true → (a ≡ true) × (b ≡ true)
both_true true true h = (refl, refl)
both_true true false h = absurd (cc (h))
both_true false b h = absurd (cc (h))

-- the operation of a release, as the unit in which it is chosen does it
chosen_op : (code : Code) (rows : List ReadingRow) (s : State) (index : ℕ) (step : Step) → ref_op code rows s (ReleaseAt index) ≡ Some step → then_try (turn_taken s (TurnOf index)) (turn_acts code rows (TurnOf index)) ≡ Some (reporting (with_turn step.state (TurnOf index)) ((turn_taken s (TurnOf index)).events ++ step.events))
unfolding turn_taken turn_acts
chosen_op code rows s index step e =
    ap (λ (o : Option Step). option_map (λ (second : Step). reporting second.state ((turn_taken s (TurnOf index)).events ++ second.events)) o)
    (ref_op_same (TurnOf index) code rows s index ∙ ap (λ (o : Option Step). option_map (as_chosen (TurnOf index)) o) e)

pub release_named : (code : Code) (plan : Plan) (choices : List ℕ) (s : State) (index : ℕ) (step : Step) → Reached code plan (by_list choices) Arrived s → job_may_act s (ReleaseAt index) ≡ true → ref_op code plan.readings s (ReleaseAt index) ≡ Some step → IsListed code plan Operated (with_turn step.state (TurnOf index))
unfolding job_may_act
release_named code plan choices s index step h m e =
    let l : IsListed code plan Arrived s = fair_listed code plan (by_list choices) (list_is_fair choices) h in
    let b : (is_exec s.phase ≡ true) × (may_act s index ≡ true) = both_true (is_exec s.phase) (may_act s index) m in
    operated code plan s l (reporting (with_turn step.state (TurnOf index)) ((turn_taken s (TurnOf index)).events ++ step.events))
    ((ref_op_keeps_unit code plan.readings s (ReleaseAt index)).is step e)
    (subst (λ (o : Option Step). Names code plan.readings s l.choices o) (chosen_op code plan.readings s index step e)
    (turn_named code plan.readings s (TurnOf index) b.1 b.0 l.choices l.counted))

not_exec : (a b : Bool) → (not a && not b) ≡ true → a ≡ false
not_exec false b h = refl
not_exec true b h = absurd (cc (h))

sequencer_acts : (code : Code) (rows : List ReadingRow) (policy : Policy) (s : State) → is_exec s.phase ≡ false → acts code rows policy s ≡ ref_op code rows s TheSequencer
unfolding acts ref_op
sequencer_acts code rows policy s h =
    ap (λ (b : Bool). if b then (policy s >>= (λ turn. then_try (turn_taken s turn) (turn_acts code rows turn))) else sequencer_turn code rows s) h

pub sequencer_named : (code : Code) (plan : Plan) (policy : Policy) (s : State) (step : Step) → Reached code plan policy Arrived s → job_may_act s TheSequencer ≡ true → ref_op code plan.readings s TheSequencer ≡ Some step → Reached code plan policy Operated step.state
unfolding job_may_act
sequencer_named code plan policy s step h m e =
    on_operation s step h (sequencer_acts code plan.readings policy s (not_exec (is_exec s.phase) (is_over s.phase) m) ∙ e)

-- ---- a run by priorities is one by a list

unit_follows : (code : Code) (plan : Plan) (policy : Policy) (s : State) → Gives (λ t. t.unit ≡ s.unit + 1) (one_unit code plan policy s)
unfolding one_unit
unit_follows code plan policy s =
    gives_on (λ t. t.unit ≡ s.unit) (λ t. t.unit ≡ s.unit + 1) _ _
    (gives_on (λ t. t.unit ≡ s.unit) (λ t. t.unit ≡ s.unit) _ _
    (gives_reported (λ t. t.unit ≡ s.unit) (arrivals code plan s) _
    (λ step k. (acts_keep_unit code plan.readings policy (arrivals code plan s).state).is step k ∙ arrivals_keep_unit code plan s))
    (λ r q. gives_reported (λ t. t.unit ≡ s.unit) r (phase_after code r.state) (λ step k. (phase_keeps_unit code r.state).is step k ∙ q)))
    (λ r q. gives_some (λ t. t.unit ≡ s.unit + 1) _ (ap (λ (k : ℕ). k + 1) q))

unit_same : (code : Code) (plan : Plan) (p q : Policy) (s : State) → acts code plan.readings p (arrivals code plan s).state ≡ acts code plan.readings q (arrivals code plan s).state → one_unit code plan p s ≡ one_unit code plan q s
unfolding one_unit
unit_same code plan p q s e =
    ap (λ (o : Option Step). option_map (λ (second : Step). reporting second.state ((arrivals code plan s).events ++ second.events)) o
    >>= (λ result. then_try result (phase_after code))
    >>= (λ result. Some (reporting (next_unit result.state) result.events))) e

-- the list has a choice for each unit that the run has spent, and none for later ones, unless the run has ended
pub record IsListedRun (code : Code) (plan : Plan) (n : ℕ) : Type 0 where
  pub choices : List ℕ
  pub counted : has_ended (run code plan by_priority n) ≡ false → length choices ≡ (run code plan by_priority n).state.unit
  pub same : (more : List ℕ) → run code plan by_priority n ≡ run code plan (by_list (choices ++ more)) n

ended_more : (code : Code) (plan : Plan) (policy : Policy) (r : RunSoFar) → has_ended r ≡ true → one_more_unit code plan policy r ≡ r
unfolding one_more_unit
ended_more code plan policy r x = ap (λ (b : Bool). if b then r else continued r (one_unit code plan policy r.state)) x

going_more : (code : Code) (plan : Plan) (policy : Policy) (r : RunSoFar) → has_ended r ≡ false → one_more_unit code plan policy r ≡ continued r (one_unit code plan policy r.state)
unfolding one_more_unit
going_more code plan policy r x = ap (λ (b : Bool). if b then r else continued r (one_unit code plan policy r.state)) x

stuck_has_ended : {A : Type 0} (b : Bool) → (b || true) ≡ false → A
stuck_has_ended true h = absurd (cc (h))
stuck_has_ended false h = absurd (cc (h))

count_continued : (r : RunSoFar) (o : Option Step) → Gives (λ t. t.unit ≡ r.state.unit + 1) o → (count : ℕ) → count ≡ r.state.unit + 1 → has_ended (continued r o) ≡ false → count ≡ (continued r o).state.unit
unfolding continued
count_continued r None g count e h = stuck_has_ended (is_over r.state.phase) h
count_continued r (Some step) g count e h = e ∙ sym (g.is step refl)

listed_more : (code : Code) (plan : Plan) (n : ℕ) → IsListedRun code plan n → IsListedRun code plan (suc n)
unfolding run
listed_more code plan n l = go (has_ended (run code plan by_priority n)) refl
  where
    r : RunSoFar
    r = run code plan by_priority n

    ended : has_ended r ≡ true → IsListedRun code plan (suc n)
    ended x =
        record {
          choices = l.choices;
          counted = λ h. absurd (cc (x, ap has_ended (ended_more code plan by_priority r x), h));
          same = λ more.
              ended_more code plan by_priority r x
              ∙ (sym (ended_more code plan (by_list (l.choices ++ more)) r x)
              ∙ ap (one_more_unit code plan (by_list (l.choices ++ more))) (l.same more));
        }

    going : has_ended r ≡ false → IsListedRun code plan (suc n)
    going x =
        let e : length l.choices ≡ (arrivals code plan r.state).state.unit = l.counted x ∙ sym (arrivals_keep_unit code plan r.state) in
        let named : Names code plan.readings (arrivals code plan r.state).state l.choices (acts code plan.readings by_priority (arrivals code plan r.state).state) = priority_named code plan.readings (arrivals code plan r.state).state l.choices e in
        let long : length (l.choices ++ named.index ∷ []) ≡ r.state.unit + 1 = length-append l.choices (named.index ∷ []) ∙ ap (λ (k : ℕ). k + 1) (l.counted x) in
        record {
          choices = l.choices ++ named.index ∷ [];
          counted = λ h.
              count_continued r (one_unit code plan by_priority r.state) (unit_follows code plan by_priority r.state) _ long
              (sym (ap has_ended (going_more code plan by_priority r x)) ∙ h)
              ∙ sym (ap (λ (q : RunSoFar). q.state.unit) (going_more code plan by_priority r x));
          same = λ more.
              subst (λ (xs : List ℕ). run code plan by_priority (suc n) ≡ run code plan (by_list xs) (suc n)) (sym (append_assoc l.choices (named.index ∷ []) more))
              (going_more code plan by_priority r x
              ∙ (ap (continued r) (unit_same code plan by_priority (by_list (l.choices ++ named.index ∷ more)) r.state (sym (named.same more)))
              ∙ (sym (going_more code plan (by_list (l.choices ++ named.index ∷ more)) r x)
              ∙ ap (one_more_unit code plan (by_list (l.choices ++ named.index ∷ more))) (l.same (named.index ∷ more)))));
        }

    go : (b : Bool) → has_ended r ≡ b → IsListedRun code plan (suc n)
    go true x = ended x
    go false x = going x

pub listed_run : (code : Code) (plan : Plan) (n : ℕ) → IsListedRun code plan n
unfolding run empty_state
listed_run code plan zero = record { choices = []; counted = λ h. refl; same = λ more. refl }
listed_run code plan (suc n) = listed_more code plan n (listed_run code plan n)

pub run_by_some_list : (code : Code) (plan : Plan) (n : ℕ) → (choices : List ℕ) × (run code plan by_priority n ≡ run code plan (by_list choices) n)
run_by_some_list code plan n =
    let l : IsListedRun code plan n = listed_run code plan n in
    (l.choices, subst (λ (xs : List ℕ). run code plan by_priority n ≡ run code plan (by_list xs) n) (append-nil l.choices) (l.same []))

-- ---- what holds of all lists holds of the trace

record IsThere (o : Option Step) : Type 0 where
  is : is_some o ≡ true

there_reported : (first : Step) (next : State → Option Step) → is_some (next first.state) ≡ true → is_some (then_try first next) ≡ true
there_reported first next h = go (next first.state) h
  where
    go : (o : Option Step) → is_some o ≡ true → is_some (option_map (λ (second : Step). reporting second.state (first.events ++ second.events)) o) ≡ true
    go None x = x
    go (Some step) x = refl

there_chosen : (t : Turn) (o : Option Step) → is_some o ≡ true → is_some (option_map (as_chosen t) o) ≡ true
there_chosen t None h = h
there_chosen t (Some step) h = refl

there_on : (o : Option Step) (f : Step → Option Step) → is_some o ≡ true → ((step : Step) → o ≡ Some step → is_some (f step) ≡ true) → is_some (o >>= f) ≡ true
there_on None f h k = absurd (cc (h))
there_on (Some step) f h k = k step refl

-- a turn by priority has a result where no job that may act is stuck
turn_goes_on : (code : Code) (rows : List ReadingRow) (s : State) (turn : Turn) → IsAllowed s turn → ((index : ℕ) → may_act s index ≡ true → is_some (ref_op code rows s (ReleaseAt index)) ≡ true) → is_some (then_try (turn_taken s turn) (turn_acts code rows turn)) ≡ true
unfolding turn_acts turn_taken
turn_goes_on code rows s IdleTurn a h = refl
turn_goes_on code rows s (TurnOf index) a h =
    there_reported (turn_taken s (TurnOf index)) (turn_acts code rows (TurnOf index))
    (ap is_some (ref_op_same (TurnOf index) code rows s index) ∙ there_chosen (TurnOf index) (ref_op code rows s (ReleaseAt index)) (h index a))

acts_go_on : (code : Code) (plan : Plan) → IsSafeInAnyOrder code → (s : State) → Reached code plan by_priority Arrived s → is_over s.phase ≡ false → is_some (acts code plan.readings by_priority s) ≡ true
unfolding acts by_priority job_may_act ref_op
acts_go_on code plan safe s h n = go (is_exec s.phase) refl
  where
    l : IsListed code plan Arrived s
    l = fair_listed code plan by_priority priority_is_fair h

    choices : List ℕ
    choices = l.choices ++ []

    go : (b : Bool) → is_exec s.phase ≡ b → is_some (if b then (Some (priority_turn s) >>= (λ turn. then_try (turn_taken s turn) (turn_acts code plan.readings turn))) else sequencer_turn code plan.readings s) ≡ true
    go true x =
        turn_goes_on code plan.readings s (priority_turn s) (priority_allows s)
        (λ index m. safe.none_is_stuck plan choices s (ReleaseAt index) (l.reaches []) (ap (λ (b : Bool). b && may_act s index) x ∙ m))
    go false x =
        safe.none_is_stuck plan choices s TheSequencer (l.reaches [])
        (ap (λ (b : Bool). not b && not (is_over s.phase)) x ∙ ap not n)

unit_goes_on : (code : Code) (plan : Plan) → IsSafeInAnyOrder code → (s : State) → Reached code plan by_priority Between s → is_over s.phase ≡ false → is_some (one_unit code plan by_priority s) ≡ true
unfolding one_unit
unit_goes_on code plan safe s h n =
    there_on _ _
    (there_on _ _
    (there_reported (arrivals code plan s) (acts code plan.readings by_priority) (acts_go_on code plan safe a ha (quiet_arrivals code plan s n).goes_on))
    (λ r k. there_reported r (phase_after code) (follows r k)))
    (λ r k. refl)
  where
    a : State
    a = (arrivals code plan s).state

    ha : Reached code plan by_priority Arrived a
    ha = on_arrival s h n

    operated_state : Gives (Reached code plan by_priority Operated) (then_try (arrivals code plan s) (acts code plan.readings by_priority))
    operated_state = gives_reported (Reached code plan by_priority Operated) (arrivals code plan s) _ (λ step k. on_operation a step ha k)

    follows : (r : Step) → then_try (arrivals code plan s) (acts code plan.readings by_priority) ≡ Some r → is_some (phase_after code r.state) ≡ true
    follows r k =
        let l : IsListed code plan Operated r.state = fair_listed code plan by_priority priority_is_fair (operated_state.is r k) in
        safe.goes_on plan (l.choices ++ []) r.state (l.reaches [])

run_continued : (r : RunSoFar) (o : Option Step) → (is_over r.state.phase ≡ false → is_some o ≡ true) → (b : Bool) → has_ended r ≡ b → r.is_stuck ≡ false → (if b then r else continued r o).is_stuck ≡ false
unfolding continued
run_continued r o h true x k = k
run_continued r None h false x k = absurd (cc (h (left_false (is_over r.state.phase) r.is_stuck x)))
run_continued r (Some step) h false x k = refl

pub safe_run : (code : Code) (plan : Plan) → IsSafeInAnyOrder code → (n : ℕ) → (run code plan by_priority n).is_stuck ≡ false
unfolding run one_more_unit
safe_run code plan safe zero = refl
safe_run code plan safe (suc n) =
    run_continued (run code plan by_priority n) (one_unit code plan by_priority (run code plan by_priority n).state)
    (unit_goes_on code plan safe (run code plan by_priority n).state (reached_run code plan by_priority n))
    (has_ended (run code plan by_priority n)) refl (safe_run code plan safe n)

-- A policy that names only releases that may act, and nobody only where none may, does what some list of choices does.
use Rattle.std.proofs.Common.{◌≡◌, ℕ, zero, suc, ◌+◌, Bool, true, false, List, [], ◌∷◌, ◌++◌, length, Option, Some, None, if◌then◌else◌, refl, sym, ap, ◌∙◌, subst, arith}
use Rattle.std.specs.Prelude.{option_map, slice_get, unwrap_or, is_some, option_to_list}
use Rattle.std.proofs.lemmas.List.{append-nil, append_assoc, length-append}
use Rattle.scj_rules.specs.Words.{◌>>=◌, holds}
use Rattle.scj_model.specs.declared.plans.ReadingRow.{ReadingRow}
use Rattle.scj_model.specs.Code.{Code}
use Rattle.scj_model.specs.Plan.{Plan}
use Rattle.scj_model.specs.State.{ReleaseStatus, Waits, Started, Ended, Dropped, Release, State, is_exec, Turn, IdleTurn, TurnOf}
use Rattle.scj_model.specs.Steps.{Step, then_try}
use Rattle.scj_model.specs.Choice.{Candidate, handler_priority, candidate, candidates_from, candidates, is_more_urgent, most_urgent, chosen, Policy, by_priority, may_act, by_list}
use Rattle.scj_model.specs.Run.{turn_taken, turn_acts, acts, empty_state, sequencer_turn}
use Rattle.scj_model.specs.Reached.{Moment, Between, Arrived, Operated, Reached, at_first, on_arrival, on_operation, on_phase}
use Rattle.scj_model.proofs.Units.{arrivals_keep_unit, acts_keep_unit, phase_keeps_unit}
use Rattle.scj_model.proofs.Reaching.{reached_keeps}

-- ---- candidates are the releases that may act

element_behind : {A : Type 0} (xs : List A) (y : A) (ys : List A) → slice_get (xs ++ y ∷ ys) (length xs) ≡ Some y
element_behind [] y ys = refl
element_behind (x ∷ xs) y ys = element_behind xs y ys

abbrev AllAct : State → List Candidate → Type 0
AllAct s [] = Unit {0}
AllAct s (c ∷ cs) = (may_act s c.index ≡ true) × AllAct s cs

candidate_acts : (s : State) (index : ℕ) (r : Release) (cs : List Candidate) → slice_get s.releases index ≡ Some r → AllAct s cs → AllAct s (option_to_list (candidate s index r) ++ cs)
unfolding candidate may_act
candidate_acts s index r cs e rest = go r.status refl
  where
    acts_as : is_some (candidate s index r) ≡ true → may_act s index ≡ true
    acts_as k = ap (λ (o : Option Release). holds o (λ x. is_some (candidate s index x))) e ∙ k

    go : (p : ReleaseStatus) → r.status ≡ p → AllAct s (option_to_list (elim p as (λ x. Option Candidate) [
      | Waits ↦ Some (record { index = index; priority = handler_priority s r.handler; is_started = false })
      | Started activity ↦ Some (record { index = index; priority = activity.priority; is_started = true })
      | Ended ↦ None
      | Dropped ↦ None
    ]) ++ cs)
    go Waits h = (acts_as (ap (λ (x : ReleaseStatus). is_some (candidate s index (record r { status = x }))) h), rest)
    go (Started activity) h = (acts_as (ap (λ (x : ReleaseStatus). is_some (candidate s index (record r { status = x }))) h), rest)
    go Ended h = rest
    go Dropped h = rest

all_act_from : (s : State) (before rs : List Release) → s.releases ≡ before ++ rs → AllAct s (candidates_from s (length before) rs)
unfolding candidates_from
all_act_from s before [] e = tt
all_act_from s before (r ∷ rs) e =
    candidate_acts s (length before) r _ (ap (λ (xs : List Release). slice_get xs (length before)) e ∙ element_behind before r rs)
    (subst (λ (k : ℕ). AllAct s (candidates_from s k rs)) (length-append before (r ∷ []))
    (all_act_from s (before ++ r ∷ []) rs (e ∙ sym (append_assoc before (r ∷ []) rs))))

all_act : (s : State) → AllAct s (candidates s)
unfolding candidates
all_act s = all_act_from s [] s.releases refl

some_same : {A : Type 0} (a b : A) → Some a ≡ Some b → a ≡ b
some_same a b e = ap (λ (o : Option _). unwrap_or o a) e

most_urgent_acts : (s : State) (cs : List Candidate) → AllAct s cs → (m : Candidate) → most_urgent cs ≡ Some m → may_act s m.index ≡ true
unfolding most_urgent
most_urgent_acts s [] h m e = absurd (cc (e))
most_urgent_acts s (c ∷ cs) h m e = go (most_urgent cs) (λ later k. most_urgent_acts s cs h.1 later k) e
  where
    either : (b : Bool) (later : Candidate) → may_act s later.index ≡ true → Some (if b then later else c) ≡ Some m → may_act s m.index ≡ true
    either true later k x = ap (λ (y : Candidate). may_act s y.index) (sym (some_same later m x)) ∙ k
    either false later k x = ap (λ (y : Candidate). may_act s y.index) (sym (some_same c m x)) ∙ h.0

    go : (o : Option Candidate) → ((later : Candidate) → o ≡ Some later → may_act s later.index ≡ true) → (elim o [ None ↦ Some c | Some later ↦ Some (if is_more_urgent later c then later else c) ]) ≡ Some m → may_act s m.index ≡ true
    go None k x = either false c h.0 x
    go (Some later) k x = either (is_more_urgent later c) later (k later refl) x

-- where a release may act, there is a candidate
none_behind : (xs : List Candidate) (ys : List Candidate) → xs ++ ys ≡ [] → ys ≡ []
none_behind [] ys e = e
none_behind (x ∷ xs) ys e = absurd (cc (e))

no_candidate : (s : State) (k index : ℕ) (r : Release) (cs : List Candidate) → option_to_list (candidate s k r) ++ cs ≡ [] → is_some (candidate s index r) ≡ true → ⊥
unfolding candidate
no_candidate s k index r cs = go r.status
  where
    go : (p : ReleaseStatus) → option_to_list (elim p as (λ x. Option Candidate) [
      | Waits ↦ Some (record { index = k; priority = handler_priority s r.handler; is_started = false })
      | Started activity ↦ Some (record { index = k; priority = activity.priority; is_started = true })
      | Ended ↦ None
      | Dropped ↦ None
    ]) ++ cs ≡ [] → is_some (elim p as (λ x. Option Candidate) [
      | Waits ↦ Some (record { index = index; priority = handler_priority s r.handler; is_started = false })
      | Started activity ↦ Some (record { index = index; priority = activity.priority; is_started = true })
      | Ended ↦ None
      | Dropped ↦ None
    ]) ≡ true → ⊥
    go Waits e h = absurd (cc (e))
    go (Started activity) e h = absurd (cc (e))
    go Ended e h = absurd (cc (h))
    go Dropped e h = absurd (cc (h))

none_act_from : (s : State) (k index : ℕ) (rs : List Release) (i : ℕ) → candidates_from s k rs ≡ [] → holds (slice_get rs i) (λ r. is_some (candidate s index r)) ≡ true → ⊥
unfolding candidates_from
none_act_from s k index [] i e h = absurd (cc (h))
none_act_from s k index (r ∷ rs) zero e h = no_candidate s k index r _ e h
none_act_from s k index (r ∷ rs) (suc i) e h =
    none_act_from s (k + 1) index rs i (none_behind (option_to_list (candidate s k r)) _ e) h

none_act : (s : State) (index : ℕ) → candidates s ≡ [] → may_act s index ≡ true → ⊥
unfolding candidates may_act
none_act s index e h = none_act_from s 0 index s.releases index e h

-- ---- turns that a list may have

abbrev pub IsAllowed : State → Turn → Type 0
IsAllowed s IdleTurn = candidates s ≡ []
IsAllowed s (TurnOf index) = may_act s index ≡ true

-- the policy has such turns alone
pub record IsFair (policy : Policy) : Type 0 where
  pub turns : (s : State) (turn : Turn) → policy s ≡ Some turn → IsAllowed s turn

abbrev pub priority_turn : State → Turn
priority_turn s = elim (chosen s) [ None ↦ IdleTurn | Some index ↦ TurnOf index ]

some_is_most_urgent : (c : Candidate) (cs : List Candidate) → most_urgent (c ∷ cs) ≡ None → ⊥
unfolding most_urgent
some_is_most_urgent c cs e = go (most_urgent cs) e
  where
    go : (o : Option Candidate) → (elim o as (λ x. Option Candidate) [ None ↦ Some c | Some later ↦ Some (if is_more_urgent later c then later else c) ]) ≡ None → ⊥
    go None x = absurd (cc (x))
    go (Some later) x = absurd (cc (x))

pub priority_allows : (s : State) → IsAllowed s (priority_turn s)
unfolding chosen
priority_allows s = go (candidates s) refl
  where
    on : (cs : List Candidate) → AllAct s cs → (o : Option Candidate) → most_urgent cs ≡ o → (o ≡ None → candidates s ≡ []) → IsAllowed s (elim (option_map (λ (c : Candidate). c.index) o) as (λ x. Turn) [ None ↦ IdleTurn | Some index ↦ TurnOf index ])
    on cs h None e k = k refl
    on cs h (Some m) e k = most_urgent_acts s cs h m e

    go : (cs : List Candidate) → candidates s ≡ cs → IsAllowed s (elim (option_map (λ (c : Candidate). c.index) (most_urgent (candidates s))) as (λ x. Turn) [ None ↦ IdleTurn | Some index ↦ TurnOf index ])
    go [] e = on (candidates s) (all_act s) (most_urgent (candidates s)) refl (λ x. e)
    go (c ∷ cs) e =
        on (candidates s) (all_act s) (most_urgent (candidates s)) refl
        (λ x. absurd (some_is_most_urgent c cs (sym (ap most_urgent e) ∙ x)))

pub priority_is_fair : IsFair by_priority
unfolding by_priority
priority_is_fair = record { turns = λ s turn e. subst (λ (t : Turn). IsAllowed s t) (some_same (priority_turn s) turn e) (priority_allows s) }

pub list_is_fair : (choices : List ℕ) → IsFair (by_list choices)
unfolding by_list
list_is_fair choices = record { turns = λ s turn e. go s turn (candidates s) refl e }
  where
    tested : (s : State) (turn : Turn) (index : ℕ) (b : Bool) → may_act s index ≡ b → (if b then Some (TurnOf index) else None) ≡ Some turn → IsAllowed s turn
    tested s turn index true h e = subst (λ (t : Turn). IsAllowed s t) (some_same (TurnOf index) turn e) h
    tested s turn index false h e = absurd (cc (e))

    named : (s : State) (turn : Turn) (o : Option ℕ) → (o >>= (λ index. if may_act s index then Some (TurnOf index) else None)) ≡ Some turn → IsAllowed s turn
    named s turn None e = absurd (cc (e))
    named s turn (Some index) e = tested s turn index (may_act s index) refl e

    go : (s : State) (turn : Turn) (cs : List Candidate) → candidates s ≡ cs → (elim cs [ [] ↦ Some IdleTurn | c ∷ more ↦ slice_get choices s.unit >>= (λ index. if may_act s index then Some (TurnOf index) else None) ]) ≡ Some turn → IsAllowed s turn
    go s turn [] k e = subst (λ (t : Turn). IsAllowed s t) (some_same IdleTurn turn e) k
    go s turn (c ∷ cs) k e = named s turn (slice_get choices s.unit) e

-- ---- a list that has a turn

-- the place that a list has for the turn; where nobody acts, any place
abbrev pub place_of_turn : Turn → ℕ
place_of_turn IdleTurn = 0
place_of_turn (TurnOf index) = index

pub list_has_turn : (s : State) (turn : Turn) → IsAllowed s turn → (choices more : List ℕ) → length choices ≡ s.unit → by_list (choices ++ place_of_turn turn ∷ more) s ≡ Some turn
unfolding by_list
list_has_turn s IdleTurn h choices more e =
    ap (λ (cs : List Candidate). elim cs as (λ x. Option Turn) [ [] ↦ Some IdleTurn | c ∷ others ↦ slice_get (choices ++ 0 ∷ more) s.unit >>= (λ index. if may_act s index then Some (TurnOf index) else None) ]) h
list_has_turn s (TurnOf index) h choices more e = go (candidates s) refl
  where
    named : slice_get (choices ++ index ∷ more) s.unit ≡ Some index
    named = ap (λ (k : ℕ). slice_get (choices ++ index ∷ more) k) (sym e) ∙ element_behind choices index more

    go : (cs : List Candidate) → candidates s ≡ cs → (elim cs as (λ x. Option Turn) [ [] ↦ Some IdleTurn | c ∷ others ↦ slice_get (choices ++ index ∷ more) s.unit >>= (λ index. if may_act s index then Some (TurnOf index) else None) ]) ≡ Some (TurnOf index)
    go [] k = absurd (none_act s index k h)
    go (c ∷ cs) k =
        ap (λ (o : Option ℕ). o >>= (λ index. if may_act s index then Some (TurnOf index) else None)) named
        ∙ ap (λ (b : Bool). if b then Some (TurnOf index) else None) h

-- what acts under a fair policy acts under a list that is long enough
pub record Names (code : Code) (rows : List ReadingRow) (s : State) (choices : List ℕ) (o : Option Step) : Type 0 where
  pub index : ℕ
  pub same : (more : List ℕ) → acts code rows (by_list (choices ++ index ∷ more)) s ≡ o

pub turn_named : (code : Code) (rows : List ReadingRow) (s : State) (turn : Turn) → IsAllowed s turn → is_exec s.phase ≡ true → (choices : List ℕ) → length choices ≡ s.unit → Names code rows s choices (then_try (turn_taken s turn) (turn_acts code rows turn))
unfolding acts
turn_named code rows s turn h x choices e =
    record {
      index = place_of_turn turn;
      same = λ more.
          ap (λ (b : Bool). if b then (by_list (choices ++ place_of_turn turn ∷ more) s >>= (λ t. then_try (turn_taken s t) (turn_acts code rows t))) else sequencer_turn code rows s) x
          ∙ ap (λ (o : Option Turn). o >>= (λ t. then_try (turn_taken s t) (turn_acts code rows t))) (list_has_turn s turn h choices more e);
    }

sequencer_named : (code : Code) (rows : List ReadingRow) (s : State) → is_exec s.phase ≡ false → (choices : List ℕ) → Names code rows s choices (sequencer_turn code rows s)
unfolding acts
sequencer_named code rows s x choices =
    record {
      index = 0;
      same = λ more.
          ap (λ (b : Bool). if b then (by_list (choices ++ 0 ∷ more) s >>= (λ t. then_try (turn_taken s t) (turn_acts code rows t))) else sequencer_turn code rows s) x;
    }

fair_named : (code : Code) (rows : List ReadingRow) (policy : Policy) → IsFair policy → (s : State) (choices : List ℕ) → length choices ≡ s.unit → (step : Step) → acts code rows policy s ≡ Some step → Names code rows s choices (Some step)
unfolding acts
fair_named code rows policy fair s choices e step k = go (is_exec s.phase) refl k
  where
    on : (o : Option Turn) → policy s ≡ o → is_exec s.phase ≡ true → (o >>= (λ t. then_try (turn_taken s t) (turn_acts code rows t))) ≡ Some step → Names code rows s choices (Some step)
    on None p x q = absurd (cc (q))
    on (Some turn) p x q = subst (λ (o : Option Step). Names code rows s choices o) q (turn_named code rows s turn (fair.turns s turn p) x choices e)

    go : (b : Bool) → is_exec s.phase ≡ b → (if b then (policy s >>= (λ t. then_try (turn_taken s t) (turn_acts code rows t))) else sequencer_turn code rows s) ≡ Some step → Names code rows s choices (Some step)
    go true x q = on (policy s) refl x q
    go false x q = subst (λ (o : Option Step). Names code rows s choices o) q (sequencer_named code rows s x choices)

-- the machine's own choice has a turn in each state
pub priority_named : (code : Code) (rows : List ReadingRow) (s : State) (choices : List ℕ) → length choices ≡ s.unit → Names code rows s choices (acts code rows by_priority s)
unfolding acts by_priority
priority_named code rows s choices e = go (is_exec s.phase) refl
  where
    go : (b : Bool) → is_exec s.phase ≡ b → Names code rows s choices (if b then (Some (priority_turn s) >>= (λ t. then_try (turn_taken s t) (turn_acts code rows t))) else sequencer_turn code rows s)
    go true x = turn_named code rows s (priority_turn s) (priority_allows s) x choices e
    go false x = sequencer_named code rows s x choices

-- ---- reached states

-- how many units have had their choice
abbrev pub units_chosen : Moment → State → ℕ
units_chosen Between s = s.unit
units_chosen Arrived s = s.unit
units_chosen Operated s = suc s.unit

-- some list leads to the state, and has a choice for each unit up to it and none for later ones
pub record IsListed (code : Code) (plan : Plan) (moment : Moment) (s : State) : Type 0 where
  pub choices : List ℕ
  pub counted : length choices ≡ units_chosen moment s
  pub reaches : (more : List ℕ) → Reached code plan (by_list (choices ++ more)) moment s

pub operated : (code : Code) (plan : Plan) (s : State) (l : IsListed code plan Arrived s) (step : Step) → step.state.unit ≡ s.unit → Names code plan.readings s l.choices (Some step) → IsListed code plan Operated step.state
operated code plan s l step e n =
    record {
      choices = l.choices ++ n.index ∷ [];
      counted = let k : length (l.choices ++ n.index ∷ []) ≡ length l.choices + 1 = length-append l.choices (n.index ∷ []) in omega (arith, k, l.counted, e);
      reaches = λ more.
          subst (λ (xs : List ℕ). Reached code plan (by_list xs) Operated step.state) (sym (append_assoc l.choices (n.index ∷ []) more))
          (on_operation s step (l.reaches (n.index ∷ more)) (n.same more));
    }

pub fair_listed : (code : Code) (plan : Plan) (policy : Policy) → IsFair policy → {moment : Moment} {s : State} → Reached code plan policy moment s → IsListed code plan moment s
unfolding empty_state
fair_listed code plan policy fair h =
    reached_keeps code plan policy (λ moment s. IsListed code plan moment s)
    (record { choices = []; counted = refl; reaches = λ more. at_first })
    (λ s l e. record { choices = l.choices; counted = l.counted ∙ sym (arrivals_keep_unit code plan s); reaches = λ more. on_arrival s (l.reaches more) e })
    (λ s step l k. operated code plan s l step ((acts_keep_unit code plan.readings policy s).is step k)
    (fair_named code plan.readings policy fair s l.choices l.counted step k))
    (λ s step l k. record {
      choices = l.choices;
      counted = let e : step.state.unit ≡ s.unit = (phase_keeps_unit code s).is step k in omega (arith, l.counted, e);
      reaches = λ more. on_phase s step (l.reaches more) k;
    })
    h

-- the list itself
pub by_some_list : (code : Code) (plan : Plan) (moment : Moment) (s : State) → IsListed code plan moment s → (choices : List ℕ) × Reached code plan (by_list choices) moment s
by_some_list code plan moment s l =
    (l.choices, subst (λ (xs : List ℕ). Reached code plan (by_list xs) moment s) (append-nil l.choices) (l.reaches []))

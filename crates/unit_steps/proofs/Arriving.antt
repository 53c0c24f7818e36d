-- Periodic releases that are taken in at the beginning of a unit, as the code goes from handler to handler.
use Rattle.std.specs.Prelude.{Option, Some, if◌then◌else◌, slice_get, nat_lt, not}
use Rattle.std.proofs.Common.{◌≡◌, ◌∙◌, ◌≤◌, ◌<◌, ℕ, ◌+◌, Bool, true, false, List, [], ◌∷◌, ◌++◌, length, drop, get_or, refl, ap, sym, subst}
use Rattle.std.proofs.lemmas.List.{drop_all, drop_more}
use Rattle.std.proofs.lemmas.Option.{slice_get-get_or}
use Rattle.scj_rules.specs.Words.{holds}
use Rattle.scj_model.specs.declared.events.Event.{Event}
use Rattle.scj_model.specs.declared.handlers.HandlerKind.TheVariants.{Aperiodic}
use Rattle.scj_model.specs.declared.handlers.HandlerRow.{HandlerRow}
use Rattle.op_list.specs.Listed.{Listing}
use Rattle.scj_model.specs.State.{Release, State}
use Rattle.scj_model.specs.Steps.{Step, silently, then_do, for_each}
use Rattle.scj_model.specs.Apply.{most_waiting, release_taken, takes_releases, waiting_of}
use Rattle.scj_model.specs.Arrivals.{due_handlers, handlers_due, is_due, numbers_where}
use Rattle.run_state.specs.declared.states.RunState.{RunState}
use Rattle.run_state.specs.Seen.{state_of}
use Rattle.run_state.specs.Steps.{IsStep}
use Rattle.run_state.proofs.StepLemmas.{same_step}
use Rattle.mission_steps.proofs.Going.{still}
use Rattle.unit_steps.specs.Arriving.{arrived_at}
use Rattle.unit_steps.proofs.UnderWay.{IsUnderWay, all_done, goes_on, not_begun}

-- ---- the handler at a place

module _ (s : State) (index : ℕ) where
  abbrev released_if : Bool → Step
  released_if due = if due then release_taken s (index + 1) else silently s

  abbrev due_there : Bool
  due_there = holds (slice_get s.registry index) (is_due s.origin s.unit)

  pub stays_away : due_there ≡ false → arrived_at s index ≡ silently s
  unfolding arrived_at
  stays_away e = ap released_if e

  pub arrives : (number : ℕ) → due_there ≡ true → number ≡ index + 1 → arrived_at s index ≡ release_taken s number
  unfolding arrived_at
  arrives number e f = ap released_if e ∙ ap (λ (n : ℕ). release_taken s n) (sym f)

-- a state in which the same handlers are due
pub record HasSameDue (s t : State) : Type 0 where
  pub registry : t.registry ≡ s.registry
  pub unit : t.unit ≡ s.unit
  pub origin : t.origin ≡ s.origin

pub same_due : (s : State) → HasSameDue s s
same_due s = record { registry = refl; unit = refl; origin = refl }

more_released : (s : State) (releases : List Release) → HasSameDue s (record s { releases = releases })
more_released s releases = record { registry = refl; unit = refl; origin = refl }

either_due : (s : State) (b : Bool) (x y : Step) → HasSameDue s x.state → HasSameDue s y.state →
    HasSameDue s (if b then x else y).state
either_due s true x y h k = h
either_due s false x y h k = k

same_taken : (s : State) (handler : ℕ) → HasSameDue s (release_taken s handler).state
unfolding release_taken
same_taken s handler =
    either_due s (not (nat_lt (length (waiting_of s handler)) most_waiting)) _ _ (same_due s) (more_released s _)

same_arrived : (s : State) (index : ℕ) → HasSameDue s (arrived_at s index).state
unfolding arrived_at
same_arrived s index = either_due s (due_there s index) _ _ (same_taken s (index + 1)) (same_due s)

same_after : (s t u v : State) → HasSameDue s t → u ≡ v → HasSameDue t v → HasSameDue s u
same_after s t u v h e k =
    subst (λ (x : State). HasSameDue s x) (sym e)
    (record { registry = k.registry ∙ h.registry; unit = k.unit ∙ h.unit; origin = k.origin ∙ h.origin })

-- ---- from handler to handler

abbrev no_row : HandlerRow
no_row = record { at = 0; class = 0; priority = 0; start = 0; period = 0; bytes = 0; kind = Aperiodic }

-- the handlers from a place on that are due in a state
abbrev pub due_from : State → ℕ → List ℕ
due_from s n = numbers_where (is_due s.origin s.unit) (n + 1) (drop n s.registry)

abbrev pub taken_from : State → ℕ → State → Step
taken_from s n = for_each release_taken (due_from s n)

-- the one at the place, and then those behind it
next_taken : (t : State) (n : ℕ) (row : HandlerRow) (rest : List HandlerRow) → slice_get t.registry n ≡ Some row →
    for_each release_taken (numbers_where (is_due t.origin t.unit) (n + 1) (row ∷ rest)) t
    ≡ then_do (arrived_at t n) (for_each release_taken (numbers_where (is_due t.origin t.unit) (n + 1 + 1) rest))
unfolding for_each numbers_where arrived_at
next_taken t n row rest e =
    go (is_due t.origin t.unit row)
    ∙ ap (λ (o : Option HandlerRow).
    then_do (released_if t n (holds o (is_due t.origin t.unit))) (for_each release_taken others)) (sym e)
  where
    others : List ℕ
    others = numbers_where (is_due t.origin t.unit) (n + 1 + 1) rest

    go : (due : Bool) →
        for_each release_taken ((if due then (n + 1) ∷ [] else []) ++ others) t
        ≡ then_do (released_if t n due) (for_each release_taken others)
    go true = refl
    go false = refl

step_by : (t : State) (n : ℕ) → n < length t.registry →
    taken_from t n t ≡ then_do (arrived_at t n) (taken_from t (n + 1))
step_by t n within =
    ap (λ (rows : List HandlerRow). for_each release_taken (numbers_where (is_due t.origin t.unit) (n + 1) rows) t)
    (drop_more t.registry n no_row within)
    ∙ next_taken t n (get_or t.registry n no_row) (drop (n + 1) t.registry)
    (slice_get-get_or t.registry n no_row within)

-- also where the handlers are those of a state before
step_from : (s t : State) (n : ℕ) → HasSameDue s t → n < length s.registry →
    taken_from s n t ≡ then_do (arrived_at t n) (taken_from s (n + 1))
step_from s t n same within =
    subst
    (λ (f : ℕ → State → Step). f n t ≡ then_do (arrived_at t n) (f (n + 1)))
    (same_from s t same)
    (step_by t n (subst (λ (rows : List HandlerRow). n < length rows) (sym same.registry) within))
  where
    same_from : (s t : State) → HasSameDue s t → taken_from t ≡ taken_from s
    same_from s t same =
        ap (λ (rows : List HandlerRow). (λ (n : ℕ). for_each release_taken
        (numbers_where (is_due t.origin t.unit) (n + 1) (drop n rows)))) same.registry
        ∙ (ap (λ (unit : ℕ). (λ (n : ℕ). for_each release_taken
        (numbers_where (is_due t.origin unit) (n + 1) (drop n s.registry)))) same.unit
        ∙ ap (λ (origin : ℕ). (λ (n : ℕ). for_each release_taken
        (numbers_where (is_due origin s.unit) (n + 1) (drop n s.registry)))) same.origin)

none_behind : (s t : State) (n : ℕ) → length s.registry ≤ n → taken_from s n t ≡ silently t
unfolding for_each numbers_where
none_behind s t n behind =
    ap (λ (rows : List HandlerRow). for_each release_taken (numbers_where (is_due s.origin s.unit) (n + 1) rows) t)
    (drop_all n s.registry behind)

-- the handlers before a place are released if they were due
pub record AreArriving (code : Listing) (was st : RunState) (n : ℕ) (before after : List Event) : Type 0 where
  pub goes : IsUnderWay code (taken_from (state_of code was) 0 (state_of code was)) (taken_from (state_of code was) n)
      st before after
  pub same : HasSameDue (state_of code was) (state_of code st)

module _ (code : Listing) (was : RunState) where
  pub none_arrived : (reported : List Event) → AreArriving code was was 0 reported reported
  none_arrived reported = record {
    goes = not_begun code (taken_from (state_of code was) 0) was reported;
    same = same_due (state_of code was);
  }

  pub next_arrived : (mid st : RunState) (n : ℕ) (before middle after : List Event) →
      n < length (state_of code was).registry → AreArriving code was mid n before middle →
      IsStep code (arrived_at (state_of code mid) n) st middle after → AreArriving code was st (n + 1) before after
  next_arrived mid st n before middle after within h k = record {
    goes = goes_on code (taken_from (state_of code was) 0 (state_of code was)) (arrived_at (state_of code mid) n)
        (taken_from (state_of code was) n) (taken_from (state_of code was) (n + 1)) mid st before middle after
        (step_from (state_of code was) (state_of code mid) n h.same within) h.goes k;
    same = same_after (state_of code was) (state_of code mid) (state_of code st)
        (arrived_at (state_of code mid) n).state h.same k.state (same_arrived (state_of code mid) n);
  }

  pub all_arrived : (st : RunState) (n : ℕ) (before after : List Event) → takes_releases (state_of code was) ≡ true →
      length (state_of code was).registry ≤ n → AreArriving code was st n before after →
      IsStep code (for_each release_taken (due_handlers (state_of code was)) (state_of code was)) st before after
  unfolding due_handlers handlers_due
  all_arrived st n before after takes behind h =
      same_step code st before after (taken_from (state_of code was) 0 (state_of code was)) _
      (ap (λ (b : Bool). for_each release_taken (if b then due_from (state_of code was) 0 else []) (state_of code was))
      takes)
      (all_done code (taken_from (state_of code was) 0 (state_of code was)) (taken_from (state_of code was) n) st
      before after (none_behind (state_of code was) (state_of code st) n behind) h.goes)

  pub nobody_arrives : (reported : List Event) → takes_releases (state_of code was) ≡ false →
      IsStep code (for_each release_taken (due_handlers (state_of code was)) (state_of code was)) was reported reported
  unfolding due_handlers for_each
  nobody_arrives reported takes =
      same_step code was reported reported (silently (state_of code was)) _
      (ap (λ (b : Bool). for_each release_taken
      (if b then handlers_due (state_of code was).origin (state_of code was).unit (state_of code was).registry else [])
      (state_of code was)) takes)
      (still code was reported)

-- the registry is the one that the code keeps
pub registry_seen : (code : Listing) (st : RunState) → (state_of code st).registry ≡ st.registry.items
unfolding state_of
registry_seen code st = refl

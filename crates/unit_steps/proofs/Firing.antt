-- The plan's fires of a unit, as the code goes from fire to fire; and all arrivals of a unit.
use Rattle.std.specs.Prelude.{Option, Some, None, if◌then◌else◌}
use Rattle.std.proofs.Common.{◌≡◌, ◌∙◌, ◌≤◌, ◌<◌, ℕ, ◌-◌, Bool, true, false, List, [], ◌∷◌, ◌++◌, length, drop, take, get_or, refl, ap, sym, arith}
use Rattle.std.proofs.lemmas.List.{take_all}
use Rattle.scj_tree.specs.Forest.{Forest}
use Rattle.scj_rules.specs.Words.{◌>>=◌}
use Rattle.scj_rules.specs.Classes.{class_number}
use Rattle.scj_rules.specs.Contexts.{declarations_of}
use Rattle.scj_model.specs.declared.events.Event.{Event}
use Rattle.scj_model.specs.declared.events.Event.TheVariants.{Miss}
use Rattle.scj_model.specs.declared.plans.Fire.{Fire}
use Rattle.scj_model.specs.Code.{code_of}
use Rattle.op_list.specs.Listed.{Listing}
use Rattle.scj_model.specs.Plan.{Plan}
use Rattle.scj_model.specs.State.{State}
use Rattle.scj_model.specs.Registry.{aperiodic_of}
use Rattle.scj_model.specs.Steps.{Step, silently, reporting, then_do, for_each}
use Rattle.scj_model.specs.Apply.{release_taken, takes_releases}
use Rattle.scj_model.specs.Arrivals.{arrivals, comes_in, due_handlers, executes_since, fired, fired_at, fired_handler, fires_due}
use Rattle.run_plan.specs.Index.{coming}
use Rattle.run_state.specs.declared.states.RunState.{RunState}
use Rattle.run_state.specs.Seen.{state_of}
use Rattle.run_state.specs.Steps.{IsStep}
use Rattle.run_state.proofs.StepLemmas.{same_step}
use Rattle.unit_steps.specs.Arriving.{fired_in}
use Rattle.unit_steps.proofs.FiresByPlaces.{fires_among, fires_of_the_unit}
use Rattle.unit_steps.proofs.UnderWay.{IsUnderWay, all_done, both_done, goes_on}

-- ---- the handler of a fire

module _ (forest : Forest) (s : State) (name : List ℕ) where
  abbrev handler_by : Bool → Option ℕ → Option ℕ
  handler_by takes class = if takes then class >>= aperiodic_of s.registry else None

  pub no_release_taken : takes_releases s ≡ false → fired_handler (code_of forest) s name ≡ None
  unfolding fired_handler
  no_release_taken e =
      ap (λ (b : Bool). handler_by b (class_number (code_of forest).program.names name)) e

  by_class : (class : Option ℕ) → takes_releases s ≡ true →
      class ≡ class_number (declarations_of forest).names name →
      fired_handler (code_of forest) s name ≡ class >>= aperiodic_of s.registry
  unfolding fired_handler code_of
  by_class class e f =
      ap (λ (b : Bool). handler_by b (class_number (declarations_of forest).names name)) e
      ∙ ap (λ (o : Option ℕ). handler_by true o) (sym f)

  pub no_class : takes_releases s ≡ true → None ≡ class_number (declarations_of forest).names name →
      fired_handler (code_of forest) s name ≡ None
  no_class e f = by_class None e f

  pub of_class : (class : ℕ) → takes_releases s ≡ true →
      Some class ≡ class_number (declarations_of forest).names name →
      fired_handler (code_of forest) s name ≡ aperiodic_of s.registry class
  of_class class e f = by_class (Some class) e f

-- ---- a fire

module _ (code : Listing) (s : State) (fire : Fire) where
  abbrev fired_by : Option ℕ → Step
  fired_by handler =
      elim handler as (λ _. Step) [
        | Some handler ↦ release_taken s handler
        | None ↦ reporting s (Miss s.unit fire.handler ∷ [])
      ]

  pub releases : (handler : ℕ) → Some handler ≡ fired_handler (code_of code.program) s fire.handler →
      fired (code_of code.program) s fire ≡ release_taken s handler
  unfolding fired
  releases handler e = ap fired_by (sym e)

  pub misses : None ≡ fired_handler (code_of code.program) s fire.handler →
      fired (code_of code.program) s fire ≡ reporting s (Miss s.unit fire.handler ∷ [])
  unfolding fired
  misses e = ap fired_by (sym e)

pub miss_reported : (code : Listing) (st : RunState) (fire : Fire) (before after : List Event) →
    None ≡ fired_handler (code_of code.program) (state_of code st) fire.handler →
    after ≡ before ++ Miss st.unit fire.handler ∷ [] →
    IsStep code (fired (code_of code.program) (state_of code st) fire) st before after
unfolding state_of
miss_reported code st fire before after e reported =
    same_step code st before after (reporting (state_of code st) (Miss st.unit fire.handler ∷ [])) _
    (misses code (state_of code st) fire e)
    (record { state = refl; reported = reported })

module _ (code : Listing) (origin : Option ℕ) (unit : ℕ) (s : State) (fire : Fire) where
  abbrev fired_if : Bool → Step
  fired_if comes = if comes then fired (code_of code.program) s fire else silently s

  pub comes : comes_in origin unit fire ≡ true → fired_in (code_of code.program) origin unit s fire ≡ fired (code_of code.program) s fire
  unfolding fired_in
  comes e = ap fired_if e

  pub comes_not : comes_in origin unit fire ≡ false → fired_in (code_of code.program) origin unit s fire ≡ silently s
  unfolding fired_in
  comes_not e = ap fired_if e

-- ---- fire after fire

-- the first of a list, and what is behind it
first_and_others : {A : Type 0} (rest : List A) (x : A) → 1 ≤ length rest → x ≡ get_or rest 0 x →
    rest ≡ x ∷ take (length rest - 1) (drop 1 rest)
first_and_others [] x n e = absurd (omega (arith, n))
first_and_others {A} (y ∷ ys) x n e =
    let all_behind : length (y ∷ ys) - 1 ≡ length ys = omega arith in
    let others : take (length (y ∷ ys) - 1) ys ≡ ys =
    ap (λ (k : ℕ). take k ys) all_behind ∙ take_all (length ys) ys (omega arith) in
    ap (λ (z : A). z ∷ ys) (sym e) ∙ ap (λ (zs : List A). x ∷ zs) (sym others)

none_left : {A : Type 0} (rest : List A) → length rest < 1 → rest ≡ []
none_left [] few = refl
none_left (x ∷ xs) few = absurd (omega (arith, few))

module _ (code : Listing) (origin : Option ℕ) (unit : ℕ) where
  abbrev pub fired_all : List Fire → State → Step
  fired_all fires = for_each (fired_in (code_of code.program) origin unit) fires

  one_fired : (fire : Fire) (others rest : List Fire) (s : State) → rest ≡ fire ∷ others →
      fired_all rest s ≡ then_do (fired_in (code_of code.program) origin unit s fire) (fired_all others)
  unfolding for_each
  one_fired fire others rest s e = ap (λ (fires : List Fire). fired_all fires s) e

  pub next_fired : (whole : Step) (fire : Fire) (rest : List Fire) (was st : RunState)
      (before middle after : List Event) → 1 ≤ length rest → fire ≡ get_or rest 0 fire →
      IsUnderWay code whole (fired_all rest) was before middle →
      IsStep code (fired_in (code_of code.program) origin unit (state_of code was) fire) st middle after →
      IsUnderWay code whole (fired_all (take (length rest - 1) (drop 1 rest))) st before after
  next_fired whole fire rest was st before middle after some first h k =
      goes_on code whole (fired_in (code_of code.program) origin unit (state_of code was) fire) (fired_all rest)
      (fired_all (take (length rest - 1) (drop 1 rest))) was st before middle after
      (one_fired fire (take (length rest - 1) (drop 1 rest)) rest (state_of code was)
      (first_and_others rest fire some first)) h k

  pub last_fired : (whole : Step) (rest : List Fire) (st : RunState) (before after : List Event) → length rest < 1 →
      IsUnderWay code whole (fired_all rest) st before after → IsStep code whole st before after
  unfolding for_each
  last_fired whole rest st before after few h =
      all_done code whole (fired_all rest) st before after
      (ap (λ (fires : List Fire). fired_all fires (state_of code st)) (none_left rest few)) h

-- ---- all arrivals

module _ (code : Listing) (plan : Plan) (was mid st : RunState) (before middle after : List Event) (fires : List Fire)
    (origin : Option ℕ)
  where
    same_fires : (s : State) → origin ≡ executes_since (state_of code was) →
        coming origin was.unit fires ≡ coming origin was.unit plan.fires →
        for_each (fired_at (code_of code.program) plan.fires)
        (fires_due (executes_since (state_of code was)) (state_of code was).unit plan.fires) s
        ≡ for_each (fired_in (code_of code.program) origin was.unit) fires s
    unfolding state_of
    same_fires s o e =
        ap (λ (since : Option ℕ). for_each (fired_at (code_of code.program) plan.fires) (fires_due since was.unit plan.fires) s) (sym o)
        ∙ (fires_of_the_unit (code_of code.program) origin was.unit plan.fires s
        ∙ (ap (λ (xs : List Fire). for_each (fired (code_of code.program)) xs s) (sym e)
        ∙ sym (fires_among (code_of code.program) origin was.unit fires s)))

    pub both_arrived : origin ≡ executes_since (state_of code was) →
        coming origin was.unit fires ≡ coming origin was.unit plan.fires →
        IsStep code (for_each release_taken (due_handlers (state_of code was)) (state_of code was)) mid before middle →
        IsStep code (for_each (fired_in (code_of code.program) origin was.unit) fires (state_of code mid)) st middle after →
        IsStep code (arrivals (code_of code.program) plan (state_of code was)) st before after
    unfolding arrivals
    both_arrived o e h k =
        both_done code (for_each release_taken (due_handlers (state_of code was)) (state_of code was))
        (for_each (fired_at (code_of code.program) plan.fires)
        (fires_due (executes_since (state_of code was)) (state_of code was).unit plan.fires)) mid st before middle after
        h
        (same_step code st middle after (for_each (fired_in (code_of code.program) origin was.unit) fires (state_of code mid)) _
        (same_fires (state_of code mid) o e) k)

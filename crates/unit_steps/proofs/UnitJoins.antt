-- One unit: the parts of the code are led where the definition of a unit leads.
use Rattle.std.specs.Prelude.{Option, Some, None, is_some, option_map, unwrap_or}
use Rattle.std.proofs.Common.{◌≡◌, true, false, List, ◌++◌, refl, sym, ap, subst}
use Rattle.scj_rules.specs.Words.{◌>>=◌}
use Rattle.scj_model.specs.declared.events.Event.{Event}
use Rattle.scj_model.specs.Code.{code_of}
use Rattle.op_list.specs.Listed.{Listing}
use Rattle.scj_model.specs.Plan.{Plan}
use Rattle.scj_model.specs.State.{State}
use Rattle.scj_model.specs.Steps.{Step, reporting, then_try}
use Rattle.scj_model.specs.Sequencer.{phase_after}
use Rattle.scj_model.specs.Arrivals.{arrivals}
use Rattle.scj_model.specs.Choice.{Policy}
use Rattle.scj_model.specs.Run.{acts, next_unit, one_unit}
use Rattle.run_state.specs.declared.states.RunState.{RunState}
use Rattle.run_state.specs.Seen.{state_of}
use Rattle.unit_steps.specs.Alike.{IsAlike, same, over}
use Rattle.unit_steps.specs.Led.{IsLed, IsLedTry}
use Rattle.unit_steps.specs.Refused.{followed, operated}
use Rattle.unit_steps.proofs.Joins.{none_there}

pub none_is : (o : Option Step) → false ≡ is_some o → o ≡ None
none_is None e = refl
none_is (Some x) e = absurd (cc (e))

pub some_there : (o : Option Step) → true ≡ is_some o → (done : Step) × (o ≡ Some done)
some_there None e = absurd (cc (e))
some_there (Some x) e = (x, refl)

next_alike : (s t : State) → IsAlike s t → IsAlike (next_unit s) (next_unit t)
next_alike s t same = same
next_alike s t (over activity e none) = over activity e none

-- ---- what follows the operation

module _ (code : Listing) (done : Step) where
  abbrev next_after : Step → Option Step
  next_after result = Some (reporting (next_unit result.state) result.events)

  -- nothing can follow
  pub followed_stuck : (st : RunState) (before after : List Event) → then_try done (phase_after (code_of code.program)) ≡ None →
      IsLedTry code (followed (code_of code.program) done) false st before after
  followed_stuck st before after h =
      none_there code false st before after (ap (λ (o : Option Step). o >>= next_after) h) refl

  pub followed_led : (third last : RunState) (before after : List Event) (result : Step) →
      then_try done (phase_after (code_of code.program)) ≡ Some result → IsLed code result third before after →
      state_of code last ≡ next_unit (state_of code third) →
      IsLedTry code (followed (code_of code.program) done) true last before after
  followed_led third last before after result h k next =
      let is : followed (code_of code.program) done ≡ Some (reporting (next_unit result.state) result.events) =
      ap (λ (o : Option Step). o >>= next_after) h in
      subst (λ (o : Option Step). IsLedTry code o true last before after) (sym is)
      (record {
        went = refl;
        leads = λ one f.
            subst (λ d. IsLed code d last before after)
            (let same_one : reporting (next_unit result.state) result.events ≡ one = cc (f) in same_one)
            (record {
              alike = subst (λ t. IsAlike (next_unit result.state) t) (sym next)
                  (next_alike result.state (state_of code third) k.alike);
              reported = k.reported;
            });
      })

-- ---- both

module _ (code : Listing) (plan : Plan) (policy : Policy) (was : RunState) where
  abbrev s : State
  s = state_of code was

  abbrev arrived : Option Step
  arrived = then_try (arrivals (code_of code.program) plan s) (acts (code_of code.program) plan.readings policy)

  abbrev counted : Step → Option Step
  counted result = Some (reporting (next_unit result.state) result.events)

  -- nobody can act, or nothing can follow
  pub unit_stuck : (st : RunState) (before middle : List Event) → arrived ≡ None →
      IsLedTry code (one_unit (code_of code.program) plan policy s) false st before middle
  unfolding one_unit
  unit_stuck st before middle e =
      none_there code false st before middle (ap (λ (o : Option Step). (o >>= (λ (result : Step). then_try result (phase_after (code_of code.program)))) >>= counted) e) refl

  -- the operation has a result, and what follows it is what follows in the unit
  pub unit_goes_on : (done : Step) → arrived ≡ Some done → one_unit (code_of code.program) plan policy s ≡ followed (code_of code.program) done
  unfolding one_unit
  unit_goes_on done e =
      ap (λ (o : Option Step). (o >>= (λ (result : Step). then_try result (phase_after (code_of code.program)))) >>= counted) e

-- ---- the operation alone

pub operated_acts : (code : Listing) (plan : Plan) (policy : Policy) (s : State) (done : Step) →
    operated (code_of code.program) plan policy s ≡ Some done →
    (step : Step) × (acts (code_of code.program) plan.readings policy (arrivals (code_of code.program) plan s).state ≡ Some step)
    × (step.state ≡ done.state)
operated_acts code plan policy s done e = go (acts (code_of code.program) plan.readings policy (arrivals (code_of code.program) plan s).state) e
  where
    go : (o : Option Step) →
        option_map (λ (second : Step). reporting second.state ((arrivals (code_of code.program) plan s).events ++ second.events)) o
        ≡ Some done → (step : Step) × (o ≡ Some step) × (step.state ≡ done.state)
    go None h = absurd (cc (h))
    go (Some step) h = (step, refl, ap (λ (o : Option Step). (unwrap_or o done).state) h)

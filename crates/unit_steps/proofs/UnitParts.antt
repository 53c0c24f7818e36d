-- One unit of the code: after each of its parts, what it has been led to.
use Rattle.std.specs.Prelude.{Option, Some, None}
use Rattle.std.proofs.Common.{◌≡◌, ◌∙◌, ◌+◌, Bool, true, false, List, refl, subst, sym}
use Rattle.scj_model.specs.declared.events.Event.{Event}
use Rattle.scj_model.specs.Code.{code_of}
use Rattle.op_list.specs.Listed.{Listing}
use Rattle.scj_model.specs.Plan.{Plan}
use Rattle.scj_model.specs.State.{State}
use Rattle.scj_model.specs.Steps.{Step, then_try}
use Rattle.scj_model.specs.Sequencer.{phase_after}
use Rattle.scj_model.specs.Arrivals.{arrivals}
use Rattle.scj_model.specs.Choice.{Policy}
use Rattle.scj_model.specs.Run.{acts, next_unit, one_unit}
use Rattle.run_state.specs.declared.states.RunState.{RunState}
use Rattle.run_state.specs.Seen.{state_of}
use Rattle.run_state.specs.Steps.{IsStep, IsTry}
use Rattle.unit_steps.specs.Alike.{IsAlike, same, over}
use Rattle.unit_steps.specs.Led.{IsLed, IsLedTry}
use Rattle.unit_steps.specs.Refused.{followed, operated}
use Rattle.unit_steps.proofs.Composed.{phase_led, then_led}
use Rattle.unit_steps.proofs.UnitCounts.{unit_follows}
use Rattle.unit_steps.proofs.UnitJoins.{followed_led, followed_stuck, none_is, some_there, unit_goes_on, unit_stuck}

-- a result that is there
pub led_there : (code : Listing) (o : Option Step) (answer : Bool) (st : RunState) (before after : List Event) →
    answer ≡ true → IsLedTry code o answer st before after →
    (done : Step) × (o ≡ Some done) × IsLed code done st before after
led_there code o answer st before after e h =
    let there : (done : Step) × (o ≡ Some done) = some_there o (sym e ∙ h.went) in
    (there.0, there.1, h.leads there.0 there.1)

pub none_there : (code : Listing) (o : Option Step) (answer : Bool) (st : RunState) (before after : List Event) →
    answer ≡ false → IsLedTry code o answer st before after → o ≡ None
none_there code o answer st before after e h = none_is o (sym e ∙ h.went)

alike_unit : (s t : State) → IsAlike s t → t.unit ≡ s.unit
alike_unit s t same = refl
alike_unit s t (over activity e f) = refl

-- the unit after one unit is the next one
pub unit_counted : (code : Listing) (plan : Plan) (policy : Policy) (was st : RunState) (before after : List Event) →
    IsLedTry code (one_unit (code_of code.program) plan policy (state_of code was)) true st before after → st.unit ≡ was.unit + 1
unfolding state_of
unit_counted code plan policy was st before after h =
    let there : (done : Step) × (one_unit (code_of code.program) plan policy (state_of code was) ≡ Some done)
    × IsLed code done st before after =
    led_there code (one_unit (code_of code.program) plan policy (state_of code was)) true st before after refl h in
    alike_unit there.0.state (state_of code st) there.2.alike
    ∙ (unit_follows (code_of code.program) plan policy (state_of code was)).is there.0 there.1

module _ (code : Listing) (plan : Plan) (policy : Policy) (was first second : RunState)
    (before reported_first reported_second : List Event)
    (arrived : IsStep code (arrivals (code_of code.program) plan (state_of code was)) first before reported_first)
    (acted : Bool)
    (acts_led : IsLedTry code (acts (code_of code.program) plan.readings policy (state_of code first)) acted second reported_first
    reported_second)
  where
    pub both_led : IsLedTry code (operated (code_of code.program) plan policy (state_of code was)) acted second before reported_second
    both_led =
        then_led code acted second before reported_first reported_second (arrivals (code_of code.program) plan (state_of code was))
        (acts (code_of code.program) plan.readings policy) first arrived acts_led

-- ---- what follows the operation

module _ (code : Listing) (done : Step) (second third : RunState) (before reported_second reported_third : List Event)
    (led : IsLed code done second before reported_second) (answer : Bool)
    (tried : IsTry code (phase_after (code_of code.program) (state_of code second)) answer third reported_second reported_third) where
  phase_there : IsLedTry code (then_try done (phase_after (code_of code.program))) answer third before reported_third
  phase_there = phase_led code answer third before reported_second reported_third done second led tried

  pub stuck_then : answer ≡ false → IsLedTry code (followed (code_of code.program) done) false third before reported_third
  stuck_then e =
      followed_stuck code done third before reported_third
      (none_there code (then_try done (phase_after (code_of code.program))) answer third before reported_third e phase_there)

  pub goes_to_next : (last : RunState) → answer ≡ true → state_of code last ≡ next_unit (state_of code third) →
      IsLedTry code (followed (code_of code.program) done) true last before reported_third
  goes_to_next last e next =
      let there : (result : Step) × (then_try done (phase_after (code_of code.program)) ≡ Some result)
      × IsLed code result third before reported_third =
      led_there code (then_try done (phase_after (code_of code.program))) answer third before reported_third e phase_there in
      followed_led code done third last before reported_third there.0 there.1 there.2 next

-- ---- a whole unit

-- its operation has no result
pub stuck_at_once : (code : Listing) (plan : Plan) (policy : Policy) (was st : RunState) (before after : List Event) →
    IsLedTry code (operated (code_of code.program) plan policy (state_of code was)) false st before after →
    IsLedTry code (one_unit (code_of code.program) plan policy (state_of code was)) false st before after
stuck_at_once code plan policy was st before after h =
    unit_stuck code plan policy was st before after
    (none_there code (operated (code_of code.program) plan policy (state_of code was)) false st before after refl h)

-- its operation has one
pub goes_on : (code : Listing) (plan : Plan) (policy : Policy) (was last : RunState) (before after : List Event)
    (done : Step) (answer : Bool) → operated (code_of code.program) plan policy (state_of code was) ≡ Some done →
    IsLedTry code (followed (code_of code.program) done) answer last before after →
    IsLedTry code (one_unit (code_of code.program) plan policy (state_of code was)) answer last before after
goes_on code plan policy was last before after done answer e h =
    subst (λ (o : Option Step). IsLedTry code o answer last before after)
    (sym (unit_goes_on code plan policy was done e)) h

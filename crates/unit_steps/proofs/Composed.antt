-- Steps one after the other, as the code is led from state to state.
use Rattle.std.specs.Prelude.{Option, Some, None, if◌then◌else◌, ◌++◌, option_map}
use Rattle.std.proofs.Common.{◌≡◌, Bool, true, false, List, [], ◌∷◌, refl, sym, ◌∙◌, ap, subst}
use Rattle.scj_model.specs.declared.events.Event.{Event}
use Rattle.scj_model.specs.declared.phases.Phase.{Phase}
use Rattle.scj_model.specs.declared.phases.Phase.TheVariants.{Boot, Next, Init, Exec, Cleanup, Over}
use Rattle.scj_model.specs.Code.{code_of}
use Rattle.op_list.specs.Listed.{Listing}
use Rattle.scj_model.specs.State.{State, is_exec, is_over}
use Rattle.scj_model.specs.Steps.{Step, silently, reporting, then_try}
use Rattle.scj_model.specs.Sequencer.{after_execution, after_operation, phase_after}
use Rattle.run_state.specs.declared.states.RunState.{RunState}
use Rattle.run_state.specs.Seen.{state_of}
use Rattle.run_state.specs.Steps.{IsStep, IsTry}
use Rattle.unit_steps.specs.Alike.{IsAlike, same, over, IsAlikeTry, some}
use Rattle.unit_steps.specs.Led.{IsLed, IsLedTry}
use Rattle.unit_steps.proofs.Alike.{equal_tries}
use Rattle.unit_steps.proofs.Joins.{led_by_alike}

append_again : {A : Type 0} (xs ys zs : List A) → (xs ++ ys) ++ zs ≡ xs ++ (ys ++ zs)
append_again [] ys zs = refl
append_again (x ∷ xs) ys zs = ap (λ rest. x ∷ rest) (append_again xs ys zs)

-- ---- nothing follows in the sequencer once the run is over

not_exec : (p : Phase) → is_over p ≡ true → is_exec p ≡ false
unfolding is_exec is_over
not_exec Boot e = absurd (cc (e))
not_exec Next e = absurd (cc (e))
not_exec Init e = absurd (cc (e))
not_exec Exec e = absurd (cc (e))
not_exec Cleanup e = absurd (cc (e))
not_exec Over e = refl

module _ (code : Listing) where
  ended_phase : (s : State) → is_over s.phase ≡ true → s.outcome ≡ None → phase_after (code_of code.program) s ≡ Some (silently s)
  unfolding phase_after
  ended_phase s e none_there =
      ap (λ b. if b then after_execution (code_of code.program) s
      else (elim s.outcome as (λ z. Option Step) [
        | None ↦ Some (silently s)
        | Some value ↦ after_operation (code_of code.program) s value
      ])) (not_exec s.phase e)
      ∙ ap (λ (o : _). elim o as (λ z. Option Step) [
        | None ↦ Some (silently s)
        | Some value ↦ after_operation (code_of code.program) s value
      ]) none_there

  pub phase_alike : (s t : State) → IsAlike s t → IsAlikeTry (phase_after (code_of code.program) s) (phase_after (code_of code.program) t)
  phase_alike s t same = equal_tries refl
  phase_alike s t (over activity e none_there) =
      subst (λ (o : Option Step). IsAlikeTry o (phase_after (code_of code.program) (record s { activity = activity })))
      (sym (ended_phase s e none_there))
      (subst (λ (o : Option Step). IsAlikeTry (Some (silently s)) o)
      (sym (ended_phase (record s { activity = activity }) e none_there))
      (some (record { states = over activity e none_there; events = refl })))

-- ---- one after the other

module _ (code : Listing) (answer : Bool) (st : RunState) (before middle after : List Event) where
  joined : (first : Step) (o : Option Step) → middle ≡ before ++ first.events →
      IsLedTry code o answer st middle after →
      IsLedTry code (option_map (λ (second : Step). reporting second.state (first.events ++ second.events)) o) answer st
      before after
  joined first None e k = record { went = k.went; leads = λ done h. absurd (cc (h)) }
  joined first (Some second) e k =
      let led = k.leads second refl in
      let whole : Step = reporting second.state (first.events ++ second.events) in
      record {
        went = k.went;
        leads = λ done h. subst (λ d. IsLed code d st before after) (let same_one : whole ≡ done = cc (h) in same_one)
            (record {
              alike = led.alike;
              reported = led.reported ∙ (ap (λ events. events ++ second.events) e
                  ∙ append_again before first.events second.events);
            });
      }

  -- a step, and a second one from the state that it led to
  pub then_led : (first : Step) (next : State → Option Step) (was : RunState) →
      IsStep code first was before middle → IsLedTry code (next (state_of code was)) answer st middle after →
      IsLedTry code (then_try first next) answer st before after
  then_led first next was h k =
      joined first (next first.state) h.reported
      (subst (λ (t : State). IsLedTry code (next t) answer st middle after) h.state k)

  -- what follows in the sequencer, from a state like the one that was led to
  pub phase_led : (first : Step) (was : RunState) → IsLed code first was before middle →
      IsTry code (phase_after (code_of code.program) (state_of code was)) answer st middle after →
      IsLedTry code (then_try first (phase_after (code_of code.program))) answer st before after
  phase_led first was h k =
      joined first (phase_after (code_of code.program) first.state) h.reported
      (led_by_alike code answer st middle after _ _ (phase_alike code first.state (state_of code was) h.alike) k)

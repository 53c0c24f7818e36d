-- Steps of which a part is done: what is left of them goes on from the state that was reached.
use Rattle.std.proofs.Common.{◌≡◌, ◌∙◌, List, [], ◌++◌, refl, ap, sym}
use Rattle.std.proofs.lemmas.List.{append-nil, append_assoc}
use Rattle.scj_model.specs.declared.events.Event.{Event}
use Rattle.op_list.specs.Listed.{Listing}
use Rattle.scj_model.specs.State.{State}
use Rattle.scj_model.specs.Steps.{Step, silently, reporting, then_do}
use Rattle.run_state.specs.declared.states.RunState.{RunState}
use Rattle.run_state.specs.Seen.{state_of}
use Rattle.run_state.specs.Steps.{IsStep}
use Rattle.run_state.proofs.StepLemmas.{same_step}

-- some events were told, and what is left goes on from this state
pub record IsUnderWay (code : Listing) (whole : Step) (left : State → Step) (st : RunState) (before after : List Event) :
    Type 0 where
  pub events : List Event
  pub reported : after ≡ before ++ events
  pub goes : whole ≡ then_do (reporting (state_of code st) events) left

module _ (code : Listing) where
  -- all is left
  pub not_begun : (left : State → Step) (st : RunState) (reported : List Event) →
      IsUnderWay code (left (state_of code st)) left st reported reported
  not_begun left st reported =
      record { events = []; reported = sym (append-nil reported); goes = refl }

  -- one step more is done
  pub goes_on : (whole one : Step) (left rest : State → Step) (was st : RunState) (before middle after : List Event) →
      left (state_of code was) ≡ then_do one rest → IsUnderWay code whole left was before middle →
      IsStep code one st middle after → IsUnderWay code whole rest st before after
  goes_on whole one left rest was st before middle after e h k = record {
    events = h.events ++ one.events;
    reported = k.reported
        ∙ (ap (λ (es : List Event). es ++ one.events) h.reported ∙ append_assoc before h.events one.events);
    goes = h.goes
        ∙ (ap (λ (x : Step). reporting x.state (h.events ++ x.events)) e
        ∙ (ap (λ (es : List Event). reporting (rest one.state).state es)
        (sym (append_assoc h.events one.events (rest one.state).events))
        ∙ ap (λ (x : State). reporting (rest x).state ((h.events ++ one.events) ++ (rest x).events)) (sym k.state)));
  }

  -- nothing is left
  pub all_done : (whole : Step) (left : State → Step) (st : RunState) (before after : List Event) →
      left (state_of code st) ≡ silently (state_of code st) → IsUnderWay code whole left st before after →
      IsStep code whole st before after
  all_done whole left st before after e h =
      same_step code st before after (reporting (state_of code st) h.events) whole
      (h.goes
      ∙ (ap (λ (x : Step). reporting x.state (h.events ++ x.events)) e
      ∙ ap (λ (es : List Event). reporting (state_of code st) es) (append-nil h.events)))
      (record { state = refl; reported = h.reported })

  -- a step, and a second one from the state that it led to
  pub both_done : (first : Step) (next : State → Step) (was st : RunState) (before middle after : List Event) →
      IsStep code first was before middle → IsStep code (next (state_of code was)) st middle after →
      IsStep code (then_do first next) st before after
  both_done first next was st before middle after h k = record {
    state = k.state ∙ ap (λ (x : State). (next x).state) h.state;
    reported = k.reported
        ∙ (ap (λ (es : List Event). es ++ (next (state_of code was)).events) h.reported
        ∙ (append_assoc before first.events (next (state_of code was)).events
        ∙ ap (λ (x : State). before ++ (first.events ++ (next x).events)) h.state));
  }

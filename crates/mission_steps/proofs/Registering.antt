-- A handler is registered, by the cases of the definition.
use Rattle.std.specs.Prelude.{true, false, Option, Some, None, is_some, nat_lt, option_map}
use Rattle.std.proofs.Common.{◌≡◌, ◌∙◌, ℕ, ◌+◌, List, [], ◌∷◌, ◌++◌, length, refl, ap}
use Rattle.scj_base.specs.declared.faults.RunFault.TheVariants.{NotInitializing, TooManyHandlers}
use Rattle.scj_base.specs.declared.positions.Position.{Position}
use Rattle.scj_model.specs.declared.events.Event.{Event}
use Rattle.scj_model.specs.declared.events.Event.TheVariants.{Register}
use Rattle.scj_model.specs.declared.handlers.HandlerRow.{HandlerRow}
use Rattle.scj_rules.specs.Contexts.{Declarations}
use Rattle.scj_model.specs.Code.{code_of}
use Rattle.op_list.specs.Listed.{Listing}
use Rattle.scj_model.specs.State.{Activity, Job, Object, State, is_init}
use Rattle.scj_model.specs.Steps.{fault_in, silently}
use Rattle.scj_model.specs.Registry.{handler_number, most_handlers, new_row}
use Rattle.scj_model.specs.Apply.{class_name, registered}
use Rattle.run_state.specs.declared.states.RunState.{RunState}
use Rattle.run_state.specs.Seen.{state_of}
use Rattle.run_state.specs.Steps.{IsStep}
use Rattle.mission_steps.specs.Asked.{newly_registered}

module _ (code : Listing) (s : State) (job : Job) (activity : Activity) (position : Position) (r : ℕ) (o : Object)
    (after : State) where
  pub registered_too_late : is_init s.phase ≡ false →
      registered (code_of code.program) s job activity position r o after ≡ fault_in s job activity position NotInitializing
  unfolding registered
  registered_too_late e = rw e refl

  pub registered_already : is_init s.phase ≡ true → is_some (handler_number s.registry r) ≡ true →
      registered (code_of code.program) s job activity position r o after ≡ silently after
  unfolding registered
  registered_already e f = rw (e, f) refl

  pub registered_too_many : is_init s.phase ≡ true → is_some (handler_number s.registry r) ≡ false →
      nat_lt (length s.registry) most_handlers ≡ false →
      registered (code_of code.program) s job activity position r o after ≡ fault_in s job activity position TooManyHandlers
  unfolding registered
  registered_too_many e f g = rw (e, f, g) refl

  pub registered_newly : is_init s.phase ≡ true → is_some (handler_number s.registry r) ≡ false →
      nat_lt (length s.registry) most_handlers ≡ true →
      registered (code_of code.program) s job activity position r o after ≡ newly_registered (code_of code.program) s (new_row (code_of code.program).program r o) after
  unfolding registered newly_registered
  registered_newly e f g = rw (e, f, g) refl

-- the row stands behind the others in the state in which the job goes on
pub entered : (code : Listing) (was middle : RunState) (after : State) (row : HandlerRow) (rows : List HandlerRow)
    (before reported : List Event) → state_of code middle ≡ after → rows ≡ middle.registry.items ++ row ∷ [] →
    reported ≡ before ++ Register was.unit (length was.registry.items + 1) (class_name (code_of code.program) row.class) row.priority ∷ [] →
    (st : RunState) →
    state_of code st ≡ record (state_of code middle) { registry = rows } →
    IsStep code (newly_registered (code_of code.program) (state_of code was) row after) st before reported
unfolding newly_registered state_of
entered code was middle after row rows before reported put pushed register st seen = record {
  state =
      seen
      ∙ (ap (λ (rs : List HandlerRow). (let x : State = record (state_of code middle) { registry = rs } in x)) pushed
      ∙ ap (λ (t : State). (let x : State = record t { registry = t.registry ++ row ∷ [] } in x)) put);
  reported = register;
}

-- the object of a row
pub row_there : (p : Declarations) (r : ℕ) (found : Option Object) (row : HandlerRow) →
    Some row ≡ option_map (new_row p r) found → (o : Object) × (found ≡ Some o) × (row ≡ new_row p r o)
row_there p r None row e = absurd (cc)
row_there p r (Some o) row e = (o, refl, cc)

pub row_nowhere : (p : Declarations) (r : ℕ) (found : Option Object) → None ≡ option_map (new_row p r) found →
    found ≡ None
row_nowhere p r None e = refl
row_nowhere p r (Some o) e = absurd (cc)

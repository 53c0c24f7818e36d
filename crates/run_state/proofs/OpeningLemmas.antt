-- A call in a new area, by whether the store has room for it.
use Rattle.std.specs.Prelude.{Option, Some, None}
use Rattle.std.proofs.Common.{◌∙◌, ℕ, List, ◌∷◌, refl, ap, sym}
use Rattle.scj_base.specs.declared.faults.RunFault.TheVariants.{StoreFull}
use Rattle.scj_base.specs.declared.positions.Position.{Position}
use Rattle.scj_model.specs.declared.events.Event.{Event}
use Rattle.op_list.specs.Listed.{Listing}
use Rattle.scj_model.specs.State.{Frame, Activity, Job, State, with_activity}
use Rattle.scj_model.specs.Steps.{Step, fault_in, opening, silently}
use Rattle.run_state.specs.declared.states.RunState.{RunState}
use Rattle.run_state.specs.Calls.{call_opened}
use Rattle.run_state.specs.Steps.{GoesOn, IsStep}
use Rattle.run_state.proofs.StepLemmas.{same_step}

module _ (code : Listing) (s : State) (job : Job) (activity : Activity) (frames : List Frame) (position : Position) (g : Frame)
    (scope : ℕ) (parent : Option ℕ) (bytes : ℕ) (after : State) (st : RunState) (first last : List Event) where
  abbrev moved : State → ℕ → Step
  moved s area = silently (with_activity s job (record activity {
    frames = record g { area = area; opened = Some area } ∷ frames;
    areas = area ∷ activity.areas;
  }))

  pub opened_step : (area : ℕ) →
      GoesOn s (opening s job activity position scope parent bytes) (fault_in s job activity position StoreFull)
      (Some area) after →
      IsStep code (moved after area) st first last →
      IsStep code (call_opened s job activity frames position g scope parent bytes) st first last
  unfolding call_opened
  opened_step area goes h =
      same_step code st first last (moved after area) (call_opened s job activity frames position g scope parent bytes)
      (goes.there moved area refl) h

  pub unopened_step :
      GoesOn s (opening s job activity position scope parent bytes) (fault_in s job activity position StoreFull) None after →
      IsStep code (fault_in after job activity position StoreFull) st first last →
      IsStep code (call_opened s job activity frames position g scope parent bytes) st first last
  unfolding call_opened
  unopened_step goes h =
      same_step code st first last (fault_in after job activity position StoreFull)
      (call_opened s job activity frames position g scope parent bytes)
      (goes.missing moved refl ∙ ap (λ (x : State). fault_in x job activity position StoreFull) (sym (goes.same refl))) h

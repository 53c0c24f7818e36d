use Rattle.std.proofs.Common.{◌∙◌, ℕ, List, ap, refl}
use Rattle.scj_model.specs.Apply.{applied, with_first}
use Rattle.region_heap.specs.Contents.{Contents, changing_object, hidden_slots}
use Rattle.run_state.specs.declared.states.RunState.{RunState}
use Rattle.run_state.specs.Seen.{state_of}
use Rattle.run_state.proofs.StepLemmas.{applied_on_memory}
use Rattle.scj_model.specs.Effects.{SetsHidden}
use Rattle.scj_model.specs.State.{changed}
use Rattle.run_state.proofs.stores.sets_hidden.Goals as goal

pub returns : goal.returns
unfolding applied state_of
returns c = λ code reported.
    applied_on_memory code c.args.state.now c.args.acting c.args.activity
    (λ f. SetsHidden f c.args.r (hidden_slots c.args.hidden.items))
    c.set_hidden.new.self c.put_back.new.state reported
    (record
    (state_of code c.args.state.now) {
      objects = changed (with_first (hidden_slots c.args.hidden.items)) c.args.r
          (state_of code c.args.state.now).objects;
    }) (λ f below. refl)
    (ap (λ (m : Contents). state_of code (let st : RunState = record c.args.state.now { memory = m } in st))
    (c.in_ok-set_hidden.ensures.set
    ∙ ap (λ (ns : List ℕ). changing_object c.args.state.now.memory c.args.r (with_first (hidden_slots ns)))
    c.deref.ensures.value))
    (c.in_ok-put_back.ensures.put code)

use Rattle.std.proofs.Common.{ap, refl}
use Rattle.scj_model.specs.Apply.{applied}
use Rattle.scj_model.specs.Memory.{with_slot}
use Rattle.region_heap.specs.Contents.{Contents}
use Rattle.run_state.specs.declared.states.RunState.{RunState}
use Rattle.run_state.specs.Seen.{state_of}
use Rattle.run_state.proofs.StepLemmas.{applied_on_memory}
use Rattle.scj_model.specs.Effects.{Stores}
use Rattle.run_state.proofs.stores.stores.Goals as goal

pub returns : goal.returns
unfolding applied state_of
returns c = λ code reported.
    applied_on_memory code c.args.state.now c.args.acting c.args.activity
    (λ f. Stores f c.args.r c.args.slot c.args.value)
    c.set_slot.new.self c.put_back.new.state reported
    (with_slot (state_of code c.args.state.now) c.args.r c.args.slot c.args.value) (λ f below. refl)
    (ap (λ (m : Contents). state_of code (let st : RunState = record c.args.state.now { memory = m } in st))
    c.set_slot.ensures)
    (c.in_ok-put_back.ensures.put code)

use Rattle.std.proofs.Common.{ap, refl}
use Rattle.scj_model.specs.Apply.{applied}
use Rattle.region_heap.specs.Contents.{Contents}
use Rattle.run_state.specs.declared.states.RunState.{RunState}
use Rattle.run_state.specs.Seen.{state_of}
use Rattle.run_state.proofs.StepLemmas.{applied_on_memory}
use Rattle.scj_model.specs.Effects.{StoresStatic}
use Rattle.std.specs.Prelude.{slice_set}
use Rattle.run_state.proofs.stores.stores_static.Goals as goal

pub returns : goal.returns
unfolding applied state_of
returns c = λ code reported.
    applied_on_memory code c.args.state.now c.args.acting c.args.activity
    (λ f. StoresStatic f c.args.index c.args.value)
    c.set_static.new.self c.put_back.new.state reported
    (record
    (state_of code c.args.state.now)
    { statics = slice_set (state_of code c.args.state.now).statics c.args.index c.args.value }) (λ f below. refl)
    (ap (λ (m : Contents). state_of code (let st : RunState = record c.args.state.now { memory = m } in st))
    c.set_static.ensures)
    (c.in_ok-put_back.ensures.put code)

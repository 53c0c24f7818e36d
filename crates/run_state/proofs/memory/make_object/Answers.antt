use Rattle.std.proofs.Common.{ap, sym}
use Rattle.region_heap.specs.Contents.{Contents}
use Rattle.run_state.specs.declared.states.RunState.{RunState}
use Rattle.run_state.specs.Seen.{state_of}
use Rattle.run_state.proofs.RoomLemmas.{memory_full_after, object_there}
use Rattle.run_state.proofs.memory.make_object.Goals as goal

pub returns-in-Ok-clause-made : goal.returns-in-Ok-clause-made
unfolding state_of
returns-in-Ok-clause-made c = λ code job activity position.
    object_there (state_of code c.args.state.now) job activity position c.args.object.now.class c.args.area
    c.args.object.now.slots.items c.in-Ok.made _
    (sym (rw c.deref.ensures.value at (c.in-Ok.ensures.room (state_of code c.args.state.now))))
    c.in-Ok.ensures.number
    (ap (λ (m : Contents). state_of code (let st : RunState = record c.args.state.now { memory = m } in st))
    (rw c.deref.ensures.value at c.in-Ok.ensures.made))

pub returns-in-Err-clause-made : goal.returns-in-Err-clause-made
unfolding state_of
returns-in-Err-clause-made c = λ code job activity position.
    memory_full_after (state_of code c.args.state.now) job activity position c.args.object.now.class c.args.area
    c.args.object.now.slots.items _
    (sym (rw c.deref.ensures.value at (c.in-Err.ensures.room (state_of code c.args.state.now))))
    (ap (λ (m : Contents). state_of code (let st : RunState = record c.args.state.now { memory = m } in st))
    c.in-Err.ensures.err)

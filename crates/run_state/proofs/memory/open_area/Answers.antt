use Rattle.std.proofs.Common.{ap, sym}
use Rattle.region_heap.specs.Contents.{Contents}
use Rattle.run_state.specs.declared.states.RunState.{RunState}
use Rattle.run_state.specs.Seen.{state_of}
use Rattle.run_state.proofs.RoomLemmas.{area_there, store_full_after}
use Rattle.run_state.proofs.memory.open_area.Goals as goal

pub returns-in-Ok-clause-opened : goal.returns-in-Ok-clause-opened
unfolding state_of
returns-in-Ok-clause-opened c = λ code job activity position.
    area_there (state_of code c.args.state.now) job activity position c.args.area.scope c.args.area.parent
    c.args.area.bytes c.in-Ok.opened _ (sym (c.in-Ok.ensures.full (state_of code c.args.state.now)))
    c.in-Ok.ensures.number
    (ap (λ (m : Contents). state_of code (let st : RunState = record c.args.state.now { memory = m } in st))
    c.in-Ok.ensures.opened)

pub returns-in-Err-clause-opened : goal.returns-in-Err-clause-opened
unfolding state_of
returns-in-Err-clause-opened c = λ code job activity position.
    store_full_after (state_of code c.args.state.now) job activity position c.args.area.scope c.args.area.parent
    c.args.area.bytes _ (sym (c.in-Err.ensures.full (state_of code c.args.state.now)))
    (ap (λ (m : Contents). state_of code (let st : RunState = record c.args.state.now { memory = m } in st))
    c.in-Err.ensures.err)

use Rattle.std.proofs.Common.{◌∙◌, ℕ, ap, replicate, sym}
use Rattle.std.proofs.lemmas.List.{length-replicate}
use Rattle.scj_base.specs.declared.values.Value.{Value}
use Rattle.scj_model.specs.Memory.{default_value, has_room, new_elements, with_object}
use Rattle.region_heap.specs.Contents.{Contents}
use Rattle.run_state.specs.declared.states.RunState.{RunState}
use Rattle.run_state.specs.Seen.{state_of}
use Rattle.run_state.proofs.RoomLemmas.{memory_full_after, object_there}
use Rattle.run_state.proofs.memory.make_array.Goals as goal

pub returns-in-Ok-clause-made : goal.returns-in-Ok-clause-made
unfolding state_of
returns-in-Ok-clause-made c = λ code job activity position.
    object_there (state_of code c.args.state.now) job activity position c.args.array.class c.args.area
    (new_elements c.args.array.kind c.args.array.count) c.in-Ok.made _
    (ap (λ (n : ℕ). has_room (state_of code c.args.state.now) c.args.area n)
    (length-replicate c.args.array.count (default_value c.args.array.kind))
    ∙ sym (c.in-Ok.ensures.room (state_of code c.args.state.now)))
    c.in-Ok.ensures.number
    (ap (λ (m : Contents). state_of code (let st : RunState = record c.args.state.now { memory = m } in st))
    c.in-Ok.ensures.made
    ∙ ap (λ (v : Value). with_object (state_of code c.args.state.now) c.args.array.class c.args.area
    (replicate c.args.array.count v)) c.default_of-value.ensures)

pub returns-in-Err-clause-made : goal.returns-in-Err-clause-made
unfolding state_of
returns-in-Err-clause-made c = λ code job activity position.
    memory_full_after (state_of code c.args.state.now) job activity position c.args.array.class c.args.area
    (new_elements c.args.array.kind c.args.array.count) _
    (ap (λ (n : ℕ). has_room (state_of code c.args.state.now) c.args.area n)
    (length-replicate c.args.array.count (default_value c.args.array.kind))
    ∙ sym (c.in-Err.ensures.room (state_of code c.args.state.now)))
    (ap (λ (m : Contents). state_of code (let st : RunState = record c.args.state.now { memory = m } in st))
    c.in-Err.ensures.err)

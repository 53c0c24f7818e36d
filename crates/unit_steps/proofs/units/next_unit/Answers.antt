use Rattle.std.proofs.Common.{ℕ, ap}
use Rattle.scj_model.specs.State.{State}
use Rattle.run_state.specs.Seen.{state_of}
use Rattle.unit_steps.proofs.units.next_unit.Goals as goal

pub returns : goal.returns
unfolding state_of
returns c = record {
  next = λ code.
      ap (λ (n : ℕ). (let s : State = record (state_of code c.args.state.now) { unit = n } in s)) c.in-Some.ensures.1;
}

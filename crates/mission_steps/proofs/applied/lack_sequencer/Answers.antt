use Rattle.std.proofs.Common.{subst}
use Rattle.scj_base.specs.declared.faults.RunFault.TheVariants.{NullPointer}
use Rattle.scj_base.specs.declared.positions.Position.{Position}
use Rattle.scj_model.specs.State.{TheSequencer}
use Rattle.scj_model.specs.Steps.{fault_in}
use Rattle.scj_model.specs.Sequencer.{seq_applied}
use Rattle.run_state.specs.Seen.{state_of}
use Rattle.run_state.specs.Steps.{IsStep}
use Rattle.mission_steps.proofs.applied.lack_sequencer.Goals as goal

pub returns : goal.returns
unfolding seq_applied
returns c =
    subst (λ (position : Position). IsStep c.args.code.now
    (fault_in (state_of c.args.code.now c.args.state.now) TheSequencer
    (state_of c.args.code.now c.args.state.now).activity position NullPointer) c.halted.new.state
    c.args.reported.now.items c.halted.new.reported.items) c.position_of_object-index.ensures
    (c.in_ok-halted.ensures c.args.code.now (state_of c.args.code.now c.args.state.now).activity)

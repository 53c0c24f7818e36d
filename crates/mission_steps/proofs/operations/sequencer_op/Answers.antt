use Rattle.mission_steps.proofs.operations.sequencer_op.Goals as goal

pub returns : goal.returns
returns c = c.in_ok-went.ensures

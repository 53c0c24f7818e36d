use Rattle.mission_steps.proofs.Done.{mission_taken}
use Rattle.mission_steps.proofs.applied.take_mission.Goals as goal

pub returns : goal.returns
returns c = record {
  taken = λ code.
      mission_taken code c.args.state.now c.begin_mission.new.self c.args.mission c.begin_mission.ensures;
}

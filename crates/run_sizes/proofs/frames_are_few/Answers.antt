use Rattle.run_sizes.proofs.Deep.{frames_are_few}
use Rattle.run_sizes.proofs.frames_are_few.Goals as goal

pub returns : goal.returns
returns c = λ code plan policy moment s reached. frames_are_few code plan policy moment s reached

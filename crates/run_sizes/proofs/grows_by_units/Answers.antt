use Rattle.run_sizes.proofs.Within.{within_units}
use Rattle.run_sizes.proofs.grows_by_units.Goals as goal

pub returns : goal.returns
returns c = λ code plan policy moment s reached. within_units code plan policy moment s reached

use Rattle.machine_laws.proofs.ClosingPlaces.{run_begins}
use Rattle.machine_laws.proofs.closing_laws.each_run_begins_a_file.Goals as goal

pub returns : goal.returns
returns c = λ before lexemes last e. run_begins before lexemes last e

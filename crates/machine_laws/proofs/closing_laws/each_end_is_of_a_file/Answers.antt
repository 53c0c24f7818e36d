use Rattle.machine_laws.proofs.ClosingEnds.{end_read}
use Rattle.machine_laws.proofs.closing_laws.each_end_is_of_a_file.Goals as goal

pub returns : goal.returns
returns c = λ before lexemes position last e. end_read before lexemes position last e

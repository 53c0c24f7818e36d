use Rattle.machine_laws.proofs.Whole.{no_file_behind}
use Rattle.machine_laws.proofs.laws.refused_begin_no_file.Goals as goal

pub returns : goal.returns
returns c = λ before lexemes h b. no_file_behind before lexemes h b

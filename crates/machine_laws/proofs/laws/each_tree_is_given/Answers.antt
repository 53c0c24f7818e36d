use Rattle.machine_laws.proofs.ClassesRun.{file_run}
use Rattle.machine_laws.proofs.laws.each_tree_is_given.Goals as goal

pub returns : goal.returns
returns c = λ before after lexemes classes d. file_run d

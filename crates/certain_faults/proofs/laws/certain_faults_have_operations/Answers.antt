use Rattle.certain_faults.proofs.OwnOperations.{own_position, has_operation}
use Rattle.certain_faults.proofs.laws.certain_faults_have_operations.Goals as goal

pub returns : goal.returns
returns c =
    record {
      place = λ code op fault x. own_position code op fault x;
      operation = λ code id fault e. has_operation code id fault e;
    }

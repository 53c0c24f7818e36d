use Rattle.mission_sound.proofs.HandlersOfOperations.{operation_handled, start_handled}
use Rattle.mission_sound.proofs.releases.operations_leave_handlers.Goals as goal

pub returns : goal.returns
returns c =
    record {
      operation =
          λ code base rows s job activity step acts outside h registers e. operation_handled code base rows s job
          activity step acts outside h registers e;
      start = λ code base s index r step there waits exec h e. start_handled code base s index r step there waits exec h
          e;
    }

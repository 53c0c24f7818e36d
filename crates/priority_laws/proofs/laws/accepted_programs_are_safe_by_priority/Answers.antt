use Rattle.scj_model.specs.Code.{code_of}
use Rattle.priority_laws.proofs.AcceptedMonitors.{accepted_enters, handler_class}
use Rattle.priority_laws.proofs.Together.{safe_by_priority}
use Rattle.priority_laws.proofs.laws.accepted_programs_are_safe_by_priority.Goals as goal

pub returns : goal.returns
returns c =
    record {
      enters = λ forest a t. accepted_enters forest a t;
      safe = λ forest a t. safe_by_priority (code_of forest) (accepted_enters forest a t) t.spares;
      handlers = λ forest class l h. handler_class forest class l h;
    }

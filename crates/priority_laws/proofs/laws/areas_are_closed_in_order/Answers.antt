use Rattle.priority_laws.proofs.ReachedOrder.{operation_in_order, phase_in_order}
use Rattle.priority_laws.proofs.laws.areas_are_closed_in_order.Goals as goal

pub returns : goal.returns
returns c =
    record {
      operation = λ code plan s step h e. operation_in_order code plan s step h e;
      phase = λ code plan s step h e. phase_in_order code plan s step h e;
    }

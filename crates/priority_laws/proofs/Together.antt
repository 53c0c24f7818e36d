-- The laws on monitors, on started releases and on areas make the machine's own choice safe.
use Rattle.scj_model.specs.Code.{Code}
use Rattle.scj_model.specs.Safety.{IsSafeByPriority}
use Rattle.priority_laws.specs.Premises.{EntersItsMonitors, SparesPriorities}
use Rattle.priority_laws.proofs.Exclusion.{excludes}
use Rattle.priority_laws.proofs.FewReleases.{few_are_started}
use Rattle.priority_laws.proofs.ReachedOrder.{operation_in_order, phase_in_order}

pub safe_by_priority : (code : Code) → EntersItsMonitors code → SparesPriorities code → IsSafeByPriority code
safe_by_priority code enters spares =
    record {
      excludes = λ plan moment s h. excludes code plan enters moment s h;
      few_are_started = λ plan moment s h. few_are_started code plan spares moment s h;
      operation_closes_in_order = λ plan s step h e. operation_in_order code plan s step h e;
      phase_closes_in_order = λ plan s step h e. phase_in_order code plan s step h e;
    }

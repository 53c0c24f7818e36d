-- What is done with the parameters of a periodic handler, once they are known to be ints.
use Rattle.std.specs.Prelude.{ℕ, not, [], ◌∷◌, pos, Some, None, if◌then◌else◌}
use Rattle.std.specs.Int.{is_negative}
use Rattle.scj_base.specs.declared.faults.RunFault.TheVariants.{BadPeriod, BadPriority, NegativeSize}
use Rattle.scj_base.specs.declared.values.Value.TheVariants.{Int}
use Rattle.scj_model.specs.State.{Frame}
use Rattle.scj_model.specs.Effects.{Effect, Faults, SetsHidden}
use Rattle.scj_model.specs.Operations.{is_priority, times_of}
use Rattle.call_operations.specs.declared.parameters.Periodic.{Periodic}

abbrev pub keeping_periodic : ℕ → Periodic → Frame → Effect
keeping_periodic r p f =
    if not (is_priority p.priority) then Faults BadPriority
    else (elim (times_of p.start_ms p.start_ns p.period_ms p.period_ns) [
      | None ↦ Faults BadPeriod
      | Some times ↦
          if is_negative p.storage then Faults NegativeSize
          else SetsHidden f r (Int p.priority ∷ Int p.storage ∷ Int (pos times.0) ∷ Int (pos times.1) ∷ [])
    ])

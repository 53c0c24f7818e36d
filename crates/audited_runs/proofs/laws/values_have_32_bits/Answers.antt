use Rattle.audited_runs.proofs.Ints.{states_fit, trace_fits}
use Rattle.audited_runs.proofs.laws.values_have_32_bits.Goals as goal

pub returns-clause-states : goal.returns-clause-states
returns-clause-states c = λ forest accepted plan keeps moment s reached. states_fit forest accepted plan keeps moment s reached

pub returns-clause-printed : goal.returns-clause-printed
returns-clause-printed c = λ forest accepted plan keeps n. trace_fits forest accepted plan keeps n

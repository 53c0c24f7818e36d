use Rattle.accepted_laws.proofs.ClassSorts.{well_sorted, are_intervals}
use Rattle.accepted_laws.proofs.MemberParameters.{begin_with_parameters}
use Rattle.accepted_laws.proofs.nodes.variables_begin_with_parameters.Goals as goal

pub returns : goal.returns
returns c = λ forest whole texts member. begin_with_parameters forest whole (well_sorted forest texts) (are_intervals forest texts) member

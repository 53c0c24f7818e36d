use Rattle.accepted_laws.proofs.DispatchScopes.{runs_as}
use Rattle.accepted_laws.proofs.ClassSorts.{well_sorted}
use Rattle.accepted_laws.proofs.methods.overriding_keeps_runs_in.Goals as goal

pub returns : goal.returns
returns c = λ forest a f g r u plain e steps. runs_as forest a.is_accepted a.whole (well_sorted forest a.is_read) f g r u plain e steps

use Rattle.machine_laws.proofs.ClosingOnce.{one_place, tree_not_refused}
use Rattle.machine_laws.proofs.closing_laws.one_refusal_at_most.Goals as goal

pub returns-clause-place : goal.returns-clause-place
returns-clause-place c = λ before lexemes one other r s. one_place before lexemes one other r s

pub returns-clause-file : goal.returns-clause-file
returns-clause-file c =
    λ before after lexemes classes position d r. tree_not_refused before after lexemes classes position d r

use Rattle.response_times.proofs.Accepted.{responses}
use Rattle.response_times.proofs.Bounded.{bounded_if}
use Rattle.response_times.proofs.laws.responses_are_bounded.Goals as goal

pub returns-clause-accepted : goal.returns-clause-accepted
returns-clause-accepted c =
    λ rows declared forest accepted plan n within. responses forest accepted plan rows n declared within

pub returns-clause-others : goal.returns-clause-others
returns-clause-others c = λ rows declared. bounded_if rows declared

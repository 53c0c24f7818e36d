use Rattle.response_bounds.proofs.FoundBounds.{all_right, least_found, none_found, parts_sum}
use Rattle.response_bounds.proofs.laws.responses_are_least.Goals as goal

pub returns-clause-bound : goal.returns-clause-bound
returns-clause-bound c = λ rows i x l e. (least_found rows i x l e).0

pub returns-clause-least : goal.returns-clause-least
returns-clause-least c = λ rows i x l e y b. (least_found rows i x l e).1 y b

pub returns-clause-none : goal.returns-clause-none
returns-clause-none c = λ rows i e y b. none_found rows i e y b

pub returns-clause-parts : goal.returns-clause-parts
returns-clause-parts c = λ rows declared i x l e. parts_sum rows i x declared l e

pub returns-clause-right : goal.returns-clause-right
returns-clause-right c = λ rows. all_right rows

use Rattle.safe_texts.proofs.what_is_accepted_is_safe.Goals as goal
use Rattle.safe_texts.proofs.SafeLaws.{accepted_is_safe, small_is_safe}

pub returns-clause-within_limits : goal.returns-clause-within_limits
returns-clause-within_limits c = λ texts within report. accepted_is_safe texts within report

pub returns-clause-small : goal.returns-clause-small
returns-clause-small c = λ texts program report reads small. small_is_safe texts program report reads small

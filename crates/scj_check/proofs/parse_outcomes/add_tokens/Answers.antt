use Rattle.std.proofs.Common.{Err, ap}
use Rattle.scj_check.proofs.parse_outcomes.add_tokens.Goals as goal

pub returns-in-Ok-clause-ok : goal.returns-in-Ok-clause-ok
returns-in-Ok-clause-ok c = c.in-Ok.ensures.ok

pub returns-in-Err-Bad-clause-ok : goal.returns-in-Err-Bad-clause-ok
returns-in-Err-Bad-clause-ok c =
    rw c.in-Err-Bad.field-0-is (c.in-Err-Bad.ensures.bad c.in-Err-Bad.found (ap (λ e. Err e) c.in-Err-Bad.field-0-is))

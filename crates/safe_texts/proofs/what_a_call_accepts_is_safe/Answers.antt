use Rattle.safe_texts.proofs.what_a_call_accepts_is_safe.Goals as goal
use Rattle.safe_texts.proofs.SafeCalls.{accepted_calls, run_is_safe}

pub returns-clause-accepted : goal.returns-clause-accepted
returns-clause-accepted c = λ words shelf out err status ends accepts. accepted_calls words shelf out err status ends accepts

pub returns-clause-runs : goal.returns-clause-runs
returns-clause-runs c = λ texts plan_text program plan within comes. run_is_safe texts plan_text program plan within comes

use Rattle.std.proofs.Common.{sym}
use Rattle.run_state.specs.Seen.{state_of}
use Rattle.run_state.proofs.jobs.put_back.Goals as goal

pub returns-in_ok-put_activity-in-Release-clause-put : goal.returns-in_ok-put_activity-in-Release-clause-put
unfolding state_of
returns-in_ok-put_activity-in-Release-clause-put c = λ code.
    rw c.in-Release.is (sym (c.in_ok-put_activity-in-Release.ensures.seen code (state_of code c.args.state.now)))

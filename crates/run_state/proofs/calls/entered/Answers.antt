use Rattle.std.proofs.Common.{◌∙◌, ap}
use Rattle.scj_model.specs.State.{Activity, with_activity}
use Rattle.run_state.specs.Seen.{job_seen, state_of}
use Rattle.run_state.specs.Calls.{call_entered}
use Rattle.run_state.proofs.CallLemmas.{priority_below}
use Rattle.run_state.proofs.calls.entered.Goals as goal

pub returns : goal.returns
unfolding call_entered
returns c = λ code g before h. record {
  state = c.in_ok-put_back.ensures.put code ∙ ap (λ (a : Activity). with_activity (state_of code c.args.state.now)
      (job_seen c.args.acting.job) a) (c.enter.ensures.entered code g before h);
  reported = priority_below code (state_of code c.args.state.now) (job_seen c.args.acting.job) g before c.args.activity
      c.args.ceiling c.args.reported.now.items c.report_priority.new.reported.items h (c.in_ok-report_priority.ensures code);
}

use Rattle.std.specs.Prelude.{Some}
use Rattle.std.proofs.Common.{ap, refl}
use Rattle.scj_base.specs.declared.values.Value.{Value}
use Rattle.scj_model.specs.State.{State}
use Rattle.scj_model.specs.Steps.{job_ended}
use Rattle.job_frames.specs.Frames.{activity_seen}
use Rattle.run_state.specs.Seen.{state_of}
use Rattle.run_state.proofs.ends.sequencer_ended.Goals as goal

pub returns : goal.returns
unfolding job_ended state_of
returns c = λ code. record {
  state = ap (λ (v : Value). (let s : State = record (state_of code c.args.state.now) {
    activity = activity_seen code c.args.activity;
    outcome = Some v;
  } in s)) c.unwrap_or.ensures;
  reported = refl;
}

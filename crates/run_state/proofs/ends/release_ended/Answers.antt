use Rattle.std.specs.Prelude.{None}
use Rattle.run_state.proofs.EndLemmas.{release_done}
use Rattle.run_state.proofs.ends.release_ended.Goals as goal

pub returns : goal.returns
returns c = λ code activity.
    release_done code c.args.state.now c.args.release c.end.new.self c.args.reported.now.items c.report_end.new.reported.items
    activity None c.end.ensures.ended (c.in_ok-report_end.ensures code)

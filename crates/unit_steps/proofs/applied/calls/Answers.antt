use Rattle.scj_model.specs.Effects.{new_frame}
use Rattle.job_frames.specs.Frames.{frame_called}
use Rattle.run_state.proofs.TopEffects.{calls_applied}
use Rattle.unit_steps.proofs.Standing.{closes_below, on_live}
use Rattle.unit_steps.proofs.applied.calls.Goals as goal

pub returns : goal.returns
returns c =
    let code = c.args.code.now in
    let called = frame_called code c.args.call c.args.arguments.items in
    calls_applied code c.args.state.now c.args.acting c.args.activity called c.called.new.state c.args.reported.now.items
    c.called.new.reported.items (c.in_ok-called.ensures called c.args.activity c.in_ok-put_on_top.ensures.put)

pub called-requires-clause-closes : goal.called-requires-clause-closes
called-requires-clause-closes c =
    closes_below c.args.code.now (frame_called c.args.code.now c.args.call c.args.arguments.items)
    c.args.activity c.put_on_top.new.activity c.in_ok-put_on_top.ensures.put c.args.state.now.memory c.requires.closes

pub called-requires-clause-live : goal.called-requires-clause-live
unfolding new_frame
called-requires-clause-live c =
    on_live c.args.code.now (frame_called c.args.code.now c.args.call c.args.arguments.items)
    c.args.activity c.put_on_top.new.activity c.in_ok-put_on_top.ensures.put c.args.state.now.memory c.requires.live

use Rattle.std.proofs.Common.{List, [], subst}
use Rattle.scj_base.specs.declared.values.Value.{Value}
use Rattle.job_frames.specs.Frames.{frame_called}
use Rattle.run_state.specs.Steps.{HasOnTop}
use Rattle.run_state.proofs.TopEffects.{opens_applied}
use Rattle.unit_steps.proofs.Standing.{stands_below}
use Rattle.unit_steps.proofs.applied.opens.Goals as goal

pub returns : goal.returns
returns c =
    let code = c.args.code.now in
    let called = frame_called code c.args.call [] in
    let on_top : HasOnTop code called c.args.activity c.put_on_top.new.activity =
    subst
    (λ (arguments : List Value). HasOnTop code (frame_called code c.args.call arguments) c.args.activity
    c.put_on_top.new.activity) c.new-none.ensures.items c.in_ok-put_on_top.ensures.put in
    opens_applied code c.args.state.now c.args.acting c.args.activity called c.opened_in.new.state c.args.reported.now.items
    c.opened_in.new.reported.items c.args.scope c.args.bytes
    (c.in_ok-opened_in.ensures code called c.args.activity on_top)

pub opened_in-requires-clause-stands : goal.opened_in-requires-clause-stands
opened_in-requires-clause-stands c =
    stands_below c.args.code.now
    (frame_called c.args.code.now c.args.call c.new-none.result.items) c.args.activity
    c.put_on_top.new.activity c.in_ok-put_on_top.ensures.put c.args.state.now.memory c.requires.stands

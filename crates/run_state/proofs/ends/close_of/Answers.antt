use Rattle.std.specs.Prelude.{Option, Some, unwrap_or}
use Rattle.std.proofs.Common.{◌≡◌, ◌∙◌, ap, sym}
use Rattle.job_frames.specs.declared.frames.Frame.{Frame as StoredFrame}
use Rattle.run_state.specs.Standing.{after_close}
use Rattle.run_state.proofs.ends.close_of.Goals as goal

pub close_opened-requires : goal.close_opened-requires
close_opened-requires c = c.requires c.in-Some.frame.now c.in-Some.ensures

pub returns-in-Some : goal.returns-in-Some
returns-in-Some c = λ f e.
    let same : Some f ≡ Some c.in-Some.frame.now = e ∙ sym c.in-Some.ensures in
    c.close_opened.ensures
    ∙ ap (λ (o : Option StoredFrame). after_close c.args.memory.now (unwrap_or o f).opened) (sym same)

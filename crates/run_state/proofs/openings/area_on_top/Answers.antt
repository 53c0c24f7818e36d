use Rattle.std.specs.Prelude.{Some}
use Rattle.std.proofs.Common.{ap}
use Rattle.scj_model.specs.State.{Frame}
use Rattle.run_state.proofs.CallLemmas.{none_on_top, top_is}
use Rattle.run_state.proofs.openings.area_on_top.Goals as goal

pub returns-in-Some : goal.returns-in-Some
returns-in-Some c = λ code g before h.
    ap (λ (x : Frame). Some x.area) (top_is code g before c.args.activity.now c.in-Some.frame.now h c.in-Some.ensures)

pub returns-in-None : goal.returns-in-None
returns-in-None c = λ code g before h. absurd (none_on_top code g before c.args.activity.now h c.in-None.ensures)

use Rattle.std.proofs.Common.{◌≡◌, ◌∙◌, List, ap, subst, sym}
use Rattle.scj_model.specs.Steps.{fault_in}
use Rattle.job_frames.specs.declared.activities.Activity.{Activity as StoredActivity}
use Rattle.job_frames.specs.declared.frames.Frame.{Frame as StoredFrame}
use Rattle.job_frames.specs.Frames.{activity_seen}
use Rattle.run_state.specs.Seen.{job_seen, state_of}
use Rattle.run_state.specs.Standing.{CloseInOrder}
use Rattle.run_state.specs.Steps.{IsStep}
use Rattle.run_state.proofs.CallLemmas.{without_top}
use Rattle.run_state.proofs.calls.refused.Goals as goal

pub fault_in-requires : goal.fault_in-requires
fault_in-requires c =
    subst (λ (fs : List StoredFrame). CloseInOrder c.args.state.now.memory fs) (sym c.drop_top.ensures) c.requires

pub returns : goal.returns
returns c = λ code g before h.
    let same : (let a : StoredActivity = record c.args.activity { frames = c.drop_top.new.self } in a) ≡ before =
    ap (λ (fs : List StoredFrame). (let a : StoredActivity = record c.args.activity { frames = fs } in a))
    c.drop_top.ensures
    ∙ without_top code g before c.args.activity h in
    subst (λ (a : StoredActivity). IsStep code
    (fault_in (state_of code c.args.state.now) (job_seen c.args.acting.job) (activity_seen code a) c.args.acting.position
    c.args.fault)
    c.fault_in.new.state c.args.reported.now.items c.fault_in.new.reported.items)
    same (c.in_ok-fault_in.ensures code)

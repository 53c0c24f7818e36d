use Rattle.std.proofs.Common.{List, ap, subst, sym, ◌∙◌}
use Rattle.scj_model.specs.Steps.{closed_all}
use Rattle.job_frames.specs.declared.frames.Frame.{Frame as StoredFrame}
use Rattle.job_frames.specs.Frames.{frames_of}
use Rattle.region_heap.specs.Contents.{with_memory}
use Rattle.run_state.specs.Standing.{CloseInOrder}
use Rattle.run_state.proofs.EndLemmas.{release_at_fault}
use Rattle.run_state.proofs.ends.release_broken.Goals as goal

pub close_all-requires : goal.close_all-requires
close_all-requires c =
    subst (λ (fs : List StoredFrame). CloseInOrder c.args.state.now.memory fs) (sym c.in_order.ensures) c.requires

pub returns : goal.returns
returns c = λ code.
    release_at_fault code c.args.state.now c.args.release c.end.new.self c.args.reported.now.items c.report_end.new.reported.items
    c.close_all.new.memory c.args.activity.now c.args.position c.args.fault c.report.new.reported.items
    (λ s. ap (λ (fs : List StoredFrame). closed_all (with_memory s c.args.state.now.memory) (frames_of code fs))
    (sym c.in_order.ensures) ∙ c.close_all.ensures code s)
    c.end.ensures.ended c.in_ok-report.ensures (c.in_ok-report_end.ensures code)

use Rattle.std.proofs.Common.{◌∙◌, ℕ, Option, ap, sym}
use Rattle.scj_model.specs.Memory.{closed}
use Rattle.region_heap.specs.Contents.{Contents, with_memory}
use Rattle.run_state.proofs.Standing.{closed_is, top_closes}
use Rattle.run_state.specs.Seen.{job_seen}
use Rattle.run_state.proofs.LeavingLemmas.{left_all}
use Rattle.run_state.proofs.leaving.frame_left.Goals as goal

pub close_opened-requires : goal.close_opened-requires
close_opened-requires c =
    top_closes c.args.state.now.memory c.args.activity.frames c.in_ok-opened.opened c.in_ok-opened.ensures.top
    c.requires

pub returns : goal.returns
returns c = λ code f below e.
    left_all code c.args.state.now (job_seen c.args.job) c.args.activity c.step_down.new.activity f below c.args.value
    c.in_ok-left.left.opened c.in_ok-left.left.saved c.close_opened.new.memory c.settle.new.state
    c.args.reported.now.items c.report_priority.new.reported.items c.settle.new.reported.items
    (c.in_ok-left.ensures.opened f below e) (c.in_ok-left.ensures.saved f below e)
    (c.in_ok-step_down.ensures.after code f below e) (c.in_ok-report_priority.ensures code)
    (λ s. ap (λ (o : Option ℕ). closed (with_memory s c.args.state.now.memory) o)
    (c.in_ok-left.ensures.opened f below e ∙ sym (c.in_ok-opened.ensures.opened f below e))
    ∙ (closed_is s c.args.state.now.memory c.in_ok-opened.opened
    ∙ ap (λ (m : Contents). with_memory s m) (sym c.close_opened.ensures)))
    (λ rest count. c.in_ok-settle.ensures code rest count)

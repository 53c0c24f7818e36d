use Rattle.std.proofs.Common.{◌≡◌, length}
use Rattle.std.specs.Vec.{vec_len}
use Rattle.job_frames.proofs.Tops.{top_lent, top_is, no_top}
use Rattle.job_frames.proofs.frame_stacks.FrameStack.top_mut.Goals as goal

pub returns : goal.returns
returns c =
    let items = c.self.inside.items.items in
    let whole : vec_len c.self.inside.items ≡ length items = c.self.inside.items.ok.0 in
    let top = c.last_mut.result in
    rw (← c.self.view_is) (
      top_lent items _ whole top c.last_mut.ensures.variant,
      record {
        ends = tt;
        some = top_is items _ whole top c.last_mut.ensures.variant c.last_mut.ensures.value;
        none = no_top items _ whole top c.last_mut.ensures.variant;
      },
    )

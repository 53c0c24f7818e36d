use Rattle.std.proofs.Common.{◌≡◌, ◌-◌, ◌∙◌, ap, length, reverse, take, arith, ℕ}
use Rattle.job_frames.proofs.Reversed.{others_below}
use Rattle.job_frames.proofs.frame_stacks.FrameStack.drop_top.Goals as goal

pub returns : goal.returns
returns c =
    let items = c.self.inside.items.items in
    let count : c.saturating_sub.result ≡ length items - 1 =
    omega (arith, c.saturating_sub.ensures, c.len-count.ensures, c.self.inside.items.ok.0) in
    rw (← c.self.view_is) (
    ap reverse (c.truncate.ensures.items ∙ ap (λ (n : ℕ). take n items) count) ∙ others_below items
    )

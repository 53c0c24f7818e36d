use Rattle.frame_sizes.proofs.Theorem.{small_in_any_order, small_by_priority}
use Rattle.frame_sizes.proofs.frames_are_small.Goals as goal

pub returns : goal.returns
returns c =
    record {
      any_order = λ plan choices moment s reached.
          small_in_any_order c.args.checked.now.program c.checked_is_accepted.ensures plan choices moment s reached;
      by_priority = λ plan moment s reached.
          small_by_priority c.args.checked.now.program c.checked_is_accepted.ensures plan moment s reached;
    }

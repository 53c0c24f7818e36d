use Rattle.std.proofs.Common.{◌≡◌, ◌≤◌, length, reverse, take}
use Rattle.op_list.specs.Listed.{Listing}
use Rattle.scj_model.specs.State.{State}
use Rattle.scj_model.specs.Steps.{closed_all}
use Rattle.job_frames.specs.Frames.{frames_of}
use Rattle.region_heap.specs.Contents.{with_memory}
use Rattle.run_state.specs.Standing.{CloseInOrder}
use Rattle.run_state.proofs.ends.close_all.Given as goal

-- what is left to be closed leads to the same
abbrev pub invariant-loop-left : goal.invariant-loop-left
invariant-loop-left l = record {
  within : l.left ≤ length l.frames;
  closes : CloseInOrder l.memory (reverse (take l.left l.frames));
  same : (code : Listing) (s : State) →
      closed_all (with_memory s l.initial.memory) (frames_of code (reverse l.frames))
      ≡ closed_all (with_memory s l.memory) (frames_of code (reverse (take l.left l.frames)));
}

abbrev pub decreases-loop-left : goal.decreases-loop-left
decreases-loop-left l = l.left

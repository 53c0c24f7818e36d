use Rattle.std.proofs.Common.{◌≡◌, ◌≤◌, drop, length}
use Rattle.scj_model.specs.Choice.{most_urgent}
use Rattle.run_releases.specs.Choosing.{candidates_at}
use Rattle.run_releases.proofs.choice.choose.Given as goal

abbrev pub invariant-loop-left : goal.invariant-loop-left
invariant-loop-left l =
    record {
      within : l.left ≤ length l.indices;
      best : l.found ≡ most_urgent (candidates_at l.registry l.rows (drop l.left l.indices));
    }

abbrev pub decreases-loop-left : goal.decreases-loop-left
decreases-loop-left l = l.left

use Rattle.std.proofs.Common.{◌-◌}
use Rattle.plain_machine.specs.Watched.{IsWatched}
use Rattle.plain_machine.proofs.watched.watch.Given as goal

abbrev pub invariant-loop-last : goal.invariant-loop-last
invariant-loop-last l = IsWatched l.setting.code.now l.setting.plan.now l.run

abbrev pub decreases-loop-last : goal.decreases-loop-last
decreases-loop-last l = l.setting.plan.now.units - l.run.at.state.unit

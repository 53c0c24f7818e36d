use Rattle.std.specs.Prelude.{◌≡◌, length}
use Rattle.plain_machine.specs.AreaTexts.{last_fault}
use Rattle.plain_machine.proofs.watched.last_fault.Given as goal

abbrev pub invariant-loop-others : goal.invariant-loop-others
invariant-loop-others l = last_fault l.found l.others ≡ last_fault l.fn.known l.events

abbrev pub decreases-loop-others : goal.decreases-loop-others
decreases-loop-others l = length l.others

use Rattle.std.proofs.Common.{◌≡◌, length, Some}
use Rattle.program_facts.specs.Reported.{seek}
use Rattle.program_facts.proofs.facts.ProgramFacts.variable_from.Given as goal

-- the rest of the variables has the one of the name
abbrev pub invariant-loop-left : goal.invariant-loop-left
invariant-loop-left l = seek l.self l.name (length l.self.nodes) l.fn.last ≡ seek l.self l.name l.left (Some l.variable)

abbrev pub decreases-loop-left : goal.decreases-loop-left
decreases-loop-left l = l.left

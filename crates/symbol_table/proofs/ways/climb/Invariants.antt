use Rattle.std.proofs.Common.{length}
use Rattle.symbol_table.specs.Scopes.{IsEntered}
use Rattle.symbol_table.proofs.ways.climb.Given as goal

abbrev pub invariant-loop-nearest : goal.invariant-loop-nearest
invariant-loop-nearest l = IsEntered l.classes l.entered

abbrev pub decreases-loop-nearest : goal.decreases-loop-nearest
decreases-loop-nearest l = length l.entered.path

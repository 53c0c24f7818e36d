use Rattle.symbol_table.specs.Scopes.{IsEntered}
use Rattle.symbol_table.proofs.ways.descend.Given as goal

abbrev pub invariant-loop-k : goal.invariant-loop-k
invariant-loop-k l = IsEntered l.classes l.entered

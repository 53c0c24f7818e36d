use Rattle.symbol_table.specs.Symbols.{AreClasses}
use Rattle.symbol_table.proofs.order.tour.Given as goal

abbrev pub invariant-loop-index : goal.invariant-loop-index
invariant-loop-index l = AreClasses l.classes l.order.items

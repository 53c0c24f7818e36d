use Rattle.symbol_table.proofs.table.SymbolTable.new.Goals as goal

pub invariant_of-result : goal.invariant_of-result
invariant_of-result c = c.new.ensures.scope c.args.classes.now

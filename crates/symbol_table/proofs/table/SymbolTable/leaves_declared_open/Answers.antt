use Rattle.std.proofs.Common.{sym, ◌∙◌}
use Rattle.symbol_table.proofs.OpenLemmas.{leaves_by_others}
use Rattle.symbol_table.proofs.table.SymbolTable.leaves_declared_open.Goals as goal

pub returns-else-leaves_own : goal.returns-else-leaves_own
returns-else-leaves_own c =
    rw (← c.self.view_is) ((rw (← c.self.view_is, c.abstracts.ensures) at c.leaves_one.ensures)
    ∙ leaves_by_others c.self.inside.classes.now c.self.inside.scope c.self.invariant
    (sym c.if-leaves_own.false ∙ (rw (← c.self.view_is) at c.leaves_own.ensures)))

use Rattle.scj_model.specs.Code.{code_of}
use Rattle.memory_needs.proofs.Tables.{edges_stay}
use Rattle.memory_needs.proofs.program_tables.tables_of.Goals as goal

pub in_order-requires-clause-stay : goal.in_order-requires-clause-stay
in_order-requires-clause-stay c =
    rw c.as_slice-3.ensures.value
    (edges_stay (code_of c.args.code.now) c.children_first.ensures c.in_ok-edges.edges.items
    c.in_ok-edges.ensures.table)

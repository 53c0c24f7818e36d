use Rattle.std.proofs.Common.{◌∙◌, ◌==◌, ℕ, List, ap, map, position}
use Rattle.object_layout.proofs.FieldTableLemmas.{table_is}
use Rattle.object_layout.proofs.field_tables.field_table.Goals as goal

pub returns : goal.returns
returns c =
    table_is c.args.classes.now _ c.field_nodes-nodes.result.now c.field_nodes-nodes.ensures
    ((rw c.deref.ensures.value at c.in_ok-static_indices.ensures)
    ∙ ap (λ (list : List ℕ). map (λ (id : ℕ). position (λ other. id == other) list) c.field_nodes-nodes.result.now)
    (rw c.program-program.ensures at c.in_ok-listed.ensures))
    (rw c.program-program.ensures at c.in_ok-statics.ensures)

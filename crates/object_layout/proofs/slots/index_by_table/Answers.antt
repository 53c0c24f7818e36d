use Rattle.std.proofs.Common.{◌∙◌, sym, arith}
use Rattle.object_layout.proofs.SlotLemmas.{placed_there, placed_elsewhere, placed_nowhere}
use Rattle.object_layout.proofs.slots.index_by_table.Goals as goal

pub returns-then-index-fields-clause-value : goal.returns-then-index-fields-clause-value
returns-then-index-fields-clause-value c =
    sym
    (placed_nowhere c.args.indices.now c.args.fields.now c.args.field c.requires
    (omega (arith, c.if-index-fields.true, c.row_or-index.ensures)))

pub returns-then-stands_at-clause-value : goal.returns-then-stands_at-clause-value
returns-then-stands_at-clause-value c =
    sym
    (placed_there c.args.indices.now c.args.fields.now c.args.field c.requires c.row_or-index.result
    c.row_or-index.ensures (omega (arith, c.if-index-fields.false)) (sym c.stands_at.ensures ∙ c.if-stands_at.true))

pub returns-else-stands_at-clause-value : goal.returns-else-stands_at-clause-value
returns-else-stands_at-clause-value c =
    sym
    (placed_elsewhere c.args.indices.now c.args.fields.now c.args.field c.requires c.row_or-index.result
    c.row_or-index.ensures (omega (arith, c.if-index-fields.false)) (sym c.stands_at.ensures ∙ c.if-stands_at.false))

use Rattle.std.proofs.Common.{◌∙◌, ◌==◌, ◌+◌, sym, ap, option_map, position}
use Rattle.scj_rules.specs.Contexts.{declarations_of}
use Rattle.object_layout.proofs.SlotLemmas.{slot_in_row}
use Rattle.object_layout.proofs.layout.Layout.slot_of_node.Goals as goal

pub returns-in-Some : goal.returns-in-Some
returns-in-Some c =
    let row = c.in-Some.row.now in
    c.slot_at.ensures
    ∙ ap (option_map (λ k. row.hidden + k))
    (c.index_of.ensures.value ∙ ap (position (λ other. c.args.node == other)) c.deref.ensures.value)
    ∙ slot_in_row (declarations_of c.args.self.now) c.args.class c.args.node row
    (c.objects-table.ensures.rows.each c.args.class row (sym c.in-Some.ensures))

use Rattle.std.proofs.Common.{◌∙◌, ap, option_and_then}
use Rattle.scj_rules.specs.Contexts.{declarations_of}
use Rattle.object_layout.specs.ObjectTables.{slot_of_node}
use Rattle.object_layout.proofs.SlotLemmas.{slot_at_node}
use Rattle.object_layout.proofs.layout.Layout.slot_of.Goals as goal

pub returns-in-Some : goal.returns-in-Some
returns-in-Some c =
    let p = declarations_of c.args.self.now in
    c.slot_of_node.ensures ∙ ap (option_and_then (slot_of_node p c.args.class)) c.in-Some.ensures
    ∙ slot_at_node p c.args.class c.args.field

pub returns-in-None : goal.returns-in-None
returns-in-None c =
    let p = declarations_of c.args.self.now in
    ap (option_and_then (slot_of_node p c.args.class)) c.in-None.ensures ∙ slot_at_node p c.args.class c.args.field

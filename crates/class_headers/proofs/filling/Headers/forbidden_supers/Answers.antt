use Rattle.std.proofs.Common.{arith}
use Rattle.std.proofs.lemmas.Grind.{common_steps}
use Rattle.scj_rules.specs.Views.{class_at}
use Rattle.scj_rules.specs.Contexts.{declarations_of}
use Rattle.class_headers.proofs.SuperLemmas.{forbidden_with, forbidden_without}
use Rattle.class_headers.proofs.filling.Headers.forbidden_supers.Goals as goal

pub returns-in_default : goal.returns-in_default
returns-in_default c =
    let without = forbidden_without (declarations_of c.args.self.now) (class_at c.args.self.now.nodes c.args.node) in
    let is = c.interface_nodes-interfaces.ensures in
    grind (arith, common_steps, without, is, c.in_default.ensures, c.in_ok-note_interfaces.ensures)

pub returns : goal.returns
returns c =
    let extended = forbidden_with (declarations_of c.args.self.now) (class_at c.args.self.now.nodes c.args.node)
    c.in-Some.name in
    let is = c.interface_nodes-interfaces.ensures in
    let there = c.in_ok-there.ensures in
    let noted = c.in_ok-note_interfaces-2.ensures in
    grind (arith, common_steps, extended, is, c.in-Some.ensures, there.found, there.kinds, noted)

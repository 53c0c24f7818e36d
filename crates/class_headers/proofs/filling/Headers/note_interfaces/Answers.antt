use Rattle.std.proofs.Common.{arith}
use Rattle.std.proofs.lemmas.Grind.{common_steps}
use Rattle.scj_rules.specs.Contexts.{declarations_of}
use Rattle.class_headers.proofs.SuperLemmas.{one_forbidden, none_forbidden}
use Rattle.class_headers.proofs.filling.Headers.note_interfaces.Goals as goal

pub loop-others-preserved-in_ok-add_kinds : goal.loop-others-preserved-in_ok-add_kinds
loop-others-preserved-in_ok-add_kinds c =
    let one = one_forbidden (declarations_of c.args.self.now) in
    let kinds = c.in_ok-kinds.ensures in
    grind (arith, common_steps, one, kinds.found, kinds.kinds, c.in_ok-add_kinds.ensures)

pub returns : goal.returns
returns c = grind (arith, common_steps, none_forbidden (declarations_of c.args.self.now))

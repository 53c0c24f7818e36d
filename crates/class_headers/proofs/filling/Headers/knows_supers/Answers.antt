use Rattle.std.proofs.Common.{arith}
use Rattle.std.proofs.lemmas.Grind.{common_steps}
use Rattle.scj_rules.specs.Definitions.{read}
use Rattle.scj_rules.specs.Views.{class_at, named_super}
use Rattle.scj_rules.specs.Contexts.{declarations_of}
use Rattle.class_headers.proofs.SuperLemmas.{all_known}
use Rattle.class_headers.proofs.filling.Headers.knows_supers.Goals as goal

pub returns : goal.returns
returns c =
    let all = all_known (declarations_of c.args.self.now) (class_at c.args.self.now.nodes c.args.node)
    c.class_extends-extends.result (read c.args.self.now.nodes named_super) c.interface_nodes.result.now in
    let extends = c.class_extends-extends.ensures in
    grind (arith, common_steps, all, extends, c.interface_nodes.ensures, c.knows_all.ensures)

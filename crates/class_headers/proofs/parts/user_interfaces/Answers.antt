use Rattle.scj_rules.specs.Definitions.{read}
use Rattle.scj_rules.specs.Views.{named_super}
use Rattle.class_headers.specs.NamedNumbers.{found_under}
use Rattle.class_headers.proofs.PartLemmas.{interfaces_are}
use Rattle.class_headers.proofs.parts.user_interfaces.Goals as goal

pub returns : goal.returns
returns c =
    interfaces_are (found_under c.args.names.now) (read c.args.program.now.nodes named_super)
    c.interface_nodes.result.now c.in_ok-found.found.items _ c.in_ok-found.ensures c.interface_nodes.ensures

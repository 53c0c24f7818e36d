use Rattle.scj_rules.specs.Contexts.{declarations_of}
use Rattle.class_headers.proofs.SuperLemmas.{kinds_are}
use Rattle.class_headers.proofs.filling.Headers.kinds_of.Goals as goal

pub returns : goal.returns
returns c = kinds_are (declarations_of c.args.self.now).written c.args.class c.bits.result c.in_ok-kinds.kinds.items
    c.in_ok-kinds.ensures c.bits.ensures

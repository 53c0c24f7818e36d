use Rattle.scj_model.specs.Code.{code_of}
use Rattle.memory_needs.proofs.Stores.{handler_some, handler_there}
use Rattle.memory_needs.proofs.class_answers.handler_node.Goals as goal

pub unreachable-requires : goal.unreachable-requires
unreachable-requires c =
    handler_there (code_of c.args.code.now) c.requires.formed c.args.class c.requires.listed c.handler_body.result
    c.handler_body.ensures c.node_of.result c.node_of.ensures c.in-None.is

pub returns-clause-handles : goal.returns-clause-handles
returns-clause-handles c =
    (handler_some (code_of c.args.code.now) c.requires.formed c.args.class c.requires.listed c.handler_body.result
    c.handler_body.ensures c.node_of.result c.node_of.ensures c.in-Some.node c.in-Some.is).0

pub returns-clause-there : goal.returns-clause-there
returns-clause-there c =
    (handler_some (code_of c.args.code.now) c.requires.formed c.args.class c.requires.listed c.handler_body.result
    c.handler_body.ensures c.node_of.result c.node_of.ensures c.in-Some.node c.in-Some.is).1

use Rattle.scj_rules.specs.Contexts.{declarations_of}
use Rattle.op_list.proofs.BodyLemmas.{named_among, called_among, constructor_among}
use Rattle.op_list.proofs.laws.calls_run_bodies.Goals as goal

pub returns-clause-named : goal.returns-clause-named
unfolding declarations_of
returns-clause-named c = λ forest accepted class name body e. named_among forest accepted class name body e

pub returns-clause-called : goal.returns-clause-called
unfolding declarations_of
returns-clause-called c = λ forest accepted class method body e. called_among forest accepted class method body e

pub returns-clause-constructed : goal.returns-clause-constructed
unfolding declarations_of
returns-clause-constructed c = λ forest accepted class body e. constructor_among forest accepted class body e

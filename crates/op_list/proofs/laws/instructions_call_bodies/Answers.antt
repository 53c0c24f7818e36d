use Rattle.scj_rules.specs.Contexts.{declarations_of}
use Rattle.op_list.proofs.CalleeLemmas.{callee_among}
use Rattle.op_list.proofs.laws.instructions_call_bodies.Goals as goal

pub returns : goal.returns
unfolding declarations_of
returns c = λ forest accepted op body e. callee_among forest accepted op body e

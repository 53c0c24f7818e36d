use Rattle.memory_bounds.proofs.Programs.{one_answer_of}
use Rattle.memory_bounds.proofs.laws.one_answer.Goals as goal

pub returns : goal.returns
returns c = λ class a b x y. one_answer_of c.args.checked.now.program c.checked_is_accepted.ensures class a b x y

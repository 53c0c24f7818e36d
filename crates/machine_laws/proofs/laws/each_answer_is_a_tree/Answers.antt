use Rattle.machine_laws.proofs.Soundness.{answer_is_tree}
use Rattle.machine_laws.proofs.laws.each_answer_is_a_tree.Goals as goal

pub returns : goal.returns
returns c = λ before after lexemes classes e. answer_is_tree before lexemes e

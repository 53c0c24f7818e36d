use Rattle.scj_cli.proofs.AnswerLaws.{one_answer_of}
use Rattle.scj_cli.proofs.laws.one_answer.Goals as goal

pub returns : goal.returns
returns c = λ job contents status status_again out err out_again err_again answer again. one_answer_of answer again

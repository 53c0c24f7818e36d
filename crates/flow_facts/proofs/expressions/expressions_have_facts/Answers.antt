use Rattle.flow_facts.proofs.AllExpressions.{expression_facts}
use Rattle.flow_facts.proofs.expressions.expressions_have_facts.Goals as goal

pub returns : goal.returns
returns c = λ forest a member class signature id node gives body inside there j. expression_facts forest a member class
    signature id node gives body inside there j

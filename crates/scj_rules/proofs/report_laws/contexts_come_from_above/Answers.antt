use Rattle.std.proofs.Common.{length}
use Rattle.scj_tree.specs.Forest.{joined}
use Rattle.scj_tree.proofs.RecursionLemmas.{by_larger-is}
use Rattle.scj_rules.specs.Contexts.{contexts_in, context_of, outermost}
use Rattle.scj_rules.proofs.report_laws.contexts_come_from_above.Goals as goal

pub returns : goal.returns
unfolding contexts_in
returns c = λ forest id h. by_larger-is outermost (context_of forest.nodes (joined forest.files))
    (length forest.nodes) id h

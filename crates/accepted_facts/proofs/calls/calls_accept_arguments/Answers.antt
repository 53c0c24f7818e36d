use Rattle.accepted_laws.proofs.ClassSorts.{well_sorted}
use Rattle.scj_rules.specs.Contexts.{declarations_of}
use Rattle.accepted_facts.proofs.FrameworkCalls.{argument_facts}
use Rattle.accepted_facts.proofs.calls.calls_accept_arguments.Goals as goal

pub returns : goal.returns
unfolding declarations_of
returns c = λ forest a member class id position name object arguments f there inside m. argument_facts forest a.is_accepted a.whole (well_sorted forest a.is_read) member class id position name object arguments f there inside m

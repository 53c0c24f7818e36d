use Rattle.scj_rules.specs.Contexts.{declarations_of}
use Rattle.accepted_facts.proofs.StatementFacts.{fits_go}
use Rattle.accepted_facts.proofs.statements.fitting_values_go.Goals as goal

pub returns : goal.returns
returns c = λ forest home now j k real here h. fits_go (declarations_of forest) home now j k real here h

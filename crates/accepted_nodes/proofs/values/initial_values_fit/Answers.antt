use Rattle.accepted_nodes.proofs.ValueFacts.{initial_value_fits}
use Rattle.accepted_laws.proofs.RealScopes.{variable_is_real}
use Rattle.scj_rules.specs.Contexts.{declarations_of}
use Rattle.accepted_nodes.proofs.values.initial_values_fit.Goals as goal

pub returns : goal.returns
returns c = λ forest accepted id position name_position name flags declared_type value there j k ej ek. initial_value_fits forest accepted id position name_position name flags declared_type value there j k ej ek (variable_is_real (declarations_of forest) id k ek)

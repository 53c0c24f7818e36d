use Rattle.std.proofs.Common.{length}
use Rattle.scj_rules.specs.Contexts.{declarations_of}
use Rattle.scj_rules.specs.ScopeRules.{parent_scope}
use Rattle.scj_rules.proofs.ChainLemmas.{chain_comes_back}
use Rattle.scj_rules.proofs.WithinLemmas.{parents-stay}
use Rattle.scj_rules.proofs.report_laws.scope_cycles_are_found.Goals as goal

pub returns : goal.returns
returns c = λ forest scope. chain_comes_back (parent_scope (declarations_of forest))
    (length (declarations_of forest).classes) scope (parents-stay forest)

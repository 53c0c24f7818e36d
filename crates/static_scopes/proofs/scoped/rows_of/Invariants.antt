use Rattle.scj_rules.specs.Contexts.{declarations_of}
use Rattle.program_facts.specs.Tables.{AreRunRows}
use Rattle.static_scopes.proofs.scoped.rows_of.Given as goal

abbrev pub invariant-loop-id : goal.invariant-loop-id
invariant-loop-id l = AreRunRows (declarations_of l.facts) l.rows

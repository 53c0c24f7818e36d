use Rattle.std.proofs.Common.{◌≡◌}
use Rattle.scj_tree.specs.Recursion.{listed}
use Rattle.scj_rules.specs.Contexts.{declarations_of}
use Rattle.program_facts.specs.Tables.{row_of}
use Rattle.scope_tree.proofs.builds.rows_of.Given as goal

abbrev pub invariant-loop-number : goal.invariant-loop-number
invariant-loop-number l = l.rows.items ≡ listed (row_of (declarations_of l.facts)) l.number

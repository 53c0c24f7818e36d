use Rattle.std.proofs.Common.{◌≡◌, ◌≤◌, ℕ, List, length}
use Rattle.scj_rules.specs.Contexts.{declarations_of}
use Rattle.program_facts.specs.Tables.{scope_named}
use Rattle.scope_tree.proofs.NameLemmas.{scope_from}
use Rattle.scope_tree.proofs.names.names_of.Given as goal

-- the scopes of the classes from here on are entered
abbrev pub invariant-loop-left : goal.invariant-loop-left
invariant-loop-left l = record {
  within : l.left ≤ length (declarations_of l.classes).classes;
  finds : (name : List ℕ) → scope_named l.names name ≡ scope_from l.classes l.left name;
}

abbrev pub decreases-loop-left : goal.decreases-loop-left
decreases-loop-left l = l.left

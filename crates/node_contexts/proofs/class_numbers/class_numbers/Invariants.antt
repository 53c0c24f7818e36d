use Rattle.std.proofs.Common.{◌≡◌, ◌≤◌, ℕ, length, None}
use Rattle.scj_tree.specs.Forest.{joined}
use Rattle.scj_tree.specs.Recursion.{lookup}
use Rattle.scj_rules.specs.Contexts.{number_of_class}
use Rattle.node_contexts.proofs.ListLemmas.{number_among}
use Rattle.node_contexts.proofs.class_numbers.class_numbers.Given as goal

-- the rest of the classes are still to be numbered
abbrev pub invariant-loop-rest : goal.invariant-loop-rest
invariant-loop-rest l = record {
  within : length l.rest ≤ length l.initial.rest;
  whole : length l.numbers.items ≡ length l.program.nodes;
  exact : (id : ℕ) → number_among l.rest (lookup None l.numbers.items id) id ≡ number_of_class
      (joined l.program.files) id;
}

abbrev pub decreases-loop-rest : goal.decreases-loop-rest
decreases-loop-rest l = length l.rest

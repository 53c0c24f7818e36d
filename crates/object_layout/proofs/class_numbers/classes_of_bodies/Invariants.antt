use Rattle.std.proofs.Common.{◌≡◌, ℕ, length, None}
use Rattle.scj_tree.specs.Recursion.{lookup}
use Rattle.scj_rules.specs.Contexts.{declarations_of}
use Rattle.object_layout.specs.BodyTables.{class_known}
use Rattle.object_layout.proofs.class_numbers.classes_of_bodies.Given as goal

-- the contexts of the nodes so far are known
abbrev pub invariant-loop-number : goal.invariant-loop-number
invariant-loop-number l = record {
  whole : length l.table.items ≡ length l.classes.nodes;
  exact : (body : ℕ) → lookup None l.table.items body ≡ class_known (declarations_of l.classes) l.number body;
}

use Rattle.std.proofs.Common.{◌≡◌, map}
use Rattle.scj_tree.specs.Recursion.{listed}
use Rattle.scj_rules.specs.Contexts.{declarations_of}
use Rattle.object_layout.specs.ObjectTables.{own_nodes}
use Rattle.object_layout.proofs.objects.all_own_nodes.Given as goal

-- those of the classes so far
abbrev pub invariant-loop-number : goal.invariant-loop-number
invariant-loop-number l = map (λ v. v.items) l.all.items ≡ listed (own_nodes (declarations_of l.classes)) l.number

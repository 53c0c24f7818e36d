use Rattle.std.proofs.Common.{◌≡◌, ◌++◌, length}
use Rattle.scj_rules.specs.Classes.{superclasses}
use Rattle.scj_rules.specs.Contexts.{declarations_of}
use Rattle.object_layout.proofs.objects.chain_down.Given as goal

-- those that are left are still to come
abbrev pub invariant-loop-at : goal.invariant-loop-at
invariant-loop-at l = l.all.items ++ l.walk ≡ superclasses (declarations_of l.fn.classes).classes l.fn.class

abbrev pub decreases-loop-at : goal.decreases-loop-at
decreases-loop-at l = length l.walk

use Rattle.std.proofs.Common.{◌≡◌, ◌++◌, length, map}
use Rattle.scj_model.specs.Memory.{default_value}
use Rattle.object_slots.proofs.slots.put_defaults.Given as goal

-- those that are left are still to come
abbrev pub invariant-loop-others : goal.invariant-loop-others
invariant-loop-others l =
    l.slots.items ++ map default_value l.others ≡ l.fn.slots.items ++ map default_value l.initial.others

abbrev pub decreases-loop-others : goal.decreases-loop-others
decreases-loop-others l = length l.others

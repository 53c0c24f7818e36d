use Rattle.std.specs.Prelude.{◌≤◌, ◌-◌, length}
use Rattle.region_heap.specs.OpenAreas.{open_areas}
use Rattle.unit_steps.proofs.OpenScopes.{NoneHas}
use Rattle.unit_steps.proofs.refusals.scope_of.Given as goal

-- none of the areas so far has the scope
abbrev pub invariant-loop-other : goal.invariant-loop-other
invariant-loop-other l = record {
  none : NoneHas l.memory l.area l.i;
  within : l.i ≤ length (open_areas l.memory.objects 0 l.memory.areas);
}

abbrev pub decreases-loop-other : goal.decreases-loop-other
decreases-loop-other l = length (open_areas l.memory.objects 0 l.memory.areas) - l.i

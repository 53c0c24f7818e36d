use Rattle.std.specs.Prelude.{◌≡◌, ◌≤◌, ◌+◌, ◌-◌, drop, length}
use Rattle.region_heap.specs.OpenAreas.{open_areas}
use Rattle.area_tables.specs.Rows.{reserved_by}
use Rattle.area_tables.proofs.looks.reserved_in.Given as goal

-- those from here on are still to be added
abbrev pub invariant-loop-area : goal.invariant-loop-area
invariant-loop-area l = record {
  left : l.reserved + reserved_by (drop l.i (open_areas l.memory.objects 0 l.memory.areas))
      ≡ reserved_by (open_areas l.memory.objects 0 l.memory.areas);
  within : l.i ≤ length (open_areas l.memory.objects 0 l.memory.areas);
}

abbrev pub decreases-loop-area : goal.decreases-loop-area
decreases-loop-area l = length (open_areas l.memory.objects 0 l.memory.areas) - l.i

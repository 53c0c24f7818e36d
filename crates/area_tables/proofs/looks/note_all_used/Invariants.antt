use Rattle.std.specs.Prelude.{◌≡◌, ◌≤◌, ◌-◌, drop, length}
use Rattle.region_heap.specs.OpenAreas.{open_areas}
use Rattle.area_tables.specs.Rows.{all_used}
use Rattle.area_tables.proofs.looks.note_all_used.Given as goal

-- those from here on are still to be noted
abbrev pub invariant-loop-area : goal.invariant-loop-area
invariant-loop-area l = record {
  left : all_used (drop l.i (open_areas l.memory.objects 0 l.memory.areas)) l.rows.items
      ≡ all_used (open_areas l.memory.objects 0 l.memory.areas) l.fn.rows.items;
  within : l.i ≤ length (open_areas l.memory.objects 0 l.memory.areas);
}

abbrev pub decreases-loop-area : goal.decreases-loop-area
decreases-loop-area l = length (open_areas l.memory.objects 0 l.memory.areas) - l.i

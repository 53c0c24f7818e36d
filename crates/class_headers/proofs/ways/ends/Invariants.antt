use Rattle.std.proofs.Common.{◌≡◌, ◌<◌, ℕ, length, take, false, slice_index_or}
use Rattle.std.specs.List.{list_any}
use Rattle.class_headers.specs.Ways.{ends_at}
use Rattle.class_headers.proofs.ways.ends.Given as goal

-- the classes where a way so far ends are marked
abbrev pub invariant-loop-way : goal.invariant-loop-way
invariant-loop-way l = record {
  whole : length l.marks.items ≡ length l.ways;
  exact : (class : ℕ) → class < length l.ways → slice_index_or l.marks.items class false ≡ list_any (ends_at class)
      (take l.way-index l.ways);
}

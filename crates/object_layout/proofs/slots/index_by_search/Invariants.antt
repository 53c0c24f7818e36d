use Rattle.object_layout.proofs.SlotLemmas.{NoneBefore}
use Rattle.object_layout.proofs.slots.index_by_search.Given as goal

-- the field doesn't stand before the place
abbrev pub invariant-loop-index : goal.invariant-loop-index
invariant-loop-index l = NoneBefore l.fields l.field l.index

-- What was read stands in the vector, at most one byte more than the limit.
use Rattle.std.proofs.Common.{◌≤◌, ◌+◌, ◌-◌, vec_len}
use Rattle.std.specs.Io.KnownBytes.{Consumes}
use Rattle.scj_io.proofs.file_shelves.read_beyond.Given as goal

abbrev pub invariant-loop-buffer : goal.invariant-loop-buffer
invariant-loop-buffer g l = (vec_len l.bytes ≤ l.limit + 1) × Consumes (g.S.Read.remaining l.initial.source)
    (g.S.Read.remaining l.source) l.bytes.items

abbrev pub decreases-loop-buffer : goal.decreases-loop-buffer
decreases-loop-buffer g l = l.limit + 1 - vec_len l.bytes

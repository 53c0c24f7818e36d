use Rattle.std.proofs.Common.{◌≡◌, length}
use Rattle.scj_model.specs.TraceText.{label}
use Rattle.trace_print.specs.Room.{greatest}
use Rattle.trace_print.proofs.labels.text_room.Given as goal

abbrev pub invariant-loop-number : goal.invariant-loop-number
invariant-loop-number l = l.longest ≡ greatest (λ id. length (label l.program.nodes id)) l.number

use Rattle.std.proofs.Common.{◌≡◌, length}
use Rattle.scj_model.specs.TraceText.{file_name}
use Rattle.trace_print.specs.Room.{greatest}
use Rattle.trace_print.proofs.labels.name_room.Given as goal

abbrev pub invariant-loop-file : goal.invariant-loop-file
invariant-loop-file l = l.longest ≡ greatest (λ file. length (file_name l.files file)) l.file

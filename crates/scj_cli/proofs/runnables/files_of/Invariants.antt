use Rattle.std.proofs.Common.{◌≡◌, map, string_bytes, take}
use Rattle.scj_cli.proofs.runnables.files_of.Given as goal

abbrev pub invariant-loop-name : goal.invariant-loop-name
invariant-loop-name l = l.files ≡ map string_bytes (take l.name-index l.names)

use Rattle.std.proofs.Common.{◌≡◌, map, take}
use Rattle.scj_cli.specs.Keys.{shown_byte}
use Rattle.scj_cli.proofs.keys.shown_key.Given as goal

abbrev pub invariant-loop-byte : goal.invariant-loop-byte
invariant-loop-byte l = l.shown.items ≡ map shown_byte (take l.byte-index l.byte-items)

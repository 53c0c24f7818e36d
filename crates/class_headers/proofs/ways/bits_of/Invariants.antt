use Rattle.std.proofs.Common.{◌≡◌, take}
use Rattle.class_headers.specs.Ways.{bits_of}
use Rattle.class_headers.proofs.ways.bits_of.Given as goal

abbrev pub invariant-loop-class : goal.invariant-loop-class
invariant-loop-class l = l.bits ≡ bits_of (take l.class-index l.classes)

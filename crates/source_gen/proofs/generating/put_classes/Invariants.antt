use Rattle.std.proofs.Common.{◌≡◌, ◌++◌}
use Rattle.source_gen.specs.Generated.{class_line, up_to}
use Rattle.source_gen.proofs.generating.put_classes.Given as goal

abbrev pub invariant-loop-i : goal.invariant-loop-i
invariant-loop-i l = l.text.items ≡ l.initial.text.items ++ up_to class_line l.i

use Rattle.std.proofs.Common.{◌≡◌, take}
use Rattle.scj_tree.specs.Forest.{joined}
use Rattle.scj_tree.proofs.classes.class_ids.Given as goal

abbrev pub invariant-loop-file : goal.invariant-loop-file
invariant-loop-file l = l.ids.items ≡ joined (take l.file l.program.files)

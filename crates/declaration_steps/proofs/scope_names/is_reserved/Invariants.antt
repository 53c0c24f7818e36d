use Rattle.std.proofs.Common.{◌≡◌, drop}
use Rattle.scj_base.specs.Vocabulary.{words}
use Rattle.scj_base.specs.Bytes.{is_one_of}
use Rattle.declaration_steps.proofs.scope_names.is_reserved.Given as goal

abbrev pub invariant-loop-i : goal.invariant-loop-i
invariant-loop-i l = is_one_of l.fn.bytes words ≡ is_one_of l.fn.bytes (drop l.i words)

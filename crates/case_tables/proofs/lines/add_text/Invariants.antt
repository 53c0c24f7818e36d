-- What was added, with what the rest stands for, is what the text stands for; and each turn takes a byte at least.
use Rattle.std.proofs.Common.{◌≡◌, ◌++◌, length}
use Rattle.case_tables.specs.Lines.{text_bytes}
use Rattle.case_tables.proofs.lines.add_text.Given as goal

abbrev pub decreases-loop-rest : goal.decreases-loop-rest
decreases-loop-rest l = length l.rest

abbrev pub invariant-loop-rest : goal.invariant-loop-rest
invariant-loop-rest l = l.source.items ++ text_bytes l.rest ≡ l.initial.source.items ++ text_bytes l.text

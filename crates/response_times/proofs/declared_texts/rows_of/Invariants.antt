use Rattle.std.proofs.Common.{◌≡◌, ◌++◌, drop}
use Rattle.response_times.specs.DeclaredOf.{rows_of}
use Rattle.response_times.proofs.declared_texts.rows_of.Given as goal

abbrev pub invariant-loop-handler : goal.invariant-loop-handler
invariant-loop-handler l = l.rows.items ++ rows_of (drop l.handler-index l.handlers) ≡ rows_of l.handlers

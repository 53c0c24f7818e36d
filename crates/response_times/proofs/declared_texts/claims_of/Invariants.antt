use Rattle.std.proofs.Common.{◌≡◌, ◌++◌, drop}
use Rattle.response_times.specs.DeclaredOf.{claims_of}
use Rattle.response_times.proofs.declared_texts.claims_of.Given as goal

abbrev pub invariant-loop-handler : goal.invariant-loop-handler
invariant-loop-handler l = l.claims.items ++ claims_of (drop l.handler-index l.handlers) ≡ claims_of l.handlers

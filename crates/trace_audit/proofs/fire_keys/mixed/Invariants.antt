use Rattle.std.proofs.Common.{◌≡◌, ◌<◌, length}
use Rattle.trace_audit.specs.Fires.{mixed_with}
use Rattle.trace_audit.proofs.fire_keys.mixed.Given as goal

abbrev pub invariant-loop-rest : goal.invariant-loop-rest
invariant-loop-rest l = (l.mix < 36028797018963968) × (mixed_with l.mix l.rest ≡ mixed_with 0 l.bytes)

abbrev pub decreases-loop-rest : goal.decreases-loop-rest
decreases-loop-rest l = length l.rest

use Rattle.std.proofs.Common.{◌≡◌, ◌+◌, ◌≤◌, length}
use Rattle.trace_audit.specs.Audits.{audit_from, audit_of, lines_of}
use Rattle.trace_audit.specs.Index.{IsKept}
use Rattle.trace_audit.specs.Seen.{replay_seen}
use Rattle.trace_audit.proofs.audits.audit.Given as goal

abbrev pub invariant-loop-bytes : goal.invariant-loop-bytes
invariant-loop-bytes l = record {
  same : audit_of l.fn.plan l.fn.trace ≡ audit_from l.fn.plan (replay_seen l.replay) l.number (lines_of l.rest);
  kept : IsKept l.replay.table;
  bound : l.number + length l.rest ≤ length l.fn.trace + 1;
}

abbrev pub decreases-loop-bytes : goal.decreases-loop-bytes
decreases-loop-bytes l = length l.rest

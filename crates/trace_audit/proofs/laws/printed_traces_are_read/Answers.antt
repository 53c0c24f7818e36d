use Rattle.trace_audit.proofs.TextLaws.{audit_of_text}
use Rattle.trace_audit.proofs.laws.printed_traces_are_read.Goals as goal

pub returns : goal.returns
returns c = audit_of_text

use Rattle.accepted_laws.proofs.Rows.{counted_is_written}
use Rattle.accepted_laws.proofs.classes.counted_rows_are_written.Goals as goal

pub returns : goal.returns
returns c = counted_is_written

use Rattle.needed_rules.proofs.RowsOfGuards.{is_unsafe_where_undone}
use Rattle.needed_rules.proofs.undone_guards_are_unsafe.Goals as goal

pub returns : goal.returns
returns c = is_unsafe_where_undone

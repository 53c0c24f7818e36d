use Rattle.needed_rules.proofs.RowsOfGuards.{is_unsafe_unguarded}
use Rattle.needed_rules.proofs.unguarded_stores_are_unsafe.Goals as goal

pub returns : goal.returns
returns c = is_unsafe_unguarded

use Rattle.run_plan.proofs.Names.{name_is_text}
use Rattle.run_plan.proofs.migration.text_of.Goals as goal

pub unreachable-requires : goal.unreachable-requires
unreachable-requires c = c.in-Err.ensures.cases.0 (rw c.bytes.ensures.value (name_is_text c.args.name.now c.requires))

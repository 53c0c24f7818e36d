use Rattle.std.proofs.Common.{◌∙◌, ap}
use Rattle.toml.specs.View.{members_view}
use Rattle.run_plan.proofs.Members.{entry_put}
use Rattle.run_plan.proofs.migration.put.Goals as goal

pub returns : goal.returns
returns c = ap members_view c.in_ok-insert.ensures.entries ∙ rw (← c.in_ok-name.ensures.ok) (entry_put c.args.table.now.entries c.in_ok-name.name c.args.value)

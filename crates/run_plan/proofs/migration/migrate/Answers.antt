use Rattle.std.proofs.Common.{◌∙◌, ◌≤◌, Some, ap}
use Rattle.std.proofs.lemmas.Str.{is_utf8-from_IsUtf8}
use Rattle.toml.specs.Data.{members_depth}
use Rattle.toml.specs.View.{table_view}
use Rattle.run_plan.proofs.Migrated.{shallow}
use Rattle.run_plan.proofs.Texts.{read_text}
use Rattle.run_plan.proofs.migration.migrate.Goals as goal

pub returns-in-Ok-clause-table : goal.returns-in-Ok-clause-table
returns-in-Ok-clause-table c =
    let depth : members_depth (table_view c.in_ok-table.table) ≤ 80 = rw c.in_ok-table.ensures (shallow c.args.plan.now) in
    record {
      valid = is_utf8-from_IsUtf8 _ c.bytes_of.ensures.valid;
      read = rw c.bytes_of.ensures.bytes (c.in-Ok.ensures.reads_back depth ∙ ap Some c.in_ok-table.ensures);
    }

pub returns-in-Ok-clause-meaning : goal.returns-in-Ok-clause-meaning
returns-in-Ok-clause-meaning c =
    read_text _ _ c.bytes_of.ensures.valid (returns-in-Ok-clause-table c).read ∙ c.law_migrate.ensures

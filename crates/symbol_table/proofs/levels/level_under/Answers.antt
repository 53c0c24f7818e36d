use Rattle.symbol_table.proofs.LevelLemmas.{lowest_is, next_is}
use Rattle.symbol_table.proofs.levels.level_under.Goals as goal

pub returns-in_default-clause-under : goal.returns-in_default-clause-under
returns-in_default-clause-under c =
    lowest_is c.args.classes.now c.object_level.result c.args.path.now c.in_default.ensures c.object_level.ensures

pub returns-clause-under : goal.returns-clause-under
returns-clause-under c =
    next_is c.args.classes.now _ c.args.path.now c.in-Some.above c.len.result c.in-Some.ensures c.requires c.len.ensures
    c.if-not-is_next.ensures c.in_ok-field_count.ensures

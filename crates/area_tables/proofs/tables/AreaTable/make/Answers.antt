use Rattle.std.proofs.Common.{refl}
use Rattle.area_tables.proofs.Reporting.{reports_first}
use Rattle.area_tables.proofs.tables.AreaTable.make.Goals as goal

pub returns : goal.returns
returns c = λ s none. reports_first c.args.count s _ none c.in_ok-rows.ensures refl refl

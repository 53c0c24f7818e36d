use Rattle.std.proofs.Common.{arith}
use Rattle.run_plan.specs.Limits.{KeepsLimits}
use Rattle.run_plan.proofs.Migrated.{same_plan}
use Rattle.run_plan.proofs.migration.law_migrate.Goals as goal

pub returns : goal.returns
returns c =
    let keeps : KeepsLimits c.args.plan.now = record {
      units = omega (arith, c.units-units.ensures.units, c.units-units.ensures.limit);
      store = omega (arith, c.store-store.ensures.store, c.store-store.ensures.limit);
      fires = c.fires-fires.ensures.limits;
      readings = rw (← c.readings.ensures) c.rows-readings.ensures.limits;
    } in
    same_plan c.args.plan.now keeps

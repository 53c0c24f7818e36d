use Rattle.priority_laws.proofs.ReachedOrder.{guarded}
use Rattle.priority_laws.proofs.Exclusion.{between, excludes}
use Rattle.priority_laws.proofs.laws.monitors_exclude_one_another.Goals as goal

pub returns : goal.returns
returns c =
    record {
      guarded = λ code m plan moment s h. guarded code plan m h;
      between = λ code m plan moment s h place w e r held. between code plan m h place w e r held;
      exclusive = λ code m plan moment s h. excludes code plan m moment s h;
    }

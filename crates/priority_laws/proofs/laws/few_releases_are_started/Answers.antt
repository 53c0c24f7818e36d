use Rattle.priority_laws.proofs.RightRuns.{right_priorities, bounded_priorities}
use Rattle.priority_laws.proofs.FewReleases.{few_are_started}
use Rattle.priority_laws.proofs.laws.few_releases_are_started.Goals as goal

pub returns : goal.returns
returns c =
    record {
      right = λ code spares plan moment s h. right_priorities code plan spares h;
      bounded = λ code spares plan moment s h. bounded_priorities code plan spares h;
      few = λ code spares plan moment s h. few_are_started code plan spares moment s h;
    }

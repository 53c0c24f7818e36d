use Rattle.std.proofs.Common.{[]}
use Rattle.scj_model.specs.State.{ReleaseAt}
use Rattle.frame_sound.proofs.Starting.{start_keeps, starts}
use Rattle.frame_sound.proofs.OthersOfChanges.{others_stand}
use Rattle.frame_sound.proofs.jobs.releases_start.Goals as goal

pub returns : goal.returns
returns c =
    record {
      own = λ code facts s index r row there registered memory handler.
          starts code facts s index r there row memory handler registered;
      others = λ code s index r step e.
          (let k = start_keeps code s index r step e in (k, others_stand s (ReleaseAt index) [] step.state k));
    }

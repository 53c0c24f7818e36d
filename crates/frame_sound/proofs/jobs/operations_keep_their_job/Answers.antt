use Rattle.frame_sound.proofs.OwnSteps.{operation_kept}
use Rattle.frame_sound.proofs.OwnOthers.{others_kept}
use Rattle.frame_sound.proofs.OthersOfChanges.{others_stand}
use Rattle.frame_sound.proofs.jobs.operations_keep_their_job.Goals as goal

pub returns : goal.returns
returns c =
    record {
      own = λ code facts rows s job base stands f below has.
          operation_kept code facts rows s job base stands f below has;
      others = λ code facts rows s job base stands f below step has e.
          (let k = others_kept code facts rows s job base stands f below has step e in
          (k, others_stand s job stands.activity.frames step.state k));
    }

use Rattle.frame_sound.proofs.AllJobs.{nested}
use Rattle.frame_sound.proofs.AllSteps.{operation_lets_stand, start_lets_stand}
use Rattle.frame_sound.proofs.jobs.all_jobs_stand.Goals as goal

pub returns : goal.returns
returns c =
    record {
      operations = λ code facts rows s base job activity f below all is has.
          operation_lets_stand code s base all facts rows job activity is f below has;
      starts = λ code facts s base place r row all none there waits registered handler.
          start_lets_stand code s base all none place r there waits facts row registered handler;
      nested = λ code s base a b x all is opens up. nested code s base all a b x is opens up;
    }

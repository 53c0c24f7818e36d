use Rattle.reference_sound.proofs.Passes.{stores_pass, job_passes}
use Rattle.reference_sound.proofs.stores.stores_pass.Goals as goal

pub returns-clause-of_frames : goal.returns-clause-of_frames
returns-clause-of_frames c =
    λ code facts rows s base activity order memory job. stores_pass code facts rows s base order memory activity job

pub returns-clause-of_jobs : goal.returns-clause-of_jobs
returns-clause-of_jobs c =
    λ code facts rows s base job held memory fine. job_passes code facts rows s base job held memory fine

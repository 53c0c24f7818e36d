use Rattle.area_laws.proofs.OpenLists.{framed_by_priority, stands_open}
use Rattle.scj_model.specs.Code.{code_of}
use Rattle.area_laws.proofs.jobs_stand_in_open_areas.Goals as goal

pub returns : goal.returns
returns c =
    λ plan moment s reached job activity e.
    stands_open s (code_of c.args.checked.now.program) job
    (framed_by_priority c.args.checked.now.program c.checked_is_accepted.ensures plan moment s reached job) activity e

-- Where a call says of its sources that they break no rule, and that they are a safe program then.
use Rattle.std.specs.Prelude.{ℕ, List, [], ◌∷◌, Option, Some}
use Rattle.scj_base.specs.declared.statuses.Status.{Status}
use Rattle.scj_base.specs.declared.statuses.Status.TheVariants.{Done, Halted}
use Rattle.source_gen.specs.Generated.{source_of}
use Rattle.command_line.specs.Job.{Job, Check, Run, Areas, Gen, Faults, Bounds}
use Rattle.scj_cli.specs.Jobs.{files_of, sources_among, limits_of}
use Rattle.scj_cli.specs.Endings.{Call, MayStand}
use Rattle.safe_texts.specs.SafePrograms.{IsSafeProgram}

-- the sources of a job: those among the contents of its files, or the one that it generates
unfoldable pub sources_of : Option Job → List (List ℕ) → List (List ℕ)
sources_of (Some (Run plan names)) contents = sources_among names contents
sources_of (Some (Areas plan names)) contents = sources_among names contents
sources_of (Some (Gen size)) contents = source_of size ∷ []
sources_of job contents = contents

-- with this status the job has found no rule broken: `check` says so, `faults` lists what is certain to fault, `bounds`
-- says what each handler needs, and a run has come to its end, of which its trace is put or what its areas need
unfoldable pub Accepts : Option Job → Status → Type 0
Accepts (Some (Check names)) Done = Unit {0}
Accepts (Some (Run plan names)) Done = Unit {0}
Accepts (Some (Run plan names)) Halted = Unit {0}
Accepts (Some (Areas plan names)) Done = Unit {0}
Accepts (Some (Areas plan names)) Halted = Unit {0}
Accepts (Some (Gen size)) Done = Unit {0}
Accepts (Some (Gen size)) Halted = Unit {0}
Accepts (Some (Faults names)) Done = Unit {0}
Accepts (Some (Bounds names)) Done = Unit {0}
Accepts job status = ⊥

-- what may stand under the names of the call's files are sources that are a safe program
pub record HasSafeProgram (call : Call) : Type 0 where
  pub contents : List (List ℕ)
  pub stand : MayStand call.shelf (limits_of call.job) (files_of call.job) contents
  pub safe : IsSafeProgram (sources_of call.job contents)

-- What a mode leaves behind for the end of the call, which tells what is to be told on `err`.
use Rattle.std.specs.Prelude.{ℕ, List, [], Option, Some}
use Rattle.scj_base.specs.declared.statuses.Status.{Status}
use Rattle.scj_base.specs.declared.statuses.Status.TheVariants.{WriteFault, PlanRefused}
use Rattle.scj_io.specs.Loads.{ShelfRun}
use Rattle.scj_io.specs.Puts.{SinkRun, PutWhole, PutFront}
use Rattle.command_line.specs.Job.{Job}
use Rattle.scj_cli.specs.Answers.{Answer}
use Rattle.scj_cli.specs.Jobs.{files_of, limits_of}
use Rattle.scj_cli.specs.Endings.{Comes, MayStand, IsCutShort}
use Rattle.scj_cli.specs.Refusals.{status_of, line_of}
use Rattle.scj_cli.specs.declared.refusals.Refusal.{Refusal}
use Rattle.scj_cli.specs.declared.refusals.Refusal.TheVariants.{Usage, Unread, Overlong, Unplanned, OutOfMemory}
use Rattle.scj_cli.specs.declared.refusals.ModeError.{ModeError}
use Rattle.scj_cli.specs.declared.refusals.ModeError.TheVariants.{Told, Broken}

-- the answer stands whole on `out`, and nothing is to be told on `err`
pub record IsAnswered (job : Option Job) (shelf : ShelfRun) (out : SinkRun) (status : Status) : Type 0 where
  pub text : List ℕ
  pub comes : Comes job shelf status text []
  pub put : PutWhole out text

-- nothing stands on `out` and the refusal is to be told on `err`; or the put of the answer failed; or a run was cut
-- short
pub data Stops (job : Option Job) (shelf : ShelfRun) (out : SinkRun) : ModeError → Type 0 where
  reported : {refusal : Refusal} →
      Comes job shelf (status_of refusal) [] (line_of refusal) → PutWhole out [] →
      Stops job shelf out (Told refusal)
  broken : {status : Status} {text : List ℕ} →
      Comes job shelf status text [] → PutFront out text →
      Stops job shelf out Broken
  cut_short : {contents : List (List ℕ)} →
      MayStand shelf (limits_of job) (files_of job) contents → IsCutShort out job contents →
      Stops job shelf out (Told OutOfMemory)

-- the refusals of a judgement of the job over these contents
abbrev pub RefusesForm : Job → List (List ℕ) → Refusal → Type 0
RefusesForm job contents Usage = ⊥
RefusesForm job contents (Unread line) = ⊥
RefusesForm job contents (Overlong line) = ⊥
RefusesForm job contents (Unplanned line) = Answer (Some job) contents PlanRefused [] line.items
RefusesForm job contents OutOfMemory = Unit {0}

-- the refusal's line was put whole and its status is the call's, or the put failed
pub data Tells (err : SinkRun) (refusal : Refusal) : Status → Type 0 where
  whole : PutWhole err (line_of refusal) → Tells err refusal (status_of refusal)
  fault : PutFront err (line_of refusal) → Tells err refusal WriteFault

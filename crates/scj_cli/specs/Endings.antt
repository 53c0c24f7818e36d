-- How a call may end: which status it tells, and what stands on the two sinks.
use Rattle.std.specs.Prelude.{◌≡◌, ◌⊎◌, ℕ, ◌<◌, ◌≤◌, List, [], ◌∷◌, ◌++◌, length, codes, Option, Some}
use Rattle.scj_base.specs.declared.statuses.Status.{Status}
use Rattle.scj_base.specs.declared.statuses.Status.TheVariants.{Done, Refused, Usage, Halted, PlanRefused, ReadFault, WriteFault, NoMemory, TooLong}
use Rattle.scj_io.specs.Counters.{Rose}
use Rattle.scj_io.specs.Loads.{Held, ShelfRun, MayHold, MayExceed}
use Rattle.scj_io.specs.Loads.Held.{Reported, Absent}
use Rattle.scj_io.specs.Puts.{SinkRun, PutWhole, PutFront}
use Rattle.scj_tree.specs.Forest.{Forest}
use Rattle.scj_model.specs.Plan.{Plan}
use Rattle.plain_machine.specs.Runs.{PutPart, trace_text}
use Rattle.command_line.specs.Job.{Job, Run}
use Rattle.scj_cli.specs.Jobs.{files_of, sources_among, plan_among, limits_of}
use Rattle.scj_cli.specs.Outcomes.{ComesTo, Ran}
use Rattle.scj_cli.specs.Answers.{Answer}

-- a call: its job, and what became of its shelf and its two sinks from its begin to its end
pub record Call : Type 0 where
  pub job : Option Job
  pub shelf : ShelfRun
  pub out : SinkRun
  pub err : SinkRun

abbrev pub call_of : Option Job → ShelfRun → SinkRun → SinkRun → Call
call_of job shelf out err = record { job = job; shelf = shelf; out = out; err = err }

-- the name is one of the names
pub data IsAmong (name : List ℕ) : List (List ℕ) → Type 0 where
  here : {names : List (List ℕ)} → IsAmong name (name ∷ names)
  later : {other : List ℕ} {names : List (List ℕ)} → IsAmong name names → IsAmong name (other ∷ names)

-- the contents, each within the limit of its name, may be what stands under the names
pub data MayStand (shelf : ShelfRun) (limits : List ℕ → ℕ) : List (List ℕ) → List (List ℕ) → Type 0 where
  none : MayStand shelf limits [] []
  next : {name content : List ℕ} {names contents : List (List ℕ)} →
      MayHold (shelf.held name) content → length content ≤ limits name →
      MayStand shelf limits names contents → MayStand shelf limits (name ∷ names) (content ∷ contents)

-- the loads get as far as the name: contents within its limit may be what is held under each name before it
pub data IsReached (held : List ℕ → Held) (limits : List ℕ → ℕ) (name : List ℕ) : List (List ℕ) → Type 0 where
  first : {names : List (List ℕ)} → IsReached held limits name (name ∷ names)
  behind : {other : List ℕ} {names : List (List ℕ)} (content : List ℕ) →
      MayHold (held other) content → length content ≤ limits other →
      IsReached held limits name names → IsReached held limits name (other ∷ names)

-- a load of the name failed
abbrev pub IsUnread : ShelfRun → List ℕ → Type 0
IsUnread shelf name = Rose (shelf.faults_before name) (shelf.faults_after name)

abbrev pub read_line : List ℕ → List ℕ
read_line name = codes "scj: read " ++ (name ++ codes "\n")

abbrev pub too_long_line : List ℕ → List ℕ
too_long_line name = codes "scj: too long " ++ (name ++ codes "\n")

abbrev pub memory_line : List ℕ
memory_line = codes "scj: memory\n"

-- a status comes with its texts on `out` and on `err`: as the answer of the job on contents that the
-- files may have, or for one of the three other causes; of files that can't be had the first of the job is told
pub data Comes (job : Option Job) (shelf : ShelfRun) : Status → List ℕ → List ℕ → Type 0 where
  answered : {contents : List (List ℕ)} {status : Status} {out err : List ℕ} →
      MayStand shelf (limits_of job) (files_of job) contents → Answer job contents status out err →
      Comes job shelf status out err
  unread : {name : List ℕ} →
      IsReached shelf.held (limits_of job) name (files_of job) → IsUnread shelf name →
      Comes job shelf ReadFault [] (read_line name)
  overlong : {name : List ℕ} →
      IsReached shelf.held (limits_of job) name (files_of job) → MayExceed (shelf.held name) (limits_of job name) →
      limits_of job name < shelf.most name →
      Comes job shelf TooLong [] (too_long_line name)
  out_of_memory :
      Comes job shelf NoMemory [] memory_line

-- the job runs an accepted program, and memory ran out when a front of its trace stood on `out`
pub data IsCutShort (out : SinkRun) : Option Job → List (List ℕ) → Type 0 where
  in_run : {plan_name : List ℕ} {names contents : List (List ℕ)} {forest : Forest} {plan : Plan} →
      ComesTo (sources_among names contents) (plan_among names contents) (Ran forest plan) →
      PutPart out (trace_text forest plan names) →
      IsCutShort out (Some (Run plan_name names)) contents

-- a call ends with a status that comes, and has put its texts whole; or a sink took no more than a front
-- of the text that was put on it, and nothing was put after that; or a run was cut short, and what is told of that was
-- put whole or up to a fault
pub data Ends (call : Call) : Status → Type 0 where
  whole : {status : Status} {out err : List ℕ} →
      Comes call.job call.shelf status out err → PutWhole call.out out → PutWhole call.err err →
      Ends call status
  fault_of_out : {status : Status} {out err : List ℕ} →
      Comes call.job call.shelf status out err → PutFront call.out out → PutWhole call.err [] →
      Ends call WriteFault
  fault_of_err : {status : Status} {out err : List ℕ} →
      Comes call.job call.shelf status out err → PutWhole call.out out → PutFront call.err err →
      Ends call WriteFault
  cut_short : {contents : List (List ℕ)} →
      MayStand call.shelf (limits_of call.job) (files_of call.job) contents → IsCutShort call.out call.job contents →
      PutWhole call.err memory_line →
      Ends call NoMemory
  cut_short_unreported : {contents : List (List ℕ)} →
      MayStand call.shelf (limits_of call.job) (files_of call.job) contents → IsCutShort call.out call.job contents →
      PutFront call.err memory_line →
      Ends call WriteFault

-- no load of a file of the job failed, and no put
pub record IsCalm (call : Call) : Type 0 where
  pub files : (name : List ℕ) → IsAmong name (files_of call.job) → IsUnread call.shelf name → ⊥
  pub out : Rose call.out.faults_before call.out.faults_after → ⊥
  pub err : Rose call.err.faults_before call.err.faults_after → ⊥

-- the contents, each within the limit of its name, are what is told of the names
pub data AreReported (held : List ℕ → Held) (limits : List ℕ → ℕ) : List (List ℕ) → List (List ℕ) → Type 0 where
  none : AreReported held limits [] []
  next : {name content : List ℕ} {names contents : List (List ℕ)} →
      held name ≡ Reported content → length content ≤ limits name →
      AreReported held limits names contents → AreReported held limits (name ∷ names) (content ∷ contents)

-- the call ends with the answer on these contents, or for want of memory, in a run also in its midst
pub data EndsBy (call : Call) (contents : List (List ℕ)) : Status → Type 0 where
  by_answer : {status : Status} {out err : List ℕ} →
      Answer call.job contents status out err → PutWhole call.out out → PutWhole call.err err →
      EndsBy call contents status
  by_memory : PutWhole call.out [] → PutWhole call.err memory_line → EndsBy call contents NoMemory
  by_memory_in_run : IsCutShort call.out call.job contents → PutWhole call.err memory_line →
      EndsBy call contents NoMemory

-- where the files are told and within their limits and nothing fails, the call ends with the answer
abbrev pub IsExact : Call → Status → Type 0
IsExact call status = (contents : List (List ℕ)) →
    AreReported call.shelf.held (limits_of call.job) (files_of call.job) contents → IsCalm call →
    EndsBy call contents status

-- where a file is told to be longer than its limit and nothing fails, that is told
abbrev pub IsLongExactly : Call → Status → Type 0
IsLongExactly call status = (name content : List ℕ) → IsAmong name (files_of call.job) →
    call.shelf.held name ≡ Reported content → limits_of call.job name < length content → IsCalm call →
    (status ≡ TooLong) ⊎ (status ≡ NoMemory)

-- the statuses that no contents of an absent file give
abbrev pub IsUnanswered : Status → Type 0
IsUnanswered Done = ⊥
IsUnanswered Refused = ⊥
IsUnanswered Usage = ⊥
IsUnanswered Halted = ⊥
IsUnanswered PlanRefused = ⊥
IsUnanswered ReadFault = Unit {0}
IsUnanswered WriteFault = Unit {0}
IsUnanswered NoMemory = Unit {0}
IsUnanswered TooLong = Unit {0}

-- where a file is told as absent, the status is none that rests on its contents
abbrev pub IsNeverAbsent : Call → Status → Type 0
IsNeverAbsent call status = (name : List ℕ) → IsAmong name (files_of call.job) → call.shelf.held name ≡ Absent →
    IsUnanswered status

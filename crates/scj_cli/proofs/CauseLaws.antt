-- From what each layer leaves to the causes of the call's status.
use Rattle.std.proofs.Common.{ℕ, List, [], Option, Some, None}
use Rattle.scj_base.specs.declared.statuses.Status.{Status}
use Rattle.scj_base.specs.declared.statuses.Status.TheVariants.{WriteFault}
use Rattle.scj_io.specs.Loads.{ShelfRun}
use Rattle.scj_io.specs.Puts.{SinkRun, sink_run, PutWhole}
use Rattle.scj_io.proofs.PutLaws.{PutWhole-nothing}
use Rattle.command_line.specs.Job.{Job}
use Rattle.scj_cli.specs.Jobs.{files_of, limits_of}
use Rattle.scj_cli.specs.Answers.Answer.{no_job}
use Rattle.scj_cli.specs.Endings.{call_of, MayStand, Comes, Ends}
use Rattle.scj_cli.specs.Endings.MayStand.{none}
use Rattle.scj_cli.specs.Endings.Comes.{answered, unread, overlong, out_of_memory}
use Rattle.scj_cli.specs.Endings.Ends.{whole, fault_of_out, fault_of_err, cut_short as end_cut_short, cut_short_unreported}
use Rattle.scj_cli.specs.Refusals.{status_of, line_of, RefusesLoads}
use Rattle.scj_cli.specs.Modes.{IsAnswered, Stops, RefusesForm, Tells}
use Rattle.scj_cli.specs.Modes.Stops.{reported, broken, cut_short}
use Rattle.scj_cli.specs.Modes.Tells.{whole as put_whole, fault as put_fault}
use Rattle.scj_cli.specs.declared.refusals.Refusal.{Refusal}
use Rattle.scj_cli.specs.declared.refusals.Refusal.TheVariants.{Usage, Unread, Overlong, Unplanned, OutOfMemory}
use Rattle.scj_cli.specs.declared.refusals.ModeError.TheVariants.{Told, Broken}

-- what the loads of a job's files were refused for is the cause of a status
pub Comes-loads : (job : Job) (shelf : ShelfRun) (refusal : Refusal) →
    RefusesLoads shelf (limits_of (Some job)) (files_of (Some job)) refusal → Comes (Some job) shelf (status_of refusal) [] (line_of refusal)
Comes-loads job shelf Usage refuses = absurd refuses
Comes-loads job shelf (Unread line) refuses = rw refuses.2.1 (unread refuses.1 refuses.2.0)
Comes-loads job shelf (Overlong line) refuses = rw refuses.2.2 (overlong refuses.1 refuses.2.0 refuses.2.1)
Comes-loads job shelf (Unplanned line) refuses = absurd refuses
Comes-loads job shelf OutOfMemory refuses = out_of_memory

-- what a judgement was refused for is the cause of a status
pub Comes-form : (job : Job) (shelf : ShelfRun) (contents : List (List ℕ)) (refusal : Refusal) →
    MayStand shelf (limits_of (Some job)) (files_of (Some job)) contents → RefusesForm job contents refusal →
    Comes (Some job) shelf (status_of refusal) [] (line_of refusal)
Comes-form job shelf contents Usage stands refuses = absurd refuses
Comes-form job shelf contents (Unread line) stands refuses = absurd refuses
Comes-form job shelf contents (Overlong line) stands refuses = absurd refuses
Comes-form job shelf contents (Unplanned line) stands refuses = answered stands refuses
Comes-form job shelf contents OutOfMemory stands refuses = out_of_memory

-- words that ask for nothing stop the call
pub Stops-no_job : (shelf : ShelfRun) (taken : Option (List ℕ)) (faults : ℕ) →
    Stops None shelf (sink_run taken taken faults faults) (Told Usage)
Stops-no_job shelf taken faults = reported (answered none no_job) (PutWhole-nothing taken faults)

-- from what the modes leave to the end of the call
pub Ends-answered : {job : Option Job} {shelf : ShelfRun} {out err : SinkRun} {status : Status} →
    IsAnswered job shelf out status → PutWhole err [] → Ends (call_of job shelf out err) status
Ends-answered answer untouched = whole answer.comes answer.put untouched

pub Ends-reported : {job : Option Job} {shelf : ShelfRun} {out err : SinkRun} {refusal : Refusal} {status : Status} →
    Stops job shelf out (Told refusal) → Tells err refusal status → Ends (call_of job shelf out err) status
Ends-reported (reported comes untouched) (put_whole put) = whole comes untouched put
Ends-reported (reported comes untouched) (put_fault put) = fault_of_err comes untouched put
Ends-reported (cut_short stands cut) (put_whole put) = end_cut_short stands cut put
Ends-reported (cut_short stands cut) (put_fault put) = cut_short_unreported stands cut put

pub Ends-broken : {job : Option Job} {shelf : ShelfRun} {out err : SinkRun} → Stops job shelf out Broken →
    PutWhole err [] → Ends (call_of job shelf out err) WriteFault
Ends-broken (broken comes put) untouched = fault_of_out comes put untouched

-- from the steps of a mode to its end
pub Stops-loads : (job : Job) (shelf : ShelfRun) (taken : Option (List ℕ)) (faults : ℕ) (refusal : Refusal) →
    RefusesLoads shelf (limits_of (Some job)) (files_of (Some job)) refusal → Stops (Some job) shelf (sink_run taken taken faults faults)
    (Told refusal)
Stops-loads job shelf taken faults refusal refuses =
    reported (Comes-loads job shelf refusal refuses) (PutWhole-nothing taken faults)

pub Stops-form : (job : Job) (shelf : ShelfRun) (contents : List (List ℕ)) (taken : Option (List ℕ)) (faults : ℕ)
    (refusal : Refusal) → MayStand shelf (limits_of (Some job)) (files_of (Some job)) contents → RefusesForm job contents refusal →
    Stops (Some job) shelf (sink_run taken taken faults faults) (Told refusal)
Stops-form job shelf contents taken faults refusal stands refuses =
    reported (Comes-form job shelf contents refusal stands refuses) (PutWhole-nothing taken faults)

-- words that were not read for want of memory
pub Stops-words : (job : Option Job) (shelf : ShelfRun) (taken : Option (List ℕ)) (faults : ℕ) →
    Stops job shelf (sink_run taken taken faults faults) (Told OutOfMemory)
Stops-words job shelf taken faults = reported out_of_memory (PutWhole-nothing taken faults)

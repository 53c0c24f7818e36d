-- A machine as its callers see it, and where its steps lead.
use Rattle.std.specs.Prelude.{◌≡◌, ◌+◌, ℕ, Bool, true, false, List}
use Rattle.scj_io.specs.Puts.{SinkRun}
use Rattle.scj_tree.specs.Forest.{Forest}
use Rattle.scj_model.specs.Plan.{Plan}
use Rattle.scj_model.specs.Run.{has_ended}
use Rattle.scj_model.specs.State.{State}
use Rattle.op_list.specs.Listed.{Listing}
use Rattle.region_heap.specs.declared.open_areas.Area.{Area}
use Rattle.region_heap.specs.OpenAreas.{open_areas}
use Rattle.plain_machine.specs.Lawful.{IsLawful}
use Rattle.plain_machine.specs.Printing.{PrinterSeen}
use Rattle.plain_machine.specs.Reported.{BreaksOffFrom, PutsRest, PutsUnit}
use Rattle.plain_machine.specs.UnderWay.{IsBetween, IsLast, IsNeverStuck, run_at}
use Rattle.plain_machine.specs.declared.runs.RunEnd.{RunEnd}
use Rattle.plain_machine.specs.declared.runs.RunError.{RunError}
use Rattle.plain_machine.specs.declared.steps.Progress.{Progress}
use Rattle.plain_machine.specs.declared.steps.Progress.TheVariants.{Went, Finished}
use Rattle.plain_machine.specs.declared.under_way.UnderWay.{UnderWay}

-- what runs, the names of its files, the plan, how many units are spent, and whether there may be a further step
pub record MachineSeen : Type 0 where
  pub program : Forest
  pub names : List (List ℕ)
  pub plan : Plan
  pub spent : ℕ
  pub is_live : Bool

abbrev pub machine_seen : Forest → Plan → PrinterSeen → UnderWay → Bool → MachineSeen
machine_seen program plan printer at is_live =
    record { program = program; names = printer.names; plan = plan; spent = at.state.unit; is_live = is_live }

-- the machine after so many units
abbrev pub having_spent : ℕ → MachineSeen → MachineSeen
having_spent n m = record m { spent = n }

-- the machine after so many units, with no further step
abbrev pub over_after : ℕ → MachineSeen → MachineSeen
over_after n m = record m { spent = n; is_live = false }

-- the areas that are open in a state, in the order in which they were opened
abbrev pub areas_in : State → List Area
areas_in s = open_areas s.objects 0 s.areas

-- a machine's parts are those of one program, whose run is never stuck and keeps the laws that the machine counts on,
-- and a live one stands where the reference machine stands
pub record IsMachine (code : Listing) (classes : Forest) (plan : Plan) (printer : PrinterSeen) (at : UnderWay) (is_live : Bool) :
    Type 0 where
  pub same : classes ≡ code.program
  pub printed : printer.program ≡ code.program
  pub never : IsNeverStuck code.program plan
  pub lawful : IsLawful code plan
  pub stands : is_live ≡ true → IsBetween code plan at

-- whether a further step comes
abbrev pub goes_on : Progress → Bool
goes_on Went = true
goes_on (Finished end) = false

-- a unit was spent, and the run goes on
pub record IsFurther (before after : MachineSeen) (out : SinkRun) : Type 0 where
  pub machine : after ≡ having_spent (before.spent + 1) before
  pub goes_on : has_ended (run_at before.program before.plan (before.spent + 1)) ≡ false
  pub puts : PutsUnit before.program before.plan before.names before.spent out

-- the run has ended
pub record IsFinished (before after : MachineSeen) (out : SinkRun) (end : RunEnd) : Type 0 where
  pub machine : after ≡ over_after after.spent before
  pub last : IsLast before.program before.plan before.spent after.spent
  pub puts : PutsRest before.program before.plan before.names before.spent out end

abbrev pub Steps : MachineSeen → MachineSeen → SinkRun → Progress → Type 0
Steps before after out Went = IsFurther before after out
Steps before after out (Finished end) = IsFinished before after out end

-- the run broke off
pub record IsBroken (before after : MachineSeen) (out : SinkRun) (stop : RunError) : Type 0 where
  pub machine : after ≡ over_after after.spent before
  pub broke : BreaksOffFrom before.program before.plan before.names before.spent out stop

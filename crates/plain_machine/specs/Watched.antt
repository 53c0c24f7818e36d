-- A run under way whose needs of memory areas are noted.
use Rattle.std.specs.Prelude.{◌≡◌, ℕ, true, Some, None, is_some, length}
use Rattle.std.specs.List.{last_or}
use Rattle.scj_tree.specs.Forest.{Forest}
use Rattle.scj_model.specs.declared.events.Event.{Event}
use Rattle.scj_model.specs.Choice.{by_priority}
use Rattle.scj_model.specs.Code.{code_of}
use Rattle.op_list.specs.Listed.{Listing}
use Rattle.scj_model.specs.Plan.{Plan}
use Rattle.scj_model.specs.Reached.{Arrived, Reached}
use Rattle.scj_model.specs.State.{State}
use Rattle.area_needs.specs.Needs.{needs_after}
use Rattle.area_growth.specs.Growth.{AreSituated}
use Rattle.area_tables.specs.declared.tables.AreaTable.{AreaTable}
use Rattle.area_tables.specs.Standing.{Reports}
use Rattle.plain_machine.specs.AreaTexts.{last_fault}
use Rattle.plain_machine.specs.Ends.{end_reported}
use Rattle.plain_machine.specs.Runs.{trace_of}
use Rattle.plain_machine.specs.UnderWay.{IsBetween, run_at}
use Rattle.plain_machine.specs.declared.watched.Watched.{Watched}

-- operations are situated after the arrivals of each unit
pub record IsSituatedRun (forest : Forest) (plan : Plan) : Type 0 where
  pub at : (s : State) → Reached (code_of forest) plan by_priority Arrived s →
      AreSituated (code_of forest) plan.readings s

abbrev pub class_count : Forest → ℕ
class_count forest = length (code_of forest).program.classes

-- the table tells what the run has needed after so many units
abbrev pub ReportsNeeds : Forest → Plan → ℕ → AreaTable → Type 0
ReportsNeeds forest plan n table =
    Reports (class_count forest) (run_at forest plan n).state (needs_after (code_of forest) plan n) table

-- before the next unit
pub record IsWatched (code : Listing) (plan : Plan) (run : Watched) : Type 0 where
  pub between : IsBetween code plan run.at
  pub reports : ReportsNeeds code.program plan run.at.state.unit run.table
  pub fault : run.fault ≡ last_fault None (run_at code.program plan run.at.state.unit).events

-- after the last
pub record HasEndedWith (forest : Forest) (plan : Plan) (run : Watched) (last : Event) : Type 0 where
  pub reports : ReportsNeeds forest plan plan.units run.table
  pub fault : run.fault ≡ last_fault None (trace_of forest plan)
  pub is_last : last_or None (trace_of forest plan) ≡ Some last
  pub ends : is_some (end_reported last) ≡ true

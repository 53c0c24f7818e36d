-- The text that tells what areas a run needs: a line for each scope of which an area was opened, one for the store, and
-- the end of the run's trace.
use Rattle.std.specs.Prelude.{◌≡◌, ℕ, ◌+◌, ◌==◌, nat_lt, List, [], ◌∷◌, ◌++◌, length, flat_map, codes, decimal, Option, Some, None, option_to_list, if◌then◌else◌}
use Rattle.std.specs.List.{last_or}
use Rattle.scj_io.specs.Puts.{SinkRun, PutWhole}
use Rattle.scj_rules.specs.Definitions.{immortal}
use Rattle.scj_rules.specs.ScopeRules.{definition_in, definer, immortal_scope}
use Rattle.scj_rules.specs.Contexts.{Declarations}
use Rattle.scj_tree.specs.Forest.{Forest}
use Rattle.scj_model.specs.declared.events.Event.{Event}
use Rattle.scj_model.specs.declared.events.Event.TheVariants as line
use Rattle.scj_model.specs.Choice.{by_priority}
use Rattle.scj_model.specs.Code.{code_of}
use Rattle.scj_model.specs.Plan.{Plan}
use Rattle.scj_model.specs.Run.{run}
use Rattle.scj_model.specs.TraceText.{text}
use Rattle.area_needs.specs.Needs.{Needs, needs_after}
use Rattle.area_needs.specs.ScopeRows.{ScopeRow, rows_of}
use Rattle.area_tables.specs.declared.rows.NeedRow.{NeedRow}
use Rattle.plain_machine.specs.Ends.{end_of}
use Rattle.plain_machine.specs.Runs.{trace_of}
use Rattle.plain_machine.specs.declared.runs.RunEnd.{RunEnd}
use Rattle.plain_machine.specs.declared.runs.RunEnd.TheVariants.{Halted}

-- the name of a scope
unfoldable pub scope_name : Declarations → ℕ → List ℕ
scope_name p scope =
    if scope == immortal_scope then immortal
    else (elim (definition_in p (definer scope)) [ None ↦ [] | Some d ↦ d.scope.name ])

-- what stands behind the name
unfoldable pub row_words : ℕ → ℕ → ℕ → ℕ → List ℕ
row_words opened declared used refused =
    codes " opened "
    ++ (decimal opened
    ++ (codes " declared "
    ++ (decimal declared
    ++ (codes " used " ++ (decimal used ++ (codes " refused " ++ (decimal refused ++ codes "\n")))))))

unfoldable pub row_line : Declarations → ScopeRow → List ℕ
row_line p row = scope_name p row.scope ++ row_words row.opened row.declared row.used row.refused

-- the most that was reserved at once, and the bytes of the store
unfoldable pub store_line : ℕ → ℕ → List ℕ
store_line reserved store = codes "store " ++ (decimal reserved ++ (codes " of " ++ (decimal store ++ codes "\n")))

-- ---- the end of the trace

unfoldable pub as_fault : Event → Option Event
as_fault (line.Fault unit fault position) = Some (line.Fault unit fault position)
as_fault _ = None

-- the last fault of these events, or else the one that is known
unfoldable pub last_fault : Option Event → List Event → Option Event
last_fault known [] = known
last_fault known (event ∷ events) = last_fault (elim (as_fault event) [ None ↦ known | Some fault ↦ Some fault ]) events

-- where a run halted, its fault
unfoldable pub halting : Option RunEnd → Option Event → Option Event
halting (Some Halted) fault = fault
halting _ fault = None

-- the last event, and before it the fault that halted the run
abbrev pub end_events : List Event → List Event
end_events events =
    option_to_list (halting (end_of events) (last_fault None events)) ++ option_to_list (last_or None events)

-- ---- all of it

unfoldable pub rows_text : Forest → Plan → List ℕ
rows_text forest plan =
    let needs : Needs = needs_after (code_of forest) plan plan.units in
    flat_map (row_line (code_of forest).program)
    (rows_of (length (code_of forest).program.classes) (run (code_of forest) plan by_priority plan.units).state
    needs.refusals)
    ++ store_line needs.reserved plan.store

unfoldable pub areas_text : Forest → Plan → List (List ℕ) → List ℕ
areas_text forest plan names = rows_text forest plan ++ text forest.nodes names (end_events (trace_of forest plan))

-- the whole text was put, and the trace's last line tells this end
pub record ReportsAreas (forest : Forest) (plan : Plan) (names : List (List ℕ)) (out : SinkRun) (end : RunEnd) : Type 0
  where
    pub put : PutWhole out (areas_text forest plan names)
    pub ends : end_of (trace_of forest plan) ≡ Some end

-- the line of a row that stands at the number of its scope, where an area was opened
unfoldable pub need_line : Declarations → ℕ → NeedRow → List ℕ
need_line p scope row =
    if nat_lt 0 row.opened then scope_name p scope ++ row_words row.opened row.declared row.used row.refused else []

-- those of rows from this scope on
unfoldable pub lines_from : Declarations → ℕ → List NeedRow → List ℕ
lines_from p scope [] = []
lines_from p scope (row ∷ rows) = need_line p scope row ++ lines_from p (scope + 1) rows

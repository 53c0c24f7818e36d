-- Which line passes, and what it does to a replay.
use Rattle.std.specs.Prelude.{ℕ, ◌+◌, ◌==◌, nat_le, nat_lt, Bool, true, false, not, ◌&&◌, ◌||◌, List, length, Option, Some, None, if◌then◌else◌, is_none}
use Rattle.std.specs.List.{list_any}
use Rattle.std.specs.Str.{bytes_eq}
use Rattle.scj_rules.specs.Words.{holds}
use Rattle.scj_model.specs.Arrivals.{comes_in}
use Rattle.scj_model.specs.Plan.{Plan}
use Rattle.scj_model.specs.declared.plans.Fire.{Fire}
use Rattle.trace_audit.specs.declared.choices.Choice.{Choice}
use Rattle.trace_audit.specs.declared.choices.Choice.TheVariants.{Idle as Nobody, Chosen}
use Rattle.trace_audit.specs.declared.lines.Entry.{Entry}
use Rattle.trace_audit.specs.declared.lines.Entry.TheVariants.{Mission, Register, Exec, Arrive, Miss, Run, Idle, Prio, End, Drop, Cleanup, Done, Halted, Stopped}
use Rattle.trace_audit.specs.declared.lines.Line.{Line}
use Rattle.trace_audit.specs.Replay.{Replay, Releases, differs, is_executing, picked, picked_index, is_same_choice, handler_at, release_named, no_releases, registered, arrived, started, raised, gone, is_waiting}

-- ---- units

abbrev pub is_above : Option ℕ → ℕ → Bool
is_above None unit = true
is_above (Some u) unit = nat_lt u unit

abbrev pub is_from : Option ℕ → ℕ → Bool
is_from None unit = true
is_from (Some u) unit = nat_le u unit

-- the line is the first one of its unit
abbrev pub is_first : Replay → ℕ → Bool
is_first replay unit = is_above replay.unit unit

-- the unit isn't below that of the line before
abbrev pub is_in_order : Replay → ℕ → Bool
is_in_order replay unit = is_from replay.unit unit

-- `stopped` has the plan's units, every other line a smaller unit
abbrev pub is_within : Plan → Line → Bool
is_within plan line = elim line.entry [ Stopped ↦ line.unit == plan.units | _ ↦ nat_lt line.unit plan.units ]

-- no choice was missed: asked where Exec runs, of the first line of a unit that has a line of an earlier unit before
-- it. A choice that was owed when that unit began stands in it; and where Pick isn't the last choice now, the next unit
-- has a line
abbrev pub misses_no_choice : Replay → ℕ → Bool
misses_no_choice replay unit =
    elim replay.unit [
      | None ↦ true
      | Some u ↦
          if is_executing replay && nat_lt u unit
          then (not replay.owes_choice || replay.has_choice) && (not (differs replay) || (unit == u + 1))
          else true
    ]

-- ---- entries

-- the fire comes in the unit, and names the handler's class; the origin is that of a mission that executes
abbrev pub is_fire : Option ℕ → ℕ → List ℕ → Fire → Bool
is_fire origin unit name fire = comes_in origin unit fire && bytes_eq fire.handler name

-- the last choice was a release of this handler
abbrev pub is_of : ℕ → Choice → Bool
is_of handler Nobody = false
is_of handler (Chosen k n) = k == handler

-- the choice is Pick, and not the last choice
abbrev pub is_right_choice : Replay → Choice → Bool
is_right_choice replay choice = is_same_choice choice (picked replay.all) && differs replay

unfoldable pub entry_passes : Plan → Replay → ℕ → Entry → Bool
entry_passes plan replay unit (Register handler priority) = handler == length replay.all.handlers + 1
entry_passes plan replay unit (Arrive handler number) =
    holds (handler_at replay.all.handlers handler) (λ h. number == h.arrived + 1)
entry_passes plan replay unit (Miss name) =
    list_any (is_fire replay.executes_since unit name) plan.fires
entry_passes plan replay unit (Run handler number) = is_right_choice replay (Chosen handler number)
entry_passes plan replay unit Idle = is_right_choice replay Nobody
entry_passes plan replay unit (Prio handler priority) = holds replay.last_choice (is_of handler)
entry_passes plan replay unit (End handler number) =
    holds replay.last_choice (is_same_choice (Chosen handler number))
entry_passes plan replay unit (Drop handler number) =
    holds (release_named replay.all.releases handler number) is_waiting
entry_passes plan replay unit Cleanup = is_none (picked_index replay.all)
entry_passes plan replay unit _ = true

-- an arrival is the handler's next
abbrev pub fits_entry : Releases → Entry → Bool
fits_entry all entry =
    elim entry [
      | Arrive handler number ↦ holds (handler_at all.handlers handler) (λ h. number == h.arrived + 1)
      | _ ↦ true
    ]

-- ---- a line

-- a line passes
abbrev pub passes : Plan → Replay → Line → Bool
passes plan replay line =
    not replay.is_over
    && (is_in_order replay line.unit
    && (is_within plan line
    && (misses_no_choice replay line.unit && entry_passes plan replay line.unit line.entry)))

-- the unit of a line begins, if it is the first one of it
abbrev pub begun : Replay → ℕ → Replay
begun replay unit =
    if is_first replay unit
    then record replay {
      unit = Some unit;
      owes_choice = is_executing replay && differs replay;
      has_choice = false;
    }
    else replay

-- the number of the release that a choice is
abbrev pub number_in : Choice → ℕ
number_in Nobody = 0
number_in (Chosen k n) = n

abbrev pub number_if : Option Choice → ℕ
number_if None = 0
number_if (Some choice) = number_in choice

-- the number of the last choice, if that was a release
abbrev pub last_number : Replay → ℕ
last_number replay = number_if replay.last_choice

-- the releases behind an entry
unfoldable pub table_done : Replay → Entry → Releases
table_done replay Mission = no_releases
table_done replay (Register handler priority) = registered priority replay.all
table_done replay (Arrive handler number) = arrived handler number replay.all
table_done replay (Run handler number) = started handler number replay.all
table_done replay (Prio handler priority) = raised priority handler (last_number replay) replay.all
table_done replay (End handler number) = gone handler number replay.all
table_done replay (Drop handler number) = gone handler number replay.all
table_done replay _ = replay.all

-- the rest of the replay behind an entry of a unit
unfoldable pub rest_done : Replay → ℕ → Entry → Replay
rest_done replay unit Exec = record replay { executes_since = Some (unit + 1); last_choice = None }
rest_done replay unit (Run handler number) =
    record replay { last_choice = Some (Chosen handler number); has_choice = true }
rest_done replay unit Idle = record replay { last_choice = Some Nobody; has_choice = true }
rest_done replay unit Cleanup = record replay { executes_since = None }
rest_done replay unit Done = record replay { is_over = true }
rest_done replay unit Halted = record replay { is_over = true }
rest_done replay unit Stopped = record replay { is_over = true }
rest_done replay unit _ = replay

abbrev pub entry_done : Replay → ℕ → Entry → Replay
entry_done replay unit entry = rest_done (record replay { all = table_done replay entry }) unit entry

-- the replay behind a line; none where the line doesn't pass
unfoldable pub replayed : Plan → Replay → Line → Option Replay
replayed plan replay line =
    if passes plan replay line then Some (entry_done (begun replay line.unit) line.unit line.entry) else None

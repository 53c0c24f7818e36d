-- What the printed lines of a run tell: the line of each event, as far as an audit asks, and the forms that the parts of
-- an event have to have so that its line is read back.
use Rattle.std.specs.Prelude.{◌≡◌, ℕ, ◌+◌, ◌^◌, ◌<◌, ◌≤◌, true, All, List, [], ◌∷◌, ℤ, pos, negsuc, Some, None, if◌then◌else◌}
use Rattle.std.specs.List.{list_all}
use Rattle.scj_base.specs.Lexeme.{is_name, is_text_byte}
use Rattle.scj_tree.specs.declared.nodes.Node.{Node}
use Rattle.scj_model.specs.declared.events.Event.{Event}
use Rattle.scj_model.specs.declared.events.Event.TheVariants as event
use Rattle.scj_model.specs.TraceText.{file_name, label, unit_of}
use Rattle.trace_audit.specs.declared.lines.Entry.{Entry}
use Rattle.trace_audit.specs.declared.lines.Entry.TheVariants.{Mission, Register, Exec, Arrive, Lost, Miss, Run, Idle, Prio, Print, Fault, End, Terminate, Drop, Cleanup, Done, Halted, Stopped}
use Rattle.trace_audit.specs.declared.lines.Line.{Line}
use Rattle.scj_model.specs.Plan.{Plan}
use Rattle.trace_audit.specs.declared.answers.Audit.{Audit}
use Rattle.trace_audit.specs.declared.answers.Audit.TheVariants.{Yes, No}
use Rattle.trace_audit.specs.Parts.{is_file_name}
use Rattle.trace_audit.specs.Passing.{replayed}
use Rattle.trace_audit.specs.Replay.{Replay}

-- what an event tells
unfoldable pub entry_reported : Event → Entry
entry_reported (event.Mission unit class) = Mission
entry_reported (event.Register unit handler class priority) = Register handler priority
entry_reported (event.Exec unit) = Exec
entry_reported (event.Arrive unit handler number) = Arrive handler number
entry_reported (event.Lost unit handler) = Lost
entry_reported (event.Miss unit name) = Miss name
entry_reported (event.Run unit handler number) = Run handler number
entry_reported (event.Idle unit) = Idle
entry_reported (event.Prio unit handler priority) = Prio handler priority
entry_reported (event.Print unit text value) = Print
entry_reported (event.Fault unit fault position) = Fault
entry_reported (event.End unit handler number) = End handler number
entry_reported (event.Terminate unit) = Terminate
entry_reported (event.Drop unit handler number) = Drop handler number
entry_reported (event.Cleanup unit) = Cleanup
entry_reported (event.Done unit) = Done
entry_reported (event.Halted unit) = Halted
entry_reported (event.Stopped unit) = Stopped

abbrev pub line_reported : Event → Line
line_reported e = record { unit = unit_of e; entry = entry_reported e }

-- ---- forms

abbrev pub IsHandlerNumber : ℕ → Type 0
IsHandlerNumber n = (1 ≤ n) × (n ≤ 64)

abbrev pub IsPriorityNumber : ℕ → Type 0
IsPriorityNumber n = (1 ≤ n) × (n ≤ 28)

abbrev pub Has64Bits : ℕ → Type 0
Has64Bits n = n < 2 ^ 64

abbrev pub Has32Bits : ℤ → Type 0
Has32Bits (pos n) = n ≤ 2147483647
Has32Bits (negsuc n) = n ≤ 2147483647

abbrev pub HasParts : List Node → List (List ℕ) → Event → Type 0
HasParts nodes files (event.Mission unit class) = is_name class ≡ true
HasParts nodes files (event.Register unit handler class priority) =
    IsHandlerNumber handler × (is_name class ≡ true) × IsPriorityNumber priority
HasParts nodes files (event.Arrive unit handler number) = IsHandlerNumber handler × Has64Bits number
HasParts nodes files (event.Lost unit handler) = IsHandlerNumber handler
HasParts nodes files (event.Miss unit name) = is_name name ≡ true
HasParts nodes files (event.Run unit handler number) = IsHandlerNumber handler × Has64Bits number
HasParts nodes files (event.Prio unit handler priority) = IsHandlerNumber handler × IsPriorityNumber priority
HasParts nodes files (event.Print unit text value) =
    (list_all is_text_byte (label nodes text) ≡ true) × Has32Bits value
HasParts nodes files (event.Fault unit fault position) =
    (is_file_name (file_name files position.file) ≡ true) × (1 ≤ position.line) × Has64Bits position.line
HasParts nodes files (event.End unit handler number) = IsHandlerNumber handler × Has64Bits number
HasParts nodes files (event.Drop unit handler number) = IsHandlerNumber handler × Has64Bits number
HasParts nodes files e = Unit {0}

-- the parts of an event can be read back: names are names, texts texts, and numbers as large as they may be
pub record HasForm (nodes : List Node) (files : List (List ℕ)) (e : Event) : Type 0 where
  pub unit : Has64Bits (unit_of e)
  pub parts : HasParts nodes files e

-- ---- whole traces

-- the events of a trace audited behind those of a replay; the first has this number
unfoldable pub audit_reported : Plan → Replay → ℕ → List Event → Audit
audit_reported plan replay number [] = if replay.is_over then Yes else No number
audit_reported plan replay number (e ∷ events) =
    elim (replayed plan replay (line_reported e)) [
      | None ↦ No number
      | Some after ↦ audit_reported plan after (number + 1) events
    ]

-- each event can be read back
pub record HaveForms (nodes : List Node) (files : List (List ℕ)) (events : List Event) : Type 0 where
  pub is : All (HasForm nodes files) events

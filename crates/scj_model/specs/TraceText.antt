-- The text of a trace: a line for each event (this project's profile).
use Rattle.std.specs.Prelude.{ℕ, List, [], ◌++◌, flat_map, slice_get, Option, Some, None, codes, decimal}
use Rattle.std.specs.Fmt.{signed_decimal}
use Rattle.scj_base.specs.RunFault.{text_of}
use Rattle.scj_tree.specs.declared.nodes.Node.{Node}
use Rattle.scj_tree.specs.declared.nodes.Node.TheVariants.{Text}
use Rattle.scj_rules.specs.Definitions.{read}
use Rattle.scj_model.specs.declared.events.Event.{Event}
use Rattle.scj_model.specs.declared.events.Event.TheVariants.{Mission, Register, Exec, Arrive, Lost, Miss, Run, Idle, Prio, Print, Fault, End, Terminate, Drop, Cleanup, Done, Halted, Stopped}

-- the bytes between the quotes of a text
unfoldable pub bytes_of_text : Node → Option (List ℕ)
bytes_of_text (Text position bytes) = Some bytes
bytes_of_text _ = None

abbrev pub label : List Node → ℕ → List ℕ
label nodes id = elim (read nodes bytes_of_text id) [ None ↦ [] | Some bytes ↦ bytes ]

-- the name of a file
abbrev pub file_name : List (List ℕ) → ℕ → List ℕ
file_name files file = elim (slice_get files file) [ None ↦ [] | Some name ↦ name ]

-- a number behind a blank
abbrev pub number : ℕ → List ℕ
number n = codes " " ++ decimal n

-- what stands behind the unit
unfoldable pub words_of : List Node → List (List ℕ) → Event → List ℕ
words_of nodes files (Mission unit class) = codes " mission " ++ class
words_of nodes files (Register unit handler class priority) =
    codes " register" ++ number handler ++ codes " " ++ class ++ number priority
words_of nodes files (Exec unit) = codes " exec"
words_of nodes files (Arrive unit handler n) = codes " arrive" ++ number handler ++ number n
words_of nodes files (Lost unit handler) = codes " lost" ++ number handler
words_of nodes files (Miss unit name) = codes " miss " ++ name
words_of nodes files (Run unit handler n) = codes " run" ++ number handler ++ number n
words_of nodes files (Idle unit) = codes " idle"
words_of nodes files (Prio unit handler priority) = codes " prio" ++ number handler ++ number priority
words_of nodes files (Print unit text value) =
    codes " print " ++ label nodes text ++ codes " " ++ signed_decimal value
words_of nodes files (Fault unit fault position) =
    codes " fault " ++ text_of fault ++ codes " " ++ file_name files position.file ++ codes ":" ++ decimal position.line
words_of nodes files (End unit handler n) = codes " end" ++ number handler ++ number n
words_of nodes files (Terminate unit) = codes " terminate"
words_of nodes files (Drop unit handler n) = codes " drop" ++ number handler ++ number n
words_of nodes files (Cleanup unit) = codes " cleanup"
words_of nodes files (Done unit) = codes " done"
words_of nodes files (Halted unit) = codes " halted"
words_of nodes files (Stopped unit) = codes " stopped"

unfoldable pub unit_of : Event → ℕ
unit_of (Mission unit class) = unit
unit_of (Register unit handler class priority) = unit
unit_of (Exec unit) = unit
unit_of (Arrive unit handler n) = unit
unit_of (Lost unit handler) = unit
unit_of (Miss unit name) = unit
unit_of (Run unit handler n) = unit
unit_of (Idle unit) = unit
unit_of (Prio unit handler priority) = unit
unit_of (Print unit text value) = unit
unit_of (Fault unit fault position) = unit
unit_of (End unit handler n) = unit
unit_of (Terminate unit) = unit
unit_of (Drop unit handler n) = unit
unit_of (Cleanup unit) = unit
unit_of (Done unit) = unit
unit_of (Halted unit) = unit
unit_of (Stopped unit) = unit

-- the line of an event
unfoldable pub line_of : List Node → List (List ℕ) → Event → List ℕ
line_of nodes files event = decimal (unit_of event) ++ words_of nodes files event ++ codes "\n"

-- the text of a trace
unfoldable pub text : List Node → List (List ℕ) → List Event → List ℕ
text nodes files events = flat_map (line_of nodes files) events

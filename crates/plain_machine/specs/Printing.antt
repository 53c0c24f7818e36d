-- What a printer of a trace knows, and where putting a text breaks off.
use Rattle.std.specs.Prelude.{◌≡◌, ◌≤◌, ℕ, List, length}
use Rattle.scj_io.specs.Puts.{SinkRun, PutFront}
use Rattle.scj_tree.specs.Forest.{Forest}
use Rattle.trace_print.specs.Room.{room_for}
use Rattle.plain_machine.specs.Runs.{PutPart}
use Rattle.plain_machine.specs.declared.runs.RunError.{RunError}
use Rattle.plain_machine.specs.declared.runs.RunError.TheVariants.{Memory, Failed}

-- the program whose events are printed, and the names of its files
pub record PrinterSeen : Type 0 where
  pub program : Forest
  pub names : List (List ℕ)

-- each file has a name, and the line has room for each event
pub record IsPrinter (program : Forest) (names : List (List ℕ)) (room : ℕ) : Type 0 where
  pub named : length program.files ≡ length names
  pub fits : room_for program.nodes names ≤ room

-- putting a text breaks off: for want of memory with a front of it put, or at a put that failed
abbrev pub BreaksOffIn : List ℕ → SinkRun → RunError → Type 0
BreaksOffIn bytes out Memory = PutPart out bytes
BreaksOffIn bytes out Failed = PutFront out bytes

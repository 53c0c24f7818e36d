-- How much room the longest line of a trace takes.
use Rattle.std.specs.Prelude.{ℕ, zero, suc, ◌+◌, ◌<◌, max, List, length}
use Rattle.scj_tree.specs.declared.nodes.Node.{Node}
use Rattle.scj_model.specs.declared.events.Event.{Event}
use Rattle.scj_model.specs.declared.events.Event.TheVariants.{Fault}
use Rattle.scj_model.specs.TraceText.{label, file_name}

-- the greatest of the first so many numbers of a sequence
unfoldable pub greatest : (ℕ → ℕ) → ℕ → ℕ
greatest numbers zero = 0
greatest numbers (suc n) = max (numbers n) (greatest numbers n)

-- the length of the longest text among the nodes
abbrev pub longest_text : List Node → ℕ
longest_text nodes = greatest (λ id. length (label nodes id)) (length nodes)

-- the length of the longest name of a file
abbrev pub longest_name : List (List ℕ) → ℕ
longest_name files = greatest (λ file. length (file_name files file)) (length files)

-- room for each line of a trace: for all of it that is no name of a file and no text of the program, and for these
unfoldable pub room_for : List Node → List (List ℕ) → ℕ
room_for nodes files = 256 + longest_text nodes + longest_name files

-- a fault stands in one of the files
abbrev pub StandsInFile : List (List ℕ) → Event → Type 0
StandsInFile files (Fault unit fault position) = position.file < length files
StandsInFile files _ = Unit {0}

-- How a key is printed in a line that tells of it: on one line, whatever it holds.
use Rattle.std.specs.Prelude.{ℕ, List, map, take, if◌then◌else◌}
use Rattle.command_line.specs.Job.{is_printable}

-- the most bytes of a key that are printed
abbrev pub most_shown : ℕ
most_shown = 256

-- a byte as it is printed: a control byte as `?`
abbrev pub shown_byte : ℕ → ℕ
shown_byte b = if is_printable b then b else 63

-- a key as it is printed: of a longer one the first bytes
unfoldable pub shown_key : List ℕ → List ℕ
shown_key key = map shown_byte (take most_shown key)

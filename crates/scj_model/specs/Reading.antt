-- What a port of the device reads (the device is this project's profile).
use Rattle.std.specs.Prelude.{ℕ, nat_lt, not, ◌&&◌, ◌==◌, List, [], ◌∷◌, ℤ, pos, Option, Some, None, if◌then◌else◌, Bool}
use Rattle.scj_model.specs.declared.plans.ReadingRow.{ReadingRow}

-- a row of the port that counts at the unit
abbrev pub counts_at : ℕ → ℕ → ReadingRow → Bool
counts_at port unit row = (row.port == port) && not (nat_lt unit row.at)

-- of two rows, of which the second stands later in the list, the one that counts
abbrev pub later_row : ReadingRow → Option ReadingRow → ReadingRow
later_row first None = first
later_row first (Some second) = if nat_lt second.at first.at then first else second

-- the row of the port with the greatest `at` that isn't above the unit, the later row at a tie
unfoldable pub row_at : List ReadingRow → ℕ → ℕ → Option ReadingRow
row_at [] port unit = None
row_at (row ∷ rows) port unit =
    if counts_at port unit row then Some (later_row row (row_at rows port unit)) else row_at rows port unit

-- what the port reads in the unit: 0 without a row
unfoldable pub reading : List ReadingRow → ℕ → ℕ → ℤ
reading rows port unit = elim (row_at rows port unit) [ None ↦ pos 0 | Some row ↦ row.value ]

-- What is declared of the handlers, and the work that follows from it: how long others of lower priority may block the
-- releases of a row, and how much is to be done in so many units.
use Rattle.std.specs.Prelude.{◌≡◌, ◌≤◌, ℕ, ◌+◌, ◌-◌, ◌*◌, ◌/◌, ◌==◌, nat_lt, not, ◌&&◌, List, length, slice_get, Some, None, if◌then◌else◌}
use Rattle.response_bounds.specs.declared.rows.Declared.{Declared}
use Rattle.response_bounds.specs.Sums.{sum_below, max_below}

-- ---- the limits of what is declared

abbrev pub most_rows : ℕ
most_rows = 64

abbrev pub most_units : ℕ
most_units = 10000000

abbrev pub highest_priority : ℕ
highest_priority = 28

pub record IsDeclared (row : Declared) : Type 0 where
  pub priority_from : 1 ≤ row.priority
  pub cost_from : 1 ≤ row.cost
  pub cost_upto : row.cost ≤ most_units
  pub gap_from : 1 ≤ row.gap
  pub gap_upto : row.gap ≤ most_units
  pub section_upto : row.section ≤ row.cost
  pub ceiling_from : row.priority ≤ row.ceiling
  pub ceiling_upto : row.ceiling ≤ highest_priority

pub record AreDeclared (rows : List Declared) : Type 0 where
  pub some : 1 ≤ length rows
  pub few : length rows ≤ most_rows
  pub each : (k : ℕ) (row : Declared) → slice_get rows k ≡ Some row → IsDeclared row

-- ---- row k, which speaks of handler k + 1

abbrev pub no_row : Declared
no_row = record { priority = 0; cost = 0; gap = 1; section = 0; ceiling = 0 }

unfoldable pub row_at : List Declared → ℕ → Declared
row_at rows k = elim (slice_get rows k) [ None ↦ no_row | Some row ↦ row ]

-- ---- blocking

-- the section of a row with which it may block at a level, a priority: it is of lower priority, and its ceiling isn't below
abbrev pub section_at : ℕ → Declared → ℕ
section_at level other = if nat_lt other.priority level && not (nat_lt other.ceiling level) then other.section else 0

-- that with which another row may block
abbrev pub section_of : Declared → Declared → ℕ
section_of mine other = section_at mine.priority other

unfoldable pub section_over : List Declared → ℕ → ℕ → ℕ
section_over rows i j = section_of (row_at rows i) (row_at rows j)

-- B(i): the greatest of these sections, and 0 without one
unfoldable pub blocking : List Declared → ℕ → ℕ
blocking rows i = max_below (section_over rows i) (length rows)

-- ---- work

-- how many releases with this gap may become ready in x units: x / gap, rounded up
abbrev pub releases_within : ℕ → ℕ → ℕ
releases_within x gap = (x + (gap - 1)) / gap

-- the work of a row at a level in x units: it isn't of lower priority
abbrev pub work_at : ℕ → Declared → ℕ → ℕ
work_at level other x = if not (nat_lt other.priority level) then releases_within x other.gap * other.cost else 0

-- that of another row
abbrev pub work_of : Declared → Declared → ℕ → ℕ
work_of mine other x = work_at mine.priority other x

unfoldable pub work_over : List Declared → ℕ → ℕ → ℕ → ℕ
work_over rows i x j = if not (j == i) then work_of (row_at rows i) (row_at rows j) x else 0

-- the work of all others in x units
unfoldable pub other_work : List Declared → ℕ → ℕ → ℕ
other_work rows i x = sum_below (work_over rows i x) (length rows)

-- w(i, x): what is to be done in x units until a release of row i has ended
unfoldable pub demand : List Declared → ℕ → ℕ → ℕ
demand rows i x = blocking rows i + (row_at rows i).cost + other_work rows i x

-- What the search for bounds counts at a level, a priority from 1 to 28: all rows of at least this priority, each of them
-- alike. In 1 to gap units it is what a row of this priority demands, since its own release is counted once then.
use Rattle.std.specs.Prelude.{◌≡◌, ◌≤◌, ◌<◌, ℕ, ◌+◌, ◌%◌, ◌==◌, nat_lt, not, List, length, if◌then◌else◌}
use Rattle.response_bounds.specs.declared.rows.Declared.{Declared}
use Rattle.response_bounds.specs.Sums.{sum_below, max_below}
use Rattle.response_bounds.specs.Rows.{row_at, section_at, work_at}

-- the greatest section that may block
unfoldable pub level_section_over : List Declared → ℕ → ℕ → ℕ
level_section_over rows level j = section_at level (row_at rows j)

unfoldable pub level_blocking : List Declared → ℕ → ℕ
level_blocking rows level = max_below (level_section_over rows level) (length rows)

-- the work in x units
unfoldable pub level_work_over : List Declared → ℕ → ℕ → ℕ → ℕ
level_work_over rows level x j = work_at level (row_at rows j) x

unfoldable pub level_work : List Declared → ℕ → ℕ → ℕ
level_work rows level x = sum_below (level_work_over rows level x) (length rows)

-- what is to be done in x units
unfoldable pub level_demand : List Declared → ℕ → ℕ → ℕ
level_demand rows level x = level_blocking rows level + level_work rows level x

-- by how much the work in x + 1 units is more than that in x units: by the costs of the rows whose gap divides x
abbrev pub added_in : Declared → ℕ → ℕ
added_in row x = if x % row.gap == 0 then row.cost else 0

abbrev pub added_by : ℕ → Declared → ℕ → ℕ
added_by level row x = if not (nat_lt row.priority level) then added_in row x else 0

unfoldable pub added_over : List Declared → ℕ → ℕ → ℕ → ℕ
added_over rows level x j = added_by level (row_at rows j) x

unfoldable pub added_at : List Declared → ℕ → ℕ → ℕ
added_at rows level x = sum_below (added_over rows level x) (length rows)

-- fewer than x units never serve the level
pub record NoneBelow (rows : List Declared) (level x : ℕ) : Type 0 where
  pub fails : (y : ℕ) → 1 ≤ y → y < x → y < level_demand rows level y

-- the fewest units that serve the level, or more units than each gap of it where so many don't
pub record IsFirst (rows : List Declared) (level x : ℕ) : Type 0 where
  pub from : 1 ≤ x
  pub none : NoneBelow rows level x
  pub serves : (i : ℕ) → i < length rows → (row_at rows i).priority ≡ level → x ≤ (row_at rows i).gap →
      level_demand rows level x ≤ x

-- Busy periods of a priority: one begins with a unit in which a release of at least this priority is ready after a unit
-- that left none, and lasts until none is left.
use Rattle.std.specs.Prelude.{◌≡◌, ◌≤◌, ◌<◌, ℕ, ◌+◌, nat_lt, true, List, if◌then◌else◌}
use Rattle.response_bounds.specs.declared.rows.Declared.{Declared}
use Rattle.response_bounds.specs.Sums.{sum_below}
use Rattle.response_bounds.specs.Schedule.{Schedule, operations, own}

-- a release of at least this priority that was ready before is left in a unit
pub record IsOld (rows : List Declared) (c : Schedule) (least s : ℕ) : Type 0 where
  pub q : ℕ
  pub is_there : q < c.places
  pub is_high : least ≤ own rows c q
  pub is_left : c.is_left s q ≡ true
  pub is_old : c.ready q < s

-- none that was ready before the unit is left
pub record Begins (rows : List Declared) (c : Schedule) (least t : ℕ) : Type 0 where
  pub is : (q : ℕ) → least ≤ own rows c q → c.is_left t q ≡ true → t ≤ c.ready q

-- the first x units of a busy period that begins in unit t, after which it still lasts
pub record Period (rows : List Declared) (n : ℕ) (c : Schedule) (least t x : ℕ) : Type 0 where
  pub upto : t + x ≤ n
  pub begins : Begins rows c least t
  pub busy : (s : ℕ) → t < s → s ≤ t + x → IsOld rows c least s

-- a release whose active priority was at least this one in the unit
pub record WasRaised (c : Schedule) (least t p : ℕ) : Type 0 where
  pub is_left : c.is_left t p ≡ true
  pub is_raised : least ≤ c.active t p

-- the operations of a release of lower priority in x units from t on, and those of another
abbrev pub low_work : List Declared → Schedule → ℕ → ℕ → ℕ → ℕ → ℕ
low_work rows c least t x p = if nat_lt (own rows c p) least then operations c p t x else 0

abbrev pub high_work : List Declared → Schedule → ℕ → ℕ → ℕ → ℕ → ℕ
high_work rows c least t x p = if nat_lt (own rows c p) least then 0 else operations c p t x

-- those of all releases
abbrev pub low_operations : List Declared → Schedule → ℕ → ℕ → ℕ → ℕ
low_operations rows c least t x = sum_below (low_work rows c least t x) c.places

abbrev pub high_operations : List Declared → Schedule → ℕ → ℕ → ℕ → ℕ
high_operations rows c least t x = sum_below (high_work rows c least t x) c.places

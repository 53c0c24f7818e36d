-- A counter's rise over a longer stretch of time.
use Rattle.std.proofs.Common.{ℕ, ◌≤◌, arith}
use Rattle.scj_io.specs.Counters.{Rose}

-- a counter that rose and then never fell rose
pub Rose-later : (before now later : ℕ) → Rose before now → now ≤ later → Rose before later
Rose-later before now later rose stays = omega arith

-- a counter that never fell and then rose rose
pub Rose-earlier : (earlier before now : ℕ) → earlier ≤ before → Rose before now → Rose earlier now
Rose-earlier earlier before now stays rose = omega arith

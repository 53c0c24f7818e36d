-- What steps from number to number reach.
use Rattle.std.specs.Prelude.{◌≡◌, ℕ, Bool, true, Option, Some}

-- b is reached from a by one step or more
pub data Follows (next : ℕ → Option ℕ) : ℕ → ℕ → Type 0 where
  one : {a b : ℕ} → next a ≡ Some b → Follows next a b
  more : {a b c : ℕ} → next a ≡ Some b → Follows next b c → Follows next a c

-- a is reached from itself
abbrev pub ComesBack : (ℕ → Option ℕ) → ℕ → Type 0
ComesBack next a = Follows next a a

-- b is reached from a by any number of steps, also by none
pub data Reaches (step : ℕ → ℕ → Bool) : ℕ → ℕ → Type 0 where
  here : {a : ℕ} → Reaches step a a
  after : {a b c : ℕ} → step a b ≡ true → Reaches step b c → Reaches step a c

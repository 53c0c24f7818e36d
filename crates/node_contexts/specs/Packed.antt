-- Numbers that are kept one higher than they are, and 0 for none.
use Rattle.std.specs.Prelude.{◌≡◌, ℕ, zero, suc, Option, Some, None, refl}

-- what is told by a number that is kept
unfoldable pub reported : ℕ → Option ℕ
reported zero = None
reported (suc number) = Some number

abbrev pub kept : Option ℕ → ℕ
kept None = 0
kept (Some number) = suc number

pub kept-reported : (n : ℕ) → kept (reported n) ≡ n
unfolding reported
kept-reported zero = refl
kept-reported (suc n) = refl

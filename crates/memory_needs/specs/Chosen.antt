-- Which of what is shown comes first: by the order of the causes, then by place.
use Rattle.std.specs.Prelude.{◌≡◌, ℕ, ◌==◌, nat_lt, Bool, true, false, ◌&&◌, ◌||◌, List, [], ◌∷◌, Option, Some, None, IfSome, IfNone, if◌then◌else◌}
use Rattle.memory_needs.specs.declared.shown.Shown.{Shown}
use Rattle.memory_needs.specs.Causes.{order_of}

-- lists of numbers in lexical order
unfoldable pub lexical : List ℕ → List ℕ → Bool
lexical (m ∷ ms) (n ∷ ns) = nat_lt m n || ((m == n) && lexical ms ns)
lexical _ _ = false

unfoldable pub key_of : Shown → List ℕ
key_of s = order_of s.cause ∷ s.at.file ∷ s.at.line ∷ s.at.col ∷ []

abbrev pub is_before : Shown → Shown → Bool
is_before a b = lexical (key_of a) (key_of b)

unfoldable pub first_of : Option Shown → Option Shown → Option Shown
first_of best None = best
first_of None (Some s) = Some s
first_of (Some best) (Some s) = if is_before s best then Some s else Some best

-- it is the first of those that are shown, or none is
pub record IsChosen (Is : Shown → Type 0) (o : Option Shown) : Type 0 where
  pub nothing : IfNone o ((s : Shown) → Is s → ⊥)
  pub that : IfSome o Is
  pub first : IfSome o (λ best. (s : Shown) → Is s → is_before s best ≡ true → ⊥)

-- this one is shown, or none is
pub record IsAll (Is : Shown → Type 0) (o : Option Shown) : Type 0 where
  pub that : IfSome o Is
  pub all : (s : Shown) → Is s → o ≡ Some s

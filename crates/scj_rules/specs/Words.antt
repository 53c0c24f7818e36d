-- Words that the definitions of the rules share.
use Rattle.std.specs.Prelude.{◌≡◌, ◌<◌, ℕ, zero, suc, Bool, false, ◌==◌, List, [], ◌∷◌, ◌++◌, map, Option, Some, None, if◌then◌else◌, option_and_then}
use Rattle.std.specs.List.{list_any}
use Rattle.scj_base.specs.Bytes.{is_one_of}
use Rattle.scj_base.specs.declared.findings.Found.{Found}
use Rattle.scj_base.specs.declared.findings.Rule.{Rule}
use Rattle.scj_base.specs.declared.positions.Position.{Position}

-- the number is one of these
abbrev pub is_among : ℕ → List ℕ → Bool
is_among n ns = list_any (λ m. n == m) ns

-- the rule is broken at the place, where the test holds
abbrev pub broken : Bool → Rule → Position → List Found
broken test rule position = if test then record { pos = position; rule = rule } ∷ [] else []

-- the rule is broken at the place of each element
abbrev pub broken_at_each : {A : Type 0} → (A → Position) → Rule → List A → List Found
broken_at_each position rule xs = map (λ x. record { pos = position x; rule = rule }) xs

-- the first value that f gives along a list
unfoldable pub along : {A B : Type 0} → (A → Option B) → List A → Option B
along f [] = None
along f (x ∷ xs) = elim (f x) [ None ↦ along f xs | Some y ↦ Some y ]

-- a, its successor by `next` and so on, as far as there is one, and `bound` elements at most
unfoldable pub chain : (ℕ → Option ℕ) → ℕ → ℕ → List ℕ
chain next zero a = []
chain next (suc bound) a = a ∷ elim (next a) [ None ↦ [] | Some b ↦ chain next bound b ]

-- the same from the successor of a on
unfoldable pub chain_behind : (ℕ → Option ℕ) → ℕ → ℕ → List ℕ
chain_behind next bound a = elim (next a) [ None ↦ [] | Some b ↦ chain next bound b ]

-- each step leads to a number below n
abbrev pub StaysBelow : (ℕ → Option ℕ) → ℕ → Type 0
StaysBelow next n = (a b : ℕ) → next a ≡ Some b → b < n

-- the elements whose name an earlier element has, or is among the names `earlier`
unfoldable pub named_twice : {A : Type 0} → (A → List ℕ) → List (List ℕ) → List A → List A
named_twice name earlier [] = []
named_twice name earlier (x ∷ xs) =
    (if is_one_of (name x) earlier then x ∷ [] else []) ++ named_twice name (name x ∷ earlier) xs

-- the first of two that has a value
abbrev pub or_else : {A : Type 0} → Option A → Option A → Option A
or_else (Some x) other = Some x
or_else None other = other

-- there is a value, and the test holds of it
abbrev pub holds : {A : Type 0} → Option A → (A → Bool) → Bool
holds None test = false
holds (Some x) test = test x

infixl 10 ◌>>=◌
-- what f gives for the value, where there is one
abbrev pub ◌>>=◌ : {A B : Type 0} → Option A → (A → Option B) → Option B
value >>= f = option_and_then f value

-- what a rule finds at the value, where there is one
abbrev pub found_at : {A : Type 0} → Option A → (A → List Found) → List Found
found_at value rule = elim value [ None ↦ [] | Some x ↦ rule x ]

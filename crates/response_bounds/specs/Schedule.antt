-- A schedule: who acts in each unit. It speaks of releases by their places, in the order in which they became ready.
use Rattle.std.specs.Prelude.{◌≡◌, ◌≤◌, ◌<◌, ℕ, ◌+◌, ◌==◌, Bool, true, false, ◌⊎◌, List, length, Option, Some, None}
use Rattle.response_bounds.specs.declared.rows.Declared.{Declared}
use Rattle.response_bounds.specs.Sums.{sum_below, one_if}
use Rattle.response_bounds.specs.Responses.{IsBound}
use Rattle.response_bounds.specs.Rows.{row_at}

-- `places` releases; of each one the place of its row and the unit in which it is ready; and for a unit whether a
-- release is left then (ready, neither ended nor dropped, when the unit's choice is made), its active priority then,
-- and who acts
pub record Schedule : Type 0 where
  pub places : ℕ
  pub row_of : ℕ → ℕ
  pub ready : ℕ → ℕ
  pub is_left : ℕ → ℕ → Bool
  pub active : ℕ → ℕ → ℕ
  pub actor : ℕ → Option ℕ

abbrev pub acts : Schedule → ℕ → ℕ → Bool
acts c t p = elim (c.actor t) [ None ↦ false | Some q ↦ q == p ]

-- the operations of a release in the x units from a on
abbrev pub operations : Schedule → ℕ → ℕ → ℕ → ℕ
operations c p a x = sum_below (λ k. one_if (acts c (a + k) p)) x

abbrev pub own : List Declared → Schedule → ℕ → ℕ
own rows c p = (row_at rows (c.row_of p)).priority

-- what each schedule under priorities with ceilings keeps in its units before n, whatever is declared
pub record Follows (rows : List Declared) (n : ℕ) (c : Schedule) : Type 0 where
  -- who is left is there; it was ready before, and left in each unit from then on
  pub in_rows : (t p : ℕ) → t ≤ n → c.is_left t p ≡ true → c.row_of p < length rows
  pub ordered : (p q : ℕ) → p < q → q < c.places → c.ready p ≤ c.ready q
  pub is_there : (t p : ℕ) → t ≤ n → c.is_left t p ≡ true → p < c.places
  pub is_ready : (t p : ℕ) → t ≤ n → c.is_left t p ≡ true → c.ready p ≤ t
  pub stays : (t p : ℕ) → t < n → c.is_left (t + 1) p ≡ true → c.ready p ≤ t → c.is_left t p ≡ true
  -- who acts is left, and has the greatest active priority; where one is left, one acts
  pub acts_left : (t p : ℕ) → t < n → acts c t p ≡ true → c.is_left t p ≡ true
  pub someone : (t q : ℕ) → t < n → c.is_left t q ≡ true → (p : ℕ) × (c.actor t ≡ Some p)
  pub greatest : (t p q : ℕ) → t < n → acts c t p ≡ true → c.is_left t q ≡ true → c.active t q ≤ c.active t p
  -- active priorities: the own one at first, never below it, changed by one's own operations alone; of two that are
  -- raised one has its own priority above the active one of the other
  pub fresh : (t p : ℕ) → t < n → c.is_left t p ≡ true → c.ready p ≡ t → c.active t p ≡ own rows c p
  pub at_least : (t p : ℕ) → t < n → c.is_left t p ≡ true → own rows c p ≤ c.active t p
  pub kept : (t p : ℕ) → t + 1 < n → c.is_left (t + 1) p ≡ true → c.ready p ≤ t → acts c t p ≡ false →
      c.active (t + 1) p ≡ c.active t p
  pub in_turn : (t p q : ℕ) → t < n → c.is_left t p ≡ true → c.is_left t q ≡ true → (p ≡ q → ⊥) →
      own rows c p < c.active t p → own rows c q < c.active t q →
      (c.active t p < own rows c q) ⊎ (c.active t q < own rows c p)

-- the schedule stays within what is declared, in its units before n
pub record KeepsRows (rows : List Declared) (n : ℕ) (c : Schedule) : Type 0 where
  pub gaps : (p q : ℕ) → p < q → q < c.places → c.row_of p ≡ c.row_of q →
      c.ready p + (row_at rows (c.row_of p)).gap ≤ c.ready q
  -- its operations so far
  pub costs : (p t : ℕ) → p < c.places → t ≤ n → operations c p 0 t ≤ (row_at rows (c.row_of p)).cost
  pub open_costs : (p t : ℕ) → t ≤ n → c.is_left t p ≡ true → operations c p 0 t < (row_at rows (c.row_of p)).cost
  pub ceilings : (t p : ℕ) → t < n → c.is_left t p ≡ true → c.active t p ≤ (row_at rows (c.row_of p)).ceiling
  -- operations in one stretch above the own priority
  pub sections : (p a x : ℕ) → p < c.places → a + x ≤ n →
      ((k : ℕ) → k < x → acts c (a + k) p ≡ true → own rows c p < c.active (a + k) p) →
      operations c p a x ≤ (row_at rows (c.row_of p)).section

-- the response times: who is ready and has a bound is no more left once that many units have passed
abbrev pub EndsInTime : List Declared → ℕ → Schedule → Type 0
EndsInTime rows n c =
    (i x p : ℕ) → IsBound rows i x → p < c.places → c.row_of p ≡ i → c.ready p + x ≤ n →
    c.is_left (c.ready p + x) p ≡ false

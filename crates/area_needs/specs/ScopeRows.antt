-- The areas of each scope: how many were opened, and what they were to hold at most. No area and no object is ever taken
-- off the lists of a state, and no object changes its size. So the last state of a run tells of all areas that were
-- opened in it, and how full each of them became.
use Rattle.std.specs.Prelude.{ℕ, ◌+◌, ◌==◌, nat_lt, max, List, [], ◌∷◌, filter, map, if◌then◌else◌}
use Rattle.std.specs.List.{range_with_len}
use Rattle.scj_model.specs.State.{MemoryArea, State}
use Rattle.scj_model.specs.Memory.{used}
use Rattle.area_needs.specs.declared.refusals.Refusal.{Refusal}

pub record ScopeRow : Type 0 where
  pub scope : ℕ
  -- how many areas were opened
  pub opened : ℕ
  -- the greatest size of one, and the most that was in use in one
  pub declared : ℕ
  pub used : ℕ
  -- the most that would have been in use with an object for which there was no room
  pub refused : ℕ

-- how many of these areas have the scope
unfoldable pub opened_of : ℕ → List MemoryArea → ℕ
opened_of scope [] = 0
opened_of scope (x ∷ xs) = if x.scope == scope then opened_of scope xs + 1 else opened_of scope xs

-- the greatest size of one that has it
unfoldable pub declared_of : ℕ → List MemoryArea → ℕ
declared_of scope [] = 0
declared_of scope (x ∷ xs) = if x.scope == scope then max x.bytes (declared_of scope xs) else declared_of scope xs

-- the most that is in use in one that has it; the areas are numbered from n on, and `used_in` is what is in use in each
unfoldable pub used_of : (ℕ → ℕ) → ℕ → ℕ → List MemoryArea → ℕ
used_of used_in scope n [] = 0
used_of used_in scope n (x ∷ xs) =
    if x.scope == scope then max (used_in n) (used_of used_in scope (n + 1) xs)
    else used_of used_in scope (n + 1) xs

-- the greatest of these refusals in one that has it
unfoldable pub refused_of : ℕ → List Refusal → ℕ
refused_of scope [] = 0
refused_of scope (r ∷ rs) = if r.scope == scope then max r.bytes (refused_of scope rs) else refused_of scope rs

-- the row of a scope, in the last state of a run and with all refusals
abbrev pub row_of : State → List Refusal → ℕ → ScopeRow
row_of s refusals scope =
    record {
      scope = scope;
      opened = opened_of scope s.areas;
      declared = declared_of scope s.areas;
      used = used_of (used s) scope 0 s.areas;
      refused = refused_of scope refusals;
    }

-- the rows of the scopes of which an area was opened, by the numbers of the scopes; IMMORTAL is the first
unfoldable pub rows_of : ℕ → State → List Refusal → List ScopeRow
rows_of count s refusals =
    filter (λ (row : ScopeRow). nat_lt 0 row.opened) (map (row_of s refusals) (range_with_len 0 count))

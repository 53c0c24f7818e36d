-- The numbers of variables within their members, counted node by node.
use Rattle.std.specs.Prelude.{◌≡◌, ℕ, zero, suc, ◌+◌, Bool, List, length, Option, Some, None, if◌then◌else◌, is_some}
use Rattle.scj_tree.specs.Recursion.{lookup, listed}
use Rattle.scj_rules.specs.Views.{variable_at}
use Rattle.scj_rules.specs.LimitRules.{is_variable_of}
use Rattle.scj_rules.specs.Contexts.{Declarations, context}

-- the member whose parameter or local a node declares
abbrev pub owner_of : Declarations → ℕ → Option ℕ
owner_of p id = if is_some (variable_at p.nodes id) then (context p id).member else None

-- how many numbers below n pass a test
unfoldable pub count_below : (ℕ → Bool) → ℕ → ℕ
count_below test zero = 0
count_below test (suc n) = count_below test n + (if test n then 1 else 0)

-- how many variables of its member stand before a node that declares one
unfoldable pub number_before : Declarations → ℕ → ℕ
number_before p id = elim (owner_of p id) [ None ↦ 0 | Some member ↦ count_below (is_variable_of p member) id ]

-- the same of each node
unfoldable pub numbers_before : Declarations → List ℕ
numbers_before p = listed (number_before p) (length p.nodes)

-- of each node that is a member, how many of its variables stand before a node
pub record AreCounted (p : Declarations) (n : ℕ) (counts : List ℕ) : Type 0 where
  pub at : (member : ℕ) → lookup 0 counts member ≡ count_below (is_variable_of p member) n
